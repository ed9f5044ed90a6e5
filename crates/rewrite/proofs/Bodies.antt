-- What the writing of a block comes to: what stands for the word, by what it is, put behind a label that stands already.
use Prim.Native.Nat.{ℕ, suc, ◌+◌, ◌-◌, ◌*◌, ◌/◌, ◌%◌, ◌^◌, ◌<◌, ◌≤◌}
use mathlib.Core.Path.{◌≡◌, refl, sym, ap, ◌∙◌}
use mathlib.Core.Bool.{Bool, true, false, ◌&&◌}
use mathlib.Core.List.{List, [], ◌∷◌, ◌++◌}
use native.Mathlib.Omega.{arith}
use lib.Dec.{eqb, ltb, leb}
use lib.ListN.{length, get_or, set, take, drop}
use lib.Seq.{sets, set-get_or}
use borrow.Author.Tests.{not-false, eqb-true, eq-eqb, ltb-true, lt-ltb}
use Rattle.lists.proofs.Bools.{and_left, and_right, and_rest, or_right, both_true, same_bool}
use Rattle.lists.proofs.Search.{any_witness}
use Rattle.lists.proofs.Places.{sets_append, put_part}
use Rattle.isa.specs.declared.Instr.{Instr}
use Rattle.isa.specs.declared.Technique.{Technique}
use Rattle.isa.specs.Words.{fields_of, encode_of}
use Rattle.isa.specs.Instructions.{instr_at, is_jump, is_branch}
use Rattle.rising.specs.Rising.{Rising}
use Rattle.rising.proofs.Rising.{clean_rising}
use Rattle.graph.specs.Claim.{edge_count, jump_of, has_edge, is_destination, id_of}
use Rattle.graph.proofs.Edges.{id_below}
use Rattle.checker.specs.Passes.{Run}
use Rattle.checker.proofs.Runs.{Cut, jumps_rise, cut_run, cut_past, cut_at, first_target}
use Rattle.guards.specs.Patterns as patterns
use Rattle.guarded.specs.Rewrite.{body_size, jump_words, store_words, word_moved, label_of, set_of, label_at, block_at}
use Rattle.guarded.proofs.Cases.{at_jump, at_other, branch_other}
use Rattle.guarded.proofs.Places.{label_length, block_length, map_next, map_le, map_lt}
use Rattle.rewrite.specs.Inside.{Putting, map_plain, length_plain, body_plain, body_from, block_plain, code_plain, LabelsStand, Mapped, StartsAt, Bare}
use Rattle.rewrite.proofs.Laying.{put_more, put_past, end_put}
use Rattle.rewrite.proofs.Moved.{branch_w, branch_moved, target_low, guard_words}

module _ {memory : List ℕ} {n : ℕ} {edges : List ℕ} {total : ℕ} (r : Bare memory n edges total) where
  rises : Rising edges
  rises = clean_rising edges r.rising

  -- a jmp has an edge, and where those before k start below a, its first one is k
  first_edge : {a k : ℕ} → a < n → Cut edges a k → is_jump (instr_at memory a) ≡ true → (k < edge_count edges) × (jump_of edges k ≡ a)
  unfolding has_edge
  first_edge {a} {k} l c j =
      let some = not-false _ (and_rest (is_jump (instr_at memory a)) _ j (r.leaving a l)) in
      let v = any_witness (λ i. eqb (jump_of edges i) a) (edge_count edges) some in
      let at : jump_of edges v.0 ≡ a = eqb-true (jump_of edges v.0) a v.2 in
      let low : v.0 < k → ⊥ = λ q. omega (arith, c.below v.0 q, at) in
      let here : k < edge_count edges = omega (arith, low, v.1) in
      (here, omega (arith, c.above k (omega arith) here, jumps_rise edges rises k v.0 (omega (arith, low)) v.1, at))

  pub starts_at : {a k : ℕ} → a < n → Cut edges a k → StartsAt memory n edges a k
  starts_at {a} {k} l c j =
      let f = first_edge l c j in
      (f.0, first_target edges rises n r.within k (cut_at edges rises a k c f.0) f.0 ∙ ap (id_of edges n) f.1)

  -- and where no jmp is, no edge starts
  pub jump_here : {a k : ℕ} → a < n → Cut edges a k → (ltb k (edge_count edges) && eqb (jump_of edges k) a) ≡ is_jump (instr_at memory a)
  jump_here {a} {k} l c = same_bool _ _ there back
    where
      there : (ltb k (edge_count edges) && eqb (jump_of edges k) a) ≡ true → is_jump (instr_at memory a) ≡ true
      there e =
          let here = ltb-true k (edge_count edges) (and_left _ (eqb (jump_of edges k) a) e) in
          let from = eqb-true (jump_of edges k) a (and_right (ltb k (edge_count edges)) _ e) in
          let jumps = not-false _ (or_right (leb n (jump_of edges k)) _ (r.from_jumps k here)) in
          ap (λ (x : ℕ). is_jump (instr_at memory x)) (sym from) ∙ jumps

      back : is_jump (instr_at memory a) ≡ true → (ltb k (edge_count edges) && eqb (jump_of edges k) a) ≡ true
      back j = let f = first_edge l c j in both_true (lt-ltb k (edge_count edges) f.0) (eq-eqb (jump_of edges k) a f.1)

  pub cut_jump : {a k end : ℕ} → Cut edges a k → Run edges a k end → Cut edges (a + 1) end
  cut_jump {a} {k} {end} c run = cut_run edges rises a k end c run

  pub cut_word : {a k : ℕ} → is_jump (instr_at memory a) ≡ false → Cut edges a k → Cut edges (a + 1) k
  cut_word {a} {k} e c = cut_past edges rises memory n a k r.from_jumps e c

  -- where a block ends
  module _ {a : ℕ} (l : a < n) where
    pub ends : {x : ℕ} → x ≡ map_plain memory n edges (suc a) → (x ≡ map_plain memory n edges (suc a)) × (1 ≤ x) × (x < total)
    ends e =
        (e, omega (arith, map_lt Technique.Plain memory edges a (suc a) (omega arith)), omega (arith, map_le Technique.Plain memory edges (suc a) n l, r.total_is))

    abbrev i : Instr
    i = instr_at memory a

    -- a guard's words lie before
    pub jump_room : is_jump i ≡ true → 6 ≤ map_plain memory n edges (suc a)
    jump_room j =
        let six : body_size Technique.Plain i ≡ 6 = at_jump Technique.Plain i 6 6 1 j in
        omega (arith, map_next Technique.Plain memory edges a, six)

    -- the three cases of the body
    abbrev when_jump : List ℕ
    when_jump = jump_words Technique.Plain (length_plain memory n edges) (map_plain memory n edges (id_of edges n a)) i

    abbrev when_store : List ℕ
    when_store = store_words (length_plain memory n edges) (length_plain memory n edges + (length memory - n)) i

    abbrev otherwise : List ℕ
    otherwise = word_moved (map_plain memory n edges) (get_or memory a 0) i ∷ []

    -- the ID of a jump's set
    pub id_small : is_jump i ≡ true → id_of edges n a < n
    id_small j = id_below edges n r.within a (not-false _ (and_rest (is_jump i) _ j (r.leaving a l)))

    abbrev guard : List ℕ → ℕ → List ℕ
    guard words id =
        (get_or words 0 0 + get_or memory a 0 / 2 ^ 48 % 256 * 2 ^ 40) ∷ get_or words 1 0 ∷ id ∷ get_or words 3 0 ∷ get_or words 4 0 ∷ get_or words 5 0 ∷ []

    pub jump_put : {entries words : List ℕ} {word id : ℕ} (code : List ℕ) (at : ℕ) → Mapped memory n edges entries → is_jump i ≡ true
        → words ≡ patterns.jump_words Technique.Plain total → id ≡ id_of edges n a → word ≡ encode_of (Instr.Movi 2 (get_or entries id 0))
        → at + 6 ≡ map_plain memory n edges (suc a) → at + 6 ≤ length code
        → take at code ++ (guard words word ++ drop 6 (drop at code)) ≡ sets code (body_from memory n edges a) (body_plain memory n edges a)
    jump_put {entries} {words} {word} {id} code at m j ew ei em e h =
        let six : body_size Technique.Plain i ≡ 6 = at_jump Technique.Plain i 6 6 1 j in
        let from : at ≡ body_from memory n edges a = omega (arith, e, six) in
        let there : get_or entries id 0 ≡ map_plain memory n edges (id_of edges n a) =
        ap (λ (x : ℕ). get_or entries x 0) ei ∙ m.each (id_of edges n a) (id_small j) in
        put_part at 6 code (guard words word) refl h
        ∙ ap (sets code at)
        (guard_words (get_or memory a 0) total (map_plain memory n edges (id_of edges n a)) words word j ew (em ∙ ap (λ (x : ℕ). encode_of (Instr.Movi 2 x)) there)
        ∙ ap (λ (m : ℕ). jump_words Technique.Plain m (map_plain memory n edges (id_of edges n a)) i) r.total_is
        ∙ sym (at_jump Technique.Plain i when_jump when_store otherwise j))
        ∙ ap (λ (x : ℕ). sets code x (body_plain memory n edges a)) from

    -- a branch and its target
    pub target_below : is_branch i ≡ true → get_or memory a 0 % 2 ^ 32 < n
    target_below b = target_low (get_or memory a 0) n b (r.branches a l)

    pub branch_put : {entries : List ℕ} (code : List ℕ) (at : ℕ) → Mapped memory n edges entries → is_branch i ≡ true → at ≡ map_plain memory n edges (suc a)
        → set code (at - 1) (get_or memory a 0 - get_or memory a 0 % 2 ^ 32 + get_or entries (get_or memory a 0 % 2 ^ 32) 0)
        ≡ sets code (body_from memory n edges a) (body_plain memory n edges a)
    branch_put {entries} code at m b e =
        let j = (branch_other Technique.Plain i b).0 in
        let f = branch_w (get_or memory a 0) b in
        let target : get_or entries (get_or memory a 0 % 2 ^ 32) 0 ≡ map_plain memory n edges (fields_of i).w =
        m.each (get_or memory a 0 % 2 ^ 32) (target_below b) ∙ ap (map_plain memory n edges) (sym f) in
        let one : body_size Technique.Plain i ≡ 1 = at_other Technique.Plain i 6 6 1 j refl in
        let from : at - 1 ≡ body_from memory n edges a = omega (arith, e, one) in
        ap (λ (x : ℕ). set code x (get_or memory a 0 - get_or memory a 0 % 2 ^ 32 + get_or entries (get_or memory a 0 % 2 ^ 32) 0)) from
        ∙ ap (sets code (body_from memory n edges a))
        (ap (λ (x : ℕ). x ∷ [])
        (ap (λ (x : ℕ). get_or memory a 0 - get_or memory a 0 % 2 ^ 32 + x) target ∙ branch_moved (get_or memory a 0) (map_plain memory n edges (fields_of i).w) b)
        ∙ sym (at_other Technique.Plain i when_jump when_store otherwise j refl ∙ rw b))

  -- one block more: its label stands, and its body is put
  module _ {before : List ℕ} (labels : LabelsStand memory n edges before) (fits : total ≤ length before) where
    label_stands : {out : List ℕ} {a : ℕ} (d : Bool) → is_destination edges a ≡ d → a < n → Putting (block_plain memory n edges) before out a
        → sets out (map_plain memory n edges a) (label_of d (map_plain memory n edges (set_of edges n a))) ≡ out
    label_stands false e l p = refl
    label_stands {out} {a} true e l p =
        let at = map_plain memory n edges a in
        let room : at ≤ length before = omega (arith, map_lt Technique.Plain memory edges a n l, r.total_is) in
        let there = put_past (block_plain memory n edges) _ (block_length Technique.Plain memory n edges (length memory - n)) at p room (omega arith) ∙ labels a l e in
        ap (set out at) (sym there) ∙ set-get_or out at 0

    pub block_more : {out next : List ℕ} {a : ℕ} → a < n → Putting (block_plain memory n edges) before out a
        → next ≡ sets out (body_from memory n edges a) (body_plain memory n edges a)
        → Putting (block_plain memory n edges) before next (a + 1)
    unfolding block_at
    block_more {out} {next} {a} l p e =
        let at = map_plain memory n edges a in
        let label = label_at Technique.Plain memory n edges (length memory - n) a in
        let from : body_from memory n edges a ≡ at + length label =
        omega (arith, map_next Technique.Plain memory edges a, label_length (is_destination edges a) (map_plain memory n edges (set_of edges n a))) in
        put_more (block_plain memory n edges) _ (block_length Technique.Plain memory n edges (length memory - n)) p
        (e
        ∙ ap (λ (x : ℕ). sets out x (body_plain memory n edges a)) from
        ∙ ap (λ (l : List ℕ). sets l (at + length label) (body_plain memory n edges a)) (sym (label_stands (is_destination edges a) refl l p))
        ∙ sym (sets_append label (body_plain memory n edges a) out at))

    pub code_put : {out : List ℕ} {a at x : ℕ} → Putting (block_plain memory n edges) before out a → a ≡ n → at ≡ total - 1
        → x ≡ 2 ^ 64 - 1 → set out at x ≡ sets before 0 (code_plain memory n edges)
    code_put {out} {a} {at} {x} p e z ex =
        ap (set out at) ex ∙ end_put (block_plain memory n edges) _ (block_length Technique.Plain memory n edges (length memory - n)) at _ p e
        (omega (arith, z, r.total_is))
