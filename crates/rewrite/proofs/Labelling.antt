-- The map and the labels, address by address: the entries put over the owners, and each label where its block begins.
use Prim.Native.Nat.{ℕ, suc, ◌+◌, ◌*◌, ◌<◌, ◌≤◌}
use mathlib.Core.Path.{◌≡◌, refl, sym, ap, ◌∙◌}
use mathlib.Core.Bool.{true, false}
use mathlib.Core.List.{List, [], ◌∷◌}
use native.Mathlib.Omega.{arith}
use native.Mathlib.Decide.{ℕ_discrete}
use lib.ListN.{length, get_or, set, drop, length-set}
use lib.Seq.{get_or-set_same, get_or-set_other, drop-set-lt}
use borrow.Author.Tests.{lt-ltb, le-ltb}
use Rattle.lists.specs.Search.{bit}
use Rattle.lists.proofs.Bools.{true_false}
use Rattle.isa.specs.declared.Instr.{Instr}
use Rattle.isa.specs.declared.Technique.{Technique}
use Rattle.isa.specs.Words.{encode_of}
use Rattle.isa.specs.Instructions.{instr_at}
use Rattle.graph.specs.Claim.{is_destination}
use Rattle.graph.specs.Passes.{Owned}
use Rattle.graph.proofs.Owners.{destined}
use Rattle.guarded.specs.Blocks.{start_of}
use Rattle.guarded.specs.Rewrite.{body_size, set_of}
use Rattle.guarded.proofs.Places.{map_next, map_lt}
use Rattle.rewrite.specs.Inside.{Putting, map_plain, length_plain}
use Rattle.rewrite.proofs.TargetSets.{owner_is}
use Rattle.rewrite.proofs.Laying.{put_none, ones_more, ones_put, ones_past}

module _ (memory : List ℕ) (n : ℕ) (edges : List ℕ) (total : ℕ) (owners before : List ℕ) where
  -- after a addresses
  pub record Labelling (map code : List ℕ) (at a : ℕ) : Type 0 where
    pub upto : a ≤ n
    pub next : at ≡ map_plain memory n edges a
    pub small : at ≤ 7 * a
    pub entered : Putting (λ x. map_plain memory n edges x ∷ []) owners map a
    pub long : length code ≡ length before
    pub past : drop total code ≡ drop total before
    pub stand : (x : ℕ) → x < a → is_destination edges x ≡ true
        → get_or code (map_plain memory n edges x) 0 ≡ encode_of (Instr.Label (map_plain memory n edges (set_of edges n x)))

  pub labelling_none : Labelling owners before 0 0
  unfolding start_of
  labelling_none =
      record {
        upto = omega arith;
        next = refl;
        small = omega arith;
        entered = put_none _ owners;
        long = refl;
        past = refl;
        stand = λ x l. absurd (omega arith);
      }

  module _ (owned : Owned edges n owners) (room : n ≤ length owners) (fits : total ≤ length before) (total_is : total ≡ length_plain memory n edges)
      {map code : List ℕ} {at a : ℕ} (h : Labelling map code at a) (l : a < n) where
    -- what the place of the map holds at a, and once the entry is there, at the ID
    pub owner_at : get_or map a 0 ≡ get_or owners a 0
    owner_at = ones_past (map_plain memory n edges) a h.entered (omega arith) (omega arith)

    entered_more : {v : ℕ} → v ≡ at → Putting (λ x. map_plain memory n edges x ∷ []) owners (set map a v) (a + 1)
    entered_more e = ones_more (map_plain memory n edges) h.entered (e ∙ h.next)

    pub labelled_at : (o : ℕ) → o ≡ get_or map a 0 → o < n → is_destination edges a ≡ true
    labelled_at o e q =
        sym (destined edges n owners owned a l) ∙ lt-ltb (get_or owners a 0) n (omega (arith, e, owner_at))

    unlabelled_at : (o : ℕ) → o ≡ get_or map a 0 → n ≤ o → is_destination edges a ≡ false
    unlabelled_at o e q =
        sym (destined edges n owners owned a l) ∙ le-ltb (get_or owners a 0) n (omega (arith, e, owner_at))

    pub label_room : at + 1 ≤ total
    label_room = omega (arith, h.next, map_lt Technique.Plain memory edges a n l, total_is)

    label_is : {v : ℕ} (o : ℕ) → v ≡ at → o ≡ get_or map a 0 → o < n → get_or (set map a v) o 0 ≡ map_plain memory n edges (set_of edges n a)
    label_is o ev e q =
        let d = labelled_at o e q in
        let is = owner_is edges n owners owned a d in
        let same : o ≡ set_of edges n a = e ∙ owner_at ∙ is.0 in
        ones_put (map_plain memory n edges) o (entered_more ev) (omega arith) (omega (arith, same, is.1)) ∙ ap (map_plain memory n edges) same

    lower : (x : ℕ) → x < a → map_plain memory n edges x < at
    lower x q = omega (arith, map_lt Technique.Plain memory edges x a q, h.next)

    pub labelling_more : {v w size : ℕ} (o : ℕ) → v ≡ at → o ≡ get_or map a 0 → o < n → w ≡ encode_of (Instr.Label (get_or (set map a v) o 0))
        → (size ≡ body_size Technique.Plain (instr_at memory a)) × (size ≤ 6)
        → Labelling (set map a v) (set code at w) (at + 1 + size) (a + 1)
    labelling_more {v} {w} {size} o ev e q ew z =
        record {
          upto = omega arith;
          next = omega (arith, h.next, z.0, ap bit d, map_next Technique.Plain memory edges a) ∙ ap (map_plain memory n edges) (let z : suc a ≡ a + 1 = omega arith in z);
          small = omega (arith, h.small, z.1);
          entered = entered_more ev;
          long = length-set code at w ∙ h.long;
          past = drop-set-lt total code at w (omega (arith, label_room)) ∙ h.past;
          stand = λ x p f. go x p f (ℕ_discrete x a);
        }
      where
        d : is_destination edges a ≡ true
        d = labelled_at o e q

        go : (x : ℕ) → x < a + 1 → is_destination edges x ≡ true → Dec (x ≡ a)
            → get_or (set code at w) (map_plain memory n edges x) 0 ≡ encode_of (Instr.Label (map_plain memory n edges (set_of edges n x)))
        go x p f (yes s) =
            ap (λ (y : ℕ). get_or (set code at w) y 0) (ap (map_plain memory n edges) s ∙ sym h.next)
            ∙ get_or-set_same code at w 0 (omega (arith, label_room, h.long))
            ∙ ew
            ∙ ap (λ (y : ℕ). encode_of (Instr.Label y)) (label_is o ev e q ∙ ap (λ (y : ℕ). map_plain memory n edges (set_of edges n y)) (sym s))
        go x p f (no s) =
            let below = lower x (omega arith) in
            get_or-set_other code at (map_plain memory n edges x) w 0 (λ y. omega (arith, y, below)) ∙ h.stand x (omega arith) f

    pub labelling_bare : {v size : ℕ} (o : ℕ) → v ≡ at → o ≡ get_or map a 0 → n ≤ o
        → (size ≡ body_size Technique.Plain (instr_at memory a)) × (size ≤ 6)
        → Labelling (set map a v) code (at + size) (a + 1)
    labelling_bare {v} {size} o ev e q z =
        record {
          upto = omega arith;
          next = omega (arith, h.next, z.0, ap bit d, map_next Technique.Plain memory edges a) ∙ ap (map_plain memory n edges) (let z : suc a ≡ a + 1 = omega arith in z);
          small = omega (arith, h.small, z.1);
          entered = entered_more ev;
          long = h.long;
          past = h.past;
          stand = λ x p f. h.stand x (omega (arith, apart x f)) f;
        }
      where
        d : is_destination edges a ≡ false
        d = unlabelled_at o e q

        apart : (x : ℕ) → is_destination edges x ≡ true → x ≡ a → ⊥
        apart x f s = true_false f (ap (is_destination edges) s ∙ d)
