-- A stop's number tells the stop, and is neither 0 nor that of a refusal.
use Prim.Native.Nat.{ℕ}
use mathlib.Core.Path.{◌≡◌, refl, sym, ap, ◌∙◌}
use mathlib.Core.Bool.{cond}
use lib.Dec.{eqb}
use Rattle.lists.proofs.Bools.{clash}
use Rattle.machine.specs.declared.Stop.{Stop}
use Rattle.capi.specs.States.{stop_answer}
use Rattle.capi.specs.Theorems.{StopsApart}

stop_in : ℕ → Stop
stop_in number =
    cond (eqb number 1) Stop.Fetch
    (cond (eqb number 2) Stop.Illegal
    (cond (eqb number 3) Stop.Access (cond (eqb number 4) Stop.Next (cond (eqb number 261) Stop.Full Stop.Empty))))

told : (stop : Stop) → stop_in (stop_answer stop) ≡ stop
unfolding stop_in
told Stop.Fetch = refl
told Stop.Illegal = refl
told Stop.Access = refl
told Stop.Next = refl
told Stop.Full = refl
told Stop.Empty = refl

-- all that the numbers of refusals and 0 have in common: no stop has one of 0, 5 and 6
free : (stop : Stop) → (stop_answer stop ≡ 0 → ⊥) × (stop_answer stop ≡ 5 → ⊥) × (stop_answer stop ≡ 6 → ⊥)
free Stop.Fetch = (λ e. clash (cc), λ e. clash (cc), λ e. clash (cc))
free Stop.Illegal = (λ e. clash (cc), λ e. clash (cc), λ e. clash (cc))
free Stop.Access = (λ e. clash (cc), λ e. clash (cc), λ e. clash (cc))
free Stop.Next = (λ e. clash (cc), λ e. clash (cc), λ e. clash (cc))
free Stop.Full = (λ e. clash (cc), λ e. clash (cc), λ e. clash (cc))
free Stop.Empty = (λ e. clash (cc), λ e. clash (cc), λ e. clash (cc))

pub stops_apart : StopsApart
stops_apart =
    record {
      one_stop = λ a b e. sym (told a) ∙ ap stop_in e ∙ told b;
      not_made = λ stop. (free stop).0;
      not_too_short = λ stop. (free stop).1;
      not_shape = λ stop. (free stop).2;
    }
