-- What a line that passes a check has; and whether some symbol takes no terms.
use Prim.Native.Nat.{ℕ}
use mathlib.Core.Path.{◌≡◌, refl, ap}
use mathlib.Core.Bool.{Bool, true, false, cond, ◌||◌}
use mathlib.Core.List.{List, [], ◌∷◌}
use lib.Dec.{T, eqb}
use Rattle.std.specs.Prelude.{Ok, Err}
use Rattle.std.specs.List.{list_any}
use Rattle.logic.specs.declared.Check.{Check}
use Rattle.logic.specs.StepChecks.{Checked}
use Rattle.state.specs.State.{has_constant}

pub passed_both : (b : Bool) (next : Checked) (c : Check) → cond b next (Err c) ≡ Ok tt → T b × (next ≡ Ok tt)
passed_both true next c e = (tt, e)
passed_both false next c e = absurd (cc)

pub any_constant : (table : List ℕ) → has_constant table ≡ list_any (λ k. eqb k 0) table
unfolding has_constant
any_constant [] = refl
any_constant (k ∷ table) = ap (λ b. eqb k 0 || b) (any_constant table)
