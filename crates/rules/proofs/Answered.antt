-- Checks 9 and 10 in bytes are those of the rule table.
use Prim.Native.Nat.{ℕ, ◌+◌, ◌≤◌}
use mathlib.Core.Bool.{Bool, true, false, cond}
use mathlib.Core.List.{List}
use mathlib.Core.Logic.{◌↔◌, ite}
use mathlib.Core.Path.{◌≡◌, refl}
use native.Mathlib.Omega.{arith}
use borrow.Author.Tests.{le-leb, lt-leb}
use lib.Dec.{T}
use lib.ListN.{length}
use Rattle.std.specs.Prelude.{Ok, Err}
use Rattle.logic.specs.declared.Check.{Check}
use Rattle.logic.specs.StepChecks.{Checked}
use Rattle.logic.specs.Syntax.{Clause}
use Rattle.logic.specs.Rules.{Agreement, Holds}
use Rattle.logic.specs.Judge.{Conclusion, misshapen, concludes, holds?}
use Rattle.clauses.proofs.Places.{within}
use Rattle.rules.proofs.RowPlaces.{answer}

-- No check fails.
abbrev pub passes : Checked
passes = Ok tt

-- What checks 9 and 10 say of what the table concludes.
unfoldable pub judged_of : Conclusion → Checked
judged_of misshapen = Err Check.Shape
judged_of (concludes g c) = ite (holds? g) (Ok tt) (Err Check.Agreement)

pub within_here : (p : List ℕ) (x : ℕ) → x ≤ length p → within p x ≡ true
unfolding within
within_here p x h = le-leb x (length p) h

pub within_past : (p : List ℕ) (x : ℕ) → x ≡ length p + 1 → within p x ≡ false
unfolding within
within_past p x e = lt-leb x (length p) (omega arith)

-- A shape that fits, and an agreement that is tested exactly.
pub right_shape : (b : Bool) (g : Agreement) (c : Clause) → (T b ↔ Holds g) → answer true b ≡ judged_of (concludes g c)
unfolding answer judged_of
right_shape b g c e = go b (holds? g) e
  where
    go : (b : Bool) (d : Dec (Holds g)) → (T b ↔ Holds g) → cond b passes (Err Check.Agreement) ≡ ite d passes (Err Check.Agreement)
    go true (yes h) e = refl
    go true (no n) e = absurd (n (e.0 tt))
    go false (yes h) e = absurd (e.1 h)
    go false (no n) e = refl
