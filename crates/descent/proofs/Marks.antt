-- The walk over marks: where nothing is marked it marks nothing; from its beginning, one clause further, and at its end.
use Prim.Native.Nat.{ℕ, zero, suc, ◌≤◌, ◌+◌, ◌-◌}
use mathlib.Core.Bool.{Bool, true, false}
use mathlib.Core.List.{List}
use mathlib.Core.Path.{◌≡◌, refl, sym, subst}
use native.Mathlib.Omega.{arith}
use lib.ListN.{length, get_or, set, replicate, length-set, length-replicate}
use lib.Seq.{set_out}
use Rattle.std.proofs.Common.{Option, Some, None}
use Rattle.text.specs.Figures.{office}
use Rattle.descent.specs.declared.Held.{Held}
use Rattle.descent.specs.Walk.{parents_held, marked, passed, walked, inputs_from}

pub none_marked : (size n : ℕ) → get_or (replicate size false) n false ≡ false
none_marked zero n = refl
none_marked (suc size) zero = refl
none_marked (suc size) (suc n) = none_marked size n

none_walked : (size : ℕ) (held : List Held) (inputs k : ℕ) → walked held inputs k (replicate size false) ≡ replicate size false
unfolding walked passed
none_walked size held inputs zero = refl
none_walked size held inputs (suc k) = rw (none_marked size (inputs + k)) (none_walked size held inputs k)

pub past_walked : (held : List Held) (inputs first : ℕ) → office.lines ≤ first → inputs_from held inputs first ≡ replicate office.lines false
unfolding inputs_from
past_walked held inputs first h =
    rw (set_out (replicate office.lines false) first true (omega (arith, length-replicate office.lines false)))
    (none_walked office.lines held inputs _)

pub marked_length : (marks : List Bool) (n : Option ℕ) → length (marked marks n) ≡ length marks
unfolding marked
marked_length marks None = refl
marked_length marks (Some n) = length-set marks n true

module _ (held : List Held) (inputs : ℕ) where
  pub started : (first : ℕ) → walked held inputs (first + 1 - inputs) (set (replicate office.lines false) first true) ≡ inputs_from held inputs first
  unfolding inputs_from
  started first = let e : first + 1 - inputs ≡ suc first - inputs = omega arith in rw e

  pub walked_on : (n : ℕ) (marks : List Bool) → inputs ≤ n → walked held inputs (n - inputs) (passed marks n (parents_held held n)) ≡ walked held inputs (n + 1 - inputs) marks
  unfolding walked
  walked_on n marks h =
      let k : n + 1 - inputs ≡ suc (n - inputs) = omega arith in
      let m : n ≡ inputs + (n - inputs) = omega arith in
      subst (λ x. walked held inputs (n - inputs) (passed marks x (parents_held held x)) ≡ walked held inputs (n + 1 - inputs) marks) (sym m) (rw k)

  pub walked_last : (n : ℕ) (marks : List Bool) → inputs ≤ n → n ≤ inputs → walked held inputs (n + 1 - inputs) marks ≡ passed marks n (parents_held held n)
  unfolding walked
  walked_last n marks h l =
      let k : n + 1 - inputs ≡ 1 = omega arith in
      let m : inputs + 0 ≡ n = omega arith in
      rw (k, m)

  pub ended : (k : ℕ) (marks : List Bool) → k ≡ 0 → marks ≡ walked held inputs k marks
  unfolding walked
  ended k marks e = rw e

-- What the loop asks: there is no such clause, its beginning, a clause further, the last clause, its end.
pub ruleset walk = (past_walked, started, walked_on, walked_last, ended)
