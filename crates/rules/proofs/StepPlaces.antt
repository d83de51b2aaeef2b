-- Checks 7 to 11 of a step by places.
use Rattle.std.specs.Prelude.{ℕ, Bool, cond, ◌&&◌, List, [], eqb, length, drop, Ok, Err}
use Rattle.logic.specs.declared.Rule.{Rule}
use Rattle.logic.specs.declared.Check.{Check}
use Rattle.logic.specs.StepChecks.{Checked}
use Rattle.logic.specs.Rules.{uses}
use Rattle.reader.specs.declared.forms.StepAt.{StepAt}
use Rattle.clauses.proofs.Places.{place_at, list_at}
use Rattle.rule_numbers.specs.Uses.{parent_numbers, unused_numbers}
use Rattle.rules.specs.Judging.{ParentAt}
use Rattle.rules.proofs.RowPlaces.{row_at}
use Rattle.rules.proofs.ClaimPlaces.{claim_at}

-- R3: "The list of a used parent has exactly as many terms as the parent's highest variable plus 1, and 0 where it has no variable. The
-- list of an unused parent has none, but for refl, whose first list has one term T."
unfoldable pub lists_at : Bool → Bool → ℕ → ℕ → ℕ → ℕ → Bool
lists_at a b firsts seconds v w = eqb firsts (cond a v 1) && eqb seconds (cond b w 0)

-- V3: check 11 comes after 9 and 10.
unfoldable pub then_claim : Checked → Bool → Checked
then_claim (Ok u) claimed = cond claimed (Ok tt) (Err Check.Claim)
then_claim (Err c) claimed = Err c

-- Checks 9 to 11 (V19 to V21). T9: the claim "begins wherever the second list ends", at `pos`: it is the rest of the line, up to its end.
unfoldable pub conclude_at : ℕ → Rule → ℕ → List ℕ → ℕ → ℕ → List ℕ → List ℕ → List ℕ → ℕ → ℕ → List ℕ → ℕ → Checked
conclude_at depth rule k p n i line starts q m j others pos =
    let x = place_at p i in
    let y = place_at q j in
    let rest = drop pos line in
    let claimed = eqb (claim_at depth rule k p n i x line starts q m j y others rest) (length rest) in
    then_claim (row_at depth rule k p x line starts q y others) claimed

-- Checks 7 and 8 come before.
unfoldable pub settled_as : Bool → Bool → Checked → Checked
settled_as parents numbers answer = cond parents (cond numbers answer (Err Check.Numbers)) (Err Check.Parents)

-- A clause without variables is filled by no places.
unfoldable pub filling_places : ℕ → List ℕ → List ℕ
filling_places width places = cond (eqb width 0) [] places

-- A step, as it was read, over its parents as they stand; `own` is its own number. An unused parent has no literals. R5: "At I" is a
-- position in A, "at J" one in B; for fac both are in A: where B is unused, A stands for it.
unfoldable pub placed_step : ℕ → ℕ → ParentAt → ParentAt → List ℕ → StepAt → Checked
placed_step depth own a b line s =
    let first = filling_places (cond (uses s.rule).a a.width 1) (list_at line s.first.start) in
    let second = filling_places b.width (list_at line s.second.start) in
    let n = cond (uses s.rule).a a.literals 0 in
    let two = conclude_at depth s.rule s.numbers.k a.clause n s.numbers.i line first b.clause b.literals s.numbers.j second s.claim.start in
    let one = conclude_at depth s.rule s.numbers.k a.clause n s.numbers.i line first a.clause 0 s.numbers.j first s.claim.start in
    let fit = lists_at (uses s.rule).a (uses s.rule).b s.first.measure.count s.second.measure.count a.width b.width in
    let numbers = unused_numbers s.rule s.numbers && fit in
    settled_as (parent_numbers s.rule own s.numbers) numbers (cond (uses s.rule).b two one)
