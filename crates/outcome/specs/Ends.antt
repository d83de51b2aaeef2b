-- Where all lines have passed: the answer by the state and what is held of the clauses. Nothing here has to be believed: `ends_held`
-- (crates/verdict/proofs/Ends) says that it is the answer of the definitions.
use Rattle.std.specs.Prelude.{ℕ, Bool, cond, Option, Some, None, List, ◌==◌, take, position}
use Rattle.logic.specs.declared.Check.{Check}
use Rattle.state.specs.declared.HeldState.{HeldState}
use Rattle.state.specs.State.{has_constant}
use Rattle.state.specs.ReadLine.{held_table}
use Rattle.descent.specs.declared.Held.{Held}
use Rattle.descent.specs.Walk.{inputs_from}
use Rattle.meaning.specs.declared.Verdict.{Verdict}
use Rattle.meaning.specs.declared.Verdict.TheVariants.{Refuted, Open, Refused}

-- The place of the first clause, of so many, that has no literals, if there is one.
unfoldable pub first_without : List Held → ℕ → Option ℕ
first_without held clauses = position (λ (c : Held). c.literals == 0) (take clauses held)

-- The answer to an accepted text (V1, V2), by the number of clauses and the first empty one.
unfoldable pub accepted_with : ℕ → Option ℕ → Verdict
accepted_with count (Some first) = Refuted count first
accepted_with count None = Open count

-- Check 4 where the text ends (V14), and the answer to an accepted text.
unfoldable pub ends_as : HeldState → List Held → Verdict
ends_as state held =
    cond (has_constant (held_table state)) (accepted_with state.clauses (first_without held state.clauses)) (Refused Check.Constant 0)

-- The inputs from which the first empty clause descends are marked (V30).
unfoldable pub marks_with : Option ℕ → ℕ → List Held → List Bool → List Bool
marks_with (Some first) inputs held before = inputs_from held inputs first
marks_with None inputs held before = before

unfoldable pub marks_as : HeldState → List Held → List Bool → List Bool
marks_as state held before =
    cond (has_constant (held_table state)) (marks_with (first_without held state.clauses) state.inputs held before) before
