-- The eleven checks (V11 to V21), at the lines of a text.
use Rattle.std.specs.Prelude.{ℕ, zero, suc, not, List, [], ◌∷◌, ◌++◌, map, T}
use Rattle.logic.specs.Syntax.{Clause, Step, Line, sym, input, by}
use Rattle.logic.specs.StepChecks.{AllPass, step_checks}
use Rattle.text.specs.Form.{Reading, form, no_form}
use Rattle.text.specs.Read.{read_raw}
use Rattle.text.specs.Split.{split}
unfoldable pub use Rattle.text.specs.Split.{too_large}
use Rattle.text.specs.declared.Figures.{Figures}
use Rattle.state.specs.State.{State, fresh, clauses, has_constant, line_checks, after, state_after}

-- T1, T2, V12: the lines of a text, each read as a form or not.
unfoldable pub readings : Figures → List ℕ → List Reading
readings F text = map (read_raw F.depth) (split text)

-- V17 to V21: checks 7 to 11 are about by lines.
unfoldable pub step_part : State → Line → List (Type 0)
step_part st (sym k) = []
step_part st (input c) = []
step_part st (by s) = step_checks (clauses st) s

-- V12 to V21: checks 2 to 11 of a line, in order. V12, check 2: "the line isn't a form"; a line that isn't one is asked nothing more.
unfoldable pub checks_of : State → Reading → List (Type 0)
checks_of st no_form = ⊥ ∷ []
checks_of st (form l) = Unit ∷ (line_checks st l ++ step_part st l)

-- V3, T19: checks 2 to 11 of line m, counted from 0, of lines that are read one after the other from a state.
unfoldable pub checks_at : State → List Reading → ℕ → List (Type 0)
checks_at st [] m = []
checks_at st (r ∷ rs) zero = checks_of st r
checks_at st (r ∷ rs) (suc m) = checks_at (after st r) rs m

-- What a text says, as a function of its bytes: the state after its lines (T19), its symbol table (T7), inputs (T8), steps (T9) and
-- clauses (T17).
unfoldable pub state_of : Figures → List ℕ → State
state_of F text = state_after fresh (readings F text)

unfoldable pub table_of : Figures → List ℕ → List ℕ
table_of F text = (state_of F text).symbols

unfoldable pub inputs_of : Figures → List ℕ → List Clause
inputs_of F text = (state_of F text).inputs

unfoldable pub steps_of : Figures → List ℕ → List Step
steps_of F text = (state_of F text).steps

unfoldable pub clauses_of : Figures → List ℕ → List Clause
clauses_of F text = clauses (state_of F text)

-- V3: "A text is accepted exactly when no check fails.": 1 (V11), 2 to 11 at each line, and 4 where the text ends (V14).
pub record Accepted (F : Figures) (text : List ℕ) : Type 0 where
  pub small : T (not (too_large F text))
  pub passes : (m : ℕ) → AllPass (checks_at fresh (readings F text) m)
  pub constant : T (has_constant (table_of F text))
