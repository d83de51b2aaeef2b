-- The answer as a function of a text's bytes. Nothing here has to be believed: `answer_exactly` (proofs/Guaranteed) says that it gives a
-- verdict and numbers exactly where they are meant (Means), and `job_exactly` (proofs/Jobs) the same of a base and a job (Job).
use Rattle.std.specs.Prelude.{ℕ, suc, Bool, true, false, cond, List, [], ◌∷◌, ◌++◌, ltb, length, Ok, Err}
use Rattle.logic.specs.declared.Check.{Check}
use Rattle.logic.specs.Syntax.{Clause, Line, sym, input, by}
use Rattle.logic.specs.StepChecks.{Checked}
use Rattle.logic.specs.Judge.{judge}
use Rattle.logic.specs.Reach.{rests_on}
use Rattle.text.specs.Form.{Reading, form, no_form}
use Rattle.text.specs.declared.Figures.{Figures}
use Rattle.state.specs.State.{State, fresh, clauses, has_constant, after}
use Rattle.state.specs.Failure.{line_failure}
use Rattle.meaning.specs.declared.Verdict.{Verdict}
use Rattle.meaning.specs.declared.Verdict.TheVariants.{Refuted, Open, Refused}
use Rattle.meaning.specs.Checks.{readings, too_large, state_of}
use Rattle.meaning.specs.Guarantee.{is_accepted}

-- The first of checks 2 to 11 that fails at a line, if any.
unfoldable pub step_failure : State → Line → Checked
step_failure st (sym k) = Ok tt
step_failure st (input c) = Ok tt
step_failure st (by s) = judge (clauses st) s

unfoldable pub failure : State → Reading → Checked
failure st no_form = Err Check.Form
failure st (form l) = line_failure st l (step_failure st l)

unfoldable pub is_nil : Clause → Bool
is_nil [] = true
is_nil (l ∷ c) = false

-- The number of the first empty clause, or of all clauses where none is empty.
unfoldable pub first_empty : List Clause → ℕ
first_empty [] = 0
first_empty (c ∷ cs) = cond (is_nil c) 0 (suc (first_empty cs))

unfoldable pub accepted_as : ℕ → ℕ → Verdict
accepted_as count first = cond (ltb first count) (Refuted count first) (Open count)

unfoldable pub finish : State → Verdict
finish st = cond (has_constant st.symbols) (accepted_as (length (clauses st)) (first_empty (clauses st))) (Refused Check.Constant 0)

-- A line that fails a check is the answer; after one that passes the reading goes on.
unfoldable pub refused_or : Checked → ℕ → Verdict → Verdict
refused_or (Ok u) line onward = onward
refused_or (Err c) line onward = Refused c line

-- From a state on, the next line's number given.
unfoldable pub read_on : State → ℕ → List Reading → Verdict
read_on st line [] = finish st
read_on st line (r ∷ rs) =
    let onward = read_on (after st r) (suc line) rs in
    refused_or (failure st r) line onward

unfoldable pub verdict : Figures → List ℕ → Verdict
verdict F text =
    let read = read_on fresh 1 (readings F text) in
    cond (too_large F text) (Refused Check.Size 0) read

-- The inputs on which a refutation rests, by what the text says.
unfoldable pub rests_in : State → Verdict → List ℕ
rests_in st (Refuted count first) = rests_on (length st.inputs) st.steps first
rests_in st (Open count) = []
rests_in st (Refused check line) = []

unfoldable pub rests : Figures → List ℕ → List ℕ
rests F text = rests_in (state_of F text) (verdict F text)

-- Of a base and a job, the text that is answered: the base, if it is refused, and otherwise the two in a row.
unfoldable pub jointly : Figures → List ℕ → List ℕ → List ℕ
jointly F base job = cond (is_accepted (verdict F base)) (base ++ job) base
