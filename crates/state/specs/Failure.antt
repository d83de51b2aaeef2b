-- Checks 2 to 6, the first that fails. Nothing here has to be believed: `verdict_exactly` (crates/meaning/proofs/Meaning) says that the
-- verdict that is computed by it is the one that is meant.
use Rattle.std.specs.Prelude.{cond, Ok, Err}
use Rattle.logic.specs.declared.Check.{Check}
use Rattle.logic.specs.StepChecks.{Checked}
use Rattle.logic.specs.Syntax.{Line}
use Rattle.text.specs.Form.{Reading, form, no_form}
use Rattle.state.specs.State.{State, ordered, constant_ready, within_limits, symbols_declared}

-- The first of checks 3 to 6 that fails, or what is said of a line that passes them.
unfoldable pub line_failure : State → Line → Checked → Checked
line_failure st l passed =
    cond (ordered st l)
    (cond (constant_ready st l)
    (cond (within_limits st l)
    (cond (symbols_declared st l) passed (Err Check.Symbol)) (Err Check.Limit)) (Err Check.Constant)) (Err Check.Order)

-- Checks 2 to 6 of a line.
unfoldable pub read_failure : State → Reading → Checked
read_failure st no_form = Err Check.Form
read_failure st (form l) = line_failure st l (Ok tt)
