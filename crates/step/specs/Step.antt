-- One line as the code judges it, by what is held of the clauses before it: their places, and beside them their numbers of literals and
-- widths. Nothing here has to be believed: Line says what it gives, in the definitions.
use Rattle.std.specs.Prelude.{ℕ, ◌-◌, cond, List, eqb, get_or, Result, Ok, Err}
use Rattle.logic.specs.declared.Check.{Check}
use Rattle.logic.specs.StepChecks.{Checked, if_passed}
use Rattle.text.specs.declared.Figures.{Figures}
use Rattle.text.specs.Split.{too_large}
use Rattle.reader.specs.declared.forms.StepAt.{StepAt}
use Rattle.reader.specs.declared.forms.LineAt.{LineAt}
use Rattle.reader.specs.declared.forms.LineAt.TheVariants.{Sym, Input, By}
use Rattle.state.specs.declared.HeldState.{HeldState}
use Rattle.state.specs.State.{has_constant}
use Rattle.state.specs.ReadLine.{held_table, seen_at}
use Rattle.state.specs.Represents.{checked_line}
use Rattle.rules.specs.Judging.{ParentAt, step_at}
use Rattle.descent.specs.declared.Parents.{Parents}
use Rattle.descent.specs.declared.Held.{Held}
use Rattle.descent.specs.Walk.{no_parents, nothing_held, parents_by}

-- Clause n as a parent: what stands from it on, its number of literals and its width.
unfoldable pub parent_at : (ℕ → List ℕ) → HeldState → List Held → ℕ → ParentAt
parent_at part state held n =
    let clause = get_or held n nothing_held in
    record { clause = part (get_or state.starts n 0); literals = clause.literals; width = clause.width }

-- Checks 7 to 11 of a step, over its parents.
unfoldable pub judged_at : ℕ → (ℕ → List ℕ) → HeldState → List Held → List ℕ → StepAt → Checked
judged_at depth part state held line s =
    step_at depth state.clauses (parent_at part state held s.numbers.a) (parent_at part state held s.numbers.b) line s

-- Checks 7 to 11 of a line: only a step can fail them.
unfoldable pub line_judged : ℕ → (ℕ → List ℕ) → HeldState → List Held → List ℕ → LineAt → Checked
line_judged depth part state held line (Sym k) = Ok tt
line_judged depth part state held line (Input c) = Ok tt
line_judged depth part state held line (By s) = judged_at depth part state held line s

-- They are asked of a line that passes checks 2 to 6.
unfoldable pub then_judged : ℕ → (ℕ → List ℕ) → HeldState → List Held → List ℕ → Result LineAt Check → Result LineAt Check
then_judged depth part state held line (Ok l) = if_passed (line_judged depth part state held line l) l
then_judged depth part state held line (Err c) = Err c

-- A line as it was read, if it passes checks 2 to 11, or the first that it fails.
unfoldable pub checked_at : ℕ → (ℕ → List ℕ) → HeldState → List Held → List ℕ → Result LineAt Check
checked_at depth part state held line = then_judged depth part state held line (checked_line (seen_at depth state line))

-- The parents that a line uses: of a step those that its rule uses, of another line none.
unfoldable pub parents_at : LineAt → Parents
parents_at (Sym k) = no_parents
parents_at (Input c) = no_parents
parents_at (By s) = parents_by s.rule s.numbers.a s.numbers.b

-- What the figures leave after so many bytes and lines.
unfoldable pub left_of : Figures → ℕ → ℕ → Figures
left_of F bytes lines = record { bytes = F.bytes - bytes; lines = F.lines - lines; depth = F.depth }

-- Where the base ends and the job begins: check 4 of the base, and check 1 of the two. Nothing fails at other places.
unfoldable pub seam_failure : Figures → HeldState → ℕ → ℕ → ℕ → List ℕ → Checked
seam_failure F state base at lines job =
    cond (eqb at base)
    (cond (has_constant (held_table state))
    (cond (too_large (left_of F base lines) job) (Err Check.Size) (Ok tt)) (Err Check.Constant)) (Ok tt)
