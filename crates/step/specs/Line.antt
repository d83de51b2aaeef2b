-- What `checked` promises in the definitions. Nothing here has to be believed: `check` promises the verdict of the definitions.
use Rattle.std.specs.Prelude.{ℕ, List, map, Result}
use Rattle.logic.specs.declared.Check.{Check}
use Rattle.text.specs.Read.{read_line}
use Rattle.logic.specs.StepChecks.{Checked}
use Rattle.reader.specs.declared.forms.StepAt.{StepAt}
use Rattle.reader.specs.declared.forms.LineAt.{LineAt}
use Rattle.rules.specs.Judging.{Judges}
use Rattle.step.specs.Step.{parent_at}
use Rattle.state.specs.declared.HeldState as code
use Rattle.state.specs.State.{State}
use Rattle.state.specs.Represents.{Represents, Sized, SeenAs}
use Rattle.meaning.specs.Answer.{failure}
use Rattle.descent.specs.declared.Held.{Held}

-- What is held of clauses is of those of a state: their numbers of literals and their widths.
abbrev pub literals_of : List Held → List ℕ
literals_of held = map (λ (c : Held). c.literals) held

abbrev pub widths_of : List Held → List ℕ
widths_of held = map (λ (c : Held). c.width) held

abbrev pub SizesOf : State → List Held → Type 0
SizesOf st held = Sized st (literals_of held) (widths_of held)

-- What the answer to a step means, over the parents that it names (Judges).
abbrev pub JudgedRight : ℕ → (ℕ → List ℕ) → code.HeldState → List Held → List ℕ → StepAt → Checked → Type 0
JudgedRight depth part state held line s r =
    Judges depth state.clauses (parent_at part state held s.numbers.a) (parent_at part state held s.numbers.b) line s r

-- Of a line, where what is held represents a state: the line as the reader gives it, where it passes checks 2 to 11, or the first that it
-- fails.
unfoldable pub FirstFailing : ℕ → (ℕ → List ℕ) → code.HeldState → List Held → List ℕ → Result LineAt Check → Type 0
FirstFailing depth part state held line r =
    (st : State) → Represents depth part state st → SizesOf st held →
    SeenAs st line (read_line depth line) (failure st (read_line depth line)) r
