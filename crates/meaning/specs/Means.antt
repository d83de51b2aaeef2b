-- What each verdict means (V1 to V3), which inputs are named with it (V30), and how it is told (V27).
use Rattle.std.specs.Prelude.{ℕ, zero, suc, ◌+◌, ◌<◌, Bool, false, not, List, [], ◌∷◌, ◌≡◌, T, length, get_or}
use Prim.Native.String.{String}
use Rattle.logic.specs.Syntax.{Clause}
use Rattle.logic.specs.StepChecks.{AllPass, FailsFirst, check_number}
use Rattle.logic.specs.Descent.{RestsOn, numbers_below}
use Rattle.text.specs.declared.Figures.{Figures}
use Rattle.text.specs.Figures.{office}
use Rattle.state.specs.State.{fresh, has_constant}
use Rattle.meaning.specs.declared.Verdict.{Verdict}
use Rattle.meaning.specs.declared.Verdict.TheVariants.{Refuted, Open, Refused}
use Rattle.meaning.specs.Checks.{readings, too_large, checks_at, table_of, inputs_of, steps_of, clauses_of, Accepted}

-- V1: "first is the number of the first empty one". V2: "none is empty".
unfoldable pub FirstEmpty : ℕ → List Clause → Type 0
FirstEmpty n [] = ⊥
FirstEmpty zero (c ∷ cs) = c ≡ []
FirstEmpty (suc n) (c ∷ cs) = (c ≡ [] → ⊥) × FirstEmpty n cs

unfoldable pub NoneEmpty : List Clause → Type 0
NoneEmpty [] = Unit
NoneEmpty (c ∷ cs) = (c ≡ [] → ⊥) × NoneEmpty cs

-- V3: "`Refused(number, line)`: line is the first line that fails a check, number the first check that it fails." Lines are numbered from
-- 1 (T17), checks 2 to 11 of a line from 2.
pub data Refusal (F : Figures) (text : List ℕ) : ℕ → ℕ → Type 0 where
  -- V11, check 1: "the text has too many bytes or lines; the line is 0".
  large : T (too_large F text) → Refusal F text 1 0
  at_line : (n m : ℕ) → T (not (too_large F text)) →
      FailsFirst n (checks_at fresh (readings F text) m) →
      ((i : ℕ) → i < m → AllPass (checks_at fresh (readings F text) i)) →
      Refusal F text (2 + n) (1 + m)
  -- V14, check 4: "or the text ends so: line 0, tested after all lines have passed".
  at_end : T (not (too_large F text)) →
      ((m : ℕ) → AllPass (checks_at fresh (readings F text) m)) →
      T (not (has_constant (table_of F text))) →
      Refusal F text 4 0

-- V1: "`Refuted(count, first)`: the text is accepted, count is the number of its clauses, and first is the number of the first empty one."
-- V2: "`Open(count)`: the text is accepted, count is the number of its clauses, and none is empty." V3: `Refused(number, line)`.
unfoldable pub MeansVerdict : Figures → List ℕ → Verdict → Type 0
MeansVerdict F text (Refuted count first) = Accepted F text × (count ≡ length (clauses_of F text)) × FirstEmpty first (clauses_of F text)
MeansVerdict F text (Open count) = Accepted F text × (count ≡ length (clauses_of F text)) × NoneEmpty (clauses_of F text)
MeansVerdict F text (Refused check line) = Refusal F text (check_number check) line

-- V30: "A refuted answer also names the input clauses from which its first empty clause descends"; other answers name none.
unfoldable pub Names : Figures → List ℕ → Verdict → List ℕ → Type 0
Names F text (Refuted count first) ns = RestsOn (length (inputs_of F text)) (steps_of F text) first ns
Names F text (Open count) ns = ns ≡ []
Names F text (Refused check line) ns = ns ≡ []

-- V1 to V3, V30: what an answer, a verdict and the inputs that are named, means.
unfoldable pub Means : Figures → List ℕ → Verdict → List ℕ → Type 0
Means F text v ns = MeansVerdict F text v × Names F text v ns

-- V30: an answer holds them as a set, by clause number; these are the numbers.
unfoldable pub named : List Bool → List ℕ
named rests = numbers_below office.lines (λ n. get_or rests n false)

-- V27: "prints one line: the word refuted, open or refused, and then the numbers of the verdict".
unfoldable pub verdict_word : Verdict → String
verdict_word (Refuted count first) = "refuted"
verdict_word (Open count) = "open"
verdict_word (Refused check line) = "refused"

unfoldable pub numbers : Verdict → List ℕ
numbers (Refuted count first) = count ∷ (first ∷ [])
numbers (Open count) = count ∷ []
numbers (Refused check line) = check_number check ∷ (line ∷ [])
