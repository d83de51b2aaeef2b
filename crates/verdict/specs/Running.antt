-- What the functions below `check` promise. Nothing here has to be believed: `check` promises the verdict of the definitions, and each call
-- that begins with `read_job` has a promise of its own.
use Rattle.std.specs.Prelude.{ℕ, zero, suc, ◌+◌, cond, List, [], ◌∷◌, map, ◌≡◌, length, take, set, Result, Ok, Err}
use Rattle.logic.specs.declared.Check.{Check}
use Rattle.logic.specs.StepChecks.{Checked}
use Rattle.text.specs.declared.Figures.{Figures}
use Rattle.text.specs.Read.{read_raw}
use Rattle.text.specs.Split.{Raw, ended, unended, split, too_large}
use Rattle.text.specs.Size.{first_line, part_at}
use Rattle.reader.specs.declared.forms.LineAt.{LineAt}
use Rattle.state.specs.declared.HeldState.{HeldState}
use Rattle.state.specs.declared.Added.{Added}
use Rattle.state.specs.State.{State, fresh, state_after}
use Rattle.state.specs.Represents.{Represents}
use Rattle.meaning.specs.declared.Verdict.{Verdict}
use Rattle.meaning.specs.declared.Verdict.TheVariants.{Refuted, Open, Refused}
use Rattle.meaning.specs.Answer.{verdict, rests, jointly}
use Rattle.descent.specs.declared.Parents.{Parents}
use Rattle.descent.specs.declared.Held.{Held}
use Rattle.step.specs.Step.{seam_failure, checked_at}
use Rattle.step.specs.Line.{FirstFailing}

-- The verdict on a base and a job, and the inputs that it names.
pub record Answers (F : Figures) (base job : List ℕ) (v : Verdict) (ns : List ℕ) : Type 0 where
  pub is : v ≡ verdict F (jointly F base job)
  pub names : ns ≡ rests F (jointly F base job)

-- The text whose lines are read: none where the base is too large, and the base alone where the two are.
unfoldable pub text_read : Figures → List ℕ → List ℕ → List ℕ
text_read F base job = cond (too_large F base) [] (cond (too_large F (jointly F base job)) base (jointly F base job))

-- Of lines, those before the one that a verdict names; all, where it names none.
unfoldable pub lines_before : Verdict → List Raw → List Raw
lines_before (Refuted count first) raws = raws
lines_before (Open count) raws = raws
lines_before (Refused check zero) raws = raws
lines_before (Refused check (suc line)) raws = take line raws

-- How many bytes lines are, each with its line end.
unfoldable pub lines_length : List Raw → ℕ
lines_length [] = zero
lines_length (ended bytes ∷ raws) = length bytes + 1 + lines_length raws
lines_length (unended bytes ∷ raws) = length bytes + lines_length raws

-- The lines that passed, and the state after them.
unfoldable pub lines_passed : Figures → List ℕ → List ℕ → List Raw
lines_passed F base job = lines_before (verdict F (jointly F base job)) (split (text_read F base job))

unfoldable pub state_read : Figures → List Raw → State
state_read F raws = state_after fresh (map (read_raw F.depth) raws)

-- What is held where the reading stopped: that state, and the place where those lines end.
pub record StopsAt (F : Figures) (base job : List ℕ) (held : HeldState) (at : ℕ) : Type 0 where
  pub state : Represents F.depth (part_at base job) held (state_read F (lines_passed F base job))
  pub place : at ≡ lines_length (lines_passed F base job)

-- A line with its length, where nothing fails before it and it passes; else the refusal, which names no line or this one.
unfoldable pub told : Checked → Result LineAt Check → ℕ → ℕ → Result (LineAt × ℕ) Verdict
told (Err check) read size number = Err (Refused check 0)
told (Ok u) (Err check) size number = Err (Refused check number)
told (Ok u) (Ok line) size number = Ok (line, size)

-- The line at a place, after so many lines.
abbrev pub line_ahead : List ℕ → List ℕ → ℕ → List ℕ
line_ahead base job at = first_line (part_at base job at)

unfoldable pub next_at : Figures → List ℕ → List ℕ → HeldState → List Held → ℕ → ℕ → Result (LineAt × ℕ) Verdict
next_at F base job state held at lines =
    let line = line_ahead base job at in
    told (seam_failure F state (length base) at lines job) (checked_at F.depth (part_at base job) state held line) (length line + 1) (lines + 1)

-- Where nothing fails before that line, what the checks say of it is the first that it fails.
abbrev pub AheadFailing : Figures → List ℕ → List ℕ → HeldState → List Held → ℕ → ℕ → Type 0
AheadFailing F base job state held at lines =
    let line = line_ahead base job at in
    seam_failure F state (length base) at lines job ≡ Ok tt →
    FirstFailing F.depth (part_at base job) state held line (checked_at F.depth (part_at base job) state held line)

-- What is held of the clauses with what a line adds, the parents that it uses given: for clause n, where it has a clause.
unfoldable pub held_with : List Held → ℕ → Parents → Added → List Held
held_with held n parents (Added.Symbol k) = held
held_with held n parents (Added.Clause start literals width inputs) =
    set held n (record { literals = literals; width = width; parents = parents })
