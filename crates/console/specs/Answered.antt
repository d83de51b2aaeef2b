-- What a program does that answers: it reads bytes and prints the answer to a text.
use Rattle.std.specs.Prelude.{ℕ, ◌+◌, ◌<◌, List, length, Option}
use Rattle.std.specs.Io.KnownBytes.{Appends, Consumes, IsAtEnd}
use Rattle.text.specs.Figures.{office}
use Rattle.meaning.specs.declared.Answer.{Answer}
use Rattle.meaning.specs.Answer.{verdict, rests}
use Rattle.meaning.specs.Means.{named}
use Rattle.print.specs.Line.{written}

-- `part` was read, all that the input had left where that is no longer than a text may be; and the lines of the answer to `text` were
-- printed. Of the system's own files and streams it is not known what they hold, so there the code has to be read.
pub record Answered (input left before after : Option (List ℕ)) (part text : List ℕ) : Type 0 where
  pub read : Consumes input left part
  pub whole : length part < office.bytes + 1 → IsAtEnd left
  pub printed : Appends before after (written (verdict office text) (rests office text))

-- The same of a program that is handed its check: `part` was read, and the lines of the answer that the check gives to it were printed.
pub record AnsweredBy (Gives : List ℕ → Answer → Type 0) (input left before after : Option (List ℕ)) : Type 0 where
  pub part : List ℕ
  pub answer : Answer
  pub gives : Gives part answer
  pub read : Consumes input left part
  pub whole : length part < office.bytes + 1 → IsAtEnd left
  pub printed : Appends before after (written answer.verdict (named answer.rests))
