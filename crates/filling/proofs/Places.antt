-- The same over places: the bytes of a clause and a place in it, a line and the places of the entries of a list in it. A list without
-- places fills a clause without variables.
use Rattle.std.specs.Prelude.{ℕ, ◌+◌, ◌-◌, Bool, cond, List, eqb, length, drop}
use Rattle.text.specs.Read.{Parsed, bad, got, Reader}
use Rattle.text.proofs.Places.{entry_of}
use Rattle.filling.specs.Filled.{Filler, fill_item}
use Rattle.clauses.specs.Entries.{itself}

-- No hole: no item has 0 bytes.
unfoldable pub plain : List ℕ → List ℕ → Filler
plain line starts = record { entry = entry_of line starts; hole = 0; new = λ _. bad }

-- In the hole stands the item at `from` of q, filled by another list of the same line.
unfoldable pub replacing : List ℕ → List ℕ → ℕ → List ℕ → ℕ → List ℕ → Filler
replacing line starts hole q from others =
    record { entry = entry_of line starts; hole = hole; new = λ depth. fill_item (plain line others) depth (drop from q) }

-- A clause without variables is its own filled form: its list has no places.
abbrev pub ground : List ℕ → Bool
ground starts = eqb (length starts) 0

unfoldable pub filled_by : List ℕ → List ℕ → ℕ → Reader (List ℕ)
filled_by line starts depth bs = cond (ground starts) (itself bs) (fill_item (plain line starts) depth bs)

-- The places past what was compared, in a clause and in another text.
pub record Ends : Type 0 where
  pub at : ℕ
  pub pos : ℕ

-- The places past both; past the ends where they do not match.
unfoldable pub ends_of : List ℕ → List ℕ → Parsed (List ℕ) → Ends
ends_of s t bad = record { at = length s + 1; pos = length t + 1 }
ends_of s t (got left rest) = record { at = length s - length rest; pos = length t - length left }
