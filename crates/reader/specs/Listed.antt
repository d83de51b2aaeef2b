-- Nothing here is to be believed: `line_sees` (crates/state/proofs/Held) says what it gives of a line.
-- Items after one space each, up to the closing bracket, measured as they are read.
use Rattle.std.specs.Prelude.{◌≡◌, suc, List, ℕ}
use Rattle.reader.specs.declared.measures.Bounds.{Bounds}
use Rattle.reader.specs.declared.measures.Measure.{Measure}
use Rattle.text.specs.Read.{Reader, read_next}
use Rattle.reader.specs.Summary.{joined, measured, empty}

-- One item before others.
abbrev pub before : Bounds → Measure → Measure
before b m = measured (suc m.count) (joined b m.bounds)

-- All are read so where one is: the closing bracket, or one item and the others.
pub record Listed (one : Reader Bounds) (all : Reader Measure) : Type 0 where
  pub step : (bs : List ℕ) → all bs ≡ read_next empty before one all bs
