-- What stands in a buffer after bytes are written at its start.
use Rattle.std.specs.Prelude.{ℕ, min, List, [], ◌++◌, ◌≡◌, length, take, drop}
use Rattle.text.specs.Write.{put_number}

-- V28, T4: a number in decimal without leading zeros.
unfoldable pub numeral : ℕ → List ℕ
numeral n = put_number n []

-- As much of the part as there is room for, and the rest as it was.
unfoldable pub over : List ℕ → List ℕ → List ℕ
over part out = take (length out) part ++ drop (length part) out

-- The part is written at the start of `before`: r bytes of it, which is all of it where there is room.
pub record Wrote (part before : List ℕ) (r : ℕ) (after : List ℕ) : Type 0 where
  pub count : r ≡ min (length part) (length before)
  pub buffer : after ≡ over part before
