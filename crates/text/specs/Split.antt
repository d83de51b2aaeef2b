-- A text as lines (T1, T2), and check 1 (V11).
use Rattle.std.specs.Prelude.{ℕ, Bool, cond, ◌||◌, List, [], ◌∷◌, eqb, ltb, length}
use Rattle.text.specs.Words.{line_end}
use Rattle.text.specs.declared.Figures.{Figures}

-- T1: "Every line ends with byte 10". T2: "Bytes after the last line end are one more line, and that line isn't a form."
pub data Raw : Type 0 where
  ended : List ℕ → Raw
  unended : List ℕ → Raw

-- T1, T2: one byte more at the front of the first line.
unfoldable pub push : ℕ → List Raw → List Raw
push b [] = unended (b ∷ []) ∷ []
push b (ended bs ∷ lines) = ended (b ∷ bs) ∷ lines
push b (unended bs ∷ lines) = unended (b ∷ bs) ∷ lines

-- T1, T2: the lines of a text.
unfoldable pub split : List ℕ → List Raw
split [] = []
split (b ∷ bs) =
    let lines = split bs in
    cond (eqb b line_end) (ended [] ∷ lines) (push b lines)

-- V11, check 1: "the text has too many bytes or lines".
unfoldable pub too_large : Figures → List ℕ → Bool
too_large F text = ltb F.bytes (length text) || ltb F.lines (length (split text))
