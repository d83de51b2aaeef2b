-- Nothing in this file has to be believed: the lines of a text are what `split` gives (Split), and `split_at` and `split_over`
-- (proofs/Sizes) find the first of them; `count_ended` and `count_unended` count them by the line ends.
use Rattle.std.specs.Prelude.{ℕ, zero, suc, ◌-◌, cond, List, [], ◌∷◌, ltb, eqb, length, take, drop}
use Rattle.text.specs.Words.{line_end}
use Rattle.text.specs.Split.{split}

-- How many bytes stand before the first line end.
unfoldable pub line_length : List ℕ → ℕ
line_length [] = zero
line_length (b ∷ bs) =
    let further = suc (line_length bs) in
    cond (eqb b line_end) zero further

-- T1, T2, "Every line ends with byte 10", "Bytes after the last line end are one more line, and that line isn't a form": the bytes of the
-- first line, if it is ended; none, which are no form either, if it is not.
unfoldable pub first_line : List ℕ → List ℕ
first_line text = cond (ltb (line_length text) (length text)) (take (line_length text) text) []

-- V37, "a clause is read from the part that holds it": of two texts in a row, what stands from a place on in the one that holds it.
unfoldable pub part_at : List ℕ → List ℕ → ℕ → List ℕ
part_at base job at = cond (ltb at (length base)) (drop at base) (drop (at - length base) job)

-- How many line ends are among the bytes.
unfoldable pub line_end_count : List ℕ → ℕ
line_end_count [] = zero
line_end_count (b ∷ bs) =
    let further = line_end_count bs in
    cond (eqb b line_end) (suc further) further

abbrev pub line_count : List ℕ → ℕ
line_count text = length (split text)
