-- V27: "The program `fcheck` .. prints one line: the word refuted, open or refused, and then the numbers of the verdict."
-- V31: "For a refuted text `fcheck` prints a second line: the word rests, and then these numbers, as V28 says."
use Rattle.std.specs.Prelude.{ℕ, List, [], ◌∷◌, ◌++◌}
use Rattle.text.specs.Words.{bytes, line_end}
use Rattle.writer.specs.Written.{numeral}
use Rattle.meaning.specs.declared.Verdict.{Verdict}
use Rattle.meaning.specs.declared.Verdict.TheVariants.{Refuted, Open, Refused}
use Rattle.meaning.specs.Means.{verdict_word, numbers}

-- V28: "one space before each number".
unfoldable pub spaced : List ℕ → List ℕ
spaced [] = []
spaced (n ∷ ns) = (32 ∷ numeral n) ++ spaced ns

-- V28: a word, numbers and the line end.
unfoldable pub word_line : List ℕ → List ℕ → List ℕ
word_line word ns = word ++ (spaced ns ++ line_end ∷ [])

-- V27: the line of a verdict.
unfoldable pub verdict_line : Verdict → List ℕ
verdict_line v = word_line (bytes (verdict_word v)) (numbers v)

-- V31: the second line of a refuted text, of the inputs on which the refutation rests; no other text has one.
unfoldable pub rests_line : Verdict → List ℕ → List ℕ
rests_line (Refuted count first) ns = word_line (bytes "rests") ns
rests_line (Open count) ns = []
rests_line (Refused check line) ns = []

-- V27, V31: all that is printed of an answer.
unfoldable pub written : Verdict → List ℕ → List ℕ
written v ns = verdict_line v ++ rests_line v ns
