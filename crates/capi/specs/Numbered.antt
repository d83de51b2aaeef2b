-- V29, V33: an answer as numbers and bytes, for callers in other languages.
use Rattle.std.specs.Prelude.{ℕ, zero, suc, cond, List, [], ◌∷◌, ◌++◌, get_or}
use Rattle.logic.specs.Descent.{among}
use Rattle.meaning.specs.declared.Verdict.{Verdict}
use Rattle.meaning.specs.declared.Verdict.TheVariants.{Refuted, Open, Refused}
use Rattle.meaning.specs.Means.{numbers}

-- V29: the word is 0 for refused, 1 for open, 2 for refuted.
unfoldable pub word_number : Verdict → ℕ
word_number (Refused check line) = 0
word_number (Open count) = 1
word_number (Refuted count first) = 2

-- V29: the verdict's first and second number (V1 to V3); 0 where it has no second.
unfoldable pub first_number : Verdict → ℕ
first_number v = get_or (numbers v) 0 0

unfoldable pub second_number : Verdict → ℕ
second_number v = get_or (numbers v) 1 0

-- V33: "also lends bytes, of which byte n becomes 1 where input n is named, and 0 otherwise".
unfoldable pub flag : List ℕ → ℕ → ℕ
flag ns n = cond (among n ns) 1 0

-- V33: all bytes of a buffer, however many it has.
unfoldable pub flags : ℕ → List ℕ → List ℕ
flags zero ns = []
flags (suc room) ns = flags room ns ++ (flag ns room ∷ [])
