-- Places of a text: reading at one, and where what is read there ends. The laws of written clauses speak of them, and no contract does.
use Prim.Native.Nat.{ℕ, zero, suc, ◌+◌, ◌-◌, ◌≤◌, ◌<◌}
use mathlib.Core.Path.{◌≡◌}
use mathlib.Core.Bool.{cond, ◌&&◌}
use mathlib.Core.List.{List, [], ◌∷◌}
use native.Mathlib.Numerals.{add-one}
use lib.ListN.{length, get_or, take, drop, drop_of_length-le}
use lib.Seq.{drop-cons}
use lib.Dec.{leb, ltb}
use Rattle.text.specs.Read.{Parsed, bad, got}
use Rattle.text.specs.Access.{pass_item}

-- The place where the bytes after the value begin; past the end of s if nothing was read.
unfoldable pub end_of : {A : Type 0} → List ℕ → Parsed A → ℕ
end_of s bad = length s + 1
end_of s (got a rest) = length s - length rest

-- A place in s and the places past the items that follow, so many in all; past the end of s where there is none.
unfoldable pub places : List ℕ → ℕ → ℕ → List ℕ
places s zero at = []
places s (suc n) at = at ∷ places s n (end_of s (pass_item (drop at s)))

-- The bytes of entry n of a list, between the places of two neighbours.
unfoldable pub entry_of : List ℕ → List ℕ → ℕ → List ℕ
entry_of s starts n =
    let from = get_or starts n 0 in
    let to = get_or starts (n + 1) 0 in
    cond (ltb from to && leb to (length s)) (take (to - (from + 1)) (drop (from + 1) s)) []

-- What stands at a place within the text, and past its end.
pub at_byte : (s : List ℕ) (j : ℕ) → j < length s → drop j s ≡ get_or s j 0 ∷ drop (j + 1) s
at_byte s j h = rw (add-one, drop-cons s j 0)

pub past : (s : List ℕ) (j : ℕ) → length s ≤ j → drop j s ≡ []
past s j h = drop_of_length-le s h
