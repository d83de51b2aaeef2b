-- Nothing here is to be believed: `judge_meets` (crates/rules/proofs/JudgeMeets) says what it gives on written clauses.
-- Places in the bytes of a literal: "a position, sign, kind of atom, result, K" (V19). A place past the end says that it isn't so.
use Rattle.std.specs.Prelude.{ℕ, ◌+◌, Bool, cond, not, ◌&&◌, ◌||◌, List, leb, length, drop}
use Rattle.logic.specs.declared.Link.{Link}
use Rattle.text.specs.Words.{bytes}
use Rattle.text.specs.Heads.{head, link_kind}
use Rattle.text.specs.Read.{strip}
use Rattle.text.proofs.Places.{end_of, places}
use Rattle.text.specs.Access.{skip_item, to_item, to_argument, to_occurrence}

-- Past these bytes, past an item, past an item and a space, at argument k.
unfoldable pub strip_at : List ℕ → List ℕ → ℕ → ℕ
strip_at p w at = end_of p (strip w (drop at p))

unfoldable pub skip_at : List ℕ → ℕ → ℕ
skip_at p at = end_of p (skip_item (drop at p))

unfoldable pub next_at : List ℕ → ℕ → ℕ
next_at p at = strip_at p (bytes " ") (skip_at p at)

unfoldable pub argument_at : List ℕ → ℕ → ℕ → ℕ
argument_at p at k = end_of p (to_argument k (drop at p))

-- T16, "`(or LIT ...)` is the clause of these literals": where the literals of the clause that p begins with begin.
abbrev pub literals_at : List ℕ → ℕ
literals_at p = strip_at p (bytes "(or") 0

-- T17, "Positions in a clause .. are numbered from 0": the place of literal n of the clause that p begins with.
unfoldable pub place_at : List ℕ → ℕ → ℕ
place_at p n = end_of p (to_item n (drop (literals_at p) p))

-- The atom of a positive literal, of a negative one.
unfoldable pub positive_at : List ℕ → ℕ → ℕ
positive_at p at = strip_at p (bytes "(+ ") at

unfoldable pub negative_at : List ℕ → ℕ → ℕ
negative_at p at = strip_at p (bytes "(- ") at

-- The first term of a positive atom with this head.
unfoldable pub first_at : List ℕ → List ℕ → ℕ → ℕ
first_at p head at = strip_at p head (positive_at p at)

-- The first place if it is one, and else the second.
unfoldable pub or_place : List ℕ → ℕ → ℕ → ℕ
or_place p x y = cond (leb x (length p)) x y

-- The second place if the first is one.
unfoldable pub if_place : List ℕ → ℕ → ℕ → ℕ
if_place p x y = cond (leb x (length p)) y (length p + 1)

-- The result of an arrow atom whose object begins at o: after object, method and arguments.
unfoldable pub result_at : List ℕ → ℕ → ℕ
result_at p o = next_at p (next_at p (next_at p o))

-- The same, if it is a term.
unfoldable pub value_at : List ℕ → ℕ → ℕ
value_at p o =
    let r = result_at p o in
    if_place p (strip_at p (bytes "(") r) r

-- The object of a positive arrow atom with one of two heads.
unfoldable pub object_at : List ℕ → List ℕ → List ℕ → ℕ → ℕ
object_at p v w at = or_place p (strip_at p v (positive_at p at)) (strip_at p w (positive_at p at))

-- T14, "sv is a scalar value, si an inheritable scalar value", "st a scalar signature, mt a set signature": the object of a positive one.
abbrev pub scalar_at : List ℕ → ℕ → ℕ
scalar_at p at = object_at p (bytes "(sv ") (bytes "(si ") at

abbrev pub signature_at : List ℕ → ℕ → ℕ
signature_at p at = object_at p (bytes "(st ") (bytes "(mt ") at

-- T13, "`(obj T)` is T[]": the term of a negative one.
abbrev pub denied_at : List ℕ → ℕ → ℕ
denied_at p at = strip_at p (bytes "(- (obj ") at

-- Argument k of an arrow atom whose object begins at o: after object and method.
abbrev pub method_argument_at : List ℕ → ℕ → ℕ → ℕ
method_argument_at p o k = argument_at p (next_at p (next_at p o)) k

-- The first term of a positive eq, mem or sub (T13).
abbrev pub link_at : List ℕ → Link → ℕ → ℕ
link_at p l at = first_at p (head (link_kind l)) at

-- R20, "counted from 0 in the literal at I": term occurrence k of the item at `at`.
abbrev pub occurrence_at : List ℕ → ℕ → ℕ → ℕ
occurrence_at p at k = end_of p (to_occurrence k (drop at p))

-- The places of the entries of the list that begins at `at`.
unfoldable pub list_at : List ℕ → ℕ → List ℕ
list_at line at = places line 33 (strip_at line (bytes "(let") at)

-- A place of p.
unfoldable pub within : List ℕ → ℕ → Bool
within p x = leb x (length p)

-- Two literals of one sign.
unfoldable pub same_sign_at : List ℕ → ℕ → List ℕ → ℕ → Bool
same_sign_at p i q j =
    (within p (positive_at p i) && within q (positive_at q j)) || (within p (negative_at p i) && within q (negative_at q j))

-- The atom of a literal of either sign.
unfoldable pub atom_at : List ℕ → ℕ → ℕ
atom_at p i = or_place p (positive_at p i) (negative_at p i)

-- Two tests with one answer.
abbrev pub equal_tests : Bool → Bool → Bool
equal_tests x y = cond x y (not y)

-- Both literals have the head of sv, or neither has.
unfoldable pub same_arrow_at : List ℕ → ℕ → List ℕ → ℕ → Bool
same_arrow_at p i q j = equal_tests (within p (first_at p (bytes "(sv ") i)) (within q (first_at q (bytes "(sv ") j))
