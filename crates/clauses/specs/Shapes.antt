-- Nothing here is to be believed: `judge_meets` (crates/rules/proofs/JudgeMeets) says what it gives on written clauses.
-- What stands in the bytes of a clause, each from where a part begins: "a position, sign, kind of atom, result, K" (V19).
use Rattle.std.specs.Prelude.{ℕ, Bool, cond, not, ◌&&◌, ◌||◌, List}
use Rattle.logic.specs.declared.Link.{Link}
use Rattle.text.specs.Heads.{head, link_kind}
use Rattle.text.specs.Read.{Parsed, bad, got, Reader, ◌>>◌, strip, skip}
use Rattle.text.specs.Access.{skip_item, to_item, opening, to_argument, stood}

-- T16, "`(or LIT ...)` is the clause of these literals": to the space in front of the first one, or the closing bracket.
abbrev pub literals : Reader (Unit {0})
literals = skip "(or"

-- T17, "Positions in a clause .. are numbered from 0": to literal n of the clause.
unfoldable pub literal : ℕ → Reader (Unit {0})
literal n = literals >> to_item n

-- To the item after the one that stands here.
unfoldable pub next : Reader (Unit {0})
next = skip_item >> skip " "

-- To the atom of a positive literal, of a negative one, of either.
unfoldable pub positive : Reader (Unit {0})
positive = skip "(+ "

unfoldable pub negative : Reader (Unit {0})
negative = skip "(- "

unfoldable pub first_or : Parsed (Unit {0}) → Parsed (Unit {0}) → Parsed (Unit {0})
first_or bad q = q
first_or (got u rest) q = got u rest

unfoldable pub atom : Reader (Unit {0})
atom bs = first_or (positive bs) (negative bs)

-- To the first term of a positive eq, mem or sub (T13).
unfoldable pub link : Link → Reader (Unit {0})
link l = positive >> strip (head (link_kind l))

-- T13, "`(obj T)` is T[]": to the term of a negative one.
unfoldable pub denied : Reader (Unit {0})
denied = skip "(- (obj "

-- To the object of a positive arrow atom with one of two heads.
unfoldable pub object : List ℕ → List ℕ → Reader (Unit {0})
object v w = positive >> (λ bs. first_or (strip v bs) (strip w bs))

-- T14, "sv is a scalar value, si an inheritable scalar value", "st a scalar signature, mt a set signature": to the object of a
-- positive one.
abbrev pub scalar : Reader (Unit {0})
scalar = object (head 4) (head 5)

abbrev pub signature : Reader (Unit {0})
signature = object (head 8) (head 9)

-- From the object of an arrow atom to its result, after object, method and arguments.
unfoldable pub result_of : Reader (Unit {0})
result_of = next >> (next >> next)

-- The same, if the result is a term.
unfoldable pub value_of : Reader (Unit {0})
value_of = result_of >> opening

-- From the object of an arrow atom to its argument n, after object and method.
unfoldable pub argument_of : ℕ → Reader (Unit {0})
argument_of n = next >> (next >> to_argument n)

-- Two literals of one sign.
unfoldable pub same_sign : List ℕ → List ℕ → Bool
same_sign ps qs = (stood (positive ps) && stood (positive qs)) || (stood (negative ps) && stood (negative qs))

-- Both literals have the head of sv, or neither has.
unfoldable pub is_sv : List ℕ → Bool
is_sv bs = stood ((positive >> skip "(sv ") bs)

unfoldable pub same_arrow : List ℕ → List ℕ → Bool
same_arrow ps qs = cond (is_sv ps) (is_sv qs) (not (is_sv qs))
