-- Nothing here is to be believed: the laws in crates/rules/proofs say what it gives on written clauses. Terms nest at most `depth` deep.
-- Check 11 (V21) in bytes. R21: "The claim, all of it filled, is the new literal, if there is one, then A's other literals, then B's other
-- literals, in order." Each definition reads what it expects in the claim, and gives the bytes after it.
use Rattle.std.specs.Prelude.{ℕ, zero, suc, ◌+◌, Bool, false, true, cond, List, [], ◌∷◌, Option, Some, None, eqb}
use Rattle.std.specs.Borrow.{Bor}
use Rattle.logic.specs.declared.Arrow.{Arrow}
use Rattle.text.specs.Words.{bytes, arrow_word}
use Rattle.text.specs.Read.{Parsed, bad, got, Reader, and_then, ◌>>=◌, ◌>>◌, return, strip, skip}
use Rattle.text.specs.Access.{pass_item, stood}
use Rattle.clauses.specs.Entries.{after}
use Rattle.clauses.specs.Shapes.{literals}
use Rattle.clauses.specs.Parts.{PartIn, object_of, parts}
use Rattle.filling.specs.Filled.{fill_item, matches, item_depth, hole_depth}
use Rattle.filling.specs.Items.{Item, item_of, beside, listed, with_hole, filled}
use Rattle.filling.specs.declared.compare.Filled.{Filled}

-- T9, "followed by the clause that it claims": the claim ends here, and its line with it.
unfoldable pub nothing_after : Parsed (Unit {0}) → Bool
nothing_after bad = false
nothing_after (got u []) = true
nothing_after (got u (b ∷ bs)) = false

unfoldable pub claim_ends : List ℕ → Bool
claim_ends rest = nothing_after (skip "))" rest)

-- What was compared with the claim is left there.
unfoldable pub in_claim : Parsed (List ℕ) → Parsed (Unit {0})
in_claim bad = bad
in_claim (got left rest) = got tt left

-- What is expected of an item, by which the parts of molecules are expected: what is left of the claim after it, and of the item's clause.
abbrev pub Expected : Type 0
Expected = Item → List ℕ → Parsed (List ℕ)

-- The item, filled.
unfoldable pub item_expected : ℕ → Expected
item_expected depth x rest = matches (filled x (item_depth depth)) rest

-- An item, whatever stands after it in its clause.
unfoldable pub item_claimed : Expected → Item → Reader (Unit {0})
item_claimed claimed x rest = in_claim (claimed x rest)

-- A new literal of two terms: its head with the space in front, two items with a space between them, and two closing brackets.
unfoldable pub linked : ℕ → List ℕ → Item → Item → Reader (Unit {0})
linked depth head x y =
    let claimed = item_claimed (item_expected depth) in
    strip head >> (claimed x >> (skip " " >> (claimed y >> skip "))")))

-- R8: "+ sub(T,T)", T what variable 0 becomes. R12: "+ eq(P,Q)"; R18: "+ eq(R,R')".
unfoldable pub reflexive : ℕ → Option (List (List ℕ)) → Reader (Unit {0})
reflexive depth es =
    let first : Item = record { bytes = bytes "(v 0)"; entries = es } in
    linked depth (bytes " (+ (sub ") first first

unfoldable pub equated : ℕ → Item → Item → Reader (Unit {0})
equated depth x y = linked depth (bytes " (+ (eq ") x y

-- The item, and a space after it in its clause and in the claim: the item that stands next in its clause.
unfoldable pub spaced : Expected → Item → Reader Item
spaced claimed x rest =
    let onward = λ (left more : List ℕ). and_then (skip " " more) (λ _ bs. and_then (skip " " left) (λ _ left. got (beside x bs) left)) in
    and_then (claimed x rest) onward

-- T15: a result, or the word none.
unfoldable pub result_claimed : Expected → Item → Reader (Unit {0})
result_claimed claimed x = cond (stood (skip "none" x.bytes)) (skip "none") (item_claimed claimed x)

-- T13: "M (T ...) R)", a part from its method on.
unfoldable pub said_claimed : Expected → Item → Reader (Unit {0})
said_claimed claimed x = spaced claimed x >>= (λ y. spaced claimed y >>= (λ z. result_claimed claimed z >> skip ")"))

-- T14: the word of an arrow.
unfoldable pub arrow_claimed : Arrow → Reader (Unit {0})
arrow_claimed a = strip (bytes (arrow_word a))

-- T21: PART, `(ARROW M (T ...) R)`, after a space; the parts one after the other. The item is any of their clause.
unfoldable pub part_claimed : Expected → Item → PartIn → Reader (Unit {0})
part_claimed claimed x p = skip " (" >> (arrow_claimed p.arrow >> (skip " " >> said_claimed claimed (beside x p.method)))

unfoldable pub parts_claimed : Expected → Item → List PartIn → Reader (Unit {0})
parts_claimed claimed x [] = return tt
parts_claimed claimed x (p ∷ ps) = part_claimed claimed x p >> parts_claimed claimed x ps

-- R25: "+ the molecule with object P, A's parts, then B's", of the two atoms, each expected in its own way.
unfoldable pub object_claimed : Expected → Item → Parsed (Unit {0}) → Reader (Unit {0})
object_claimed claimed x bad rest = bad
object_claimed claimed x (got u bs) rest = item_claimed claimed (beside x bs) rest

unfoldable pub merged : Expected → Expected → Item → Item → Reader (Unit {0})
merged claimed other x y =
    skip " (+ (mol "
    >> (object_claimed claimed x (object_of x.bytes)
    >> (parts_claimed claimed x (parts x.bytes)
    >> (parts_claimed other y (parts y.bytes)
    >> skip "))")))

-- R26: "+ the arrow atom of P and that part".
unfoldable pub projected : Expected → Item → PartIn → Reader (Unit {0})
projected claimed x p =
    skip " (+ ("
    >> (arrow_claimed p.arrow
    >> (skip " " >> (item_claimed claimed x >> (skip " " >> (said_claimed claimed (beside x p.method) >> skip ")")))))

-- After a space, the literal filled, with an item of another clause, filled, in place of the one that begins `hole` bytes before the end.
unfoldable pub rewritten : ℕ → Item → ℕ → Item → Reader (Unit {0})
rewritten depth x hole y =
    λ rest. in_claim (matches (fill_item (with_hole (listed x.entries) hole y) (hole_depth depth) x.bytes) (after (skip " " rest)))

-- The first of the literals that stand after a space each, filled: what is left of the claim, and of the literals.
unfoldable pub kept : ℕ → Item → List ℕ → Parsed (List ℕ)
kept depth x rest =
    and_then (skip " " x.bytes) (λ _ bs. item_expected depth (beside x bs) (after (skip " " rest)))

-- The k literals from literal n on without the dropped one, each after a space. One that is dropped and the last is not looked at.
unfoldable pub others_from : ℕ → ℕ → ℕ → ℕ → Item → Reader (Unit {0})
others_from depth dropped zero n x rest = got tt rest
others_from depth dropped (suc k) n x rest =
    let kept_one = and_then (kept depth x rest) (λ left bs. others_from depth dropped k (n + 1) (beside x bs) left) in
    let passed_one = and_then (pass_item x.bytes) (λ _ bs. others_from depth dropped k (n + 1) (beside x bs) rest) in
    cond (eqb n dropped) (cond (eqb k 0) (got tt rest) passed_one) kept_one

-- The first `count` literals of a clause but one.
unfoldable pub others : ℕ → ℕ → ℕ → Item → Reader (Unit {0})
others depth count dropped x = others_from depth dropped count 0 (beside x (after (literals x.bytes)))

-- The code's item that stands next, and what is left.
abbrev pub went_on : Option (Filled × Bor (List ℕ)) → Parsed Item
went_on None = bad
went_on (Some p) = got (item_of p.0) p.1.now
