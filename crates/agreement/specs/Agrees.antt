-- Nothing here is to be believed: the laws in crates/rules/proofs say what it gives on written clauses. Terms nest at most `depth` deep.
-- Agreement of filled items in bytes, and of what two arrow atoms have before their results.
use Rattle.std.specs.Prelude.{◌≡◌, ℕ, Bool, false, true, cond, not, ◌&&◌, ◌||◌, List, [], ◌∷◌, Option, Some, None, take}
use Rattle.std.proofs.Math.Logic.{ite}
use Rattle.logic.specs.declared.Arrow.{Arrow}
use Rattle.logic.specs.Equality.{arrow?}
use Rattle.text.specs.Read.{Parsed, bad, got, ◌>>◌, strip, skip}
use Rattle.text.specs.Access.{stood}
use Rattle.clauses.specs.Entries.{after}
use Rattle.clauses.specs.Shapes.{next, result_of}
use Rattle.clauses.specs.Parts.{PartIn, molecule, object_of, parts}
use Rattle.filling.specs.Filled.{same_item, matches, item_depth}
use Rattle.filling.specs.Items.{Item, item_of, beside, by_entries, filled}
use Rattle.agreement.specs.declared.agree.Pair.{Pair}

unfoldable pub met : Parsed (List ℕ) → Bool
met bad = false
met (got left rest) = true

-- Both filled items are the same. Where one clause has no variables, the other's item is expected in its bytes.
unfoldable pub agrees_by : ℕ → Option (List (List ℕ)) → Option (List (List ℕ)) → Item → Item → Bool
agrees_by depth es None x y = met (matches (filled x (item_depth depth)) y.bytes)
agrees_by depth None (Some fs) x y = met (matches (filled y (item_depth depth)) x.bytes)
agrees_by depth (Some es) (Some fs) x y = met (same_item (by_entries es) (by_entries fs) (item_depth depth) x.bytes y.bytes)

abbrev pub agrees : ℕ → Item → Item → Bool
agrees depth x y = agrees_by depth x.entries y.entries x y

-- A test of what stands further on in both clauses.
unfoldable pub further : (Item → Item → Bool) → Item → Item → Parsed (Unit {0}) → Parsed (Unit {0}) → Bool
further test x y bad q = false
further test x y (got u ps) bad = false
further test x y (got u ps) (got v qs) = test (beside x ps) (beside y qs)

-- The code's pair of what stands further on in both clauses, if in both: a test `further` on is the test of that pair.
abbrev pub Finds : Pair → Parsed (Unit {0}) → Parsed (Unit {0}) → Option Pair → Type 0
Finds x p q None = (test : Item → Item → Bool) → further test (item_of x.a) (item_of x.b) p q ≡ false
Finds x p q (Some y) =
    (y.depth ≡ x.depth)
    × ((test : Item → Item → Bool) → further test (item_of x.a) (item_of x.b) p q ≡ test (item_of y.a) (item_of y.b))

-- What stands after an item; no bytes, where nothing does.
unfoldable pub onward : Item → Item
onward x = beside x (after (next x.bytes))

-- R18, "same .. argument count, .. method, arguments", from the methods on.
unfoldable pub parts_agree : ℕ → Item → Item → Bool
parts_agree depth x y = agrees depth x y && agrees depth (onward x) (onward y)

-- R18, "same .. argument count, object, method, arguments", from the objects on.
unfoldable pub calls_agree : ℕ → Item → Item → Bool
calls_agree depth x y = agrees depth x y && parts_agree depth (onward x) (onward y)

-- The result of an arrow atom, from its object on, is none.
unfoldable pub has_none : List ℕ → Bool
has_none bs = stood ((result_of >> skip "none") bs)

-- R4, "Y is X with none in place of a term result": the first atom has none and is otherwise the second.
abbrev pub bare_calls : ℕ → Item → Item → Bool
bare_calls depth x y = has_none x.bytes && calls_agree depth x y

unfoldable pub is_bare : ℕ → Item → Item → Bool
is_bare depth x y =
    let head = take 4 x.bytes in
    further (bare_calls depth) x y (strip head x.bytes) (strip head y.bytes)

-- R4, "X *covers* Y if they are equal, or if Y is X with none in place of a term result": the second atom covers the first.
unfoldable pub is_covered : ℕ → Item → Item → Bool
is_covered depth x y = agrees depth x y || is_bare depth x y

-- R4, of parts: "if they are equal, or if Y is X with none in place of a term result": the second covers the first, by a test of items;
-- from their results on, from their arguments on, and as a whole. A part with a term for its result is covered by its equal alone: where
-- both have brackets of their own, as a molecule's parts have, the two are compared at one go.
unfoldable pub is_none : List ℕ → Bool
is_none bs = stood (skip "none" bs)

unfoldable pub result_covered : (Item → Item → Bool) → Item → Item → Bool
result_covered test x y = is_none x.bytes || (not (is_none y.bytes) && test x y)

unfoldable pub arguments_covered : (Item → Item → Bool) → Item → Item → Bool
arguments_covered test x y = test x y && further (result_covered test) x y (next x.bytes) (next y.bytes)

unfoldable pub is_item : List ℕ → Bool
is_item bs = stood (skip "(" bs)

unfoldable pub no_result : List ℕ → Bool
no_result method = stood ((next >> (next >> skip "none")) method)

unfoldable pub whole : PartIn → Bool
whole p = is_item p.item && not (no_result p.method)

unfoldable pub same_arrow : Arrow → Arrow → Bool
same_arrow a b = ite (arrow? a b) true false

unfoldable pub part_covered_by : Bool → (Item → Item → Bool) → Item → Item → PartIn → PartIn → Bool
part_covered_by equal test x y p q =
    let m = beside x p.method in
    let n = beside y q.method in
    let others = further (arguments_covered test) m n (next p.method) (next q.method) in
    same_arrow p.arrow q.arrow && (test m n && cond (equal && is_item q.item) (test (beside x p.item) (beside y q.item)) others)

abbrev pub part_covered : (Item → Item → Bool) → Item → Item → PartIn → PartIn → Bool
part_covered test x y p q = part_covered_by (whole p) test x y p q

-- R24, "each part of X is covered by some part of Y".
unfoldable pub some_covers : (PartIn → Bool) → List PartIn → Bool
some_covers covered [] = false
some_covers covered (q ∷ qs) = covered q || some_covers covered qs

unfoldable pub each_covered : (PartIn → PartIn → Bool) → List PartIn → List PartIn → Bool
each_covered covered [] qs = true
each_covered covered (p ∷ ps) qs = some_covers (covered p) qs && each_covered covered ps qs

-- R24, "X *fits into* Y, both arrow atoms or molecules, if their objects are equal and each part of X is covered by some part of Y".
unfoldable pub parts_fit : (Item → Item → Bool) → Item → Item → Bool
parts_fit test x y =
    further test x y (object_of x.bytes) (object_of y.bytes)
    && each_covered (part_covered test x y) (parts x.bytes) (parts y.bytes)

-- Where neither is a molecule the second covers the first.
unfoldable pub is_fitting : ℕ → Item → Item → Bool
is_fitting depth x y =
    let fit = parts_fit (agrees depth) x y in
    cond (stood (molecule x.bytes) || stood (molecule y.bytes)) fit (is_covered depth x y)
