-- What is read of a written atom's object and parts.
use Prim.Native.Nat.{ℕ, zero, suc, ◌≤◌}
use mathlib.Core.List.{List, [], ◌∷◌}
use mathlib.Core.Logic.{◌⊎◌, inl, inr}
use mathlib.Core.Path.{◌≡◌, refl, ap}
use native.Mathlib.Omega.{arith}
use lib.ListN.{drop}
use Rattle.std.specs.Prelude.{Option, Some, None}
use Rattle.logic.specs.declared.Link.TheVariants.{Eq, Mem, Sub}
use Rattle.logic.specs.declared.Arrow.TheVariants.{Sv, Si, Mv, Mi, St, Mt}
use Rattle.logic.specs.Syntax.{Term, Part, part, arrow_of, Parts, only, also, Atom, link, obj, arrows}
use Rattle.logic.specs.Rules.{PartAt}
use Rattle.text.specs.Write.{word, put_term, put_part, put_bracketed, put_parts, put_atom}
use Rattle.text.specs.Figures.{count_parts}
use Rattle.text.specs.Read.{bad, got, strip, one_of, read_arrow}
use Rattle.text.proofs.Complete.{arrow_complete}
use Rattle.text.proofs.Nesting.{skip_term, skip_bracketed, list_of_parts, part_item, put_each, from_item}
use Rattle.clauses.specs.Entries.{after, one_more, items}
use Rattle.clauses.specs.Shapes.{next, first_or}
use Rattle.clauses.specs.Parts.{arrow_head, molecule, arrow_object, object_of, PartIn, part_in, next_part, one_part, arrow_part, parts_or, parts, made, made_at, part_at}

-- The arrow of an arrow atom, and of a part of a molecule; no other atom has one.
pub arrow_of_atom : (o : Term) (p : Part) (rest : List ℕ) → arrow_head (put_atom (arrows o (only p)) rest) ≡ got (arrow_of p) (put_term o (word " " (put_part p rest)))
unfolding arrow_head put_atom strip
arrow_of_atom o p rest = rw (arrow_complete (arrow_of p) tt _)

pub arrow_of_part : (p : Part) (rest : List ℕ) → arrow_head (put_bracketed p rest) ≡ got (arrow_of p) (put_part p rest)
unfolding arrow_head put_bracketed strip
arrow_of_part p rest = rw (arrow_complete (arrow_of p) tt _)

pub no_arrow_link : (x : Atom) (rest : List ℕ) → ((o : Term) (ps : Parts) → x ≡ arrows o ps → ⊥) → arrow_head (put_atom x rest) ≡ bad
unfolding arrow_head put_atom strip read_arrow one_of
no_arrow_link (link Eq t u) rest n = refl
no_arrow_link (link Mem t u) rest n = refl
no_arrow_link (link Sub t u) rest n = refl
no_arrow_link (obj t) rest n = refl
no_arrow_link (arrows o ps) rest n = absurd (n o ps refl)

-- A molecule, and what is none.
pub molecule_of : (o : Term) (p : Part) (ps : Parts) (rest : List ℕ) → molecule (put_atom (arrows o (also p ps)) rest) ≡ got tt (put_term o (put_parts (also p ps) (word ")" rest)))
unfolding molecule put_atom strip
molecule_of o p ps rest = refl

pub no_molecule_of : (o : Term) (p : Part) (rest : List ℕ) → molecule (put_atom (arrows o (only p)) rest) ≡ bad
unfolding molecule put_atom strip
no_molecule_of o (part a m ts r) rest =
    (elim a as (λ a. molecule (put_atom (arrows o (only (part a m ts r))) rest) ≡ bad) [ Sv ↦ refl | Si ↦ refl | Mv ↦ refl | Mi ↦ refl | St ↦ refl | Mt ↦ refl ])

pub no_molecule_link : (x : Atom) (rest : List ℕ) → ((o : Term) (ps : Parts) → x ≡ arrows o ps → ⊥) → molecule (put_atom x rest) ≡ bad
unfolding molecule put_atom strip
no_molecule_link (link Eq t u) rest n = refl
no_molecule_link (link Mem t u) rest n = refl
no_molecule_link (link Sub t u) rest n = refl
no_molecule_link (obj t) rest n = refl
no_molecule_link (arrows o ps) rest n = absurd (n o ps refl)

-- What stands from the object on.
unfoldable pub from_object : Term → Parts → List ℕ → List ℕ
from_object o (only p) rest = put_term o (word " " (put_part p rest))
from_object o (also p ps) rest = put_term o (put_parts (also p ps) (word ")" rest))

pub object_stands : (o : Term) (ps : Parts) (rest : List ℕ) → object_of (put_atom (arrows o ps) rest) ≡ got tt (from_object o ps rest)
unfolding object_of first_or arrow_object from_object
object_stands o (only p) rest = rw (no_molecule_of o p rest, arrow_of_atom o p rest)
object_stands o (also p ps) rest = rw (molecule_of o p ps rest)

pub no_object : (x : Atom) (rest : List ℕ) → ((o : Term) (ps : Parts) → x ≡ arrows o ps → ⊥) → object_of (put_atom x rest) ≡ bad
unfolding object_of first_or arrow_object
no_object x rest n = rw (no_molecule_link x rest n, no_arrow_link x rest n)

-- A part that was read: its arrow, its bytes from the method on, and those of a molecule's part from its bracket on.
pub record Shows (x : PartIn) (p : Part) : Type 0 where
  pub arrow : x.arrow ≡ arrow_of p
  pub rest : List ℕ
  pub method : x.method ≡ put_part p rest
  pub item : (x.item ≡ []) ⊎ (x.item ≡ put_bracketed p rest)

unfoldable pub ShowsAll : List PartIn → Parts → Type 0
ShowsAll [] ps = ⊥
ShowsAll (x ∷ xs) (only p) = Shows x p × (xs ≡ [])
ShowsAll (x ∷ xs) (also p ps) = Shows x p × ShowsAll xs ps

next_of_part : (p : Part) (rest : List ℕ) → next_part (word " " (put_bracketed p rest)) ≡ got (part_in (arrow_of p) (put_part p rest) (put_bracketed p rest)) rest
unfolding next_part strip
next_of_part p rest = rw (arrow_of_part p rest, skip_bracketed p rest)

no_next : (rest : List ℕ) → next_part (41 ∷ rest) ≡ bad
unfolding next_part strip
no_next rest = refl

items_show : (k : ℕ) (ps : Parts) (rest : List ℕ) → count_parts ps ≤ k → ShowsAll (items next_part k (put_parts ps (word ")" rest))) ps
unfolding count_parts ShowsAll items one_more put_parts
items_show zero (only p) rest h = absurd (omega arith)
items_show zero (also p ps) rest h = absurd (omega arith)
items_show (suc zero) (only p) rest h = rw (next_of_part p (41 ∷ rest)) (record { arrow = refl; rest = 41 ∷ rest; method = refl; item = inr refl }, refl)
items_show (suc (suc k)) (only p) rest h = rw (next_of_part p (41 ∷ rest), no_next rest) (record { arrow = refl; rest = 41 ∷ rest; method = refl; item = inr refl }, refl)
items_show (suc k) (also p ps) rest h =
    rw (next_of_part p (put_parts ps (41 ∷ rest))) (record { arrow = refl; rest = put_parts ps (41 ∷ rest); method = refl; item = inr refl }, items_show k ps rest (omega arith))

-- The parts of an arrow atom or a molecule.
pub parts_shown : (o : Term) (ps : Parts) (rest : List ℕ) → count_parts ps ≤ 16 → ShowsAll (parts (put_atom (arrows o ps) rest)) ps
unfolding parts parts_or arrow_part one_part ShowsAll next strip after
parts_shown o (only p) rest h = rw (no_molecule_of o p rest, arrow_of_atom o p rest, skip_term o (word " " (put_part p rest))) (record { arrow = refl; rest = rest; method = refl; item = inl refl }, refl)
parts_shown o (also p ps) rest h = rw (molecule_of o p ps rest, skip_term o (put_parts (also p ps) (41 ∷ rest))) (items_show 16 (also p ps) rest h)

-- Part k, where there is one, and where there is none.
pub data PartView (k : ℕ) (ps : Parts) (r : Option PartIn) : Type 0 where
  there : {x : PartIn} {p : Part} → r ≡ Some x → Shows x p → PartAt k p ps → PartView k ps r
  nowhere : r ≡ None → ((p : Part) → PartAt k p ps → ⊥) → PartView k ps r

view_later : {k : ℕ} {q : Part} {ps : Parts} {r : Option PartIn} → PartView k ps r → PartView (suc k) (also q ps) r
view_later (there e s w) = there e s (PartAt.there w)
view_later (nowhere e n) = nowhere e (λ p w. n p (before w))
  where
    before : {k : ℕ} {p q : Part} {ps : Parts} → PartAt (suc k) p (also q ps) → PartAt k p ps
    before (PartAt.there w) = w

first_view : (ps : Parts) (p : Part) (rest : List ℕ) → PartAt 0 p ps → PartView 0 ps (made (put_bracketed p rest) (arrow_head (put_bracketed p rest)))
unfolding made
first_view ps p rest w =
    there {x = part_in (arrow_of p) (put_part p rest) (put_bracketed p rest)} (ap (made (put_bracketed p rest)) (arrow_of_part p rest)) (record { arrow = refl; rest = rest; method = refl; item = inr refl }) w

item_view : (k : ℕ) (ps : Parts) (rest : List ℕ) → PartView k ps (made_at (from_item put_bracketed (drop k (list_of_parts ps)) rest))
unfolding list_of_parts from_item made_at made
item_view zero (only p) rest = first_view (only p) p (put_each put_bracketed [] rest) PartAt.alone
item_view zero (also p ps) rest = first_view (also p ps) p (put_each put_bracketed (list_of_parts ps) rest) PartAt.here
item_view (suc k) (also p ps) rest = view_later (item_view k ps rest)
item_view (suc zero) (only p) rest = nowhere refl (λ q w. none w)
  where
    none : {k : ℕ} {p q : Part} → PartAt (suc k) q (only p) → ⊥
    none w = absurd (elim w [ ])
item_view (suc (suc k)) (only p) rest = nowhere refl (λ q w. none w)
  where
    none : {k : ℕ} {p q : Part} → PartAt (suc k) q (only p) → ⊥
    none w = absurd (elim w [ ])

pub part_view : (k : ℕ) (o : Term) (ps : Parts) (rest : List ℕ) → PartView k ps (part_at k (put_term o (put_parts ps (word ")" rest))))
unfolding part_at
part_view k o ps rest = rw (skip_term o (put_parts ps (41 ∷ rest)), part_item ps k rest) (item_view k ps (41 ∷ rest))
