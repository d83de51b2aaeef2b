-- Term occurrences: the search for occurrence K (R11, R20), and the relation "one occurrence of a replaced by b" (H3).
use Rattle.std.specs.Prelude.{ℕ, zero, suc, ◌≡◌}
use Rattle.logic.specs.Syntax.{Term, var, app, Terms, nil, cons, Atom, Literal, lit}
use Rattle.logic.specs.Terms.{terms_of, with_terms}
use Rattle.logic.specs.Fill.{Substitution, fill, fills}

-- R11, R20. Either the part was passed and k occurrences are still to be counted, or occurrence K was found in it:
-- the occurrence, filled, and the part, filled, with another term in its place.
pub data Search (X : Type 0) : Type 0 where
  past : ℕ → Search X
  found : Term → X → Search X

-- R20: what was found in a part, in the whole that has the part.
unfoldable pub map_search : {X Y : Type 0} → (X → Y) → Search X → Search Y
map_search f (past k) = past k
map_search f (found s x) = found s (f x)

-- R20, "from left to right": the search of two parts in a row: the first part's search and its filled form, the search of the second and
-- its filled form.
unfoldable pub in_turn : {X Y Z : Type 0} → Search X → X → (ℕ → Search Y) → Y → (X → Y → Z) → Search Z
in_turn (past k) x second y join = map_search (join x) (second k)
in_turn (found s x') x second y join = found s (join x' y)

-- R20: "Occurrences are counted from 0 in the literal at I as it is before filling, from left to right, a term before its parts,
-- variables included." R11: "L with that occurrence replaced by U".
-- σ fills, u is put in place of occurrence k.
unfoldable mutual
  pub find_term : Substitution → Term → Term → ℕ → Search Term
  find_term σ u (var n) zero = found (σ n) u
  find_term σ u (var n) (suc k) = past k
  find_term σ u (app f ts) zero = found (app f (fills σ ts)) u
  find_term σ u (app f ts) (suc k) = map_search (app f) (find_terms σ u ts k)

  pub find_terms : Substitution → Term → Terms → ℕ → Search Terms
  find_terms σ u nil k = past k
  find_terms σ u (cons t ts) k = in_turn (find_term σ u t k) (fill σ t) (find_terms σ u ts) (fills σ ts) cons

unfoldable pub find_atom : Substitution → Term → Atom → ℕ → Search Atom
find_atom σ u x k = map_search (with_terms x) (find_terms σ u (terms_of x) k)

unfoldable pub find_literal : Substitution → Term → Literal → ℕ → Search Literal
find_literal σ u (lit g x) k = map_search (lit g) (find_atom σ u x k)

-- H3: "with one occurrence of a replaced by b", in a list of filled terms: the first is it, or has it among its parts, or it stands
-- behind; and in an atom (T13).
pub data Replaced (a b : Term) : Terms → Terms → Type 0 where
  here : {ts : Terms} → Replaced a b (cons a ts) (cons b ts)
  inside : {f : ℕ} {ts us rest : Terms} → Replaced a b ts us → Replaced a b (cons (app f ts) rest) (cons (app f us) rest)
  later : {t : Term} {ts us : Terms} → Replaced a b ts us → Replaced a b (cons t ts) (cons t us)

unfoldable pub ReplacedAtom : Term → Term → Atom → Atom → Type 0
ReplacedAtom a b x y = (us : Terms) × Replaced a b (terms_of x) us × (y ≡ with_terms x us)
