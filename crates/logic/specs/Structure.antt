-- TEXT-FORM, "H-structures" (H1 to H8), satisfaction (H9) and ground instances (H10).
use Rattle.std.specs.Prelude.{ℕ, List, [], ◌∷◌, ◌⊎◌, T}
use Rattle.logic.specs.Syntax.{Positive, Negative, Eq, Mem, Sub, Arrow}
use Rattle.logic.specs.Syntax.{Term, Terms, Result, value, Parts, only, also, Atom, link, obj, arrows, method, Literal, lit, Clause}
use Rattle.logic.specs.Each.{ground_term, ground_atom}
use Rattle.logic.specs.Fill.{Substitution, fill_clause}
use Rattle.logic.specs.Occurrence.{ReplacedAtom}
use Rattle.logic.specs.Rules.{bare, signature, scalar, Placed}

-- H1: "An H-structure is a set of ground atoms over the symbol table. .. Its terms may be of any depth, and its methods may have any
-- number of arguments. H2 to H8 hold of it."
-- `holds x` says that x is in the set.
pub record Structure (table : List ℕ) (holds : Atom → Type 0) : Type 0 where
  pub ground : {x : Atom} → holds x → T (ground_atom table x)
  -- H2: "For every ground t, eq(t,t), sub(t,t) and obj(t) are in it."
  pub eq_refl : (t : Term) → T (ground_term table t) → holds (link Eq t t)
  pub sub_refl : (t : Term) → T (ground_term table t) → holds (link Sub t t)
  pub obj_all : (t : Term) → T (ground_term table t) → holds (obj t)
  -- H3: "If eq(a,b) is in it, and an atom, then so is that atom with one occurrence of a replaced by b."
  pub replace : {a b : Term} {x y : Atom} → holds (link Eq a b) → holds x → ReplacedAtom a b x y → holds y
  -- H4: "sub is transitive. sub(a,b) and sub(b,a) give eq(a,b)."
  pub sub_trans : {a b c : Term} → holds (link Sub a b) → holds (link Sub b c) → holds (link Sub a c)
  pub sub_antisym : {a b : Term} → holds (link Sub a b) → holds (link Sub b a) → holds (link Eq a b)
  -- H5: "mem(a,b) and sub(b,c) give mem(a,c)."
  pub mem_sub : {a b c : Term} → holds (link Mem a b) → holds (link Sub b c) → holds (link Mem a c)
  -- H6: "An st or mt atom, with a term result or with none, gives the same atom with its object, or one argument, replaced by q where
  -- sub(q, old) is in it. One with a term result gives the same atom with its result replaced by s where sub(old, s) is in it."
  pub sub_object : {g : Arrow} {o m q : Term} {ts : Terms} {r : Result} → T (signature g) →
      holds (method g o m ts r) → holds (link Sub q o) → holds (method g q m ts r)
  pub sub_argument : {g : Arrow} {o m q p : Term} {ts us : Terms} {r : Result} {k : ℕ} → T (signature g) →
      holds (method g o m ts r) → Placed q k p ts us → holds (link Sub q p) → holds (method g o m us r)
  pub sub_result : {g : Arrow} {o m r s : Term} {ts : Terms} → T (signature g) →
      holds (method g o m ts (value r)) → holds (link Sub r s) → holds (method g o m ts (value s))
  -- H7: "Two sv atoms, or two si atoms, that are alike but for their results r and s give eq(r,s)."
  pub scalar_eq : {g : Arrow} {o m r s : Term} {ts : Terms} → T (scalar g) →
      holds (method g o m ts (value r)) → holds (method g o m ts (value s)) → holds (link Eq r s)
  -- H8: "An mv, mi, st or mt atom with a term result gives the same atom with none." `bare` leaves other atoms as they are.
  pub none_holds : {x : Atom} → holds x → holds (bare x)

-- H11: "A molecule is true in a set if all its atoms are in it, its object with each of its parts; any other atom is, if it is in it."
unfoldable pub AllIn : (Atom → Type 0) → Term → Parts → Type 0
AllIn S o (only p) = S (arrows o (only p))
AllIn S o (also p ps) = S (arrows o (only p)) × AllIn S o ps

unfoldable pub TrueIn : (Atom → Type 0) → Atom → Type 0
TrueIn S (link l t u) = S (link l t u)
TrueIn S (obj t) = S (obj t)
TrueIn S (arrows o ps) = AllIn S o ps

-- H9: "A set satisfies a ground clause if the atom of one of its positive literals is true in the set, or the atom of one of its negative
-- literals isn't."
unfoldable pub SatisfiesLiteral : (Atom → Type 0) → Literal → Type 0
SatisfiesLiteral S (lit Positive x) = TrueIn S x
SatisfiesLiteral S (lit Negative x) = TrueIn S x → ⊥

unfoldable pub SomeLiteral : (Atom → Type 0) → Clause → Type 0
SomeLiteral S [] = ⊥
SomeLiteral S (l ∷ c) = SatisfiesLiteral S l ⊎ SomeLiteral S c

-- H9 in its weakest form, that not every literal fails, so that "no H-structure satisfies" (V23) says most. Of a set given by a test it
-- says that some literal is satisfied (`tested`).
unfoldable pub Satisfies : (Atom → Type 0) → Clause → Type 0
Satisfies S c = (SomeLiteral S c → ⊥) → ⊥

-- H10: "A ground instance of a clause has a ground term in place of each variable."
unfoldable pub Grounds : List ℕ → Substitution → Type 0
Grounds table γ = (n : ℕ) → T (ground_term table (γ n))

-- V23, V24: the set "satisfies all ground instances" of a clause, and of each clause of a list.
unfoldable pub Models : List ℕ → (Atom → Type 0) → Clause → Type 0
Models table S c = (γ : Substitution) → Grounds table γ → Satisfies S (fill_clause γ c)

unfoldable pub ModelsAll : List ℕ → (Atom → Type 0) → List Clause → Type 0
ModelsAll table S [] = Unit
ModelsAll table S (c ∷ cs) = Models table S c × ModelsAll table S cs
