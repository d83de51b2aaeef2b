-- The rule table as it was before molecules: without mer and pro, and in res and fac the atom at J had to cover the one at I. Written out
-- row by row, and not made from the present one: what is compared must not move with it. Staying compares the two.
use Prim.Native.Nat.{ℕ}
use mathlib.Core.Bool.{Bool, true, false, ◌&&◌}
use mathlib.Core.List.{[], ◌∷◌, ◌++◌}
use mathlib.Core.Path.{◌≡◌}
use lib.Dec.{T}
use Rattle.logic.specs.Syntax.{Eq, Mem, Sub, Arrow}
use Rattle.logic.specs.Syntax.{Rule, Refl, Res, Fac, Par, Acy, Tra, Inc, Inh, Inp, Out, Sca, Eli, Mer, Pro}
use Rattle.logic.specs.Syntax.{Term, Terms, cons, Result, value, Atom, link, obj, method, Literal, lit, Clause}
use Rattle.logic.specs.Fill.{fill_clause}
use Rattle.logic.specs.Occurrence.{found, find_literal}
use Rattle.logic.specs.Each.{no_molecule}
use Rattle.logic.specs.Rules.{Covers, Agreement, always, equal, fitting, call, alike, signature, scalar, Placed, plus, minus, one}
use Rattle.logic.specs.Rules.{Parent, filled, At}

-- What could be written: a clause without a molecule, a rule other than mer and pro.
unfoldable pub plain_literal : Literal → Bool
plain_literal (lit g x) = no_molecule x

unfoldable pub plain : Clause → Bool
plain [] = true
plain (l ∷ c) = plain_literal l && plain c

unfoldable pub former_rule : Rule → Bool
former_rule Mer = false
former_rule Pro = false
former_rule rule = true

-- What an agreement said. The atoms of res and fac are named as now, the one at I first.
unfoldable pub FormerHolds : Agreement → Type 0
FormerHolds always = Unit
FormerHolds (equal ts us) = ts ≡ us
FormerHolds (fitting x y) = Covers y x
FormerHolds (alike x y) = x ≡ y

-- The rows, as they were.
pub data FormerRow (k : ℕ) : Rule → Literal → Literal → Agreement → Clause → Type 0 where
  res : {x y : Atom} → FormerRow k Res (minus x) (plus y) (fitting x y) []
  acy : {p q p' q' : Term} →
      FormerRow k Acy (plus (link Sub p q)) (plus (link Sub q' p')) (equal (cons p (one q)) (cons p' (one q'))) (plus (link Eq p q) ∷ [])
  tra : {p q q' r : Term} → FormerRow k Tra (plus (link Sub p q)) (plus (link Sub q' r)) (equal (one q) (one q')) (plus (link Sub p r) ∷ [])
  inc : {p q q' r : Term} → FormerRow k Inc (plus (link Mem p q)) (plus (link Sub q' r)) (equal (one q) (one q')) (plus (link Mem p r) ∷ [])
  inh : {a : Arrow} {p p' m s : Term} {ts : Terms} {r : Result} → T (signature a) →
      FormerRow k Inh (plus (method a p m ts r)) (plus (link Sub s p')) (equal (one p) (one p')) (plus (method a s m ts r) ∷ [])
  inp : {a : Arrow} {o m q q' s : Term} {ts us : Terms} {r : Result} → T (signature a) → Placed s k q ts us →
      FormerRow k Inp (plus (method a o m ts r)) (plus (link Sub s q')) (equal (one q) (one q')) (plus (method a o m us r) ∷ [])
  out : {a : Arrow} {o m r r' s : Term} {ts : Terms} → T (signature a) →
      FormerRow k Out (plus (method a o m ts (value r))) (plus (link Sub r' s)) (equal (one r) (one r')) (plus (method a o m ts (value s)) ∷ [])
  sca : {a b : Arrow} {o m r o' m' r' : Term} {ts ts' : Terms} → T (scalar a) → T (scalar b) →
      FormerRow k Sca (plus (method a o m ts (value r))) (plus (method b o' m' ts' (value r')))
      (alike (call a o m ts) (call b o' m' ts')) (plus (link Eq r r') ∷ [])

-- The table, as it was.
pub data FormerInfers (A B : Parent) (i j k : ℕ) : Rule → Agreement → Clause → Type 0 where
  refl : FormerInfers A B i j k Refl always (plus (link Sub (A.image 0) (A.image 0)) ∷ [])
  fac⁺ : {x y : Atom} {r r' : Clause} → At i (plus x) (filled A) r →
      At j (plus y) (filled A) r' → (i ≡ j → ⊥) → FormerInfers A B i j k Fac (fitting x y) r'
  fac⁻ : {x y : Atom} {r r' : Clause} → At i (minus x) (filled A) r →
      At j (minus y) (filled A) r' → (i ≡ j → ⊥) → FormerInfers A B i j k Fac (fitting x y) r
  par : {l l' : Literal} {s s' u : Term} {r r' : Clause} →
      At i l A.clause r →
      At j (plus (link Eq s' u)) (filled B) r' →
      find_literal A.image u l k ≡ found s l' →
      FormerInfers A B i j k Par (equal (one s) (one s')) (l' ∷ (fill_clause A.image r ++ r'))
  eli : {p : Term} {r : Clause} → At i (minus (obj p)) (filled A) r → FormerInfers A B i j k Eli always r
  two : {rule : Rule} {l m : Literal} {g : Agreement} {new r r' : Clause} →
      At i l (filled A) r →
      At j m (filled B) r' →
      FormerRow k rule l m g new →
      FormerInfers A B i j k rule g (new ++ (r ++ r'))
