-- The two tables of TEXT-FORM, "The rules": which numbers each rule uses (R6), and the rule table (R8 to R19, R25, R26).
use Rattle.std.specs.Prelude.{ℕ, zero, suc, Bool, true, false, [], ◌∷◌, ◌++◌, ◌⊎◌, ◌≡◌, T}
use Rattle.logic.specs.Syntax.{Positive, Negative, Eq, Mem, Sub, Arrow, Sv, Si, Mv, Mi, St, Mt}
use Rattle.logic.specs.Syntax.{Rule, Refl, Res, Fac, Par, Acy, Tra, Inc, Inh, Inp, Out, Sca, Eli, Mer, Pro}
use Rattle.logic.specs.Syntax.{Term, Terms, nil, cons, Result, value, none}
use Rattle.logic.specs.Syntax.{Part, part, Parts, only, also, Atom, link, obj, arrows, method, Literal, lit, Clause, may_be_none}
use Rattle.logic.specs.Fill.{Substitution, fill_clause}
use Rattle.logic.specs.Occurrence.{found, find_literal}

-- R6: "Which numbers each rule uses". A row has a flag for each of A, I, B, J, K.
pub record Uses : Type 0 where
  pub a : Bool
  pub i : Bool
  pub b : Bool
  pub j : Bool
  pub k : Bool

abbrev pub row : Bool → Bool → Bool → Bool → Bool → Uses
row a i b j k = record { a = a; i = i; b = b; j = j; k = k }

unfoldable pub uses : Rule → Uses
uses Refl = row false false false false false
uses Res = row true true true true false
uses Fac = row true true false true false
uses Par = row true true true true true
uses Acy = row true true true true false
uses Tra = row true true true true false
uses Inc = row true true true true false
uses Inh = row true true true true false
uses Inp = row true true true true true
uses Out = row true true true true false
uses Sca = row true true true true false
uses Eli = row true true false false false
uses Mer = row true true true true false
uses Pro = row true true false false true

-- R4, H8: a part, an atom with none in place of a term result, where it may have none (T15). A molecule stays: a set holds none (H11).
unfoldable pub bare_result : Bool → Result → Result
bare_result true r = none
bare_result false r = r

unfoldable pub bare_part : Part → Part
bare_part (part a m ts r) = part a m ts (bare_result (may_be_none a) r)

unfoldable pub bare : Atom → Atom
bare (link l t u) = link l t u
bare (obj t) = obj t
bare (arrows o (only p)) = arrows o (only (bare_part p))
bare (arrows o (also p ps)) = arrows o (also p ps)

-- R4: "X *covers* Y if they are equal, or if Y is X with none in place of a term result.": of atoms, and of parts.
unfoldable pub Covers : Atom → Atom → Type 0
Covers x y = (x ≡ y) ⊎ (bare x ≡ y)

unfoldable pub CoversPart : Part → Part → Type 0
CoversPart p q = (p ≡ q) ⊎ (bare_part p ≡ q)

-- R24: "each of its parts is covered by some part of the other": some part of ps covers q; so of each part of qs.
unfoldable pub SomeCovers : Parts → Part → Type 0
SomeCovers (only p) q = CoversPart p q
SomeCovers (also p ps) q = CoversPart p q ⊎ SomeCovers ps q

unfoldable pub EachCovered : Parts → Parts → Type 0
EachCovered ps (only q) = SomeCovers ps q
EachCovered ps (also q qs) = SomeCovers ps q × EachCovered ps qs

-- R24: "X *fits into* Y, both arrow atoms or molecules, if their objects are equal and each part of X is covered by some part of Y. Any
-- other atom fits into one that covers it."
unfoldable pub Fits : Atom → Atom → Type 0
Fits (arrows o qs) (arrows o' ps) = (o ≡ o') × EachCovered ps qs
Fits (arrows o qs) (link l t u) = Covers (link l t u) (arrows o qs)
Fits (arrows o qs) (obj t) = Covers (obj t) (arrows o qs)
Fits (link l t u) y = Covers y (link l t u)
Fits (obj t) y = Covers y (obj t)

-- R18: an arrow atom but for its result: "arrow, argument count, object, method, arguments".
pub data Call : Type 0 where
  call : Arrow → Term → Term → Terms → Call
  deriving Discrete as Call-discrete

-- R8 to R26, the column "agreement, filled": an empty cell, terms that are equal, an atom that fits into another,
-- or (R18) "same arrow, argument count, object, method, arguments".
pub data Agreement : Type 0 where
  always : Agreement
  equal : Terms → Terms → Agreement
  fitting : Atom → Atom → Agreement
  alike : Call → Call → Agreement

unfoldable pub Holds : Agreement → Type 0
Holds always = Unit
Holds (equal ts us) = ts ≡ us
Holds (fitting x y) = Fits x y
Holds (alike x y) = x ≡ y

-- R15 to R17, H6: "st or mt". R18, H7: "sv or si".
unfoldable pub signature : Arrow → Bool
signature Sv = false
signature Si = false
signature Mv = false
signature Mi = false
signature St = true
signature Mt = true

unfoldable pub scalar : Arrow → Bool
scalar Sv = true
scalar Si = true
scalar Mv = false
scalar Mi = false
scalar St = false
scalar Mt = false

-- R16, "argument K", and H6, "one argument": term q stands at place k of ts, counted from 0 (T17), and with s in its place they are us.
pub data Placed (s : Term) : ℕ → Term → Terms → Terms → Type 0 where
  here : {q : Term} {ts : Terms} → Placed s zero q (cons q ts) (cons s ts)
  there : {k : ℕ} {q t : Term} {ts us : Terms} → Placed s k q ts us → Placed s (suc k) q (cons t ts) (cons t us)

-- R25: "A's parts, then B's".
unfoldable pub join_parts : Parts → Parts → Parts
join_parts (only p) qs = also p qs
join_parts (also p ps) qs = also p (join_parts ps qs)

-- R26, "part K", counted from 0 (T17): part q stands at place k.
pub data PartAt : ℕ → Part → Parts → Type 0 where
  alone : {q : Part} → PartAt zero q (only q)
  here : {q : Part} {ps : Parts} → PartAt zero q (also q ps)
  there : {k : ℕ} {p q : Part} {ps : Parts} → PartAt k q ps → PartAt (suc k) q (also p ps)

-- T16: "+" and "-" of the rule table's literals. R12 to R17: terms that are equal, as lists.
abbrev pub plus : Atom → Literal
plus x = lit Positive x

abbrev pub minus : Atom → Literal
minus x = lit Negative x

abbrev pub one : Term → Terms
one t = cons t nil

-- R9, R12 to R18, R25: the rule table for rules with two parents, par apart: the literal at I, the literal at J, both filled, the agreement,
-- and the new literal if any.
pub data Row (k : ℕ) : Rule → Literal → Literal → Agreement → Clause → Type 0 where
  res : {x y : Atom} → Row k Res (minus x) (plus y) (fitting x y) []
  acy : {p q p' q' : Term} →
      Row k Acy (plus (link Sub p q)) (plus (link Sub q' p')) (equal (cons p (one q)) (cons p' (one q'))) (plus (link Eq p q) ∷ [])
  tra : {p q q' r : Term} → Row k Tra (plus (link Sub p q)) (plus (link Sub q' r)) (equal (one q) (one q')) (plus (link Sub p r) ∷ [])
  inc : {p q q' r : Term} → Row k Inc (plus (link Mem p q)) (plus (link Sub q' r)) (equal (one q) (one q')) (plus (link Mem p r) ∷ [])
  inh : {a : Arrow} {p p' m s : Term} {ts : Terms} {r : Result} → T (signature a) →
      Row k Inh (plus (method a p m ts r)) (plus (link Sub s p')) (equal (one p) (one p')) (plus (method a s m ts r) ∷ [])
  inp : {a : Arrow} {o m q q' s : Term} {ts us : Terms} {r : Result} → T (signature a) → Placed s k q ts us →
      Row k Inp (plus (method a o m ts r)) (plus (link Sub s q')) (equal (one q) (one q')) (plus (method a o m us r) ∷ [])
  out : {a : Arrow} {o m r r' s : Term} {ts : Terms} → T (signature a) →
      Row k Out (plus (method a o m ts (value r))) (plus (link Sub r' s)) (equal (one r) (one r')) (plus (method a o m ts (value s)) ∷ [])
  sca : {a b : Arrow} {o m r o' m' r' : Term} {ts ts' : Terms} → T (scalar a) → T (scalar b) →
      Row k Sca (plus (method a o m ts (value r))) (plus (method b o' m' ts' (value r')))
      (alike (call a o m ts) (call b o' m' ts')) (plus (link Eq r r') ∷ [])
  mer : {o o' : Term} {ps qs : Parts} →
      Row k Mer (plus (arrows o ps)) (plus (arrows o' qs)) (equal (one o) (one o')) (plus (arrows o (join_parts ps qs)) ∷ [])

-- R1, R2: a parent with the terms for its variables.
pub record Parent : Type 0 where
  pub clause : Clause
  pub image : Substitution

unfoldable pub filled : Parent → Clause
filled p = fill_clause p.image p.clause

-- R5: "At I" is a position in A, "at J" one in B, counted from 0 (T17): literal l stands at position i of c, and r is c's other literals.
pub data At : ℕ → Literal → Clause → Clause → Type 0 where
  here : {l : Literal} {c : Clause} → At zero l (l ∷ c) c
  there : {i : ℕ} {l m : Literal} {c r : Clause} → At i l c r → At (suc i) l (m ∷ c) (m ∷ r)

-- R8 to R19, R25, R26, the rule table: from A and B by the numbers i, j, k a rule gives a clause if the agreement holds.
-- R21: "The claim, all of it filled, is the new literal, if there is one, then A's other literals, then B's other literals, in order."
-- R22: "For fac the claim is A without the literal at J where the two are positive, and without the literal at I where they are
-- negative." R23: "res and eli drop the literals that they name." R8: refl's T is the image of variable 0.
pub data Infers (A B : Parent) (i j k : ℕ) : Rule → Agreement → Clause → Type 0 where
  refl : Infers A B i j k Refl always (plus (link Sub (A.image 0) (A.image 0)) ∷ [])
  fac⁺ : {x y : Atom} {r r' : Clause} → At i (plus x) (filled A) r →
      At j (plus y) (filled A) r' → (i ≡ j → ⊥) → Infers A B i j k Fac (fitting x y) r'
  fac⁻ : {x y : Atom} {r r' : Clause} → At i (minus x) (filled A) r →
      At j (minus y) (filled A) r' → (i ≡ j → ⊥) → Infers A B i j k Fac (fitting x y) r
  par : {l l' : Literal} {s s' u : Term} {r r' : Clause} →
      At i l A.clause r →
      At j (plus (link Eq s' u)) (filled B) r' →
      find_literal A.image u l k ≡ found s l' →
      Infers A B i j k Par (equal (one s) (one s')) (l' ∷ (fill_clause A.image r ++ r'))
  eli : {p : Term} {r : Clause} → At i (minus (obj p)) (filled A) r → Infers A B i j k Eli always r
  pro : {o : Term} {p q : Part} {ps : Parts} {r : Clause} → At i (plus (arrows o (also p ps))) (filled A) r → PartAt k q (also p ps) →
      Infers A B i j k Pro always (plus (arrows o (only q)) ∷ r)
  two : {rule : Rule} {l m : Literal} {g : Agreement} {new r r' : Clause} →
      At i l (filled A) r →
      At j m (filled B) r' →
      Row k rule l m g new →
      Infers A B i j k rule g (new ++ (r ++ r'))
