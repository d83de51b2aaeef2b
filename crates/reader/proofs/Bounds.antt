-- What is taken of the parts of a text with any join that is associative and has a unit, and the bounds that the reader takes so.
use Prim.Native.Nat.{ℕ, ◌+◌, max}
use mathlib.Core.Path.{◌≡◌, refl, sym, ◌∙◌, ap, ap₂}
use mathlib.Core.Bool.{Bool, true, false, cond, ◌&&◌}
use mathlib.Core.List.{List, [], ◌∷◌}
use native.Mathlib.Omega.{arith}
use native.Mathlib.Numerals.{add-one}
use borrow.Author.Tests.{le-leb}
use lib.Dec.{leb, ltb, eqb, leb→le, le→leb, eqb-suc-zero}
use Rattle.std.proofs.lemmas.Bool.Decides.{nat_tests}
use Rattle.logic.specs.Syntax.{Term, var, app, Terms, nil, cons, Part, part, Parts, only, also, Atom, link, obj, arrows, lit, Clause}
use Rattle.logic.specs.Terms.{count, join, result_terms, part_terms, parts_terms, terms_of}
use Rattle.logic.specs.Each.{any, declares, each_term, each_terms, each_atom, each_clause, term_width, terms_width, width}
use Rattle.logic.specs.declared.Sign.{Sign}
use Rattle.reader.specs.Summary.{Taken, of_term, of_terms, of_part, of_parts, of_atom, of_literal, of_clause, bounds_of, no_bounds, joined, bounds}
use Rattle.text.proofs.Tests.{T_and, same_test}

pub record Lawful {M : Type 0} (nothing : M) (join : M → M → M) : Type 0 where
  pub left : (a : M) → join nothing a ≡ a
  pub right : (a : M) → join a nothing ≡ a
  pub assoc : (a b c : M) → join a (join b c) ≡ join (join a b) c

max_lawful : Lawful 0 max
max_lawful = record { left = λ a. omega arith; right = λ a. omega arith; assoc = λ a b c. omega arith }

pub and_true : (b : Bool) → b && true ≡ b
and_true true = refl
and_true false = refl

pub and_assoc : (a b c : Bool) → a && (b && c) ≡ (a && b) && c
and_assoc true b c = refl
and_assoc false b c = refl

pub bounds_lawful : Lawful no_bounds joined
unfolding joined
bounds_lawful = let w = max_lawful in record {
  left = λ a i. bounds_of (w.left a.width i) (w.left a.arguments i) (w.left a.unknown i);
  right = λ a i. bounds_of (w.right a.width i) (w.right a.arguments i) (w.right a.unknown i);
  assoc = λ a b c i.
      bounds_of (w.assoc a.width b.width c.width i) (w.assoc a.arguments b.arguments c.arguments i)
      (w.assoc a.unknown b.unknown c.unknown i);
}

-- What is taken tells what a function gives of terms, lists of terms and clauses: the function joins what it gives of their parts, and the
-- numbers of a method's arguments and of a molecule's parts add nothing to it.
pub record Tells {M N : Type 0} (K : Taken M) (see : M → N) (term : Term → N) (terms : Terms → N) (clause : Clause → N) : Type 0 where
  pub both : N → N → N
  pub laws : Lawful (terms nil) both
  pub on_nothing : see K.nothing ≡ terms nil
  pub on_join : (a b : M) → see (K.join a b) ≡ both (see a) (see b)
  pub on_variable : (n : ℕ) → see (K.variable n) ≡ term (var n)
  pub on_symbol : (f : ℕ) (ts : Terms) → both (see (K.symbol f (count ts))) (terms ts) ≡ term (app f ts)
  pub on_arity : (n : ℕ) → see (K.arity n) ≡ terms nil
  pub on_molecule : (n : ℕ) → see (K.molecule n) ≡ terms nil
  pub on_term : (t : Term) (ts : Terms) → both (term t) (terms ts) ≡ terms (cons t ts)
  pub on_none : terms nil ≡ clause []
  pub on_literal : (g : Sign) (x : Atom) (c : Clause) → both (terms (terms_of x)) (clause c) ≡ clause (lit g x ∷ c)

module _ {M N : Type 0} {K : Taken M} {see : M → N} {term : Term → N} {terms : Terms → N} {clause : Clause → N}
    (S : Tells K see term terms clause) where
  pair : {a b : M} {c d : N} → see a ≡ c → see b ≡ d → see (K.join a b) ≡ S.both c d
  pair {a} {b} p q = S.on_join a b ∙ ap₂ S.both p q

  -- Terms behind others, and a term alone.
  append : (ts us : Terms) → S.both (terms ts) (terms us) ≡ terms (join ts us)
  unfolding join
  append nil us = S.laws.left (terms us)
  append (cons t ts) us =
      ap (λ x. S.both x (terms us)) (sym (S.on_term t ts)) ∙ sym (S.laws.assoc (term t) (terms ts) (terms us))
      ∙ ap (S.both (term t)) (append ts us) ∙ S.on_term t (join ts us)

  alone : (t : Term) → term t ≡ terms (cons t nil)
  alone t = sym (S.laws.right (term t)) ∙ S.on_term t nil

  mutual
    unfolding of_term

    tell_term : (t : Term) → see (of_term K t) ≡ term t
    tell_term (var n) = S.on_variable n
    tell_term (app f ts) = pair refl (tell_terms ts) ∙ S.on_symbol f ts

    pub tell_terms : (ts : Terms) → see (of_terms K ts) ≡ terms ts
    tell_terms nil = S.on_nothing
    tell_terms (cons t ts) = pair (tell_term t) (tell_terms ts) ∙ S.on_term t ts

  tell_part : (p : Part) → see (of_part K p) ≡ terms (part_terms p)
  unfolding of_part part_terms
  tell_part (part a m ts r) =
      let rest = pair (tell_terms ts) (tell_terms (result_terms r)) ∙ append ts (result_terms r) in
      pair (S.on_arity (count ts)) (pair (tell_term m) rest ∙ S.on_term m (join ts (result_terms r))) ∙ S.laws.left _

  tell_parts : (ps : Parts) → see (of_parts K ps) ≡ terms (parts_terms ps)
  unfolding of_parts parts_terms
  tell_parts (only p) = tell_part p
  tell_parts (also p ps) = pair (tell_part p) (tell_parts ps) ∙ append (part_terms p) (parts_terms ps)

  tell_atom : (x : Atom) → see (of_atom K x) ≡ terms (terms_of x)
  unfolding of_atom terms_of parts_terms
  tell_atom (link l t u) = pair (tell_term t) (tell_term u ∙ alone u) ∙ S.on_term t (cons u nil)
  tell_atom (obj t) = tell_term t ∙ alone t
  tell_atom (arrows o (only p)) = pair (tell_term o) (tell_part p) ∙ S.on_term o (part_terms p)
  tell_atom (arrows o (also p ps)) =
      let all = pair (tell_term o) (tell_parts (also p ps)) ∙ S.on_term o (parts_terms (also p ps)) in
      pair (S.on_molecule _) all ∙ S.laws.left _

  pub tell_clause : (c : Clause) → see (of_clause K c) ≡ clause c
  unfolding of_clause of_literal
  tell_clause [] = S.on_nothing ∙ S.on_none
  tell_clause (lit g x ∷ c) = pair (tell_atom x) (tell_clause c) ∙ S.on_literal g x c

-- The width.
pub width_told : (table : List ℕ) → Tells (bounds table) (λ b. b.width) term_width terms_width width
unfolding joined term_width width
width_told table = record {
  both = max;
  laws = max_lawful;
  on_nothing = refl;
  on_join = λ a b. refl;
  on_variable = λ n. refl;
  on_symbol = λ f ts. omega arith;
  on_arity = λ n. refl;
  on_molecule = λ n. refl;
  on_term = λ t ts. refl;
  on_none = refl;
  on_literal = λ g x c. refl;
}

-- A test of each variable and of each applied symbol.
each_told : {M : Type 0} {K : Taken M} {see : M → Bool} (p : ℕ → Bool) (s : ℕ → ℕ → Bool) → see K.nothing ≡ true
    → ((a b : M) → see (K.join a b) ≡ see a && see b) → ((n : ℕ) → see (K.variable n) ≡ p n) → ((f n : ℕ) → see (K.symbol f n) ≡ s f n)
    → ((n : ℕ) → see (K.arity n) ≡ true) → ((n : ℕ) → see (K.molecule n) ≡ true) →
    Tells K see (each_term p s) (each_terms p s) (each_clause p s)
unfolding each_term each_clause each_atom
each_told p s z j v f a m = record {
  both = ◌&&◌;
  laws = record { left = λ b. refl; right = and_true; assoc = and_assoc };
  on_nothing = z;
  on_join = j;
  on_variable = v;
  on_symbol = λ g ts. ap (λ b. b && each_terms p s ts) (f g (count ts));
  on_arity = a;
  on_molecule = m;
  on_term = λ t ts. refl;
  on_none = refl;
  on_literal = λ g x c. refl;
}

-- Whether every applied symbol is declared.
pub none_unknown : (a b : ℕ) → eqb (max a b) 0 ≡ eqb a 0 && eqb b 0
none_unknown a b = grind (arith, nat_tests)

unless_known : (f : ℕ) (known : Bool) → eqb (cond known 0 (f + 1)) 0 ≡ known
unless_known f true = refl
unless_known f false = rw add-one (eqb-suc-zero f)

pub declared_told : (table : List ℕ)
    → Tells (bounds table) (λ b. eqb b.unknown 0) (each_term any (declares table)) (each_terms any (declares table))
    (each_clause any (declares table))
unfolding joined
declared_told table =
    each_told any (declares table) refl (λ a b. none_unknown a.unknown b.unknown) (λ n. refl) (λ f n. unless_known f (declares table f n))
    (λ n. refl) (λ n. refl)

-- Whether every variable is below n.
pub leb_max : (a b n : ℕ) → leb (max a b) n ≡ leb a n && leb b n
leb_max a b n = same_test _ _ (λ h. let k = leb→le (max a b) n h in simp T_and (le→leb a n (omega arith), le→leb b n (omega arith)))
    (λ h. let (j, k) = simp T_and at h in let j' = leb→le a n j in let k' = leb→le b n k in le→leb (max a b) n (omega arith))

pub below_told : (table : List ℕ) (n : ℕ) → let p : ℕ → Bool = λ v. ltb v n in let s : ℕ → ℕ
    → Bool = λ _ _. true in Tells (bounds table) (λ b. leb b.width n) (each_term p s) (each_terms p s) (each_clause p s)
unfolding joined
below_told table n =
    let z = le-leb 0 n (omega arith) in
    each_told (λ v. ltb v n) (λ _ _. true) z (λ a b. leb_max a.width b.width n) (λ v. refl) (λ f k. z) (λ k. z) (λ k. z)
