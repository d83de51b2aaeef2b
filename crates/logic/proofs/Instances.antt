-- An inference stays one when its parents are filled further: its clause is then filled further too.
use Prim.Native.Nat.{ℕ}
use mathlib.Core.List.{◌∷◌, ◌++◌}
use mathlib.Core.Logic.{inl, inr}
use mathlib.Core.Path.{◌≡◌, refl, sym, ap, ◌∙◌}
use Rattle.logic.specs.declared.Link.TheVariants.{Eq}
use Rattle.logic.specs.declared.Rule.{Rule}
use Rattle.logic.specs.declared.Rule.TheVariants.{Par}
use Rattle.logic.specs.Syntax.{Term, Terms, Part, Parts, only, also, Atom, link, obj, arrows, Literal, Clause}
use Rattle.logic.specs.Fill.{Substitution, fill, fills, fill_result, fill_part, fill_parts, fill_atom, fill_literal, fill_clause}
use Rattle.logic.specs.Occurrence.{Search, found, find_literal}
use Rattle.logic.specs.Rules.{Covers, CoversPart, SomeCovers, EachCovered, Fits, Agreement, always, equal, fitting, Call, call, alike, Holds}
use Rattle.logic.specs.Rules.{Placed, join_parts, PartAt, plus, one, Row, Parent, filled, At, Infers}
use Rattle.logic.proofs.Filling.{compose, clause_fill, clause_append, bare_part_fill, bare_fill}
use Rattle.logic.proofs.Finding.{fill_search, literal_find_fill}

-- A parent filled further.
unfoldable pub further : Substitution → Parent → Parent
further γ A = record { clause = A.clause; image = compose γ A.image }

unfoldable pub fill_call : Substitution → Call → Call
fill_call γ (call a o m ts) = call a (fill γ o) (fill γ m) (fills γ ts)

unfoldable pub fill_agreement : Substitution → Agreement → Agreement
fill_agreement γ always = always
fill_agreement γ (equal ts us) = equal (fills γ ts) (fills γ us)
fill_agreement γ (fitting x y) = fitting (fill_atom γ x) (fill_atom γ y)
fill_agreement γ (alike x y) = alike (fill_call γ x) (fill_call γ y)

module _ (γ : Substitution) where
  filled_further : (A : Parent) → filled (further γ A) ≡ fill_clause γ (filled A)
  unfolding filled further
  filled_further A = sym (clause_fill γ A.image A.clause)

  pub at_fill : {i : ℕ} {l : Literal} {c r : Clause} → At i l c r → At i (fill_literal γ l) (fill_clause γ c) (fill_clause γ r)
  unfolding fill_clause
  at_fill At.here = At.here
  at_fill (At.there p) = At.there (at_fill p)

  at_further : {i : ℕ} {l : Literal} {r : Clause} (A : Parent) → At i l (filled A) r → At i (fill_literal γ l) (filled (further γ A)) (fill_clause γ r)
  at_further A p = rw (filled_further A) (at_fill p)

  placed_fill : {s q : Term} {k : ℕ} {ts us : Terms} → Placed s k q ts us → Placed (fill γ s) k (fill γ q) (fills γ ts) (fills γ us)
  unfolding fill
  placed_fill Placed.here = Placed.here
  placed_fill (Placed.there p) = Placed.there (placed_fill p)

  join_parts_fill : (ps qs : Parts) → fill_parts γ (join_parts ps qs) ≡ join_parts (fill_parts γ ps) (fill_parts γ qs)
  unfolding join_parts fill_parts
  join_parts_fill (only p) qs = refl
  join_parts_fill (also p ps) qs = ap (also (fill_part γ p)) (join_parts_fill ps qs)

  part_at_fill : {k : ℕ} {q : Part} {ps : Parts} → PartAt k q ps → PartAt k (fill_part γ q) (fill_parts γ ps)
  unfolding fill_parts
  part_at_fill PartAt.alone = PartAt.alone
  part_at_fill PartAt.here = PartAt.here
  part_at_fill (PartAt.there p) = PartAt.there (part_at_fill p)

  -- What covers, and what fits into, does so filled.
  covers_fill : (x y : Atom) → Covers x y → Covers (fill_atom γ x) (fill_atom γ y)
  unfolding Covers
  covers_fill x y (inl e) = inl (ap (fill_atom γ) e)
  covers_fill x y (inr e) = inr (sym (bare_fill γ x) ∙ ap (fill_atom γ) e)

  covers_part_fill : (p q : Part) → CoversPart p q → CoversPart (fill_part γ p) (fill_part γ q)
  unfolding CoversPart
  covers_part_fill p q (inl e) = inl (ap (fill_part γ) e)
  covers_part_fill p q (inr e) = inr (sym (bare_part_fill γ p) ∙ ap (fill_part γ) e)

  some_covers_fill : (ps : Parts) (q : Part) → SomeCovers ps q → SomeCovers (fill_parts γ ps) (fill_part γ q)
  unfolding SomeCovers fill_parts
  some_covers_fill (only p) q h = covers_part_fill p q h
  some_covers_fill (also p ps) q (inl h) = inl (covers_part_fill p q h)
  some_covers_fill (also p ps) q (inr h) = inr (some_covers_fill ps q h)

  each_covered_fill : (ps qs : Parts) → EachCovered ps qs → EachCovered (fill_parts γ ps) (fill_parts γ qs)
  unfolding EachCovered fill_parts
  each_covered_fill ps (only q) h = some_covers_fill ps q h
  each_covered_fill ps (also q qs) (h, k) = (some_covers_fill ps q h, each_covered_fill ps qs k)

  fits_fill : (x y : Atom) → Fits x y → Fits (fill_atom γ x) (fill_atom γ y)
  unfolding Fits fill_atom
  fits_fill (arrows o qs) (arrows o' ps) (e, h) = (ap (fill γ) e, each_covered_fill ps qs h)
  fits_fill (arrows o qs) (link l t u) h = covers_fill (link l t u) (arrows o qs) h
  fits_fill (arrows o qs) (obj t) h = covers_fill (obj t) (arrows o qs) h
  fits_fill (link l t u) y h = covers_fill y (link l t u) h
  fits_fill (obj t) y h = covers_fill y (obj t) h

  pub holds_fill : (g : Agreement) → Holds g → Holds (fill_agreement γ g)
  unfolding Holds fill_agreement
  holds_fill always h = tt
  holds_fill (equal ts us) h = ap (fills γ) h
  holds_fill (fitting x y) h = fits_fill x y h
  holds_fill (alike x y) h = ap (fill_call γ) h

  row_fill : {k : ℕ} {rule : Rule} {l m : Literal} {g : Agreement} {new : Clause} →
      Row k rule l m g new → Row k rule (fill_literal γ l) (fill_literal γ m) (fill_agreement γ g) (fill_clause γ new)
  unfolding fill_clause fill_literal fill_atom fill_parts fill_part fill_call fill_agreement fill fill_result
  row_fill Row.res = Row.res
  row_fill Row.acy = Row.acy
  row_fill Row.tra = Row.tra
  row_fill Row.inc = Row.inc
  row_fill (Row.inh h) = Row.inh h
  row_fill (Row.inp h p) = Row.inp h (placed_fill p)
  row_fill (Row.out h) = Row.out h
  row_fill (Row.sca h h') = Row.sca h h'
  row_fill (Row.mer {ps = ps} {qs = qs}) = rw (join_parts_fill ps qs) Row.mer

  search_found : {s : Term} {l' : Literal} (w : Search Literal) → w ≡ found s l' → fill_search γ (fill_literal γ) w ≡ found (fill γ s) (fill_literal γ l')
  unfolding fill_search
  search_found w e = rw e

  par_fill : (A B : Parent) {i j k : ℕ} {l l' : Literal} {s s' u : Term} {r r' : Clause} →
      At i l A.clause r → At j (plus (link Eq s' u)) (filled B) r' → find_literal A.image u l k ≡ found s l' →
      Infers (further γ A) (further γ B) i j k Par (equal (one (fill γ s)) (one (fill γ s'))) (fill_literal γ l' ∷ fill_clause γ (fill_clause A.image r ++ r'))
  unfolding further fill_literal fill_atom
  par_fill A B {k = k} {l} {u = u} {r} {r'} p q e =
      rw (clause_append γ (fill_clause A.image r) r', clause_fill γ A.image r)
      (Infers.par p (at_further B q) (literal_find_fill γ A.image u l k ∙ search_found _ e))

  two_fill : (A B : Parent) {i j k : ℕ} {rule : Rule} {l m : Literal} {g : Agreement} {new r r' : Clause} →
      At i l (filled A) r → At j m (filled B) r' → Row k rule l m g new →
      Infers (further γ A) (further γ B) i j k rule (fill_agreement γ g) (fill_clause γ (new ++ (r ++ r')))
  two_fill A B {new = new} {r} {r'} p q w =
      rw (clause_append γ new (r ++ r'), clause_append γ r r') (Infers.two (at_further A p) (at_further B q) (row_fill w))

  pub infers_fill : {A B : Parent} {i j k : ℕ} {rule : Rule} {g : Agreement} {c : Clause} → Infers A B i j k rule g c →
      Infers (further γ A) (further γ B) i j k rule (fill_agreement γ g) (fill_clause γ c)
  unfolding fill_agreement further fill_clause fill_literal fill_atom fill_parts fill compose
  infers_fill Infers.refl = Infers.refl
  infers_fill {A} (Infers.fac⁺ p q n) = Infers.fac⁺ (at_further A p) (at_further A q) n
  infers_fill {A} (Infers.fac⁻ p q n) = Infers.fac⁻ (at_further A p) (at_further A q) n
  infers_fill {A} {B} (Infers.par p q e) = par_fill A B p q e
  infers_fill {A} (Infers.eli p) = Infers.eli (at_further A p)
  infers_fill {A} (Infers.pro p q) = Infers.pro (at_further A p) (part_at_fill q)
  infers_fill {A} {B} (Infers.two p q w) = two_fill A B p q w
