-- An atom fits into another in bytes exactly if it does, both filled.
use Prim.Native.Nat.{ℕ, suc, ◌<◌, ◌≤◌}
use mathlib.Core.Bool.{Bool, true, false, ◌||◌, ◌&&◌, not}
use mathlib.Core.List.{List, [], ◌∷◌}
use mathlib.Core.Logic.{◌⊎◌, inl, inr, ⊎_elim, ◌↔◌}
use mathlib.Core.Path.{◌≡◌, refl, ap, subst, sym, ◌∙◌}
use native.Mathlib.Omega.{arith}
use lib.Dec.{T, leb→le, le→leb}
use lib.ListN.{drop}
use Rattle.logic.specs.declared.Link.{Link}
use Rattle.logic.specs.declared.Arrow.{Arrow}
use Rattle.logic.specs.Syntax.{Term, var, app, Terms, nil, Result, value, none, may_be_none, Part, part, Parts, only, also, Atom, link, obj, arrows}
use Rattle.logic.specs.Terms.{result_terms, part_terms, parts_terms, terms_of}
use Rattle.logic.specs.Equality.{arrow?}
use Rattle.logic.specs.Each.{atom_over, term_width, terms_width, one_part, no_molecule}
use Rattle.logic.specs.Fill.{Substitution, fill, fills, fill_result, fill_part, fill_parts, fill_atom}
use Rattle.logic.specs.Rules.{bare_result, bare_part, CoversPart, SomeCovers, EachCovered, Fits}
use Rattle.logic.proofs.Fitting.{fits_covers, fits_link, fits_obj, link_fits, obj_fits}
use Rattle.text.specs.Write.{word, put_term, put_arguments, put_result, put_part, put_bracketed, put_atom}
use Rattle.text.specs.Read.{bad, got, strip, skip}
use Rattle.text.specs.Access.{stood}
use Rattle.text.specs.Form.{depth_of, formed_number, numbered, formed_term, formed_terms, formed_result, formed_part, formed_parts, formed_atom}
use Rattle.text.specs.Figures.{count_parts, few_parts}
use Rattle.text.proofs.Nesting.{skip_term, skip_arguments}
use Rattle.text.proofs.Tests.{T_and, holds}
use Rattle.text.proofs.Trees.{join_width}
use Rattle.clauses.specs.Shapes.{next}
use Rattle.clauses.specs.Parts.{PartIn, molecule}
use Rattle.clauses.proofs.Molecules.{molecule_of, no_molecule_of, no_molecule_link, from_object, object_stands, no_object, Shows, ShowsAll, parts_shown}
use Rattle.clauses.proofs.Placing.{Stands}
use Rattle.filling.specs.Items.{Item, beside}
use Rattle.filling.proofs.Agreed.{bracketed_agree}
use Rattle.filling.proofs.NumberedFill.{part_deeper, fill_atom_over}
use Rattle.text.proofs.Deep.{formed_symbol}
use Rattle.agreement.specs.Agrees.{further, is_none, result_covered, arguments_covered, is_item, no_result, whole, same_arrow, part_covered_by, part_covered, some_covers, each_covered, parts_fit}
use Rattle.rules.proofs.Meets.{Images}
use Rattle.rules.proofs.TermsMeet.{term_meets, arguments_meet}
use Rattle.rules.proofs.CoversMeet.{AtomAt, T_or, covers_meet}
use Rattle.rules.proofs.RowPlaces.{bare_item, by_places, fits_at}

-- Tests that decide as much as equations do.
same_arrow_lem : (a b : Arrow) → T (same_arrow a b) ↔ (a ≡ b)
unfolding same_arrow
same_arrow_lem a b = go (arrow? a b)
  where
    go : (d : Dec (a ≡ b)) → T (mathlib.Core.Logic.ite d true false) ↔ (a ≡ b)
    go (yes e) = (λ _. e, λ _. tt)
    go (no n) = (λ t. absurd t, λ e. n e)

and_iff : (a b : Bool) {P Q : Type 0} → T a ↔ P → T b ↔ Q → T (a && b) ↔ (P × Q)
and_iff a b f g = (λ t. let (x, y) = simp T_and at t in (f.0 x, g.0 y), λ w. simp T_and (f.1 w.0, g.1 w.1))

four_iff : (a b c d : Bool) {P Q R S : Type 0} → T a ↔ P → T b ↔ Q → T c ↔ R → T d ↔ S → T (a && (b && (c && d))) ↔ (P × Q × R × S)
four_iff a b c d f g h i = (
  λ t. let (x, (y, (z, w))) = simp T_and at t in (f.0 x, g.0 y, h.0 z, i.0 w),
  λ w. simp T_and (f.1 w.0, (g.1 w.1, (h.1 w.2, i.1 w.3))),
)

or_iff : (a b : Bool) {P Q : Type 0} → T a ↔ P → T b ↔ Q → T (a || b) ↔ (P ⊎ Q)
or_iff a b f g = (λ t. ⊎_elim (λ x. inl (f.0 x)) (λ y. inr (g.0 y)) ((T_or a b).0 t), λ w. (T_or a b).1 (⊎_elim (λ x. inl (f.1 x)) (λ y. inr (g.1 y)) w))

-- What stands after a method and after arguments.
next_method : (a : Arrow) (m : Term) (ts : Terms) (r : Result) (rest : List ℕ) → next (put_part (part a m ts r) rest) ≡ got tt (put_arguments ts (word " " (put_result r (word ")" rest))))
unfolding next put_part strip
next_method a m ts r rest = rw (skip_term m _)

next_arguments : (ts : Terms) (rest : List ℕ) → next (put_arguments ts (word " " rest)) ≡ got tt rest
unfolding next strip
next_arguments ts rest = rw (skip_arguments ts _)

term_is_some : (t : Term) (rest : List ℕ) → is_none (put_term t rest) ≡ false
unfolding is_none stood put_term strip
term_is_some (var n) rest = refl
term_is_some (app f ts) rest = refl

-- R4: the result of a part that covers another.
unfoldable ResultCovers : Result → Result → Type 0
ResultCovers none s = Unit
ResultCovers (value t) none = ⊥
ResultCovers (value t) (value u) = t ≡ u

-- A part covers another exactly if arrows, methods and arguments are equal and the result is so, where none stands only where it may.
module _ (a c : Arrow) (m n : Term) (ts us : Terms) where
  covers_parts : (r s : Result) → (r ≡ none → T (may_be_none a)) →
      ((a ≡ c) × (m ≡ n) × (ts ≡ us) × ResultCovers r s) ↔ CoversPart (part c n us s) (part a m ts r)
  unfolding ResultCovers CoversPart bare_part bare_result
  covers_parts none none f = (λ w. let e = w.0 in let e₁ = w.1 in let e₂ = w.2 in inl cc, λ w. back w)
    where
      back : (part c n us none ≡ part a m ts none) ⊎ (part c n us (bare_result (may_be_none c) none) ≡ part a m ts none) → (a ≡ c) × (m ≡ n) × (ts ≡ us) × Unit {0}
      back (inl e) = (cc, cc, cc, tt)
      back (inr e) = (cc, cc, cc, tt)
  covers_parts none (value u) f = (there, back)
    where
      there : (a ≡ c) × (m ≡ n) × (ts ≡ us) × Unit {0} → (part c n us (value u) ≡ part a m ts none) ⊎ (part c n us (bare_result (may_be_none c) (value u)) ≡ part a m ts none)
      there w =
          let e = w.0 in let e₁ = w.1 in let e₂ = w.2 in
          let b : may_be_none c ≡ true = holds (may_be_none c) (subst (λ x. T (may_be_none x)) e (f refl)) in
          let d : bare_result (may_be_none c) (value u) ≡ none = ap (λ x. bare_result x (value u)) b in inr cc

      back : (part c n us (value u) ≡ part a m ts none) ⊎ (part c n us (bare_result (may_be_none c) (value u)) ≡ part a m ts none) → (a ≡ c) × (m ≡ n) × (ts ≡ us) × Unit {0}
      back (inl e) = (cc, cc, cc, tt)
      back (inr e) = (cc, cc, cc, tt)
  covers_parts (value t) none f = (λ w. absurd w.3, back)
    where
      no_result : (b : Bool) → bare_result b none ≡ value t → ⊥
      no_result true e = let z : ◌≡◌ {A = ℕ} 0 1 = cc in absurd (omega arith)
      no_result false e = let z : ◌≡◌ {A = ℕ} 0 1 = cc in absurd (omega arith)

      back : (part c n us none ≡ part a m ts (value t)) ⊎ (part c n us (bare_result (may_be_none c) none) ≡ part a m ts (value t)) → (a ≡ c) × (m ≡ n) × (ts ≡ us) × ⊥
      back (inl e) = let z : none ≡ value t = cc in let y : ◌≡◌ {A = ℕ} 0 1 = cc in absurd (omega arith)
      back (inr e) = absurd (no_result (may_be_none c) cc)
  covers_parts (value t) (value u) f = (λ w. let e = w.0 in let e₁ = w.1 in let e₂ = w.2 in let e₃ = w.3 in inl cc, back)
    where
      the_result : (b : Bool) → bare_result b (value u) ≡ value t → t ≡ u
      the_result true e = let z : ◌≡◌ {A = ℕ} 0 1 = cc in absurd (omega arith)
      the_result false e = cc

      back : (part c n us (value u) ≡ part a m ts (value t)) ⊎ (part c n us (bare_result (may_be_none c) (value u)) ≡ part a m ts (value t)) → (a ≡ c) × (m ≡ n) × (ts ≡ us) × (t ≡ u)
      back (inl e) = (cc, cc, cc, cc)
      back (inr e) = (cc, cc, cc, the_result (may_be_none c) cc)

-- Other kinds of atoms.
link_arrows : (l : Link) (t u o : Term) (ps : Parts) → link l t u ≡ arrows o ps → ⊥
link_arrows l t u o ps e = let z : ◌≡◌ {A = ℕ} 0 1 = cc in absurd (omega arith)

obj_arrows : (t o : Term) (ps : Parts) → obj t ≡ arrows o ps → ⊥
obj_arrows t o ps e = let z : ◌≡◌ {A = ℕ} 0 1 = cc in absurd (omega arith)

-- No molecule, by its bytes and filled.
no_molecule_bytes : (a : Atom) (rest : List ℕ) → T (no_molecule a) → molecule (put_atom a rest) ≡ bad
unfolding no_molecule one_part
no_molecule_bytes (link l t u) rest h = no_molecule_link (link l t u) rest (link_arrows l t u)
no_molecule_bytes (obj t) rest h = no_molecule_link (obj t) rest (obj_arrows t)
no_molecule_bytes (arrows o (only m)) rest h = no_molecule_of o m rest
no_molecule_bytes (arrows o (also m ms)) rest h = absurd h

fill_no_molecule : (ρ : Substitution) (a : Atom) → T (no_molecule a) → T (no_molecule (fill_atom ρ a))
unfolding no_molecule one_part fill_atom fill_parts
fill_no_molecule ρ (link l t u) h = tt
fill_no_molecule ρ (obj t) h = tt
fill_no_molecule ρ (arrows o (only m)) h = tt
fill_no_molecule ρ (arrows o (also m ms)) h = absurd h

never : (b : Bool) {P : Type 0} → b ≡ false → (P → ⊥) → T b ↔ P
never b e n = rw e (λ z. absurd z, λ z. n z)

either_true : (a b : Bool) → b ≡ true → a || b ≡ true
either_true true b e = refl
either_true false b e = e

-- A part that has a term for its result is covered by its equal alone.
value_covers : (a c : Arrow) (m n : Term) (ts us : Terms) (r : Result) (t : Term) (s : Result) → r ≡ value t → CoversPart (part c n us s) (part a m ts r) → part a m ts r ≡ part c n us s
unfolding ResultCovers
value_covers a c m n ts us none t s d k = let z : ◌≡◌ {A = ℕ} 0 1 = cc in absurd (omega arith)
value_covers a c m n ts us (value r) t none d k = absurd ((covers_parts a c m n ts us (value r) none (λ e. let z : ◌≡◌ {A = ℕ} 0 1 = cc in absurd (omega arith))).1 k).3
value_covers a c m n ts us (value r) t (value u) d k =
    let w = (covers_parts a c m n ts us (value r) (value u) (λ e. let z : ◌≡◌ {A = ℕ} 0 1 = cc in absurd (omega arith))).1 k in
    let e = w.0 in let e₁ = w.1 in let e₂ = w.2 in let e₃ = w.3 in cc

-- A filled part is one of an atom over the numbers of the text form.
abbrev constant : Term
constant = app 0 nil

part_over : (depth : ℕ) (ρ : Substitution) (w : ℕ) → ((n : ℕ) → n < w → T (numbered (ρ n))) → (p : Part) → T (formed_part depth p) → terms_width (part_terms p) ≤ w →
    T (atom_over formed_number formed_symbol (arrows constant (only (fill_part ρ p))))
unfolding fill_atom fill_parts fill formed_atom formed_parts formed_term depth_of numbered terms_of terms_width term_width parts_terms
part_over depth ρ w numbers p f n =
    fill_atom_over ρ w numbers (suc depth) (arrows constant (only p)) (simp T_and ((le→leb 1 (suc depth) (omega arith), (tt, tt)), part_deeper depth (suc depth) p (omega arith) f)) (omega arith)

module _ (depth : ℕ) where
  module _ {line starts others : List ℕ} {σ τ : Substitution} {v w : ℕ} (g : Images line starts σ v) (h : Images line others τ w) where
    abbrev test : Item → Item → Bool
    test = by_places depth line starts others

    -- What stands in bytes from their first on.
    here : (bs : List ℕ) → Stands bs 0 bs
    here bs = record { within = omega arith; bytes_there = refl }

    terms_test : (t u : Term) (r s : List ℕ) → T (formed_term depth t) → T (formed_term depth u) → term_width t ≤ v → term_width u ≤ w →
        T (test (bare_item (put_term t r)) (bare_item (put_term u s))) ↔ (fill σ t ≡ fill τ u)
    terms_test t u r s ft fu nt nu =
        term_meets depth g h (record { rest = r; stands = here (put_term t r); formed = ft; narrow = nt }) (record { rest = s; stands = here (put_term u s); formed = fu; narrow = nu })

    arguments_test : (ts us : Terms) (r s : List ℕ) → T (formed_terms depth ts) → T (formed_terms depth us) → terms_width ts ≤ v → terms_width us ≤ w →
        T (test (bare_item (put_arguments ts r)) (bare_item (put_arguments us s))) ↔ (fills σ ts ≡ fills τ us)
    arguments_test ts us r s ft fu nt nu =
        arguments_meet depth g h (record { rest = r; stands = here (put_arguments ts r); formed = ft; narrow = nt }) (record { rest = s; stands = here (put_arguments us s); formed = fu; narrow = nu })

    result_test : (a c : Arrow) (r s : Result) (x y : List ℕ) → T (formed_result depth a r) → T (formed_result depth c s) → terms_width (result_terms r) ≤ v → terms_width (result_terms s) ≤ w →
        T (result_covered test (bare_item (put_result r x)) (bare_item (put_result s y))) ↔ ResultCovers (fill_result σ r) (fill_result τ s)
    unfolding result_covered is_none stood strip put_result formed_result result_terms terms_width fill_result ResultCovers
    result_test a c none s x y fr fs nr ns = (λ _. tt, λ _. tt)
    result_test a c (value t) none x y fr fs nr ns = rw (term_is_some t x) (λ z. z, λ z. z)
    result_test a c (value t) (value u) x y fr fs nr ns = rw (term_is_some t x, term_is_some u y) (terms_test t u x y fr fs (omega arith) (omega arith))

    none_allowed : (a : Arrow) (r : Result) → T (formed_result depth a r) → fill_result σ r ≡ none → T (may_be_none a)
    unfolding formed_result fill_result
    none_allowed a none f e = f
    none_allowed a (value t) f e = let z : ◌≡◌ {A = ℕ} 0 1 = cc in absurd (omega arith)

    -- Two parts of molecules as they stand.
    items_test : (p q : Part) (r s : List ℕ) → T (formed_part depth p) → T (formed_part depth q) → terms_width (part_terms p) ≤ v → terms_width (part_terms q) ≤ w → (X Y : Item) →
        T (test (beside X (put_bracketed p r)) (beside Y (put_bracketed q s))) ↔ (fill_part σ p ≡ fill_part τ q)
    items_test p q r s fp fq np nq X Y =
        bracketed_agree depth (put_bracketed p r) (put_bracketed q s) line starts others σ τ v w g.entry h.entry constant constant p q r s (here _) (here _)
        (part_deeper depth (suc (suc depth)) p (omega arith) fp) (part_deeper depth (suc (suc depth)) q (omega arith) fq) np nq (part_over depth σ v g.numbers p fp np) (part_over depth τ w h.numbers q fq nq)

    -- A part that was read is covered by another exactly if it is, both filled: piece by piece, or, where it has a term for its result, as a
    -- whole.
    module _ (a c : Arrow) (m n : Term) (ts us : Terms) (r s : Result) {x y : PartIn} (sx : Shows x (part a m ts r)) (sy : Shows y (part c n us s)) (fq : T (formed_part depth (part a m ts r)))
        (fp : T (formed_part depth (part c n us s))) (nq : terms_width (part_terms (part a m ts r)) ≤ v) (np : terms_width (part_terms (part c n us s)) ≤ w) (X Y : Item) where
      abbrev covering : Type 0
      covering = CoversPart (fill_part τ (part c n us s)) (fill_part σ (part a m ts r))

      methods_test : T (test (beside X x.method) (beside Y y.method)) ↔ (fill σ m ≡ fill τ n)
      unfolding formed_part part_terms terms_width put_part
      methods_test = let ((f, _), _) = simp T_and at fq in let ((g, _), _) = simp T_and at fp in rw (sx.method, sy.method) (terms_test m n _ _ f g (omega arith) (omega arith))

      abbrev pieces : Bool
      pieces = same_arrow x.arrow y.arrow && (test (beside X x.method) (beside Y y.method) && further (arguments_covered test) (beside X x.method) (beside Y y.method) (next x.method) (next y.method))

      pieces_meet : T pieces ↔ covering
      unfolding arguments_covered result_covered further fill_part formed_part part_terms terms_width put_part
      pieces_meet =
          let ((fm, fts), fr) = simp T_and at fq in
          let ((fn, fus), fs) = simp T_and at fp in
          let jq = join_width ts (result_terms r) in
          let jp = join_width us (result_terms s) in
          let ends = four_iff _ _ _ _ (same_arrow_lem a c) (terms_test m n _ _ fm fn (omega arith) (omega arith))
          (arguments_test ts us _ _ fts fus (omega arith) (omega arith)) (result_test a c r s _ _ fr fs (omega arith) (omega arith)) in
          let parts = covers_parts a c (fill σ m) (fill τ n) (fills σ ts) (fills τ us) (fill_result σ r) (fill_result τ s) (λ e. none_allowed a r fr e) in
          rw (sx.arrow, sy.arrow, sx.method, sy.method, next_method a m ts r sx.rest, next_method c n us s sy.rest, next_arguments ts (put_result r (word ")" sx.rest)), next_arguments us (put_result s (word ")" sy.rest)))
          (λ t. parts.0 (ends.0 t), λ e. ends.1 (parts.1 e))

      -- As wholes: the equal part, and no other, covers one with a term for its result.
      no_result_told : no_result x.method ≡ stood (skip "none" (put_result r (word ")" sx.rest)))
      unfolding no_result
      no_result_told = rw (sx.method, next_method a m ts r sx.rest, next_arguments ts (put_result r (word ")" sx.rest)))

      items_meet : x.item ≡ put_bracketed (part a m ts r) sx.rest → y.item ≡ put_bracketed (part c n us s) sy.rest → T (test (beside X x.item) (beside Y y.item)) ↔ (fill_part σ (part a m ts r) ≡ fill_part τ (part c n us s))
      items_meet e f = rw (e, f) (items_test (part a m ts r) (part c n us s) sx.rest sy.rest fq fp nq np X Y)

      wholes_meet : (t : Term) → r ≡ value t → x.item ≡ put_bracketed (part a m ts r) sx.rest → y.item ≡ put_bracketed (part c n us s) sy.rest →
          T (same_arrow x.arrow y.arrow && (test (beside X x.method) (beside Y y.method) && test (beside X x.item) (beside Y y.item))) ↔ covering
      unfolding fill_part fill_result CoversPart
      wholes_meet t d e f =
          let items = items_meet e f in
          let arrows = same_arrow_lem a c in
          rw (sx.arrow, sy.arrow) (
            λ z. let (_, (_, k)) = simp T_and at z in inl (sym (items.0 k)),
            λ k. let same : fill_part σ (part a m ts r) ≡ fill_part τ (part c n us s) = value_covers a c (fill σ m) (fill τ n) (fills σ ts) (fills τ us) (fill_result σ r) (fill σ t) (fill_result τ s) (ap (fill_result σ) d) k in
                simp T_and (arrows.1 (cc), (methods_test.1 (cc), items.1 same)),
          )

      no_result_none : r ≡ none → no_result x.method ≡ true
      unfolding stood strip put_result
      no_result_none d = no_result_told ∙ rw d refl

      part_meets : T (part_covered test X Y x y) ↔ covering
      unfolding part_covered_by whole is_item stood strip
      part_meets = go (whole x && is_item y.item) refl sx.item sy.item
        where
          with_result : (r' : Result) → r ≡ r' → T (not (no_result x.method)) → whole x && is_item y.item ≡ true → x.item ≡ put_bracketed (part a m ts r) sx.rest → y.item ≡ put_bracketed (part c n us s) sy.rest →
              T (part_covered test X Y x y) ↔ covering
          with_result none d k e i j = absurd (rw (no_result_none d) at k)
          with_result (value t) d k e i j = rw e (wholes_meet t d i j)

          go : (b : Bool) → whole x && is_item y.item ≡ b → (x.item ≡ []) ⊎ (x.item ≡ put_bracketed (part a m ts r) sx.rest) → (y.item ≡ []) ⊎ (y.item ≡ put_bracketed (part c n us s) sy.rest) → T (part_covered test X Y x y) ↔ covering
          go false e i j = rw e pieces_meet
          go true e i j = both i j
            where
              there : T (whole x && is_item y.item)
              there = subst T (sym e) tt

              both : (x.item ≡ []) ⊎ (x.item ≡ put_bracketed (part a m ts r) sx.rest) → (y.item ≡ []) ⊎ (y.item ≡ put_bracketed (part c n us s) sy.rest) → T (part_covered test X Y x y) ↔ covering
              both (inl i) j = let ((k, _), _) = simp T_and at there in absurd (rw i at k)
              both (inr i) (inl j) = let (_, k) = simp T_and at there in absurd (rw j at k)
              both (inr i) (inr j) = let ((_, k), _) = simp T_and at there in with_result r refl k e i j

    one_meets : {x y : PartIn} (q p : Part) → Shows x q → Shows y p → T (formed_part depth q) → T (formed_part depth p) → terms_width (part_terms q) ≤ v → terms_width (part_terms p) ≤ w → (X Y : Item) →
        T (part_covered test X Y x y) ↔ CoversPart (fill_part τ p) (fill_part σ q)
    one_meets (part a m ts r) (part c n us s) sx sy fq fp nq np X Y = part_meets a c m n ts us r s sx sy fq fp nq np X Y

    -- Some part covers one, and each of the parts is covered.
    some_meets : {x : PartIn} (q : Part) → Shows x q → T (formed_part depth q) → terms_width (part_terms q) ≤ v → (ys : List PartIn) (ps : Parts) → ShowsAll ys ps → T (formed_parts depth ps) → terms_width (parts_terms ps) ≤ w →
        (X Y : Item) → T (some_covers (part_covered test X Y x) ys) ↔ SomeCovers (fill_parts τ ps) (fill_part σ q)
    unfolding ShowsAll some_covers SomeCovers fill_parts formed_parts parts_terms
    some_meets q sx fq nq [] ps s fp np X Y = absurd s
    some_meets q sx fq nq (y ∷ ys) (only p) (s, e) fp np X Y =
        rw e (let one = one_meets q p sx s fq fp nq np X Y in (λ t. ⊎_elim (λ z. one.0 z) (λ z. absurd z) ((T_or _ _).0 t), λ c. (T_or _ _).1 (inl (one.1 c))))
    some_meets q sx fq nq (y ∷ ys) (also p ps) (s, more) fp np X Y =
        let (f, k) = simp T_and at fp in
        let j = join_width (part_terms p) (parts_terms ps) in
        or_iff _ _ (one_meets q p sx s fq f nq (omega arith) X Y) (some_meets q sx fq nq ys ps more k (omega arith) X Y)

    each_meets : (xs : List PartIn) (qs : Parts) → ShowsAll xs qs → T (formed_parts depth qs) → terms_width (parts_terms qs) ≤ v → (ys : List PartIn) (ps : Parts) → ShowsAll ys ps → T (formed_parts depth ps) → terms_width (parts_terms ps) ≤ w →
        (X Y : Item) → T (each_covered (part_covered test X Y) xs ys) ↔ EachCovered (fill_parts τ ps) (fill_parts σ qs)
    unfolding ShowsAll each_covered EachCovered fill_parts formed_parts parts_terms
    each_meets [] qs s fq nq ys ps sy fp np X Y = absurd s
    each_meets (x ∷ xs) (only q) (s, e) fq nq ys ps sy fp np X Y =
        let one = some_meets q s fq nq ys ps sy fp np X Y in
        rw e (λ t. let (z, _) = simp T_and at t in one.0 z, λ c. simp T_and (one.1 c, tt))
    each_meets (x ∷ xs) (also q qs) (s, more) fq nq ys ps sy fp np X Y =
        let (f, k) = simp T_and at fq in
        let j = join_width (part_terms q) (parts_terms qs) in
        and_iff _ _ (some_meets q s f (omega arith) ys ps sy fp np X Y) (each_meets xs qs more k (omega arith) ys ps sy fp np X Y)

    -- Two arrow atoms or molecules.
    object_from : (o : Term) (ps : Parts) (rest : List ℕ) → (more : List ℕ) × (from_object o ps rest ≡ put_term o more)
    unfolding from_object
    object_from o (only p) rest = (_, refl)
    object_from o (also p ps) rest = (_, refl)

    said_meet : {p q : List ℕ} {x y : ℕ} (o o' : Term) (qs ps : Parts) → (i : AtomAt depth p x v (arrows o qs)) → (j : AtomAt depth q y w (arrows o' ps)) →
        T (parts_fit test (bare_item (drop x p)) (bare_item (drop y q))) ↔ Fits (fill_atom σ (arrows o qs)) (fill_atom τ (arrows o' ps))
    unfolding parts_fit further fill_atom Fits formed_atom few_parts terms_of terms_width
    said_meet {p} {q} {x} {y} o o' qs ps i j =
        let (fo, fq) = simp T_and at i.formed in
        let (fo', fp) = simp T_and at j.formed in
        let a = object_from o qs i.rest in
        let b = object_from o' ps j.rest in
        let c : count_parts qs ≤ 16 = leb→le (count_parts qs) 16 i.few in
        let d : count_parts ps ≤ 16 = leb→le (count_parts ps) 16 j.few in
        rw (i.stands.bytes_there, j.stands.bytes_there, object_stands o qs i.rest, object_stands o' ps j.rest, a.1, b.1)
        (and_iff _ _ (terms_test o o' a.0 b.0 fo fo' (omega (arith, i.narrow)) (omega (arith, j.narrow)))
        (each_meets _ qs (parts_shown o qs i.rest c) fq (omega (arith, i.narrow)) _ ps (parts_shown o' ps j.rest d) fp (omega (arith, j.narrow)) _ _))

    -- What stands in place of one of both is no arrow atom.
    no_left : {p q : List ℕ} {x y : ℕ} (a b : Atom) → AtomAt depth p x v a → AtomAt depth q y w b → ((o : Term) (ps : Parts) → a ≡ arrows o ps → ⊥) → parts_fit test (bare_item (drop x p)) (bare_item (drop y q)) ≡ false
    unfolding parts_fit further
    no_left a b i j n = rw (i.stands.bytes_there, no_object a i.rest n)

    no_right : {p q : List ℕ} {x y : ℕ} (o : Term) (qs : Parts) (b : Atom) → AtomAt depth p x v (arrows o qs) → AtomAt depth q y w b → ((o : Term) (ps : Parts) → b ≡ arrows o ps → ⊥) → parts_fit test (bare_item (drop x p)) (bare_item (drop y q)) ≡ false
    unfolding parts_fit further
    no_right o qs b i j n = rw (i.stands.bytes_there, j.stands.bytes_there, object_stands o qs i.rest, no_object b j.rest n)

    -- Neither is a molecule, or one is.
    module _ {p q : List ℕ} {x y : ℕ} where
      by_covering : (a b : Atom) → (i : AtomAt depth p x v a) → (j : AtomAt depth q y w b) → molecule (put_atom a i.rest) ≡ bad → molecule (put_atom b j.rest) ≡ bad → T (no_molecule (fill_atom σ a)) → T (no_molecule (fill_atom τ b)) →
          T (fits_at depth p x line starts q y others) ↔ Fits (fill_atom σ a) (fill_atom τ b)
      unfolding fits_at stood
      by_covering a b i j e f m n =
          let covers = covers_meet depth g h p q x y b j a i in
          let law = fits_covers (fill_atom σ a) (fill_atom τ b) m n in
          rw (i.stands.bytes_there, j.stands.bytes_there, e, f) (λ t. law.1 (covers.0 t), λ c. covers.1 (law.0 c))

      plain : (a b : Atom) → (i : AtomAt depth p x v a) → (j : AtomAt depth q y w b) → T (no_molecule a) → T (no_molecule b) → T (fits_at depth p x line starts q y others) ↔ Fits (fill_atom σ a) (fill_atom τ b)
      plain a b i j h k = by_covering a b i j (no_molecule_bytes a i.rest h) (no_molecule_bytes b j.rest k) (fill_no_molecule σ a h) (fill_no_molecule τ b k)

      by_parts : (a b : Atom) → (i : AtomAt depth p x v a) → (j : AtomAt depth q y w b) → stood (molecule (put_atom a i.rest)) || stood (molecule (put_atom b j.rest)) ≡ true →
          {P : Type 0} → T (parts_fit test (bare_item (drop x p)) (bare_item (drop y q))) ↔ P → T (fits_at depth p x line starts q y others) ↔ P
      unfolding fits_at
      by_parts a b i j e f = rw (ap (λ bs. stood (molecule bs)) i.stands.bytes_there, ap (λ bs. stood (molecule bs)) j.stands.bytes_there, e) f

      first_molecule : (o : Term) (m : Part) (ms : Parts) (b : Atom) → AtomAt depth p x v (arrows o (also m ms)) → AtomAt depth q y w b →
          T (fits_at depth p x line starts q y others) ↔ Fits (fill_atom σ (arrows o (also m ms))) (fill_atom τ b)
      unfolding fill_atom stood
      first_molecule o m ms (arrows o' ps) i j = by_parts (arrows o (also m ms)) (arrows o' ps) i j (rw (molecule_of o m ms i.rest)) (said_meet o o' (also m ms) ps i j)
      first_molecule o m ms (link l t u) i j =
          by_parts (arrows o (also m ms)) (link l t u) i j (rw (molecule_of o m ms i.rest))
          (never _ (no_right o (also m ms) (link l t u) i j (link_arrows l t u)) (fits_link (fill σ o) (fill_parts σ (also m ms)) l (fill τ t) (fill τ u)))
      first_molecule o m ms (obj t) i j =
          by_parts (arrows o (also m ms)) (obj t) i j (rw (molecule_of o m ms i.rest))
          (never _ (no_right o (also m ms) (obj t) i j (obj_arrows t)) (fits_obj (fill σ o) (fill_parts σ (also m ms)) (fill τ t)))

      second_molecule : (a : Atom) (o : Term) (m : Part) (ms : Parts) → AtomAt depth p x v a → AtomAt depth q y w (arrows o (also m ms)) →
          T (fits_at depth p x line starts q y others) ↔ Fits (fill_atom σ a) (fill_atom τ (arrows o (also m ms)))
      unfolding fill_atom stood
      second_molecule (arrows o' qs) o m ms i j = by_parts (arrows o' qs) (arrows o (also m ms)) i j (either_true _ _ (ap stood (molecule_of o m ms j.rest))) (said_meet o' o qs (also m ms) i j)
      second_molecule (link l t u) o m ms i j =
          by_parts (link l t u) (arrows o (also m ms)) i j (either_true _ _ (ap stood (molecule_of o m ms j.rest)))
          (never _ (no_left (link l t u) (arrows o (also m ms)) i j (link_arrows l t u)) (link_fits l (fill σ t) (fill σ u) (fill τ o) (fill_parts τ (also m ms))))
      second_molecule (obj t) o m ms i j =
          by_parts (obj t) (arrows o (also m ms)) i j (either_true _ _ (ap stood (molecule_of o m ms j.rest)))
          (never _ (no_left (obj t) (arrows o (also m ms)) i j (obj_arrows t)) (obj_fits (fill σ t) (fill τ o) (fill_parts τ (also m ms))))

      pub fits_meet : (a b : Atom) → AtomAt depth p x v a → AtomAt depth q y w b → T (fits_at depth p x line starts q y others) ↔ Fits (fill_atom σ a) (fill_atom τ b)
      unfolding no_molecule one_part
      fits_meet (arrows o (also m ms)) b i j = first_molecule o m ms b i j
      fits_meet (link l t u) (arrows o (also m ms)) i j = second_molecule (link l t u) o m ms i j
      fits_meet (obj t) (arrows o (also m ms)) i j = second_molecule (obj t) o m ms i j
      fits_meet (arrows o' (only q')) (arrows o (also m ms)) i j = second_molecule (arrows o' (only q')) o m ms i j
      fits_meet (link l t u) (link k r s) i j = plain (link l t u) (link k r s) i j tt tt
      fits_meet (link l t u) (obj r) i j = plain (link l t u) (obj r) i j tt tt
      fits_meet (link l t u) (arrows o (only p')) i j = plain (link l t u) (arrows o (only p')) i j tt tt
      fits_meet (obj t) (link k r s) i j = plain (obj t) (link k r s) i j tt tt
      fits_meet (obj t) (obj r) i j = plain (obj t) (obj r) i j tt tt
      fits_meet (obj t) (arrows o (only p')) i j = plain (obj t) (arrows o (only p')) i j tt tt
      fits_meet (arrows o' (only q')) (link k r s) i j = plain (arrows o' (only q')) (link k r s) i j tt tt
      fits_meet (arrows o' (only q')) (obj r) i j = plain (arrows o' (only q')) (obj r) i j tt tt
      fits_meet (arrows o' (only q')) (arrows o (only p')) i j = plain (arrows o' (only q')) (arrows o (only p')) i j tt tt
