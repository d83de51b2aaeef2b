-- refl, acy and sca: what checks 9 to 11 say in bytes is what the rule table says.
use Prim.Native.Nat.{ℕ, ◌+◌, ◌≤◌}
use mathlib.Core.Bool.{Bool, true, false, ◌&&◌, and-false}
use mathlib.Core.List.{List, [], ◌∷◌}
use mathlib.Core.Logic.{◌⊎◌, inl, inr, ◌↔◌, ite}
use mathlib.Core.Path.{◌≡◌, refl, sym, ap, ◌∙◌}
use native.Mathlib.Omega.{arith}
use lib.Dec.{T, le→leb}
use lib.ListN.{length}
use Rattle.logic.specs.declared.Sign.TheVariants.{Positive, Negative}
use Rattle.logic.specs.declared.Link.{Link}
use Rattle.logic.specs.declared.Link.TheVariants.{Eq, Sub}
use Rattle.logic.specs.declared.Arrow.{Arrow}
use Rattle.logic.specs.declared.Arrow.TheVariants.{Sv, Si, Mv, Mi, St, Mt}
use Rattle.logic.specs.declared.Rule.TheVariants.{Refl, Acy, Sca}
use Rattle.std.specs.Prelude.{Err}
use Rattle.logic.specs.declared.Check.{Check}
use Rattle.logic.specs.Syntax.{Term, var, Terms, cons, Result, value, none, part, arrow_of, only, also, Atom, link, obj, arrows, method, Literal, lit}
use Rattle.logic.specs.Terms.{terms_of}
use Rattle.logic.specs.Equality.{link?}
use Rattle.logic.specs.Each.{term_width, width}
use Rattle.logic.specs.Fill.{Substitution, fill, fills, fill_result, fill_part, fill_parts, fill_atom, fill_literal}
use Rattle.logic.specs.Rules.{always, equal, call, alike, Holds, scalar, one, plus}
use Rattle.logic.specs.Judge.{Conclusion, misshapen, with_new, on_plus, on_link, on_sub, on_result, on_method, on_scalar, conclude_acy, conclude_sca, table_row, holds?}
use Rattle.text.specs.Words.{bytes}
use Rattle.text.specs.Write.{word, put_digits, put_number, put_term, put_atom}
use Rattle.text.specs.Form.{depth_of, numbered, formed_term, formed_atom, formed_literal}
use Rattle.text.specs.Heads.{link_kind, arrow_kind, kind_number, head}
use Rattle.text.proofs.Heads.{after_head}
use Rattle.text.proofs.Tests.{T_and}
use Rattle.clauses.proofs.Places.{strip_at, next_at, positive_at, first_at, value_at, object_at}
use Rattle.clauses.proofs.Placing.{Stands, positive_stands, negative_past, head_stands, head_past, next_term, inner, either_stands, either_past, past_inner, value_of, value_none, past_value}
use Rattle.rules.proofs.Targets.{kind_link, link_object, link_molecule, link_arrow, link_past, past_link, past_positive, past_second}
use Rattle.rules.proofs.Answered.{judged_of, within_here, within_past, right_shape}
use Rattle.rules.proofs.Meets.{Images, LiteralAt, Meets}
use Rattle.rules.proofs.TermsMeet.{TermAt, CallAt, call_stands, result_at_lem, term_meets, calls_meet, linked_claimed, missing, concluding, term_deep}
use Rattle.filling.specs.Filled.{item_depth}
use Rattle.clauses.proofs.Places.{within}
use Rattle.rules.proofs.RowPlaces.{answer, row_at, found_by, crossed, agrees_by, called}
use Rattle.clauses.proofs.Places.{equal_tests, same_arrow_at}
use Rattle.rules.proofs.ClaimPlaces.{new_at, new_by}
use Rattle.filling.proofs.Claims.{reflexive_at, equated_at}

module _ (depth : ℕ) where
  -- refl: variable 0 by itself.
  variable_zero : TermAt (item_depth depth) (bytes "(v 0)") 0 1 (var 0)
  unfolding put_term put_number put_digits formed_term depth_of numbered term_width
  variable_zero = record { rest = []; stands = record { within = omega arith; bytes_there = refl }; formed = simp T_and (le→leb 1 (item_depth depth) (omega arith), tt); narrow = omega arith }

  pub refl_meets : (k : ℕ) (p : List ℕ) (i : ℕ) {line starts : List ℕ} (q : List ℕ) (j : ℕ) (others : List ℕ) {σ : Substitution} → Images line starts σ 1 →
      Meets depth Refl k p i line starts q j others (with_new always (link Sub (σ 0) (σ 0)))
  unfolding row_at found_by agrees_by answer judged_of holds? new_at new_by reflexive_at fill
  refl_meets k p i q j others {σ} g =
      concluding depth (with_new always (link Sub (σ 0) (σ 0))) always (plus (link Sub (σ 0) (σ 0)) ∷ []) refl refl
      (linked_claimed depth g g variable_zero variable_zero Sub (bytes " (+ (sub ") (λ rest. refl))

  -- A literal is a positive link of the kind asked for, whose first term is at x, or it is not.
  pub data LinkView (p : List ℕ) (x : ℕ) (σ : Substitution) (v : ℕ) (c : (Term → Term → Conclusion) → Conclusion) : Type 0 where
    no_link : next_at p x ≡ length p + 1 → ((f : Term → Term → Conclusion) → c f ≡ misshapen) → LinkView p x σ v c
    a_link : (t u : Term) → TermAt depth p x v t → TermAt depth p (next_at p x) v u → ((f : Term → Term → Conclusion) → c f ≡ f (fill σ t) (fill σ u)) → LinkView p x σ v c

abbrev pub on_link_of : Substitution → Link → Literal → (Term → Term → Conclusion) → Conclusion
on_link_of σ k l f = on_plus (fill_literal σ l) (λ x. on_link k x f)

module _ (depth : ℕ) where
  module _ (p : List ℕ) (i v : ℕ) (σ : Substitution) where
    pub link_view : (k : Link) (l : Literal) → LiteralAt depth p i v l → LinkView depth p (first_at p (head (link_kind k)) i) σ v (on_link_of σ k l)
    unfolding first_at on_plus on_link fill_literal fill_atom formed_literal formed_atom width terms_of term_width kind_number after_head
    link_view k (lit Negative x) a = no_link (ap (λ at. next_at p (strip_at p (head (link_kind k)) at)) (negative_past p x a.rest a.stands) ∙ past_link p k) (λ f. refl)
    link_view k (lit Positive (link l t u)) a = go (link? k l)
      where
        atom : Stands p (positive_at p i) (put_atom (link l t u) (word ")" a.rest))
        atom = positive_stands p (link l t u) a.rest a.stands

        go : (d : Dec (k ≡ l)) → LinkView depth p (first_at p (head (link_kind k)) i) σ v (λ f. ite d (f (fill σ t) (fill σ u)) misshapen)
        go (yes e) =
            let s = head_stands p (link l t u) (word ")" a.rest) atom in
            let (ft, fu) = simp T_and at a.formed in
            let h = a.narrow in
            rw (ap link_kind e) (a_link t u (record { rest = _; stands = s; formed = ft; narrow = omega arith }) (record { rest = _; stands = next_term p t s; formed = fu; narrow = omega arith }) (λ f. refl))
        go (no e) = no_link (link_past p k (link l t u) (word ")" a.rest) (λ h. e (kind_link k l h)) atom) (λ f. refl)
    link_view k (lit Positive (obj t)) a = no_link (link_past p k (obj t) (word ")" a.rest) (link_object k) (positive_stands p (obj t) a.rest a.stands)) (λ f. refl)
    link_view k (lit Positive (arrows o (only q))) a =
        no_link (link_past p k (arrows o (only q)) (word ")" a.rest) (link_arrow k (arrow_of q)) (positive_stands p (arrows o (only q)) a.rest a.stands)) (λ f. refl)
    link_view k (lit Positive (arrows o (also q qs))) a =
        no_link (link_past p k (arrows o (also q qs)) (word ")" a.rest) (link_molecule k) (positive_stands p (arrows o (also q qs)) a.rest a.stands)) (λ f. refl)

-- Two places that are both within, or one that is past.
pub both_within : (p q : List ℕ) {x y : ℕ} → x ≤ length p → y ≤ length q → (within p x && within q y) ≡ true
both_within p q {x} {y} h k = rw (within_here p x h, within_here q y k)

pub one_past : (p q : List ℕ) (x y : ℕ) → (x ≡ length p + 1) ⊎ (y ≡ length q + 1) → (within p x && within q y) ≡ false
one_past p q x y (inl e) = rw (within_past p x e)
one_past p q x y (inr e) = rw (within_past q y e) (and-false (within p x))

pub past_shape : (p q : List ℕ) (x y : ℕ) (b : Bool) → (x ≡ length p + 1) ⊎ (y ≡ length q + 1) → answer (within p x && within q y) b ≡ Err Check.Shape
unfolding answer
past_shape p q x y b e = rw (one_past p q x y e)

-- Two pairs of terms.
pairs : (s t s' t' : Term) → (cons s (one t) ≡ cons s' (one t')) ↔ ((s ≡ s') × (t ≡ t'))
pairs s t s' t' = (λ e. (cc, cc), λ e. let f = e.0 in let g = e.1 in cc)

module _ (depth : ℕ) where
  module _ {line starts others : List ℕ} {σ τ : Substitution} {v w : ℕ} (g : Images line starts σ v) (h : Images line others τ w) (k : ℕ) (p q : List ℕ) (i j : ℕ) where
    pub acy_meets : (l m : Literal) → LiteralAt depth p i v l → LiteralAt depth q j w m → Meets depth Acy k p i line starts q j others (table_row k Acy (fill_literal σ l) (fill_literal τ m))
    unfolding table_row conclude_acy on_sub row_at found_by crossed agrees_by new_at new_by equated_at Holds
    acy_meets l m a b = go (link_view depth p i v σ Sub l a) (link_view depth q j w τ Sub m b)
      where
        go : LinkView depth p (first_at p (head 2) i) σ v (on_link_of σ Sub l) → LinkView depth q (first_at q (head 2) j) τ w (on_link_of τ Sub m) → Meets depth Acy k p i line starts q j others (conclude_acy (fill_literal σ l) (fill_literal τ m))
        go (no_link e n) d = missing depth _ (n _) (past_shape p q _ _ _ (inl e))
        go (a_link t u ta ua e) (no_link f n) = missing depth _ (e _ ∙ n _) (past_shape p q _ _ _ (inr f))
        go (a_link t u ta ua e) (a_link t' u' tb ub f) =
            let first = term_meets depth g h ta ub in
            let second = term_meets depth g h ua tb in
            let two = pairs (fill σ t) (fill σ u) (fill τ u') (fill τ t') in
            concluding depth _ (equal (cons (fill σ t) (one (fill σ u))) (cons (fill τ u') (one (fill τ t')))) (plus (link Eq (fill σ t) (fill σ u)) ∷ []) (e _ ∙ f _)
            (rw (both_within p q ua.stands.within ub.stands.within) (right_shape _ _ _ (
              λ z. let (x, y) = simp T_and at z in two.1 (first.0 x, second.0 y),
              λ z. let d = two.0 z in simp T_and (first.1 d.0, second.1 d.1),
            )))
            (linked_claimed depth g g (term_deep depth ta) (term_deep depth ua) Eq (bytes " (+ (eq ") (λ rest. refl))

-- sv or si, and whether it is sv.
data OneOf (b : Bool) : Arrow → Type 0 where
  sv : b ≡ true → OneOf b Sv
  si : b ≡ false → OneOf b Si

same_arrow : {b c : Bool} {a a' : Arrow} → OneOf b a → OneOf c a' → T (equal_tests b c) ↔ (a ≡ a')
same_arrow (sv e) (sv f) = rw (e, f) (λ _. refl, λ _. tt)
same_arrow (sv e) (si f) = rw (e, f) (λ z. absurd z, λ d. absurd (omega (arith, ap arrow_kind d)))
same_arrow (si e) (sv f) = rw (e, f) (λ z. absurd z, λ d. absurd (omega (arith, ap arrow_kind d)))
same_arrow (si e) (si f) = rw (e, f) (λ _. refl, λ _. tt)

module _ (depth : ℕ) where
  -- A literal is a positive sv or si atom with a term result, whose object is at x, or it is not.
  data ScalarView (p : List ℕ) (i x : ℕ) (σ : Substitution) (v : ℕ) (c : (Arrow → Term → Term → Terms → Term → Conclusion) → Conclusion) : Type 0 where
    no_scalar : value_at p x ≡ length p + 1 → ((f : Arrow → Term → Term → Terms → Term → Conclusion) → c f ≡ misshapen) → ScalarView p i x σ v c
    a_scalar : (a : Arrow) (o m : Term) (ts : Terms) (r : Term) → OneOf (within p (first_at p (bytes "(sv ") i)) a → CallAt depth p x v o m ts → TermAt depth p (value_at p x) v r →
        ((f : Arrow → Term → Term → Terms → Term → Conclusion) → c f ≡ f a (fill σ o) (fill σ m) (fills σ ts) (fill σ r)) → ScalarView p i x σ v c

  module _ (p : List ℕ) where
    -- The result, from the atom on.
    abbrev scalar_from : ℕ → ℕ
    scalar_from at = value_at p (inner p 4 5 at)

    past_scalar : scalar_from (length p + 1) ≡ length p + 1
    past_scalar = ap (value_at p) (past_inner p 4 5 40 40 _ _ refl refl) ∙ past_value p

    other_scalar : {at : ℕ} (x : Atom) (rest : List ℕ) → (4 ≡ kind_number x → ⊥) → (5 ≡ kind_number x → ⊥) → Stands p at (put_atom x rest) → scalar_from at ≡ length p + 1
    other_scalar x rest e f s = ap (value_at p) (either_past p 4 5 x rest (omega arith) (omega arith) e f s) ∙ past_value p

    module _ (i v : ℕ) (σ : Substitution) where
      method_view : (b : Arrow) → (4 ≡ arrow_kind b) ⊎ (5 ≡ arrow_kind b) → OneOf (within p (first_at p (bytes "(sv ") i)) b → (o m : Term) (ts : Terms) (r : Result) → LiteralAt depth p i v (lit Positive (method b o m ts r)) →
          ScalarView p i (object_at p (bytes "(sv ") (bytes "(si ") i) σ v (λ f. on_result (fill_result σ r) (f b (fill σ o) (fill σ m) (fills σ ts)))
      unfolding object_at on_result fill_result kind_number after_head formed_literal width
      method_view b k e o m ts (value r) a =
          let h = a.narrow in
          let s = either_stands p 4 5 (method b o m ts (value r)) (word ")" a.rest) (omega arith) k (positive_stands p (method b o m ts (value r)) a.rest a.stands) in
          a_scalar b o m ts r e (call_stands depth b o m ts (value r) (word ")" a.rest) s a.formed (omega arith))
          (rw (value_of p o b m ts r (word ")" a.rest) s) (result_at_lem depth b o m ts r (word ")" a.rest) s a.formed (omega arith))) (λ f. refl)
      method_view b k e o m ts none a =
          no_scalar (value_none p o b m ts (word ")" a.rest) (either_stands p 4 5 (method b o m ts none) (word ")" a.rest) (omega arith) k (positive_stands p (method b o m ts none) a.rest a.stands))) (λ f. refl)

      scalar_view : (l : Literal) → LiteralAt depth p i v l → ScalarView p i (object_at p (bytes "(sv ") (bytes "(si ") i) σ v (on_scalar (fill_literal σ l))
      unfolding object_at first_at on_scalar on_plus on_method on_result scalar fill_literal fill_atom fill_parts fill_part fill_result kind_number after_head formed_literal
      scalar_view (lit Negative x) a = no_scalar (ap scalar_from (negative_past p x a.rest a.stands) ∙ past_scalar) (λ f. refl)
      scalar_view (lit Positive (link l t u)) a =
          no_scalar (other_scalar (link l t u) (word ")" a.rest) (λ w. link_arrow l Sv (sym w)) (λ w. link_arrow l Si (sym w)) (positive_stands p (link l t u) a.rest a.stands)) (λ f. refl)
      scalar_view (lit Positive (obj t)) a = no_scalar (other_scalar (obj t) (word ")" a.rest) (λ w. omega arith) (λ w. omega arith) (positive_stands p (obj t) a.rest a.stands)) (λ f. refl)
      scalar_view (lit Positive (arrows o (also q qs))) a =
          no_scalar (other_scalar (arrows o (also q qs)) (word ")" a.rest) (λ w. omega arith) (λ w. omega arith) (positive_stands p (arrows o (also q qs)) a.rest a.stands)) (λ f. refl)
      scalar_view (lit Positive (arrows o (only (part Sv m ts r)))) a =
          method_view Sv (inl refl) (sv (within_here p _ (head_stands p (method Sv o m ts r) (word ")" a.rest) (positive_stands p (method Sv o m ts r) a.rest a.stands)).within)) o m ts r a
      scalar_view (lit Positive (arrows o (only (part Si m ts r)))) a =
          method_view Si (inr refl) (si (within_past p _ (head_past p 4 (method Si o m ts r) (word ")" a.rest) (omega arith) (λ e. omega arith) (positive_stands p (method Si o m ts r) a.rest a.stands)))) o m ts r a
      scalar_view (lit Positive (arrows o (only (part Mv m ts r)))) a =
          no_scalar (other_scalar (method Mv o m ts r) (word ")" a.rest) (λ w. omega arith) (λ w. omega arith) (positive_stands p (method Mv o m ts r) a.rest a.stands)) (λ f. refl)
      scalar_view (lit Positive (arrows o (only (part Mi m ts r)))) a =
          no_scalar (other_scalar (method Mi o m ts r) (word ")" a.rest) (λ w. omega arith) (λ w. omega arith) (positive_stands p (method Mi o m ts r) a.rest a.stands)) (λ f. refl)
      scalar_view (lit Positive (arrows o (only (part St m ts r)))) a =
          no_scalar (other_scalar (method St o m ts r) (word ")" a.rest) (λ w. omega arith) (λ w. omega arith) (positive_stands p (method St o m ts r) a.rest a.stands)) (λ f. refl)
      scalar_view (lit Positive (arrows o (only (part Mt m ts r)))) a =
          no_scalar (other_scalar (method Mt o m ts r) (word ")" a.rest) (λ w. omega arith) (λ w. omega arith) (positive_stands p (method Mt o m ts r) a.rest a.stands)) (λ f. refl)

-- Two arrow atoms alike but for their results.
calls : (a a' : Arrow) (o m o' m' : Term) (ts ts' : Terms) → (call a o m ts ≡ call a' o' m' ts') ↔ ((a ≡ a') × (o ≡ o') × (m ≡ m') × (ts ≡ ts'))
calls a a' o m o' m' ts ts' = (λ e. (cc, cc, cc, cc), λ d. let e = d.0 in let f = d.1 in let g = d.2 in let h = d.3 in cc)

module _ (depth : ℕ) where
  module _ {line starts others : List ℕ} {σ τ : Substitution} {v w : ℕ} (g : Images line starts σ v) (h : Images line others τ w) (k : ℕ) (p q : List ℕ) (i j : ℕ) where
    pub sca_meets : (l m : Literal) → LiteralAt depth p i v l → LiteralAt depth q j w m → Meets depth Sca k p i line starts q j others (table_row k Sca (fill_literal σ l) (fill_literal τ m))
    unfolding table_row conclude_sca row_at found_by called agrees_by same_arrow_at new_at new_by equated_at Holds
    sca_meets l m a b = go (scalar_view depth p i v σ l a) (scalar_view depth q j w τ m b)
      where
        go : ScalarView depth p i (object_at p (head 4) (head 5) i) σ v (on_scalar (fill_literal σ l)) → ScalarView depth q j (object_at q (head 4) (head 5) j) τ w (on_scalar (fill_literal τ m)) →
            Meets depth Sca k p i line starts q j others (conclude_sca (fill_literal σ l) (fill_literal τ m))
        go (no_scalar e n) d = missing depth _ (n _) (past_shape p q _ _ _ (inl e))
        go (a_scalar a o m ts r s c d e) (no_scalar f n) = missing depth _ (e _ ∙ n _) (past_shape p q _ _ _ (inr f))
        go (a_scalar a o m ts r s c d e) (a_scalar a' o' m' ts' r' s' c' d' f) =
            let arrows = same_arrow s s' in
            let agree = calls_meet depth g h c c' in
            let two = calls a a' (fill σ o) (fill σ m) (fill τ o') (fill τ m') (fills σ ts) (fills τ ts') in
            concluding depth _ (alike (call a (fill σ o) (fill σ m) (fills σ ts)) (call a' (fill τ o') (fill τ m') (fills τ ts'))) (plus (link Eq (fill σ r) (fill τ r')) ∷ []) (e _ ∙ f _)
            (rw (both_within p q d.stands.within d'.stands.within) (right_shape _ _ _ (
              λ z. let (b, d) = simp T_and at z in let x = agree.0 d in two.1 (arrows.0 b, x.0, x.1, x.2),
              λ z. let x = two.0 z in simp T_and (arrows.1 x.0, agree.1 (x.1, x.2, x.3)),
            )))
            (linked_claimed depth g h (term_deep depth d) (term_deep depth d') Eq (bytes " (+ (eq ") (λ rest. refl))

  past_scalar_value : (p : List ℕ) (i : ℕ) → i ≡ length p + 1 → value_at p (object_at p (bytes "(sv ") (bytes "(si ") i) ≡ length p + 1
  unfolding object_at
  past_scalar_value p i e = rw (e, past_positive p) (past_scalar depth p)

  -- A literal that is missing is misshapen.
  module _ (k : ℕ) (p : List ℕ) (i : ℕ) (line starts q : List ℕ) (j : ℕ) (others : List ℕ) where
    pub acy_past : (i ≡ length p + 1) ⊎ (j ≡ length q + 1) → row_at depth Acy k p i line starts q j others ≡ Err Check.Shape
    unfolding row_at found_by crossed agrees_by
    acy_past (inl e) = past_shape p q _ _ _ (inl (ap (λ at. next_at p (first_at p (bytes "(sub ") at)) e ∙ past_second p Sub))
    acy_past (inr e) = past_shape p q _ _ _ (inr (ap (λ at. next_at q (first_at q (bytes "(sub ") at)) e ∙ past_second q Sub))

    pub sca_past : (i ≡ length p + 1) ⊎ (j ≡ length q + 1) → row_at depth Sca k p i line starts q j others ≡ Err Check.Shape
    unfolding row_at found_by called agrees_by
    sca_past (inl e) = past_shape p q _ _ _ (inl (past_scalar_value p i e))
    sca_past (inr e) = past_shape p q _ _ _ (inr (past_scalar_value q j e))
