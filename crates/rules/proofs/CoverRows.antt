-- res, fac and eli: what checks 9 to 11 say in bytes is what the rule table says.
use Prim.Native.Nat.{ℕ, ◌+◌, ◌≤◌}
use mathlib.Core.Bool.{Bool, true, false, cond, not, ◌&&◌}
use mathlib.Core.List.{List, []}
use mathlib.Core.Logic.{◌⊎◌, inl, inr, ◌↔◌}
use mathlib.Core.Path.{◌≡◌, refl, sym, ap, subst, ◌∙◌}
use native.Mathlib.Omega.{arith}
use lib.Dec.{T, eqb}
use lib.ListN.{length}
use Rattle.logic.specs.declared.Sign.{Sign}
use Rattle.logic.specs.declared.Sign.TheVariants.{Positive, Negative}
use Rattle.logic.specs.declared.Rule.TheVariants.{Res, Fac, Eli}
use Rattle.std.specs.Prelude.{Err}
use Rattle.logic.specs.declared.Check.{Check}
use Rattle.logic.specs.Syntax.{arrow_of, only, also, Atom, link, obj, arrows, Literal, lit, Clause}
use Rattle.logic.specs.Each.{width}
use Rattle.logic.specs.Fill.{Substitution, fill_atom, fill_literal}
use Rattle.logic.specs.Rules.{Agreement, always, fitting, Fits, Holds}
use Rattle.logic.proofs.Both.{left}
use Rattle.text.specs.Figures.{few_parts, few_parts_all}
use Rattle.logic.specs.Judge.{Conclusion, misshapen, concludes, on_plus, on_minus, on_obj, conclude_res, conclude_fac, conclude_eli, table_row}
use Rattle.text.specs.Words.{bytes}
use Rattle.text.specs.Write.{word, put_literals}
use Rattle.text.specs.Form.{formed_literal}
use Rattle.text.specs.Heads.{kind_number, head}
use Rattle.text.proofs.Heads.{minus_of, minus_other}
use Rattle.clauses.proofs.Places.{strip_at, positive_at}
use Rattle.clauses.proofs.Placing.{strip_stands, strip_past, past_strip, positive_stands, negative_past, head_stands, head_past, or_else_here, or_else_past}
use Rattle.filling.proofs.Claimed.{strip_chain}
use Rattle.rules.proofs.Answered.{judged_of, within_here, within_past, right_shape}
use Rattle.rules.proofs.Meets.{Images, LiteralAt, Meets}
use Rattle.rules.proofs.TermsMeet.{missing, concluding}
use Rattle.rules.proofs.Targets.{link_small, past_positive}
use Rattle.rules.proofs.RowsMeet.{both_within, one_past, past_shape}
use Rattle.rules.proofs.CoversMeet.{AtomAt, arrow_range}
use Rattle.rules.proofs.FitsMeet.{fits_meet}
use Rattle.rules.proofs.RowPlaces.{answer, row_at, found_by, resolved, agrees_by, factored, fits_at}
use Rattle.clauses.proofs.Places.{negative_at}
use Rattle.clauses.proofs.Places.{same_sign_at, atom_at}
use Rattle.rules.proofs.ClaimPlaces.{new_at, new_by}

module _ (depth : ℕ) where
  module _ (p : List ℕ) {i v : ℕ} (x : Atom) where
    -- The atom of a literal of either sign.
    pub positive_at_lem : LiteralAt depth p i v (lit Positive x) → AtomAt depth p (positive_at p i) v x
    unfolding formed_literal few_parts_all width
    positive_at_lem a = let h = a.narrow in record { rest = word ")" a.rest; stands = positive_stands p x a.rest a.stands; formed = a.formed; narrow = omega arith; few = left (few_parts x) true a.few }

    negative_at_lem : LiteralAt depth p i v (lit Negative x) → AtomAt depth p (negative_at p i) v x
    unfolding formed_literal few_parts_all width negative_at
    negative_at_lem a = let h = a.narrow in record { rest = word ")" a.rest; stands = strip_stands p (bytes "(- ") a.stands (minus_of x a.rest); formed = a.formed; narrow = omega arith; few = left (few_parts x) true a.few }

    -- It has no other sign.
    pub not_positive : LiteralAt depth p i v (lit Negative x) → positive_at p i ≡ length p + 1
    not_positive a = negative_past p x a.rest a.stands

    not_negative : LiteralAt depth p i v (lit Positive x) → negative_at p i ≡ length p + 1
    unfolding negative_at
    not_negative a = strip_past p (bytes "(- ") a.stands (minus_other x a.rest)

past_negative : (p : List ℕ) → negative_at p (length p + 1) ≡ length p + 1
unfolding negative_at
past_negative p = past_strip p 40 _

module _ (depth : ℕ) where
  module _ {line starts others : List ℕ} {σ τ : Substitution} {v w : ℕ} (g : Images line starts σ v) (h : Images line others τ w) (k : ℕ) (p q : List ℕ) (i j : ℕ) where
    pub res_meets : (l m : Literal) → LiteralAt depth p i v l → LiteralAt depth q j w m → Meets depth Res k p i line starts q j others (table_row k Res (fill_literal σ l) (fill_literal τ m))
    unfolding table_row conclude_res on_minus on_plus fill_literal row_at found_by resolved agrees_by new_at new_by put_literals Holds
    res_meets (lit Positive x) m a b = missing depth _ refl (past_shape p q _ _ _ (inl (not_negative depth p x a)))
    res_meets (lit Negative x) (lit Negative y) a b = missing depth _ refl (past_shape p q _ _ _ (inr (not_positive depth q y b)))
    res_meets (lit Negative x) (lit Positive y) a b =
        let c = negative_at_lem depth p x a in
        let d = positive_at_lem depth q y b in
        concluding depth _ (fitting (fill_atom σ x) (fill_atom τ y)) [] refl (rw (both_within p q c.stands.within d.stands.within) (right_shape _ _ _ (fits_meet depth g h x y c d))) (λ target pos b x. refl)

  -- eli: "- obj(P)".
  module _ (k : ℕ) (p : List ℕ) (i : ℕ) (line starts q : List ℕ) (j : ℕ) (others : List ℕ) where
    eli_place : strip_at p (bytes "(- (obj ") i ≡ strip_at p (head 3) (negative_at p i)
    unfolding negative_at
    eli_place = strip_chain p (bytes "(- ") 40 _ i

    other_eli : {c : Conclusion} → c ≡ misshapen → strip_at p (head 3) (negative_at p i) ≡ length p + 1 → Meets depth Eli k p i line starts q j others c
    unfolding row_at found_by agrees_by answer
    other_eli e d = missing depth _ e (rw (within_past p _ (eli_place ∙ d)))

    pub eli_meets : (σ : Substitution) {v : ℕ} (l : Literal) → LiteralAt depth p i v l → Meets depth Eli k p i line starts q j others (conclude_eli (fill_literal σ l) [])
    unfolding conclude_eli on_minus on_obj fill_literal fill_atom row_at found_by agrees_by new_at new_by put_literals Holds kind_number
    eli_meets σ (lit Positive x) a = other_eli refl (ap (strip_at p (head 3)) (not_negative depth p x a) ∙ past_strip p 40 _)
    eli_meets σ (lit Negative (link l t u)) a =
        let c = negative_at_lem depth p (link l t u) a in
        other_eli refl (head_past p 3 (link l t u) c.rest (omega arith) (λ e. omega (arith, link_small l)) c.stands)
    eli_meets σ (lit Negative (obj t)) a =
        let c = negative_at_lem depth p (obj t) a in
        concluding depth _ always [] refl (rw (within_here p _ (subst (λ x. x ≤ length p) (sym eli_place) (head_stands p (obj t) c.rest c.stands).within)) (right_shape true always [] (λ _. tt, λ _. tt))) (λ target pos b x. refl)
    eli_meets σ (lit Negative (arrows o (only q))) a =
        let c = negative_at_lem depth p (arrows o (only q)) a in
        other_eli refl (head_past p 3 (arrows o (only q)) c.rest (omega arith) (λ e. omega (arith, (arrow_range (arrow_of q)).0)) c.stands)
    eli_meets σ (lit Negative (arrows o (also q qs))) a =
        let c = negative_at_lem depth p (arrows o (also q qs)) a in
        other_eli refl (head_past p 3 (arrows o (also q qs)) c.rest (omega arith) (λ e. omega arith) c.stands)

  -- fac: two literals of A of one sign.
  sign_at_lem : (p : List ℕ) {i v : ℕ} (g : Sign) (x : Atom) → LiteralAt depth p i v (lit g x) → AtomAt depth p (atom_at p i) v x
  unfolding atom_at
  sign_at_lem p {i} Positive x a = let c = positive_at_lem depth p x a in rw (or_else_here p (negative_at p i) c.stands.within) c
  sign_at_lem p {i} Negative x a = rw (or_else_past p (positive_at p i) (negative_at p i) (not_positive depth p x a)) (negative_at_lem depth p x a)

right_signs : (c s b : Bool) (g : Agreement) (r : Clause) → s ≡ true → (T b ↔ Holds g) → answer (not c && s) b ≡ judged_of (cond c misshapen (concludes g r))
unfolding answer judged_of
right_signs true s b g r e h = refl
right_signs false s b g r e h = rw e (right_shape b g r h)

other_signs : (c s b : Bool) → s ≡ false → answer (not c && s) b ≡ Err Check.Shape
unfolding answer
other_signs true s b e = refl
other_signs false s b e = rw e

never : (c : Bool) → Err Check.Shape ≡ judged_of (cond c misshapen misshapen)
unfolding judged_of
never true = refl
never false = refl

no_sign : (p : List ℕ) (i j : ℕ) → (positive_at p i ≡ length p + 1) ⊎ (positive_at p j ≡ length p + 1) → (negative_at p i ≡ length p + 1) ⊎ (negative_at p j ≡ length p + 1) → same_sign_at p i p j ≡ false
unfolding same_sign_at
no_sign p i j e f = rw (one_past p p (positive_at p i) (positive_at p j) e, one_past p p (negative_at p i) (negative_at p j) f)

module _ (depth : ℕ) where
  module _ {line starts : List ℕ} {σ : Substitution} {v : ℕ} (g : Images line starts σ v) (k : ℕ) (p : List ℕ) (i j : ℕ) where
    fits_it : {s t : Sign} (x y : Atom) → LiteralAt depth p i v (lit s x) → LiteralAt depth p j v (lit t y) → T (fits_at depth p (atom_at p i) line starts p (atom_at p j) starts) ↔ Fits (fill_atom σ x) (fill_atom σ y)
    fits_it {s} {t} x y c d = fits_meet depth g g x y (sign_at_lem depth p s x c) (sign_at_lem depth p t y d)

    pub fac_judged : (l m : Literal) → LiteralAt depth p i v l → LiteralAt depth p j v m → (a b : ℕ) → eqb a b ≡ eqb i j → (r r' : Clause) →
        row_at depth Fac k p i line starts p j starts ≡ judged_of (conclude_fac a b (fill_literal σ l) r (fill_literal σ m) r')
    unfolding row_at found_by factored agrees_by same_sign_at conclude_fac on_plus on_minus fill_literal Holds
    fac_judged (lit Positive x) (lit Positive y) c d a b e r r' =
        rw e (right_signs (eqb i j) _ _ (fitting (fill_atom σ x) (fill_atom σ y)) r' (rw (within_here p _ (positive_at_lem depth p x c).stands.within, within_here p _ (positive_at_lem depth p y d).stands.within)) (fits_it x y c d))
    fac_judged (lit Negative x) (lit Negative y) c d a b e r r' =
        rw e (right_signs (eqb i j) _ _ (fitting (fill_atom σ x) (fill_atom σ y)) r (rw (within_past p _ (not_positive depth p x c), within_here p _ (negative_at_lem depth p x c).stands.within, within_here p _ (negative_at_lem depth p y d).stands.within)) (fits_it x y c d))
    fac_judged (lit Positive x) (lit Negative y) c d a b e r r' = rw e (other_signs (eqb i j) _ _ (no_sign p i j (inr (not_positive depth p y d)) (inl (not_negative depth p x c))) ∙ never (eqb i j))
    fac_judged (lit Negative x) (lit Positive y) c d a b e r r' = rw e (other_signs (eqb i j) _ _ (no_sign p i j (inl (not_positive depth p x c)) (inr (not_negative depth p y d))) ∙ never (eqb i j))

  -- A literal that is missing is misshapen.
  module _ (k : ℕ) (p : List ℕ) (i : ℕ) (line starts q : List ℕ) (j : ℕ) (others : List ℕ) where
    pub res_past : (i ≡ length p + 1) ⊎ (j ≡ length q + 1) → row_at depth Res k p i line starts q j others ≡ Err Check.Shape
    unfolding row_at found_by resolved agrees_by
    res_past (inl e) = past_shape p q _ _ _ (inl (ap (negative_at p) e ∙ past_negative p))
    res_past (inr e) = past_shape p q _ _ _ (inr (ap (positive_at q) e ∙ past_positive q))

    pub eli_past : i ≡ length p + 1 → row_at depth Eli k p i line starts q j others ≡ Err Check.Shape
    unfolding row_at found_by agrees_by answer
    eli_past e = rw (within_past p _ (ap (strip_at p (bytes "(- (obj ")) e ∙ past_strip p 40 _))

    pub fac_past : (i ≡ length p + 1) ⊎ (j ≡ length p + 1) → row_at depth Fac k p i line starts p j starts ≡ Err Check.Shape
    unfolding row_at found_by factored agrees_by
    fac_past (inl e) = other_signs (eqb i j) _ _ (no_sign p i j (inl (ap (positive_at p) e ∙ past_positive p)) (inl (ap (negative_at p) e ∙ past_negative p)))
    fac_past (inr e) = other_signs (eqb i j) _ _ (no_sign p i j (inr (ap (positive_at p) e ∙ past_positive p)) (inr (ap (negative_at p) e ∙ past_negative p)))
