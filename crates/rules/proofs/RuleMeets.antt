-- Checks 9 to 11 in bytes, rule by rule, are those of the definitions.
use Prim.Native.Nat.{ℕ, zero, suc, ◌+◌}
use mathlib.Core.Bool.{Bool, true, false, cond}
use mathlib.Core.List.{List, [], ◌∷◌, ◌++◌, append-nil}
use mathlib.Core.Logic.{◌⊎◌, inl, inr}
use mathlib.Core.Path.{◌≡◌, refl, sym, ap, ◌∙◌}
use lib.Dec.{T, eqb}
use lib.ListN.{length, drop}
use Rattle.logic.specs.declared.Sign.TheVariants.{Positive, Negative}
use Rattle.logic.specs.declared.Link.TheVariants.{Eq, Sub}
use Rattle.logic.specs.declared.Rule.{Rule}
use Rattle.logic.specs.declared.Rule.TheVariants.{Res, Fac, Par, Acy, Tra, Inc, Inh, Inp, Out, Sca, Eli, Mer, Pro}
use Rattle.std.specs.Prelude.{Err}
use Rattle.logic.specs.declared.Check.{Check}
use Rattle.logic.specs.Syntax.{Term, Parts, only, also, Atom, link, obj, arrows, Literal, lit, Clause}
use Rattle.logic.specs.Each.{width, each_term}
use Rattle.logic.specs.Fill.{Substitution, fill_atom, fill_literal, fill_clause}
use Rattle.logic.specs.Rules.{uses, Agreement, always, fitting, plus, Parent, filled}
use Rattle.logic.specs.Judge.{Conclusion, misshapen, concludes, on_plus, on_minus, on_obj, on_molecule, on_part, before, table_row, conclude_two, conclude_par, conclude_fac, conclude_eli, conclude_pro, conclude, judge_conclusion}
use Rattle.logic.proofs.Over.{Over}
use Rattle.text.specs.Write.{put_literals}
use Rattle.text.specs.Form.{formed_number}
use Rattle.text.proofs.Deep.{formed_symbol}
use Rattle.clauses.proofs.Places.{positive_at}
use Rattle.filling.proofs.Claims.{others_from, others_at}
use Rattle.rules.proofs.StepPlaces.{then_claim}
use Rattle.clauses.proofs.Placing.{positive_stands, negative_past}
use Rattle.rules.proofs.Answered.{judged_of, within_here, within_past}
use Rattle.rules.proofs.Meets.{Images, LiteralAt, Meets}
use Rattle.rules.proofs.RowsMeet.{acy_meets, sca_meets, acy_past, sca_past}
use Rattle.rules.proofs.CoverRows.{res_meets, eli_meets, fac_judged, res_past, eli_past, fac_past}
use Rattle.rules.proofs.MoleculeRows.{mer_meets, mer_past, pro_meets, pro_past}
use Rattle.logic.proofs.Rewriting.{aim, rewrite, tra_rewrites, inc_rewrites, inh_rewrites, inp_rewrites, out_rewrites}
use Rattle.rules.proofs.RowPlaces.{Rewriting}
use Rattle.rules.proofs.RowPlaces.{Target as TargetKind}
use Rattle.rules.proofs.RowPlaces.{Occurrence, Subclass, Member, Object, Argument, Result as Output}
use Rattle.rules.proofs.Targets.{Aimed, tra_placed, inc_placed, inh_placed, inp_placed, out_placed}
use Rattle.rules.proofs.Rewrites.{sub_meets, rewrites_past}
use Rattle.rules.proofs.ParMeets.{par_meets}
use Rattle.rules.proofs.Literals.{PartOf, without, at_here, at_none, at_filled, at_none_filled, place_here, place_past, part_others, same_place}
use Rattle.rules.proofs.Concluded.{ClaimAt, Expects, concluded}
use Rattle.rules.proofs.StepMeets.{Taken, taken, absent, take_at, TwoParents, given_over, stops}
use Rattle.rules.proofs.RowPlaces.{row_of, row_at, found_by, factored}
use Rattle.rules.proofs.ClaimPlaces.{new_at, new_by, dropped_at, claim_at}
use Rattle.clauses.proofs.Places.{place_at}

-- What the rules with two parents take of the literals.
module _ (A B : Parent) (i j k : ℕ) where
  table_gives : (rule : Rule) {l m : Literal} {cs ds : Clause} → drop i A.clause ≡ l ∷ cs → drop j B.clause ≡ m ∷ ds →
      conclude_two A B i j (table_row k rule) ≡ before (table_row k rule (fill_literal A.image l) (fill_literal B.image m)) (fill_clause A.image (without i A.clause) ++ fill_clause B.image (without j B.clause))
  unfolding conclude_two filled
  table_gives rule d e = at_filled A.image i A.clause _ d ∙ at_filled B.image j B.clause _ e

  table_lacks : (rule : Rule) → (drop i A.clause ≡ []) ⊎ (drop j B.clause ≡ []) → conclude_two A B i j (table_row k rule) ≡ misshapen
  unfolding conclude_two filled
  table_lacks rule (inl d) = at_none_filled A.image i A.clause _ d
  table_lacks rule (inr e) = go (take_at i A.clause)
    where
      go : Taken i A.clause → conclude_two A B i j (table_row k rule) ≡ misshapen
      go (taken l cs d) = at_filled A.image i A.clause _ d ∙ at_none_filled B.image j B.clause _ e
      go (absent d) = at_none_filled A.image i A.clause _ d

  par_gives : {l m : Literal} {cs ds : Clause} → drop i A.clause ≡ l ∷ cs → drop j B.clause ≡ m ∷ ds →
      conclude A B i j k Par ≡ before (conclude_par A.image k l (fill_literal B.image m)) (fill_clause A.image (without i A.clause) ++ fill_clause B.image (without j B.clause))
  unfolding conclude filled
  par_gives d e = at_here i A.clause _ d ∙ at_filled B.image j B.clause _ e

  par_lacks : (drop i A.clause ≡ []) ⊎ (drop j B.clause ≡ []) → conclude A B i j k Par ≡ misshapen
  unfolding conclude filled
  par_lacks (inl d) = at_none i A.clause _ d
  par_lacks (inr e) = go (take_at i A.clause)
    where
      go : Taken i A.clause → conclude A B i j k Par ≡ misshapen
      go (taken l cs d) = at_here i A.clause _ d ∙ at_none_filled B.image j B.clause _ e
      go (absent d) = at_none i A.clause _ d

module _ (depth : ℕ) where
  module _ (A B : Parent) {p line starts q others : List ℕ} (G : Images line starts A.image (width A.clause)) (H : Images line others B.image (width B.clause)) (i j k : ℕ) where
    table_two : (rule : Rule) → (uses rule).b ≡ true → conclude A B i j k rule ≡ conclude_two A B i j (table_row k rule) →
        ((x y : ℕ) (l m : Literal) → LiteralAt depth p x (width A.clause) l → LiteralAt depth q y (width B.clause) m → Meets depth rule k p x line starts q y others (table_row k rule (fill_literal A.image l) (fill_literal B.image m))) →
        ((x y : ℕ) → (x ≡ length p + 1) ⊎ (y ≡ length q + 1) → row_at depth rule k p x line starts q y others ≡ Err Check.Shape) →
        TwoParents depth rule k A B i j p line starts q others
    table_two rule b e meets past = record {
      with_b = b;
      row = λ l m. table_row k rule (fill_literal A.image l) (fill_literal B.image m);
      gives = λ d f. e ∙ table_gives A B i j k rule d f;
      lacks = λ h. e ∙ table_lacks A B i j k rule h;
      meets = meets;
      past = past;
    }

    pub res_two : TwoParents depth Res k A B i j p line starts q others
    unfolding uses conclude
    res_two = table_two Res refl refl (λ x y. res_meets depth G H k p q x y) (λ x y. res_past depth k p x line starts q y others)

    pub acy_two : TwoParents depth Acy k A B i j p line starts q others
    unfolding uses conclude
    acy_two = table_two Acy refl refl (λ x y. acy_meets depth G H k p q x y) (λ x y. acy_past depth k p x line starts q y others)

    pub sca_two : TwoParents depth Sca k A B i j p line starts q others
    unfolding uses conclude
    sca_two = table_two Sca refl refl (λ x y. sca_meets depth G H k p q x y) (λ x y. sca_past depth k p x line starts q y others)

    pub mer_two : TwoParents depth Mer k A B i j p line starts q others
    unfolding uses conclude
    mer_two = table_two Mer refl refl (λ x y. mer_meets depth G H k p q x y) (λ x y. mer_past depth k p x line starts q y others)

    -- A rule that rewrites by a link + sub.
    sub_two : (rule : Rule) (target : TargetKind) (forward : Bool) → row_of rule ≡ record { kind = Rewriting; target = target; link = Sub; forward = forward } → (uses rule).b ≡ true →
        conclude A B i j k rule ≡ conclude_two A B i j (table_row k rule) → ((σ : Substitution) (l m : Literal) → table_row k rule (fill_literal σ l) m ≡ rewrite Sub forward σ (aim k rule l) m) → Aimed depth p (width A.clause) rule →
        TwoParents depth rule k A B i j p line starts q others
    sub_two rule target forward r b e rewrites placed =
        table_two rule b e
        (λ x y l m a c. sub_meets depth p line starts q others A.image B.image (width A.clause) (width B.clause) G H x y k l m a c rule target forward r (rewrites A.image l (fill_literal B.image m)) placed)
        (λ x y. rewrites_past depth k p x line starts q y others rule target Sub forward r)

    pub tra_two : TwoParents depth Tra k A B i j p line starts q others
    unfolding uses conclude
    tra_two = sub_two Tra Subclass true refl refl refl (tra_rewrites k) (tra_placed depth p (width A.clause))

    pub inc_two : TwoParents depth Inc k A B i j p line starts q others
    unfolding uses conclude
    inc_two = sub_two Inc Member true refl refl refl (inc_rewrites k) (inc_placed depth p (width A.clause))

    pub inh_two : TwoParents depth Inh k A B i j p line starts q others
    unfolding uses conclude
    inh_two = sub_two Inh Object false refl refl refl (inh_rewrites k) (inh_placed depth p (width A.clause))

    pub inp_two : TwoParents depth Inp k A B i j p line starts q others
    unfolding uses conclude
    inp_two = sub_two Inp Argument false refl refl refl (inp_rewrites k) (inp_placed depth p (width A.clause))

    pub out_two : TwoParents depth Out k A B i j p line starts q others
    unfolding uses conclude
    out_two = sub_two Out Output true refl refl refl (out_rewrites k) (out_placed depth p (width A.clause))

    pub par_two : TwoParents depth Par k A B i j p line starts q others
    unfolding uses
    par_two = record {
      with_b = refl;
      row = λ l m. conclude_par A.image k l (fill_literal B.image m);
      gives = par_gives A B i j k;
      lacks = par_lacks A B i j k;
      meets = λ x y. par_meets depth p line starts q others A.image B.image (width A.clause) (width B.clause) G H x y k;
      past = λ x y. rewrites_past depth k p x line starts q y others Par Occurrence Eq true refl;
    }

  -- The sign of the literal at I, seen from its bytes.
  module _ {p : List ℕ} {at w : ℕ} where
    plus_dropped : (x : Atom) → LiteralAt depth p at w (lit Positive x) → (i j : ℕ) → dropped_at false true p at i j ≡ j
    unfolding dropped_at
    plus_dropped x a i j = rw (within_here p (positive_at p at) (positive_stands p x a.rest a.stands).within)

    minus_dropped : (x : Atom) → LiteralAt depth p at w (lit Negative x) → (i j : ℕ) → dropped_at false true p at i j ≡ i
    unfolding dropped_at
    minus_dropped x a i j = rw (within_past p (positive_at p at) (negative_past p x a.rest a.stands))

-- The rules without B: nothing of it is expected.
abbrev pub bare : Substitution → Parent
bare τ = record { clause = []; image = τ }

pub no_over : (τ : Substitution) → Over formed_number formed_symbol (filled (bare τ))
unfolding filled fill_clause Over
no_over τ = tt

-- The other literals stand behind the new one.
eli_before : (l : Literal) (r : Clause) → conclude_eli l r ≡ before (conclude_eli l []) r
unfolding conclude_eli on_minus on_obj before
eli_before (lit Positive x) r = refl
eli_before (lit Negative (link l t u)) r = refl
eli_before (lit Negative (obj t)) r = refl
eli_before (lit Negative (arrows o ps)) r = refl

part_before : (k : ℕ) (ps : Parts) (o : Term) (r : Clause) → on_part k ps (λ q. concludes always (plus (arrows o (only q)) ∷ r)) ≡ before (on_part k ps (λ q. concludes always (plus (arrows o (only q)) ∷ []))) r
unfolding on_part before
part_before zero (only p) o r = refl
part_before (suc k) (only p) o r = refl
part_before zero (also p ps) o r = refl
part_before (suc k) (also p ps) o r = part_before k ps o r

pro_before : (k : ℕ) (l : Literal) (r : Clause) → conclude_pro k l r ≡ before (conclude_pro k l []) r
unfolding conclude_pro on_plus on_molecule before
pro_before k (lit Negative x) r = refl
pro_before k (lit Positive (link l t u)) r = refl
pro_before k (lit Positive (obj t)) r = refl
pro_before k (lit Positive (arrows o (only p))) r = refl
pro_before k (lit Positive (arrows o (also p ps))) r = part_before k (also p ps) o r

module _ (depth : ℕ) where
  pub no_others : (line q others target : List ℕ) (j : ℕ) → Expects target [] (others_at depth q 0 j line others target)
  unfolding others_at others_from put_literals
  no_others line q others target j pos b x = refl

  module _ (A : Parent) (τ : Substitution) (p line starts : List ℕ) (P : PartOf depth p A.clause)
      (G : Images line starts A.image (width A.clause))
      {pos : ℕ} {claim : Clause} (at : ClaimAt line pos claim)
      (over : Over formed_number formed_symbol (filled A)) (image : T (each_term formed_number formed_symbol (A.image 0))) (i j k : ℕ) where
    -- The new literal, if any, and A's other literals, the one at d apart.
    one_parent : (rule : Rule) (x y d : ℕ) (g : Agreement) (new : Clause) → Expects (drop pos line) new (new_at depth rule k p x line starts p y starts (drop pos line)) → dropped_at (uses rule).b (uses rule).j p x i j ≡ d →
        row_at depth rule k p x line starts p y starts ≡ judged_of (concludes g new) → conclude A (bare τ) i j k rule ≡ concludes g (new ++ fill_clause A.image (without d A.clause)) →
        then_claim (row_at depth rule k p x line starts p y starts) (eqb (claim_at depth rule k p (length A.clause) i x line starts p 0 j y starts (drop pos line)) (length (drop pos line))) ≡
        judge_conclusion (conclude A (bare τ) i j k rule) claim
    one_parent rule x y d g new news e row c =
        let rest = fill_clause A.image (without d A.clause) in
        let a : new ++ (rest ++ []) ≡ new ++ rest = ap (λ z. new ++ z) (append-nil rest) in
        concluded depth rule k p (length A.clause) i x line starts p 0 j y starts new rest [] at
        news (rw e (part_others depth P G d (drop pos line))) (no_others line p starts (drop pos line) j) g row (rw a (given_over A (bare τ) over (no_over τ) image i j k rule c))
        ∙ ap (λ z. judge_conclusion z claim) (ap (concludes g) a ∙ sym c)

    abbrev Answers : Rule → ℕ → Type 0
    Answers rule y =
        then_claim (row_at depth rule k p (place_at p i) line starts p y starts) (eqb (claim_at depth rule k p (length A.clause) i (place_at p i) line starts p 0 j y starts (drop pos line)) (length (drop pos line))) ≡
        judge_conclusion (conclude A (bare τ) i j k rule) claim

    stopped : (rule : Rule) (y : ℕ) → row_at depth rule k p (place_at p i) line starts p y starts ≡ Err Check.Shape → conclude A (bare τ) i j k rule ≡ misshapen → Answers rule y
    stopped rule y e f = stops claim _ _ _ e f

    -- A rule with A only that takes the literal at I.
    module _ (rule : Rule) (y : ℕ) (row : Literal → Conclusion) (first : dropped_at (uses rule).b (uses rule).j p (place_at p i) i j ≡ i)
        (gives : (l : Literal) (cs : Clause) → drop i A.clause ≡ l ∷ cs → conclude A (bare τ) i j k rule ≡ before (row (fill_literal A.image l)) (fill_clause A.image (without i A.clause)))
        (lacks : drop i A.clause ≡ [] → conclude A (bare τ) i j k rule ≡ misshapen)
        (meets : (l : Literal) → LiteralAt depth p (place_at p i) (width A.clause) l → Meets depth rule k p (place_at p i) line starts p y starts (row (fill_literal A.image l)))
        (past : place_at p i ≡ length p + 1 → row_at depth rule k p (place_at p i) line starts p y starts ≡ Err Check.Shape) where
      one_taken : (l : Literal) (cs : Clause) → drop i A.clause ≡ l ∷ cs → (c : Conclusion) → row (fill_literal A.image l) ≡ c → Answers rule y
      unfolding judged_of before
      one_taken l cs d misshapen e =
          stopped rule y ((meets l (place_here depth P i d)).judged ∙ ap judged_of e) (gives l cs d ∙ ap (λ z. before z (fill_clause A.image (without i A.clause))) e)
      one_taken l cs d (concludes g new) e =
          let M = meets l (place_here depth P i d) in
          one_parent rule (place_at p i) y i g new (M.claimed g new e (drop pos line)) first (M.judged ∙ ap judged_of e) (gives l cs d ∙ ap (λ z. before z (fill_clause A.image (without i A.clause))) e)

      one_meets : Answers rule y
      one_meets = go (take_at i A.clause)
        where
          go : Taken i A.clause → Answers rule y
          go (taken l cs d) = one_taken l cs d (row (fill_literal A.image l)) refl
          go (absent d) = stopped rule y (past (place_past depth P i d)) (lacks d)

    -- R19: eli, "- obj(P) at I".
    pub eli_answers : (y : ℕ) → Answers Eli y
    unfolding uses dropped_at conclude filled
    eli_answers y =
        one_meets Eli y (λ l. conclude_eli l []) refl (λ l cs d. at_filled A.image i A.clause conclude_eli d ∙ eli_before (fill_literal A.image l) _) (at_none_filled A.image i A.clause conclude_eli)
        (λ l. eli_meets depth k p (place_at p i) line starts p y starts A.image l) (eli_past depth k p (place_at p i) line starts p y starts)

    -- R26: pro, "+ a molecule with object P and a part K".
    pub pro_answers : (y : ℕ) → Answers Pro y
    unfolding uses dropped_at conclude filled
    pro_answers y =
        one_meets Pro y (λ l. conclude_pro k l []) refl (λ l cs d. at_filled A.image i A.clause (conclude_pro k) d ∙ pro_before k (fill_literal A.image l) _) (at_none_filled A.image i A.clause (conclude_pro k))
        (λ l. pro_meets depth k p (place_at p i) line starts p y starts G l) (pro_past depth k p (place_at p i) line starts p y starts)

-- fac: one of the two clauses that lack a literal, or none.
data Factors (f : Clause → Clause → Conclusion) (pick : Clause → Clause → Clause) : Type 0 where
  neither : ((r r' : Clause) → f r r' ≡ misshapen) → Factors f pick
  factors : (g : Agreement) → ((r r' : Clause) → f r r' ≡ concludes g (pick r r')) → Factors f pick

plus_factors : (i j : ℕ) (x : Atom) (m : Literal) → Factors (λ r r'. conclude_fac i j (lit Positive x) r m r') (λ r r'. r')
unfolding conclude_fac on_plus
plus_factors i j x m = go (eqb i j) m
  where
    go : (b : Bool) (m : Literal) → Factors (λ r r'. cond b misshapen (on_plus m (λ y. concludes (fitting x y) r'))) (λ r r'. r')
    go true m = neither (λ r r'. refl)
    go false (lit Positive y) = factors (fitting x y) (λ r r'. refl)
    go false (lit Negative y) = neither (λ r r'. refl)

minus_factors : (i j : ℕ) (x : Atom) (m : Literal) → Factors (λ r r'. conclude_fac i j (lit Negative x) r m r') (λ r r'. r)
unfolding conclude_fac on_minus
minus_factors i j x m = go (eqb i j) m
  where
    go : (b : Bool) (m : Literal) → Factors (λ r r'. cond b misshapen (on_minus m (λ y. concludes (fitting x y) r))) (λ r r'. r)
    go true m = neither (λ r r'. refl)
    go false (lit Positive y) = neither (λ r r'. refl)
    go false (lit Negative y) = factors (fitting x y) (λ r r'. refl)

module _ (depth : ℕ) where
  module _ (A : Parent) (τ : Substitution) (p line starts : List ℕ) (P : PartOf depth p A.clause)
      (G : Images line starts A.image (width A.clause))
      {pos : ℕ} {claim : Clause} (at : ClaimAt line pos claim)
      (over : Over formed_number formed_symbol (filled A)) (image : T (each_term formed_number formed_symbol (A.image 0))) (i j k : ℕ) where
    abbrev FacAnswers : Type 0
    FacAnswers = Answers depth A τ p line starts P G at over image i j k Fac (place_at p j)

    abbrev lacking : ℕ → Clause
    lacking d = fill_clause A.image (without d A.clause)

    module _ (l m : Literal) (cs ds : Clause) (d : drop i A.clause ≡ l ∷ cs) (e : drop j A.clause ≡ m ∷ ds) where
      fac_row : (r r' : Clause) → row_at depth Fac k p (place_at p i) line starts p (place_at p j) starts ≡ judged_of (conclude_fac i j (fill_literal A.image l) r (fill_literal A.image m) r')
      fac_row r r' = fac_judged depth G k p (place_at p i) (place_at p j) l m (place_here depth P i d) (place_here depth P j e) i j (same_place depth P i j d e) r r'

      fac_gives : conclude A (bare τ) i j k Fac ≡ conclude_fac i j (fill_literal A.image l) (lacking i) (fill_literal A.image m) (lacking j)
      unfolding conclude filled
      fac_gives = at_filled A.image i A.clause _ d ∙ at_filled A.image j A.clause _ e

      -- Literal n is the one that the claim lacks.
      by_factors : (n : ℕ) (pick : Clause → Clause → Clause) → dropped_at false true p (place_at p i) i j ≡ n → pick (lacking i) (lacking j) ≡ lacking n →
          Factors (λ r r'. conclude_fac i j (fill_literal A.image l) r (fill_literal A.image m) r') pick → FacAnswers
      unfolding judged_of uses new_at new_by found_by factored put_literals
      by_factors n pick f h (neither s) = stopped depth A τ p line starts P G at over image i j k Fac (place_at p j) (fac_row [] [] ∙ ap judged_of (s [] [])) (fac_gives ∙ s (lacking i) (lacking j))
      by_factors n pick f h (factors g s) =
          one_parent depth A τ p line starts P G at over image i j k Fac (place_at p i) (place_at p j) n g [] (λ pos b z. refl) f
          (fac_row (lacking i) (lacking j) ∙ ap judged_of (s (lacking i) (lacking j)) ∙ refl) (fac_gives ∙ s (lacking i) (lacking j) ∙ ap (concludes g) h)

    fac_taken : (l m : Literal) (cs ds : Clause) → drop i A.clause ≡ l ∷ cs → drop j A.clause ≡ m ∷ ds → FacAnswers
    unfolding fill_literal
    fac_taken (lit Positive x) m cs ds d e =
        by_factors (lit Positive x) m cs ds d e j (λ r r'. r') (plus_dropped depth x (place_here depth P i d) i j) refl (plus_factors i j (fill_atom A.image x) (fill_literal A.image m))
    fac_taken (lit Negative x) m cs ds d e =
        by_factors (lit Negative x) m cs ds d e i (λ r r'. r) (minus_dropped depth x (place_here depth P i d) i j) refl (minus_factors i j (fill_atom A.image x) (fill_literal A.image m))

    pub fac_answers : FacAnswers
    unfolding conclude filled
    fac_answers = go (take_at i A.clause) (take_at j A.clause)
      where
        past_fac : (place_at p i ≡ length p + 1) ⊎ (place_at p j ≡ length p + 1) → conclude A (bare τ) i j k Fac ≡ misshapen → FacAnswers
        past_fac h f = stopped depth A τ p line starts P G at over image i j k Fac (place_at p j) (fac_past depth k p (place_at p i) line starts p (place_at p j) starts h) f

        go : Taken i A.clause → Taken j A.clause → FacAnswers
        go (taken l cs d) (taken m ds e) = fac_taken l m cs ds d e
        go (absent d) t = past_fac (inl (place_past depth P i d)) (at_none_filled A.image i A.clause _ d)
        go (taken l cs d) (absent e) = past_fac (inr (place_past depth P j e)) (at_filled A.image i A.clause _ d ∙ at_none_filled A.image j A.clause _ e)
