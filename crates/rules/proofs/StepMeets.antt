-- Checks 9 to 11 in bytes are those of the definitions, for parents that begin with their clauses and lists that give the images.
use Prim.Native.Nat.{ℕ, ◌+◌}
use mathlib.Core.Bool.{Bool, true}
use mathlib.Core.List.{List, [], ◌∷◌, ◌++◌}
use mathlib.Core.Logic.{◌⊎◌, inl, inr}
use mathlib.Core.Path.{◌≡◌, refl, sym, ap, ◌∙◌}
use lib.Dec.{T, eqb}
use lib.ListN.{length, drop}
use Rattle.logic.specs.declared.Rule.{Rule}
use Rattle.std.specs.Prelude.{Err}
use Rattle.logic.specs.declared.Check.{Check}
use Rattle.logic.specs.StepChecks.{Checked}
use Rattle.logic.specs.Syntax.{Literal, Clause}
use Rattle.logic.specs.Each.{width, each_term}
use Rattle.logic.specs.Fill.{fill_clause}
use Rattle.logic.specs.Rules.{uses, Agreement, Parent, filled}
use Rattle.logic.specs.Judge.{Conclusion, misshapen, concludes, before, conclude, judge_conclusion}
use Rattle.logic.proofs.Over.{Over, infers_over}
use Rattle.logic.proofs.Table.{concludes→infers}
use Rattle.text.specs.Form.{formed_number}
use Rattle.text.proofs.Deep.{formed_symbol}
use Rattle.rules.proofs.StepPlaces.{then_claim, conclude_at}
use Rattle.rules.proofs.Answered.{judged_of}
use Rattle.rules.proofs.Meets.{Images, LiteralAt, Meets}
use Rattle.rules.proofs.Literals.{PartOf, without, place_here, place_past, part_others}
use Rattle.rules.proofs.Concluded.{ClaimAt, concluded}
use Rattle.rules.proofs.RowPlaces.{row_at}
use Rattle.rules.proofs.ClaimPlaces.{dropped_at, claim_at}
use Rattle.clauses.proofs.Places.{place_at}

-- The literal at a position, or none.
pub data Taken (n : ℕ) (c : Clause) : Type 0 where
  taken : (l : Literal) (cs : Clause) → drop n c ≡ l ∷ cs → Taken n c
  absent : drop n c ≡ [] → Taken n c

pub take_at : (n : ℕ) (c : Clause) → Taken n c
take_at n c = go (drop n c) refl
  where
    go : (ls : Clause) → drop n c ≡ ls → Taken n c
    go [] e = absent e
    go (l ∷ ls) e = taken l ls e

module _ (depth : ℕ) where
  -- A rule with two parents: what it takes of the literals, and that its row in bytes meets that.
  pub record TwoParents (rule : Rule) (k : ℕ) (A B : Parent) (i j : ℕ) (p line starts q others : List ℕ) : Type 0 where
    pub with_b : (uses rule).b ≡ true
    pub row : Literal → Literal → Conclusion
    pub gives : {l m : Literal} {cs ds : Clause} → drop i A.clause ≡ l ∷ cs → drop j B.clause ≡ m ∷ ds →
        conclude A B i j k rule ≡ before (row l m) (fill_clause A.image (without i A.clause) ++ fill_clause B.image (without j B.clause))
    pub lacks : (drop i A.clause ≡ []) ⊎ (drop j B.clause ≡ []) → conclude A B i j k rule ≡ misshapen
    pub meets : (x y : ℕ) (l m : Literal) → LiteralAt depth p x (width A.clause) l → LiteralAt depth q y (width B.clause) m → Meets depth rule k p x line starts q y others (row l m)
    pub past : (x y : ℕ) → (x ≡ length p + 1) ⊎ (y ≡ length q + 1) → row_at depth rule k p x line starts q y others ≡ Err Check.Shape

-- The clause that a conclusion has is over the numbers of the text form.
pub given_over : (A B : Parent) → Over formed_number formed_symbol (filled A) → Over formed_number formed_symbol (filled B) → T (each_term formed_number formed_symbol (A.image 0)) → (i j k : ℕ) (rule : Rule) {g : Agreement} {c : Clause} →
    conclude A B i j k rule ≡ concludes g c → Over formed_number formed_symbol c
given_over A B over over' image i j k rule e = infers_over formed_number formed_symbol A B (concludes→infers A B i j k rule e) over over' image

-- A shape that is another: check 9 answers.
pub stops : (claim : Clause) (r : Checked) (c : Conclusion) (b : Bool) → r ≡ Err Check.Shape → c ≡ misshapen → then_claim r b ≡ judge_conclusion c claim
unfolding then_claim judge_conclusion
stops claim r c b e f = rw (e, f)

module _ (depth : ℕ) where
  module _ (A B : Parent) {p line starts q others : List ℕ} (P : PartOf depth p A.clause) (Q : PartOf depth q B.clause)
      (G : Images line starts A.image (width A.clause)) (H : Images line others B.image (width B.clause))
      {pos : ℕ} {claim : Clause} (at : ClaimAt line pos claim)
      (over : Over formed_number formed_symbol (filled A)) (over' : Over formed_number formed_symbol (filled B)) (image : T (each_term formed_number formed_symbol (A.image 0))) where
    module _ {rule : Rule} {k i j : ℕ} (R : TwoParents depth rule k A B i j p line starts q others) where
      both_taken : {l m : Literal} {cs ds : Clause} → drop i A.clause ≡ l ∷ cs → drop j B.clause ≡ m ∷ ds → (c : Conclusion) → R.row l m ≡ c →
          then_claim (row_at depth rule k p (place_at p i) line starts q (place_at q j) others) (eqb (claim_at depth rule k p (length A.clause) i (place_at p i) line starts q (length B.clause) j (place_at q j) others (drop pos line)) (length (drop pos line))) ≡
          judge_conclusion (conclude A B i j k rule) claim
      unfolding judged_of before dropped_at
      both_taken {l} {m} d e misshapen h =
          let M = R.meets (place_at p i) (place_at q j) l m (place_here depth P i d) (place_here depth Q j e) in
          stops claim _ _ _ (M.judged ∙ ap judged_of h) (R.gives d e ∙ ap (λ z. before z (fill_clause A.image (without i A.clause) ++ fill_clause B.image (without j B.clause))) h)
      both_taken {l} {m} d e (concludes g new) h =
          let M = R.meets (place_at p i) (place_at q j) l m (place_here depth P i d) (place_here depth Q j e) in
          let f : conclude A B i j k rule ≡ concludes g (new ++ (fill_clause A.image (without i A.clause) ++ fill_clause B.image (without j B.clause))) = R.gives d e ∙ ap (λ z. before z (fill_clause A.image (without i A.clause) ++ fill_clause B.image (without j B.clause))) h in
          concluded depth rule k p (length A.clause) i (place_at p i) line starts q (length B.clause) j (place_at q j) others new (fill_clause A.image (without i A.clause)) (fill_clause B.image (without j B.clause)) at
          (M.claimed g new h (drop pos line)) (rw R.with_b (part_others depth P G i (drop pos line))) (part_others depth Q H j (drop pos line)) g (M.judged ∙ ap judged_of h) (given_over A B over over' image i j k rule f)
          ∙ ap (λ z. judge_conclusion z claim) (sym f)

      pub two_meets : conclude_at depth rule k p (length A.clause) i line starts q (length B.clause) j others pos ≡ judge_conclusion (conclude A B i j k rule) claim
      unfolding conclude_at
      two_meets = go (take_at i A.clause) (take_at j B.clause)
        where
          go : Taken i A.clause → Taken j B.clause →
              then_claim (row_at depth rule k p (place_at p i) line starts q (place_at q j) others) (eqb (claim_at depth rule k p (length A.clause) i (place_at p i) line starts q (length B.clause) j (place_at q j) others (drop pos line)) (length (drop pos line))) ≡
              judge_conclusion (conclude A B i j k rule) claim
          go (taken l cs d) (taken m ds e) = both_taken d e (R.row l m) refl
          go (absent d) t = stops claim _ _ _ (R.past _ _ (inl (place_past depth P i d))) (R.lacks (inl d))
          go (taken l cs d) (absent e) = stops claim _ _ _ (R.past _ _ (inr (place_past depth Q j e))) (R.lacks (inr e))
