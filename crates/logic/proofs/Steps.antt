-- V22, of the definitions: what `judge` answers is the first of checks 7 to 11 that fails, and it passes a step exactly when
-- the rule table gives the claim.
use Prim.Native.Nat.{ℕ, zero, suc, ◌+◌}
use mathlib.Core.Bool.{Bool, true, false, cond}
use mathlib.Core.List.{List, [], ◌∷◌}
use mathlib.Core.Logic.{◌↔◌, ite}
use mathlib.Core.Path.{◌≡◌, refl, sym, ap, subst, ◌∙◌}
use native.Mathlib.Omega.{arith}
use lib.Dec.{T}
use Rattle.std.specs.Prelude.{Ok, Err}
use Rattle.logic.specs.declared.Check.{Check}
use Rattle.logic.specs.Syntax.{Clause, Step}
use Rattle.logic.specs.Equality.{clause?}
use Rattle.logic.specs.StepChecks.{AllPass, FailsFirst, parent_a, parent_b, parents_below, numbers_right, StepInfers, Shaped, Agrees, Claims, step_checks, Given, check_number, Checked}
use Rattle.logic.specs.Rules.{Agreement, Holds}
use Rattle.logic.specs.Judge.{Conclusion, misshapen, concludes, conclusion, holds?, judge_conclusion, judge}
use Rattle.logic.proofs.Table.{infers→concludes, concludes→infers}

-- The first failing check is one, and there is none where all pass.
pub first_unique : (n m : ℕ) (Ps : List (Type 0)) → FailsFirst n Ps → FailsFirst m Ps → n ≡ m
unfolding FailsFirst
first_unique n m [] p q = absurd p
first_unique zero zero (P ∷ Ps) p q = refl
first_unique zero (suc m) (P ∷ Ps) p q = absurd (p q.0)
first_unique (suc n) zero (P ∷ Ps) p q = absurd (q p.0)
first_unique (suc n) (suc m) (P ∷ Ps) p q = ap suc (first_unique n m Ps p.1 q.1)

pub pass_or_fail : (n : ℕ) (Ps : List (Type 0)) → AllPass Ps → FailsFirst n Ps → ⊥
unfolding AllPass FailsFirst
pass_or_fail n [] p q = q
pass_or_fail zero (P ∷ Ps) p q = q p.0
pass_or_fail (suc n) (P ∷ Ps) p q = pass_or_fail n Ps p.1 q.1

-- An answer means, of checks that are numbered from `base`: all pass; or this one is the first to fail.
unfoldable pub Fails : ℕ → Checked → List (Type 0) → Type 0
Fails base (Ok u) Ps = AllPass Ps
Fails base (Err c) Ps = (n : ℕ) × (check_number c ≡ base + n) × FailsFirst n Ps

-- A check is told by its number.
nth_check : ℕ → Check
nth_check zero = Check.Size
nth_check (suc zero) = Check.Size
nth_check (suc (suc zero)) = Check.Form
nth_check (suc (suc (suc zero))) = Check.Order
nth_check (suc (suc (suc (suc zero)))) = Check.Constant
nth_check (suc (suc (suc (suc (suc zero))))) = Check.Limit
nth_check (suc (suc (suc (suc (suc (suc zero)))))) = Check.Symbol
nth_check (suc (suc (suc (suc (suc (suc (suc zero))))))) = Check.Parents
nth_check (suc (suc (suc (suc (suc (suc (suc (suc zero)))))))) = Check.Numbers
nth_check (suc (suc (suc (suc (suc (suc (suc (suc (suc zero))))))))) = Check.Shape
nth_check (suc (suc (suc (suc (suc (suc (suc (suc (suc (suc zero)))))))))) = Check.Agreement
nth_check (suc (suc (suc (suc (suc (suc (suc (suc (suc (suc (suc n))))))))))) = Check.Claim

check_back : (c : Check) → nth_check (check_number c) ≡ c
unfolding nth_check check_number
check_back Check.Size = refl
check_back Check.Form = refl
check_back Check.Order = refl
check_back Check.Constant = refl
check_back Check.Limit = refl
check_back Check.Symbol = refl
check_back Check.Parents = refl
check_back Check.Numbers = refl
check_back Check.Shape = refl
check_back Check.Agreement = refl
check_back Check.Claim = refl

pub same_check : (c d : Check) → check_number c ≡ check_number d → c ≡ d
same_check c d e = sym (check_back c) ∙ (ap nth_check e ∙ check_back d)

-- What the table says of a step is one thing.
module _ (cs : List Clause) (s : Step) where
  infers_conclusion : {g : Agreement} {c : Clause} → StepInfers cs s g c → conclusion cs s ≡ concludes g c
  unfolding conclusion
  infers_conclusion w = infers→concludes (parent_a cs s) (parent_b cs s) s.i s.j s.k w

  conclusion_infers : {g : Agreement} {c : Clause} → conclusion cs s ≡ concludes g c → StepInfers cs s g c
  unfolding conclusion
  conclusion_infers e = concludes→infers (parent_a cs s) (parent_b cs s) s.i s.j s.k s.rule e

  pub agrees : {g : Agreement} {c : Clause} → StepInfers cs s g c → Holds g → Agrees cs s
  unfolding Agrees
  agrees w h g' c' w' = let e = infers_conclusion w in let e' = infers_conclusion w' in subst Holds (cc) h

  claims : {g : Agreement} → StepInfers cs s g s.claim → Claims cs s
  unfolding Claims
  claims w g' c' w' = let e = infers_conclusion w in let e' = infers_conclusion w' in cc

  pub given→all : Given cs s → AllPass (step_checks cs s)
  unfolding step_checks AllPass Shaped
  given→all w = (w.parents, (w.numbers, ((w.agreement, s.claim, w.infers), (agrees w.infers w.holds, (claims w.infers, tt)))))

  pub all→given : AllPass (step_checks cs s) → Given cs s
  unfolding step_checks AllPass Shaped Agrees Claims
  all→given w =
      let p = w.1.1.0 in
      record {
        parents = w.0;
        numbers = w.1.0;
        agreement = p.0;
        infers = subst (λ c. StepInfers cs s p.0 c) (w.1.1.1.1.0 p.0 p.1 p.2) p.2;
        holds = w.1.1.1.0 p.0 p.1 p.2;
      }

  -- The answer and its meaning, one check after the other.
  judge_claim : {g : Agreement} {c : Clause} → T (parents_below cs s) → T (numbers_right cs s) → StepInfers cs s g c →
      (h : Dec (Holds g)) (e : Dec (c ≡ s.claim)) → Fails 7 (ite h (ite e (Ok tt) (Err Check.Claim)) (Err Check.Agreement)) (step_checks cs s)
  unfolding Fails step_checks FailsFirst Shaped check_number Agrees Claims
  judge_claim {g} p q w (yes h) (yes e) =
      given→all (record { parents = p; numbers = q; agreement = g; infers = subst (λ c. StepInfers cs s g c) e w; holds = h })
  judge_claim p q w (yes h) (no n) = (4, refl, (p, (q, ((_, _, w), (agrees w h, λ k. n (k _ _ w))))))
  judge_claim p q w (no n) e = (3, refl, (p, (q, ((_, _, w), λ k. n (k _ _ w)))))

  judge_conclusion_lem : T (parents_below cs s) → T (numbers_right cs s) → (o : Conclusion) → conclusion cs s ≡ o →
      Fails 7 (judge_conclusion o s.claim) (step_checks cs s)
  unfolding Fails step_checks FailsFirst Shaped check_number judge_conclusion
  judge_conclusion_lem p q misshapen e = (2, refl, (p, (q, λ w. let h = infers_conclusion w.2 in let z : ◌≡◌ {A = ℕ} 0 1 = cc in absurd (omega arith))))
  judge_conclusion_lem p q (concludes g c) e = judge_claim p q (conclusion_infers e) (holds? g) (clause? c s.claim)

  pub judge_means : Fails 7 (judge cs s) (step_checks cs s)
  unfolding judge Fails step_checks FailsFirst check_number
  judge_means = go (parents_below cs s) refl (numbers_right cs s) refl
    where
      go : (p : Bool) → parents_below cs s ≡ p → (q : Bool) → numbers_right cs s ≡ q →
          Fails 7 (cond p (cond q (judge_conclusion (conclusion cs s) s.claim) (Err Check.Numbers)) (Err Check.Parents)) (step_checks cs s)
      go true e true h = judge_conclusion_lem (rw e tt) (rw h tt) (conclusion cs s) refl
      go true e false h = (1, refl, (rw e tt, λ t. rw h at t))
      go false e q h = (0, refl, λ t. rw e at t)

  -- "A step passes checks 7 to 11 exactly when the rules give its claim from its parents by its numbers under its two lists."
  pub passed_exactly : (judge cs s ≡ Ok tt) ↔ Given cs s
  unfolding Fails
  passed_exactly = (λ e. all→given (subst (λ w. Fails 7 w (step_checks cs s)) e judge_means), λ g. back g (judge cs s) judge_means)
    where
      back : Given cs s → (w : Checked) → Fails 7 w (step_checks cs s) → w ≡ Ok tt
      back g (Ok tt) m = refl
      back g (Err c) m = absurd (pass_or_fail m.0 (step_checks cs s) (given→all g) m.2)

  -- The check of number 7 + n is the answer exactly when it is the first of the five to fail.
  pub failed_exactly : (c : Check) (n : ℕ) → check_number c ≡ 7 + n → (judge cs s ≡ Err c) ↔ FailsFirst n (step_checks cs s)
  unfolding Fails
  failed_exactly c n e = (λ j. there (subst (λ w. Fails 7 w (step_checks cs s)) j judge_means), λ f. back f (judge cs s) judge_means)
    where
      there : Fails 7 (Err c) (step_checks cs s) → FailsFirst n (step_checks cs s)
      there m = let z : m.0 ≡ n = omega (arith, m.1, e) in rw (← z) m.2

      back : FailsFirst n (step_checks cs s) → (w : Checked) → Fails 7 w (step_checks cs s) → w ≡ Err c
      back f (Ok u) m = absurd (pass_or_fail n (step_checks cs s) m f)
      back f (Err d) m = let z = first_unique m.0 n (step_checks cs s) m.2 f in ap Err (same_check d c (omega (arith, m.1, e, z)))
