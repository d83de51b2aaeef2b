-- The verdict is the one answer that is meant (V1 to V27): the first failing line and its first failing check, or accepted, with the
-- number of clauses and the first empty one.
use Prim.Native.Nat.{ℕ, zero, suc, ◌+◌, ◌<◌, ◌≤◌}
use mathlib.Core.Bool.{Bool, true, false, not, cond}
use mathlib.Core.List.{List, [], ◌∷◌, cons≢nil}
use mathlib.Core.Logic.{◌⊎◌, inl, inr, ◌↔◌}
use mathlib.Core.Path.{◌≡◌, refl, sym, ap, ap₂, subst, ◌∙◌}
use native.Mathlib.Omega.{arith}
use borrow.Author.Tests.{ltb-true, ltb-false}
use native.Mathlib.Decide.{dec_lt}
use lib.Dec.{T, T_not, ltb}
use lib.ListN.{length}
use Rattle.logic.specs.Syntax.{Clause, Line, sym as sym_line, input, by}
use Rattle.std.specs.Prelude.{Ok, Err}
use Rattle.logic.specs.declared.Check.{Check}
use Rattle.logic.specs.StepChecks.{AllPass, FailsFirst, check_number, Checked}
use Rattle.logic.proofs.Steps.{first_unique, pass_or_fail, Fails, same_check, judge_means}
use Rattle.text.specs.Form.{Reading, form, no_form}
use Rattle.text.specs.declared.Figures.{Figures}
use Rattle.state.specs.State.{State, fresh, clauses, ordered, constant_ready, within_limits, symbols_declared, line_checks, has_constant, after, state_after}
use Rattle.state.specs.Failure.{line_failure}
use Rattle.meaning.specs.declared.Verdict.{Verdict}
use Rattle.meaning.specs.declared.Verdict.TheVariants.{Refuted, Open, Refused}
use Rattle.meaning.specs.Checks.{readings, too_large, step_part, checks_of, checks_at, state_of, table_of, clauses_of, Accepted}
use Rattle.meaning.specs.Answer.{step_failure, failure, is_nil, first_empty, accepted_as, finish, refused_or, read_on, verdict}
use Rattle.meaning.specs.Means.{FirstEmpty, NoneEmpty, Refusal, large, at_line, at_end, MeansVerdict}

-- One check more in front, by its number.
before : (base : ℕ) (w : Checked) (b : Bool) (c : Check) (Ps : List (Type 0)) → check_number c ≡ base → Fails (suc base) w Ps → Fails base (cond b w (Err c)) (T b ∷ Ps)
unfolding Fails AllPass FailsFirst
before base (Ok u) true c Ps e h = (tt, h)
before base (Err d) true c Ps e h = (suc h.0, h.1 ∙ omega arith, (tt, h.2))
before base w false c Ps e h = (0, omega arith, λ t. t)

step_fails : (st : State) (l : Line) → Fails 7 (step_failure st l) (step_part st l)
unfolding Fails step_failure step_part AllPass
step_fails st (sym_line k) = tt
step_fails st (input c) = tt
step_fails st (by s) = judge_means (clauses st) s

pub line_fails : (F : Figures) (st : State) (r : Reading) → Fails 2 (failure st r) (checks_of st r)
unfolding failure checks_of line_failure line_checks Fails FailsFirst check_number
line_fails F st no_form = (0, refl, λ t. t)
line_fails F st (form l) =
    before 2 _ true Check.Form _ refl
    (before 3 _ (ordered st l) Check.Order _ refl
    (before 4 _ (constant_ready st l) Check.Constant _ refl
    (before 5 _ (within_limits st l) Check.Limit _ refl
    (before 6 _ (symbols_declared st l) Check.Symbol _ refl (step_fails st l)))))

-- What reading on from a state answers: the end is reached and every line passes, or some line is the first to fail.
unfoldable Reads : Figures → State → ℕ → List Reading → Verdict → Type 0
Reads F st line rs v =
    ((v ≡ finish (state_after st rs)) × ((m : ℕ) → AllPass (checks_at st rs m)))
    ⊎ ((c : Check) × (n : ℕ) × (m : ℕ) × (v ≡ Refused c (line + m)) × (check_number c ≡ 2 + n) × FailsFirst n (checks_at st rs m)
    × ((i : ℕ) → i < m → AllPass (checks_at st rs i)))

module _ (F : Figures) (st : State) (r : Reading) (rs : List Reading) where
  pub all_lines : AllPass (checks_of st r) → ((m : ℕ) → AllPass (checks_at (after st r) rs m)) → (m : ℕ) → AllPass (checks_at st (r ∷ rs) m)
  unfolding checks_at
  all_lines h k zero = h
  all_lines h k (suc m) = k m

  lines_before_lem : (n : ℕ) → AllPass (checks_of st r) → ((i : ℕ) → i < n → AllPass (checks_at (after st r) rs i)) → (i : ℕ) → i < suc n → AllPass (checks_at st (r ∷ rs) i)
  unfolding checks_at
  lines_before_lem n h k zero b = h
  lines_before_lem n h k (suc i) b = k i (omega arith)

  -- A line that passes, and the lines after it.
  passed_line : (line : ℕ) (v : Verdict) → AllPass (checks_of st r) → Reads F (after st r) (suc line) rs v → Reads F st line (r ∷ rs) v
  unfolding Reads checks_at state_after
  passed_line line v h (inl k) = inl (k.0, all_lines h k.1)
  passed_line line v h (inr (c, n, m, e, d, f, b)) =
      inr (c, n, suc m, e ∙ ap (Refused c) (omega arith), d, f, lines_before_lem m h b)

  failed_line : (line n : ℕ) (c : Check) → check_number c ≡ 2 + n → FailsFirst n (checks_of st r) → Reads F st line (r ∷ rs) (Refused c line)
  unfolding Reads checks_at
  failed_line line n c d h = inr (c, n, 0, ap (Refused c) (omega arith), d, h, λ i b. absurd (omega arith))

reads : (F : Figures) (st : State) (line : ℕ) (rs : List Reading) → Reads F st line rs (read_on st line rs)
unfolding Reads read_on refused_or checks_at state_after AllPass Fails
reads F st line [] = inl (refl, λ m. tt)
reads F st line (r ∷ rs) = go (failure st r) (line_fails F st r) (reads F (after st r) (suc line) rs)
  where
    go : (w : Checked) → Fails 2 w (checks_of st r) → Reads F (after st r) (suc line) rs (read_on (after st r) (suc line) rs) →
        Reads F st line (r ∷ rs) (refused_or w line (read_on (after st r) (suc line) rs))
    go (Ok u) h k = passed_line F st r rs line (read_on (after st r) (suc line) rs) h k
    go (Err c) h k = failed_line F st r rs line h.0 c h.1 h.2

-- Which clauses are empty.
first_empty_lem : (cs : List Clause) → (first_empty cs < length cs → FirstEmpty (first_empty cs) cs) × (length cs ≤ first_empty cs → NoneEmpty cs)
unfolding first_empty FirstEmpty NoneEmpty is_nil
first_empty_lem [] = (λ h. absurd (omega arith), λ h. tt)
first_empty_lem ([] ∷ cs) = (λ h. refl, λ h. absurd (omega arith))
first_empty_lem ((l ∷ c) ∷ cs) =
    let k = first_empty_lem cs in
    (λ h. (λ e. cons≢nil e, k.0 (omega arith)), λ h. (λ e. cons≢nil e, k.1 (omega arith)))

first_empty_unique : (n m : ℕ) (cs : List Clause) → FirstEmpty n cs → FirstEmpty m cs → n ≡ m
unfolding FirstEmpty
first_empty_unique n m [] h k = absurd h
first_empty_unique zero zero (c ∷ cs) h k = refl
first_empty_unique zero (suc m) (c ∷ cs) h k = absurd (k.0 h)
first_empty_unique (suc n) zero (c ∷ cs) h k = absurd (h.0 k)
first_empty_unique (suc n) (suc m) (c ∷ cs) h k = ap suc (first_empty_unique n m cs h.1 k.1)

none_or_first : (n : ℕ) (cs : List Clause) → NoneEmpty cs → FirstEmpty n cs → ⊥
unfolding FirstEmpty NoneEmpty
none_or_first n [] h k = k
none_or_first zero (c ∷ cs) h k = h.0 k
none_or_first (suc n) (c ∷ cs) h k = none_or_first n cs h.1 k.1

module _ (F : Figures) (text : List ℕ) where
  -- An accepted text is answered by its clauses.
  accepted_means : Accepted F text → MeansVerdict F text (accepted_as (length (clauses_of F text)) (first_empty (clauses_of F text)))
  unfolding accepted_as MeansVerdict
  accepted_means a = go (ltb (first_empty cs) (length cs)) refl
    where
      cs : List Clause
      cs = clauses_of F text

      go : (b : Bool) → ltb (first_empty cs) (length cs) ≡ b → MeansVerdict F text (cond b (Refuted (length cs) (first_empty cs)) (Open (length cs)))
      go true e = (a, refl, (first_empty_lem cs).0 (ltb-true (first_empty cs) (length cs) e))
      go false e = (a, refl, (first_empty_lem cs).1 (ltb-false (first_empty cs) (length cs) e))

  finish_means : T (not (too_large F text)) → ((m : ℕ) → AllPass (checks_at fresh (readings F text) m)) → MeansVerdict F text (finish (state_of F text))
  unfolding finish MeansVerdict clauses_of table_of check_number
  finish_means h k = go (has_constant (state_of F text).symbols) refl
    where
      go : (b : Bool) → has_constant (state_of F text).symbols ≡ b →
          MeansVerdict F text (cond b (accepted_as (length (clauses (state_of F text))) (first_empty (clauses (state_of F text)))) (Refused Check.Constant 0))
      go true e = accepted_means (record { small = h; passes = k; constant = rw e tt })
      go false e = at_end h k (rw e tt)

  -- The verdict means what TEXT-FORM says.
  pub verdict_means : MeansVerdict F text (verdict F text)
  unfolding verdict MeansVerdict Reads state_of check_number
  verdict_means = go (too_large F text) refl (reads F fresh 1 (readings F text))
    where
      go : (b : Bool) → too_large F text ≡ b → Reads F fresh 1 (readings F text) (read_on fresh 1 (readings F text)) →
          MeansVerdict F text (cond b (Refused Check.Size 0) (read_on fresh 1 (readings F text)))
      go true e k = large (rw e tt)
      go false e (inl k) = rw k.0 (finish_means (rw e tt) k.1)
      go false e (inr (c, n, m, q, d, f, b)) = rw (q, d) (at_line n m (rw e tt) f b)

-- The first failing line is one.
first_line_lem : (P : ℕ → List (Type 0)) (n m n' m' : ℕ) → FailsFirst n (P m) → ((i : ℕ) → i < m → AllPass (P i)) → FailsFirst n' (P m') → ((i : ℕ) → i < m' → AllPass (P i)) → m ≡ m'
first_line_lem P n m n' m' f b f' b' = go (dec_lt m m') (dec_lt m' m)
  where
    go : Dec (m < m') → Dec (m' < m) → m ≡ m'
    go (yes h) d = absurd (pass_or_fail n (P m) (b' m h) f)
    go (no h) (yes d) = absurd (pass_or_fail n' (P m') (b m' d) f')
    go (no h) (no d) = omega arith

module _ (F : Figures) (text : List ℕ) where
  not_both : {P : Type 0} → T (too_large F text) → T (not (too_large F text)) → P
  not_both h k = absurd (T_not (too_large F text) k h)

  -- Nothing accepted is refused.
  pub accepted_or_refused : {n l : ℕ} → Accepted F text → Refusal F text n l → ⊥
  accepted_or_refused a (large h) = not_both h a.small
  accepted_or_refused a (at_line n m h f b) = pass_or_fail n (checks_at fresh (readings F text) m) (a.passes m) f
  accepted_or_refused a (at_end h k c) = T_not (has_constant (table_of F text)) c a.constant

  refused_once : {n l n' l' : ℕ} → Refusal F text n l → Refusal F text n' l' → (n ≡ n') × (l ≡ l')
  refused_once (large h) (large h') = (refl, refl)
  refused_once (large h) (at_line n m h' f b) = not_both h h'
  refused_once (large h) (at_end h' k c) = not_both h h'
  refused_once (at_line n m h f b) (large h') = not_both h' h
  refused_once (at_line n m h f b) (at_line n' m' h' f' b') =
      let P = checks_at fresh (readings F text) in
      let e : m ≡ m' = first_line_lem P n m n' m' f b f' b' in
      let d : n ≡ n' = first_unique n n' (P m') (subst (λ i. FailsFirst n (P i)) e f) f' in
      (ap (λ x. 2 + x) d, ap (λ y. 1 + y) e)
  refused_once (at_line n m h f b) (at_end h' k c) = absurd (pass_or_fail n (checks_at fresh (readings F text) m) (k m) f)
  refused_once (at_end h k c) (large h') = not_both h' h
  refused_once (at_end h k c) (at_line n m h' f b) = absurd (pass_or_fail n (checks_at fresh (readings F text) m) (k m) f)
  refused_once (at_end h k c) (at_end h' k' c') = (refl, refl)

  means_once : (v w : Verdict) → MeansVerdict F text v → MeansVerdict F text w → v ≡ w
  unfolding MeansVerdict
  means_once (Refuted c f) (Refuted c' f') h k = ap₂ Refuted (h.1 ∙ sym k.1) (first_empty_unique f f' (clauses_of F text) h.2 k.2)
  means_once (Refuted c f) (Open c') h k = absurd (none_or_first f (clauses_of F text) k.2 h.2)
  means_once (Refuted c f) (Refused n l) h k = absurd (accepted_or_refused h.0 k)
  means_once (Open c) (Refuted c' f) h k = absurd (none_or_first f (clauses_of F text) h.2 k.2)
  means_once (Open c) (Open c') h k = ap Open (h.1 ∙ sym k.1)
  means_once (Open c) (Refused n l) h k = absurd (accepted_or_refused h.0 k)
  means_once (Refused n l) (Refuted c f) h k = absurd (accepted_or_refused k.0 h)
  means_once (Refused n l) (Open c) h k = absurd (accepted_or_refused k.0 h)
  means_once (Refused c l) (Refused c' l') h k = let (d, e) = refused_once h k in ap₂ Refused (same_check c c' d) e

  -- Of whole texts: each answer is given exactly when it is the one that is meant.
  pub verdict_exactly : (v : Verdict) → (verdict F text ≡ v) ↔ MeansVerdict F text v
  verdict_exactly v = (λ e. subst (MeansVerdict F text) e (verdict_means F text), λ h. means_once (verdict F text) v (verdict_means F text) h)
