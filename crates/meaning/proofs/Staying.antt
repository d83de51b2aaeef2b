-- Answers stay: a text is answered as it was before molecules, refusals by check 2 apart. A line with a molecule, mer or pro was no form
-- then; any other was read as now, and its checks are passed where they were (crates/logic/proofs/Staying).
use Prim.Native.Nat.{ℕ, zero, suc, ◌+◌, ◌<◌}
use mathlib.Core.Bool.{Bool, true, false, cond, not, ◌&&◌}
use mathlib.Core.List.{List, [], ◌∷◌, ◌++◌, map}
use mathlib.Core.Logic.{◌↔◌}
use mathlib.Core.Path.{◌≡◌, refl, ap, ap₂, subst}
use native.Mathlib.Omega.{arith}
use native.Mathlib.Decide.{ℕ_discrete}
use lib.Dec.{T}
use lib.ListN.{length}
use Rattle.std.specs.List.{list_all}
use Rattle.std.proofs.lemmas.List.Folds.{list_all-append, list_all-map}
use Rattle.logic.specs.Syntax.{lit, link, obj, only, also, arrows, Clause, Line, sym, input, by}
use Rattle.logic.specs.Each.{one_part, no_molecule}
use Rattle.logic.specs.Descent.{RestsOn}
use Rattle.logic.specs.StepChecks.{AllPass, FailsFirst, check_number}
use Rattle.logic.proofs.Both.{left, right, both}
use Rattle.logic.proofs.Former.{plain_literal, plain, former_rule}
use Rattle.logic.proofs.Staying.{former_checks, SameChecks, done, next, same, same_pass, same_fail, same_before, step_same}
use Rattle.text.specs.Form.{Reading, form, no_form}
use Rattle.text.specs.Figures.{count_parts, few_parts, few_parts_all}
use Rattle.text.specs.declared.Figures.{Figures}
use Rattle.state.specs.State.{State, fresh, claim_of, clauses, has_constant, line_checks, advance, after, state_after}
use Rattle.logic.specs.declared.Check.{Check}
use Rattle.logic.proofs.Steps.{first_unique, pass_or_fail, same_check}
use Rattle.meaning.specs.declared.Verdict.{Verdict}
use Rattle.meaning.specs.declared.Verdict.TheVariants.{Refuted, Open, Refused}
use Rattle.meaning.specs.Checks.{readings, too_large, step_part, checks_of, checks_at, state_of, table_of, inputs_of, steps_of, clauses_of, Accepted}
use Rattle.meaning.specs.Means.{FirstEmpty, NoneEmpty, Refusal, MeansVerdict, Names, Means}
use Rattle.meaning.specs.Answer.{verdict, rests}
use Rattle.meaning.specs.Guarantee.{is_accepted}
use Rattle.meaning.proofs.Guaranteed.{answer_exactly}

-- What an answer means, given whether the text is too large, what the checks of line m are, and the state after the last line.
module _ (too_many : Bool) (checks : ℕ → List (Type 0)) (st : State) where
  pub record AcceptedBy : Type 0 where
    pub small : T (not too_many)
    pub passes : (m : ℕ) → AllPass (checks m)
    pub constant : T (has_constant st.symbols)

  pub data RefusalBy : ℕ → ℕ → Type 0 where
    large : T too_many → RefusalBy 1 0
    at_line : (n m : ℕ) → T (not too_many) → FailsFirst n (checks m) → ((i : ℕ) → i < m → AllPass (checks i)) → RefusalBy (2 + n) (1 + m)
    at_end : T (not too_many) → ((m : ℕ) → AllPass (checks m)) → T (not (has_constant st.symbols)) → RefusalBy 4 0

  unfoldable pub MeansBy : Verdict → List ℕ → Type 0
  MeansBy (Refuted count first) ns =
      (AcceptedBy × (count ≡ length (clauses st)) × FirstEmpty first (clauses st)) × RestsOn (length st.inputs) st.steps first ns
  MeansBy (Open count) ns = (AcceptedBy × (count ≡ length (clauses st)) × NoneEmpty (clauses st)) × (ns ≡ [])
  MeansBy (Refused check line) ns = RefusalBy (check_number check) line × (ns ≡ [])

-- With the lines and the checks of now this is what an answer means.
module _ (F : Figures) (text : List ℕ) where
  abbrev checks_now : ℕ → List (Type 0)
  checks_now m = checks_at fresh (readings F text) m

  accepted_by : AcceptedBy (too_large F text) checks_now (state_of F text) ↔ Accepted F text
  unfolding table_of
  accepted_by = (
    λ a. record { small = a.small; passes = a.passes; constant = a.constant },
    λ a. record { small = a.small; passes = a.passes; constant = a.constant },
  )

  refusal_by : (number line : ℕ) → RefusalBy (too_large F text) checks_now (state_of F text) number line ↔ Refusal F text number line
  unfolding table_of
  refusal_by number line = (there, back)
    where
      there : {number line : ℕ} → RefusalBy (too_large F text) checks_now (state_of F text) number line → Refusal F text number line
      there (RefusalBy.large h) = Refusal.large h
      there (RefusalBy.at_line n m h f b) = Refusal.at_line n m h f b
      there (RefusalBy.at_end h k c) = Refusal.at_end h k c

      back : {number line : ℕ} → Refusal F text number line → RefusalBy (too_large F text) checks_now (state_of F text) number line
      back (Refusal.large h) = RefusalBy.large h
      back (Refusal.at_line n m h f b) = RefusalBy.at_line n m h f b
      back (Refusal.at_end h k c) = RefusalBy.at_end h k c

  pub means_by : (v : Verdict) (ns : List ℕ) → MeansBy (too_large F text) checks_now (state_of F text) v ns ↔ Means F text v ns
  unfolding MeansBy Means MeansVerdict Names clauses_of inputs_of steps_of
  means_by (Refuted count first) ns = (λ ((a, n, e), r). ((accepted_by.0 a, n, e), r), λ ((a, n, e), r). ((accepted_by.1 a, n, e), r))
  means_by (Open count) ns = (λ ((a, n, e), r). ((accepted_by.0 a, n, e), r), λ ((a, n, e), r). ((accepted_by.1 a, n, e), r))
  means_by (Refused check line) ns =
      (λ (f, r). ((refusal_by (check_number check) line).0 f, r), λ (f, r). ((refusal_by (check_number check) line).1 f, r))

-- How a line was read: as now if it has no molecule and its rule is neither mer nor pro. Any other was no form.
unfoldable pub plain_line : Line → Bool
plain_line (sym k) = true
plain_line (input c) = plain c
plain_line (by s) = former_rule s.rule && plain s.claim

unfoldable pub former : Reading → Reading
former no_form = no_form
former (form l) = cond (plain_line l) (form l) no_form

-- Checks 2 to 11 of a line, as they were. Checks 3 to 6 are as now: the limit on a molecule's parts is met by every clause that has no
-- molecule (`plain_few`).
unfoldable pub former_part : State → Line → List (Type 0)
former_part st (sym k) = []
former_part st (input c) = []
former_part st (by s) = former_checks (clauses st) s

unfoldable pub former_checks_of : State → Reading → List (Type 0)
former_checks_of st no_form = ⊥ ∷ []
former_checks_of st (form l) = Unit ∷ (line_checks st l ++ former_part st l)

unfoldable pub former_checks_at : State → List Reading → ℕ → List (Type 0)
former_checks_at st [] m = []
former_checks_at st (r ∷ rs) zero = former_checks_of st r
former_checks_at st (r ∷ rs) (suc m) = former_checks_at (after st r) rs m

-- What an answer meant: by the lines as they were read, the checks as they were, and the state after those lines.
unfoldable pub FormerMeans : Figures → List ℕ → Verdict → List ℕ → Type 0
FormerMeans F text v ns =
    let rs = map former (readings F text) in
    MeansBy (too_large F text) (former_checks_at fresh rs) (state_after fresh rs) v ns

pub plain_few : (c : Clause) → T (plain c) → T (few_parts_all c)
unfolding plain plain_literal no_molecule one_part few_parts_all few_parts count_parts
plain_few [] h = tt
plain_few (lit g (link l t u) ∷ c) h = plain_few c h
plain_few (lit g (obj t) ∷ c) h = plain_few c h
plain_few (lit g (arrows o (only p)) ∷ c) h = plain_few c h
plain_few (lit g (arrows o (also p ps)) ∷ c) h = absurd h

-- No clause of the state has a molecule: it stays so after each line that was read as now.
abbrev Plain : State → Type 0
Plain st = T (list_all plain st.inputs) × T (list_all (λ s. plain (claim_of s)) st.steps)

plain_clauses : (st : State) → Plain st → T (list_all plain (clauses st))
unfolding clauses
plain_clauses st (h, k) = rw (list_all-append, list_all-map) (both _ _ h k)

one_more : {X : Type 0} (p : X → Bool) (xs : List X) (x : X) → T (list_all p xs) → T (p x) → T (list_all p (xs ++ (x ∷ [])))
one_more p xs x h k = rw list_all-append (both _ _ h (both _ _ k tt))

plain_advance : (st : State) (l : Line) → T (plain_line l) → Plain st → Plain (advance st l)
unfolding plain_line advance
plain_advance st (sym k) t (h, h') = (h, h')
plain_advance st (input c) t (h, h') = (one_more _ st.inputs c h t, h')
plain_advance st (by s) t (h, h') = (h, one_more _ st.steps s h' (right (former_rule s.rule) _ t))

form_plain : (l : Line) → former (form l) ≡ form l → T (plain_line l)
unfolding former
form_plain l e = go (plain_line l) e
  where
    go : (b : Bool) → cond b (form l) no_form ≡ form l → T b
    go true e = tt
    go false e = absurd (cc)

plain_after : (st : State) (r : Reading) → former r ≡ r → Plain st → Plain (after st r)
unfolding after
plain_after st no_form e p = p
plain_after st (form l) e p = plain_advance st l (form_plain l e) p

-- The checks of such a line are the same.
part_same : (st : State) (l : Line) → T (plain_line l) → Plain st → SameChecks (former_part st l) (step_part st l)
unfolding former_part step_part plain_line
part_same st (sym k) t p = done
part_same st (input c) t p = done
part_same st (by s) t p = step_same (clauses st) s (plain_clauses st p) (left _ _ t)

line_same : (st : State) (r : Reading) → former r ≡ r → Plain st → SameChecks (former_checks_of st r) (checks_of st r)
unfolding former_checks_of checks_of
line_same st no_form e p = next same done
line_same st (form l) e p = same_before (Unit ∷ line_checks st l) (part_same st l (form_plain l e) p)

-- A line that didn't fail check 2, its first, was read as now.
line_stays : (st : State) (r : Reading) → (FailsFirst 0 (former_checks_of st (former r)) → ⊥) → former r ≡ r
unfolding former FailsFirst former_checks_of
line_stays st no_form n = refl
line_stays st (form l) n = go (plain_line l) n
  where
    go : (b : Bool) → (FailsFirst 0 (former_checks_of st (cond b (form l) no_form)) → ⊥) → cond b (form l) no_form ≡ form l
    go true n = refl
    go false n = absurd (n (λ t. t))

-- So the checks of line m are the same where no line up to it failed check 2, and where every line was read as now. Every line was where no
-- line failed check 2.
unfailed_same : (m : ℕ) (st : State) (rs : List Reading) → ((i : ℕ) → i < suc m → FailsFirst 0 (former_checks_at st (map former rs) i) → ⊥) → Plain st →
    SameChecks (former_checks_at st (map former rs) m) (checks_at st rs m)
unfolding former_checks_at checks_at
unfailed_same m st [] f p = done
unfailed_same zero st (r ∷ rs) f p = let s = line_stays st r (f 0 (omega arith)) in rw s (line_same st r s p)
unfailed_same (suc m) st (r ∷ rs) f p =
    let s = line_stays st r (f 0 (omega arith)) in
    let g = λ (i : ℕ) (h : i < suc m). f (suc i) (omega arith) in
    rw s (unfailed_same m (after st r) rs (rw s at g) (plain_after st r s p))

plain_same : (m : ℕ) (st : State) (rs : List Reading) → map former rs ≡ rs → Plain st → SameChecks (former_checks_at st (map former rs) m) (checks_at st rs m)
unfolding former_checks_at checks_at
plain_same m st [] e p = done
plain_same zero st (r ∷ rs) e p = let s : former r ≡ r = cc in rw s (line_same st r s p)
plain_same (suc m) st (r ∷ rs) e p = let s : former r ≡ r = cc in rw s (plain_same m (after st r) rs (cc) (plain_after st r s p))

unfailed_lines : (st : State) (rs : List Reading) → ((m : ℕ) → FailsFirst 0 (former_checks_at st (map former rs) m) → ⊥) → map former rs ≡ rs
unfolding former_checks_at
unfailed_lines st [] f = refl
unfailed_lines st (r ∷ rs) f = ap₂ ◌∷◌ (line_stays st r (f 0)) (unfailed_lines (after st (former r)) rs (λ m. f (suc m)))

module _ (F : Figures) (text : List ℕ) where
  abbrev lines : List Reading
  lines = readings F text

  abbrev checks_then : ℕ → List (Type 0)
  checks_then m = former_checks_at fresh (map former lines) m

  fresh_plain : Plain fresh
  unfolding fresh
  fresh_plain = (tt, tt)

  -- Where all lines passed; where those up to line m did; where line m was the first to fail.
  all_lines : ((m : ℕ) → AllPass (checks_then m)) → map former lines ≡ lines
  all_lines b = unfailed_lines fresh lines (λ m. pass_or_fail 0 (checks_then m) (b m))

  line_passes : (m : ℕ) → ((i : ℕ) → i < suc m → AllPass (checks_then i)) → AllPass (checks_now F text m)
  line_passes m b = same_pass (unfailed_same m fresh lines (λ i h. pass_or_fail 0 (checks_then i) (b i h)) fresh_plain) (b m (omega arith))

  line_fails : (n m : ℕ) → (n ≡ 0 → map former lines ≡ lines) → FailsFirst n (checks_then m) → ((i : ℕ) → i < m → AllPass (checks_then i)) →
      FailsFirst n (checks_now F text m)
  line_fails zero m d f b = same_fail 0 (plain_same m fresh lines (d refl) fresh_plain) f
  line_fails (suc n) m d f b = same_fail (suc n) (unfailed_same m fresh lines (λ i h. go i h (ℕ_discrete i m)) fresh_plain) f
    where
      go : (i : ℕ) → i < suc m → Dec (i ≡ m) → FailsFirst 0 (checks_then i) → ⊥
      go i h (yes e) g = let z = first_unique (suc n) 0 (checks_then m) f (subst (λ j. FailsFirst 0 (checks_then j)) e g) in absurd (omega arith)
      go i h (no k) g = pass_or_fail 0 (checks_then i) (b i (omega arith)) g

  stays_accepted : AcceptedBy (too_large F text) checks_then (state_of F text) → AcceptedBy (too_large F text) (checks_now F text) (state_of F text)
  stays_accepted a = record { small = a.small; passes = λ m. line_passes m (λ i h. a.passes i); constant = a.constant }

  stays_refused : {number line : ℕ} → (number ≡ 2 → map former lines ≡ lines) → RefusalBy (too_large F text) checks_then (state_after fresh (map former lines)) number line →
      RefusalBy (too_large F text) (checks_now F text) (state_of F text) number line
  unfolding state_of
  stays_refused d (RefusalBy.large h) = RefusalBy.large h
  stays_refused d (RefusalBy.at_line n m h f b) =
      RefusalBy.at_line n m h (line_fails n m (λ e. d (ap (λ k. 2 + k) e)) f b) (λ i k. line_passes i (λ j g. b j (omega arith)))
  stays_refused d (RefusalBy.at_end h b c) =
      RefusalBy.at_end h (λ m. line_passes m (λ i g. b i)) (subst (λ rs. T (not (has_constant (state_after fresh rs).symbols))) (all_lines b) c)

  -- Where all lines passed, the state after them is the same.
  same_end : (v : Verdict) (ns : List ℕ) → ((m : ℕ) → AllPass (checks_then m)) → FormerMeans F text v ns → MeansBy (too_large F text) checks_then (state_of F text) v ns
  unfolding FormerMeans state_of
  same_end v ns b w = subst (λ rs. MeansBy (too_large F text) checks_then (state_after fresh rs) v ns) (all_lines b) w

  stays_meant : (v : Verdict) (ns : List ℕ) → ((line : ℕ) → v ≡ Refused Check.Form line → map former lines ≡ lines) → FormerMeans F text v ns →
      MeansBy (too_large F text) (checks_now F text) (state_of F text) v ns
  unfolding FormerMeans MeansBy check_number
  stays_meant (Refuted count first) ns d w =
      let ((a, n, e), r) = same_end (Refuted count first) ns w.0.0.passes w in ((stays_accepted a, n, e), r)
  stays_meant (Open count) ns d w = let ((a, n, e), r) = same_end (Open count) ns w.0.0.passes w in ((stays_accepted a, n, e), r)
  stays_meant (Refused check line) ns d (f, r) = (stays_refused (λ e. d line (ap (λ c. Refused c line) (same_check check Check.Form e))) f, r)

  answered : (v : Verdict) (ns : List ℕ) → ((line : ℕ) → v ≡ Refused Check.Form line → map former lines ≡ lines) → FormerMeans F text v ns →
      (verdict F text ≡ v) × (rests F text ≡ ns)
  answered v ns d w = (answer_exactly F text v ns).1 ((means_by F text v ns).0 (stays_meant v ns d w))

  -- Of every text: the answer that was meant, with the inputs that it named, is the answer, unless it was a refusal by check 2.
  pub stays_answered : (v : Verdict) (ns : List ℕ) → ((line : ℕ) → v ≡ Refused Check.Form line → ⊥) → FormerMeans F text v ns → (verdict F text ≡ v) × (rests F text ≡ ns)
  stays_answered v ns d = answered v ns (λ line e. absurd (d line e))

  -- Of every text whose forms have no molecule, mer or pro: the answer that was meant is the answer, refusals by check 2 included.
  pub plain_answered : (v : Verdict) (ns : List ℕ) → map former (readings F text) ≡ readings F text → FormerMeans F text v ns → (verdict F text ≡ v) × (rests F text ≡ ns)
  plain_answered v ns e = answered v ns (λ line z. e)

  -- "Accepted texts stay accepted with the same answer."
  pub accepted_stays : (v : Verdict) (ns : List ℕ) → T (is_accepted v) → FormerMeans F text v ns → (verdict F text ≡ v) × (rests F text ≡ ns)
  unfolding is_accepted
  accepted_stays v ns h = stays_answered v ns (λ line e. subst (λ (w : Verdict). T (is_accepted w)) e h)
