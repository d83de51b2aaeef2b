-- A line as the code judges it fails the check that it fails by the definitions.
use Rattle.std.proofs.Common.{ℕ, ◌≤◌, ◌<◌, ◌≡◌, Bool, true, false, cond, List, [], length, get_or, Some, Result, Ok, Err, refl, sym, ◌∙◌}
use Rattle.std.proofs.Math.ListN.{get_or-map}
use lib.Dec.{T, leb, leb→le}
use Rattle.logic.specs.declared.Check.{Check}
use Rattle.logic.specs.Syntax.{Terms, Step, Line, input, by}
use Rattle.logic.specs.Syntax as syntax
use Rattle.logic.specs.Terms.{count}
use Rattle.logic.specs.StepChecks.{Checked}
use Rattle.logic.specs.Judge.{judge}
use Rattle.logic.proofs.Both.{left, right}
use Rattle.text.specs.Form.{Reading, form, no_form}
use Rattle.text.specs.Read.{read_line}
use Rattle.reader.specs.declared.forms.StepAt.{StepAt}
use Rattle.reader.specs.declared.forms.LineAt.{LineAt}
use Rattle.reader.specs.declared.forms.LineAt.TheVariants.{Sym, Input, By}
use Rattle.reader.specs.LineAt.{step_of, line_of}
use Rattle.state.specs.declared.HeldState as code
use Rattle.state.specs.State.{State, clauses, list_fits, ordered, constant_ready, within_limits, symbols_declared}
use Rattle.state.specs.ReadLine.{seen_at}
use Rattle.state.specs.Failure.{line_failure, read_failure}
use Rattle.state.specs.declared.Unpassed.{Unpassed}
use Rattle.state.specs.Represents.{Represents, SeenAs, checked_line, Sees}
use Rattle.state.proofs.StateCode.{passed_both}
use Rattle.rules.specs.Judging.{HoldsClause, Judges}
use Rattle.meaning.specs.Answer.{step_failure, failure}
use Rattle.descent.specs.declared.Held.{Held}
use Rattle.descent.specs.Walk.{nothing_held}
use Rattle.step.specs.Step.{parent_at, line_judged, then_judged, checked_at}
use Rattle.step.specs.Line.{SizesOf, JudgedRight, FirstFailing}

-- Checks 3 to 6, and then those of a step: where they pass, what is said of the step is said of the line; where one fails, it is said.
abbrev in_order : Bool → Bool → Bool → Bool → Checked → Checked
in_order a b c d x = cond a (cond b (cond c (cond d x (Err Check.Symbol)) (Err Check.Limit)) (Err Check.Constant)) (Err Check.Order)

then_passed : (a b c d : Bool) (x : Checked) → in_order a b c d (Ok tt) ≡ Ok tt → in_order a b c d x ≡ x
then_passed true true true true x e = refl
then_passed true true true false x e = absurd (cc)
then_passed true true false d x e = absurd (cc)
then_passed true false c d x e = absurd (cc)
then_passed false b c d x e = absurd (cc)

then_failed : (a b c d : Bool) (x : Checked) (k : Check) → in_order a b c d (Ok tt) ≡ Err k → in_order a b c d x ≡ Err k
then_failed true true true true x k e = absurd (cc)
then_failed true true true false x k e = e
then_failed true true false d x k e = e
then_failed true false c d x k e = e
then_failed false b c d x k e = e

line_passed : (st : State) (l : Line) → read_failure st (form l) ≡ Ok tt → failure st (form l) ≡ step_failure st l
unfolding read_failure failure line_failure
line_passed st l = then_passed (ordered st l) (constant_ready st l) (within_limits st l) (symbols_declared st l) (step_failure st l)

line_failed : (st : State) (r : Reading) (k : Check) → read_failure st r ≡ Err k → failure st r ≡ Err k
unfolding read_failure failure line_failure
line_failed st no_form k e = e
line_failed st (form l) k e = then_failed (ordered st l) (constant_ready st l) (within_limits st l) (symbols_declared st l) (step_failure st l) k e

-- A line that passes checks 2 to 11 passes 2 to 6.
pub read_passes : (st : State) (r : Reading) → failure st r ≡ Ok tt → read_failure st r ≡ Ok tt
read_passes st r z = go (read_failure st r) refl
  where
    go : (x : Checked) → read_failure st r ≡ x → read_failure st r ≡ Ok tt
    go (Ok tt) e = e
    go (Err k) e = let f = line_failed st r k e in absurd (cc)

-- The lists of a step that passes checks 2 to 6 are short.
list_short : (ts : Terms) → T (list_fits ts) → count ts ≤ 32
unfolding list_fits
list_short ts h = leb→le (count ts) 32 (left (leb (count ts) 32) _ h)

lists_short : (st : State) (s : Step) → read_failure st (form (by s)) ≡ Ok tt → (count s.first ≤ 32) × (count s.second ≤ 32)
unfolding read_failure line_failure within_limits
lists_short st s passes =
    let o = passed_both (ordered st (by s)) _ Check.Order passes in
    let c = passed_both (constant_ready st (by s)) _ Check.Constant o.1 in
    let w = (passed_both (within_limits st (by s)) _ Check.Limit c.1).0 in
    (list_short s.first (left (list_fits s.first) _ w), list_short s.second (left (list_fits s.second) _ (right (list_fits s.first) _ w)))

module _ {depth : ℕ} {part : ℕ → List ℕ} {state : code.HeldState} {st : State} (held : List Held) (R : Represents depth part state st) (S : SizesOf st held) where
  -- Clause n, where there is one, is held at its place.
  holds : (n : ℕ) → n < length (clauses st) → HoldsClause depth (parent_at part state held n) (get_or (clauses st) n [])
  unfolding parent_at
  holds n h =
      let P = R.places n h in
      record {
        rest = P.rest;
        written = P.written;
        formed = P.formed;
        literals = sym (get_or-map (λ (c : Held). c.literals) held n nothing_held) ∙ S.literals_of n h;
        narrow = sym (get_or-map (λ (c : Held). c.width) held n nothing_held) ∙ S.widths_of n h;
        few = P.few;
      }

  module _ (line : List ℕ) where
    -- A step that passes checks 2 to 6 is judged as the definitions have it.
    step_judged : (t : Step) → read_line depth line ≡ form (by t) → read_failure st (form (by t)) ≡ Ok tt → (x : Checked) →
        JudgedRight depth part state held line (step_of st.symbols line t) x → x ≡ judge (clauses st) t
    unfolding Judges step_of
    step_judged t e passes x told =
        let short = lists_short st t passes in
        told (clauses st) t st.symbols R.count (holds t.a) (holds t.b) refl e short.0 short.1

    -- What is said of a line that passes checks 2 to 6.
    passed_line : (r : Reading) (l : LineAt) → read_line depth line ≡ r → read_failure st r ≡ Ok tt → line_of st.symbols line r ≡ Some l → (x : Checked) →
        ((s : StepAt) → l ≡ By s → JudgedRight depth part state held line s x) → (((s : StepAt) → l ≡ By s → ⊥) → x ≡ Ok tt) → failure st r ≡ x
    unfolding line_of step_failure read_failure
    passed_line no_form l e passes is x told O = absurd (cc)
    passed_line (form (syntax.sym k)) l e passes is x told O = line_passed st (syntax.sym k) passes ∙ sym (O (λ s q. absurd (cc)))
    passed_line (form (input c)) l e passes is x told O = line_passed st (input c) passes ∙ sym (O (λ s q. absurd (cc)))
    passed_line (form (by t)) l e passes is x told O = line_passed st (by t) passes ∙ sym (step_judged t e passes x (told (step_of st.symbols line t) (cc)))

-- So the answer is the definitions', whatever represents a state.
module _ (depth : ℕ) (part : ℕ → List ℕ) (state : code.HeldState) (held : List Held) (line : List ℕ) where
  pub first_failed : (u : Unpassed) {r : Result LineAt Check} → r ≡ Err u.check → Sees depth state line (Err u) → FirstFailing depth part state held line r
  unfolding Sees SeenAs FirstFailing checked_line
  first_failed u e S st R Z = rw e (line_failed st (read_line depth line) u.check (S part st R).0)

  pub first_of_line : (l : LineAt) → Sees depth state line (Ok l) → ((s : StepAt) → l ≡ By s → ⊥) → FirstFailing depth part state held line (Ok l)
  unfolding Sees SeenAs FirstFailing checked_line
  first_of_line l S n st R Z =
      let seen = (S part st R).0 in
      (passed_line held R Z line (read_line depth line) l refl seen.0 seen.1 (Ok tt) (λ s q. absurd (n s q)) (λ _. refl), seen.1)

  pub step_failed : (s : StepAt) (k : Check) {r : Result LineAt Check} → r ≡ Err k → Sees depth state line (Ok (By s)) →
      JudgedRight depth part state held line s (Err k) → FirstFailing depth part state held line r
  unfolding Sees SeenAs FirstFailing checked_line
  step_failed s k e S told st R Z =
      let seen = (S part st R).0 in
      rw e (passed_line held R Z line (read_line depth line) (By s) refl seen.0 seen.1 (Err k) (λ t q. let e : s ≡ t = cc in rw (← e) told) (λ n. absurd (n s refl)))

  pub step_passed : (s : StepAt) → Sees depth state line (Ok (By s)) → JudgedRight depth part state held line s (Ok tt) →
      FirstFailing depth part state held line (Ok (By s))
  unfolding Sees SeenAs FirstFailing checked_line
  step_passed s S told st R Z =
      let seen = (S part st R).0 in
      (passed_line held R Z line (read_line depth line) (By s) refl seen.0 seen.1 (Ok tt) (λ t q. let e : s ≡ t = cc in rw (← e) told) (λ _. refl), seen.1)

  -- Of a line that is no step no more is asked.
  pub not_judged : (l : LineAt) → Ok l ≡ seen_at depth state line → ((s : StepAt) → l ≡ By s → ⊥) → Ok l ≡ checked_at depth part state held line
  unfolding checked_at then_judged line_judged checked_line
  not_judged l e n = rw (← e) (go l n)
    where
      go : (l : LineAt) → ((s : StepAt) → l ≡ By s → ⊥) → Ok l ≡ then_judged depth part state held line (Ok l)
      go (Sym k) n = refl
      go (Input c) n = refl
      go (By s) n = absurd (n s refl)

-- What `checked` asks: a check of the line fails, one of the step fails, all of a step pass, or the line is no step.
pub ruleset checking = (first_failed, step_failed, step_passed, first_of_line, not_judged)
