-- A base and a job, line after line as the code reads them: first the base alone, and where it is accepted and the two are not too large
-- together, the two in a row.
use Prim.Native.Nat.{ℕ, ◌+◌, ◌-◌, ◌≤◌, ◌<◌, min}
use mathlib.Core.Bool.{Bool, true, false, cond, ◌||◌}
use mathlib.Core.List.{List, [], ◌++◌}
use mathlib.Core.Logic.{◌⊎◌, inl, inr}
use mathlib.Core.Path.{◌≡◌, refl, sym, ap, ap₂, subst, ◌∙◌}
use native.Mathlib.Omega.{arith}
use native.Mathlib.Numerals.{add-one}
use native.Mathlib.Decide.{ℕ_discrete, dec_lt}
use borrow.Author.Tests.{eq-eqb, ne_eqb, lt-ltb, le-ltb}
use Rattle.std.proofs.Common.{Option, Some, None, Result, Ok, Err}
use lib.Dec.{T, ltb}
use lib.ListN.{length, drop, length-append, length-map, length-drop}
use lib.Seq.{drop-drop, drop-append-le}
use Rattle.logic.specs.declared.Check.{Check}
use Rattle.logic.specs.StepChecks.{Checked}
use Rattle.descent.specs.declared.Held.{Held}
use Rattle.outcome.specs.Ends.{first_without, accepted_with, ends_as, marks_as}
use Rattle.reader.specs.declared.forms.LineAt.{LineAt}
use Rattle.state.specs.declared.HeldState as code
use Rattle.state.specs.declared.Added.{Added}
use Rattle.text.specs.Read.{read_line, read_raw}
use Rattle.text.specs.Split.{Raw, split, too_large}
use Rattle.text.specs.declared.Figures.{Figures}
use Rattle.text.specs.Figures.{office, UpToOffice}
use Rattle.text.specs.Size.{first_line, part_at}
use Rattle.text.proofs.Places.{past}
use Rattle.text.proofs.Sizes.{part_on}
use Rattle.state.specs.ReadLine.{held_table, added_by, with_added}
use Rattle.state.specs.State.{State, fresh, clauses, has_constant, after, state_after}
use Rattle.state.specs.Represents.{Represents, Begins, LineStands, Adds, SeenAs}
use Rattle.meaning.specs.declared.Verdict.{Verdict}
use Rattle.meaning.specs.declared.Verdict.TheVariants.{Refuted, Open, Refused}
use Rattle.meaning.specs.Checks.{readings, state_of}
use Rattle.meaning.specs.Means.{named}
use Rattle.meaning.specs.Guarantee.{is_accepted}
use Rattle.meaning.specs.Answer.{failure, first_empty, accepted_as, finish, read_on, verdict, rests_in, rests, jointly}
use Rattle.verdict.specs.Running.{Answers, text_read, lines_before, lines_length, lines_passed, state_read, StopsAt, told, line_ahead, AheadFailing, next_at, held_with}
use Rattle.step.specs.Step.{parents_at, left_of, seam_failure, checked_at}
use Rattle.step.specs.Line.{FirstFailing}
use Rattle.verdict.proofs.Kept.{Keeps}
use Rattle.verdict.proofs.Running.{Reached, text_within, reached_first, line_refused, line_within, line_before, clause_room, line_held, reached_after, reached_end, finished, no_length, lines_left, before_next, before_end}
use Rattle.meaning.proofs.Jobs.{read_verdict, lines_append, read_joined, jointly_alone, jointly_joined, jointly_nothing}

-- Which text is read, and what is left of it at a place of the two.
pub record Alone (base : List ℕ) (at : ℕ) (text rest : List ℕ) : Type 0 where
  pub is : text ≡ base
  pub left : rest ≡ drop at base
  pub within : at ≤ length base

pub record Joined (F : Figures) (base job : List ℕ) (at : ℕ) (text rest : List ℕ) : Type 0 where
  pub is : text ≡ base ++ job
  pub left : rest ≡ drop (at - length base) job
  pub within : length base ≤ at
  pub accepted : is_accepted (verdict F base) ≡ true
  pub small : too_large F (base ++ job) ≡ false

-- A place between two lines, at a stage of the reading.
pub record Place (Stage : List ℕ → List ℕ → Type 0) (F : Figures) (base job : List ℕ) (at lines : ℕ) (state : code.HeldState) (held : List Held) : Type 0 where
  pub text : List ℕ
  pub rest : List ℕ
  pub stage : Stage text rest
  pub fits : at + length rest ≤ office.bytes
  pub within : at + length rest ≤ length base + length job
  pub reached : Reached F (part_at base job) text rest at lines state held

-- The reading came there.
abbrev pub Came : Figures → List ℕ → List ℕ → ℕ → ℕ → code.HeldState → List Held → Type 0
Came F base job at = Place (λ text rest. Alone base at text rest ⊎ (Joined F base job at text rest × (length base < at))) F base job at

-- A line is to be read there: what is left begins there, in the base or in the job.
abbrev pub Ahead : Figures → List ℕ → List ℕ → ℕ → ℕ → code.HeldState → List Held → Type 0
Ahead F base job at =
    Place (λ text rest. ((Alone base at text rest × (at < length base)) ⊎ Joined F base job at text rest) × (rest ≡ part_at base job at)) F base job at

-- What is known of a line that passes: there is room for its clause, and the reading comes to the place after it.
pub record Passes (F : Figures) (base job : List ℕ) (at lines : ℕ) (state : code.HeldState) (held : List Held) (line : LineAt) (size : ℕ) : Type 0 where
  pub room : state.clauses < office.lines
  pub within : at + size ≤ length base + length job
  pub short : at + size ≤ office.bytes
  pub some : 0 < size
  pub onward : Adds at state.inputs line (added_by at state.inputs line) →
      let added = added_by at state.inputs line in
      Came F base job (at + size) (lines + 1) (with_added state added) (held_with held state.clauses (parents_at line) added)

pub came_as : {F : Figures} {base job : List ℕ} {at lines : ℕ} {state next : code.HeldState} {held then : List Held} → Came F base job at lines state held →
    next ≡ state → then ≡ held → Came F base job at lines next then
came_as P e f = rw (e, f) P

same_pair : {a b : LineAt} {m n : ℕ} → ◌≡◌ {A = Result (LineAt × ℕ) Verdict} (Ok (a, m)) (Ok (b, n)) → (a ≡ b) × (m ≡ n)
same_pair {a} {b} {m} {n} e =
    let x : LineAt × ℕ = (a, m) in
    let y : LineAt × ℕ = (b, n) in
    let p : x ≡ y = cc in
    (ap (λ (z : LineAt × ℕ). z.0) p, ap (λ (z : LineAt × ℕ). z.1) p)

part_base : (base job : List ℕ) (at : ℕ) → at < length base → part_at base job at ≡ drop at base
unfolding part_at
part_base base job at h = rw (lt-ltb at (length base) h)

part_job : (base job : List ℕ) (at : ℕ) → length base ≤ at → part_at base job at ≡ drop (at - length base) job
unfolding part_at
part_job base job at h = rw (le-ltb at (length base) h)

-- Where the two reach, and where they end.
pub part_some : (base job : List ℕ) (at most : ℕ) → at < length base + min (length job) most → 0 < length (part_at base job at)
part_some base job at most h = go (dec_lt at (length base))
  where
    go : Dec (at < length base) → 0 < length (part_at base job at)
    go (yes l) = omega (arith, ap length (part_base base job at l), length-drop at base)
    go (no l) = omega (arith, ap length (part_job base job at (omega arith)), length-drop (at - length base) job)

part_none : (base job : List ℕ) (at : ℕ) → length base + min (length job) (office.bytes + 1) ≤ at → at ≤ office.bytes → length (part_at base job at) ≡ 0
part_none base job at h w = omega (arith, ap length (part_job base job at (omega arith)), length-drop (at - length base) job)

-- What the figures leave after the base is passed exactly where the two pass the figures.
ltb_shift : (a b c : ℕ) → a ≤ c → ltb (c - a) b ≡ ltb c (a + b)
ltb_shift a b c h = go (dec_lt c (a + b))
  where
    go : Dec (c < a + b) → ltb (c - a) b ≡ ltb c (a + b)
    go (yes l) = lt-ltb (c - a) b (omega arith) ∙ sym (lt-ltb c (a + b) l)
    go (no l) = le-ltb (c - a) b (omega arith) ∙ sym (le-ltb c (a + b) (omega arith))

left_large : (F : Figures) (base job : List ℕ) → length base ≤ F.bytes → length (split base) ≤ F.lines → split (base ++ job) ≡ split base ++ split job →
    too_large (left_of F (length base) (length (split base))) job ≡ too_large F (base ++ job)
unfolding too_large left_of
left_large F base job hb hl e =
    let x = ltb_shift (length base) (length job) F.bytes hb ∙ ap (ltb F.bytes) (sym (length-append base job)) in
    let y = ltb_shift (length (split base)) (length (split job)) F.lines hl ∙ ap (ltb F.lines) (sym (ap length e ∙ length-append (split base) (split job))) in
    ap₂ (λ p q. p || q) x y

some_accepted : (b : Bool) (c f : ℕ) → is_accepted (cond b (Refuted c f) (Open c)) ≡ true
unfolding is_accepted
some_accepted true c f = refl
some_accepted false c f = refl

finish_accepted : (st : State) → has_constant st.symbols ≡ true → is_accepted (finish st) ≡ true
unfolding finish accepted_as is_accepted
finish_accepted st e = rw e (some_accepted (ltb (first_empty (clauses st)) (length (clauses st))) (length (clauses st)) (first_empty (clauses st)))

finish_unaccepted : (st : State) → has_constant st.symbols ≡ false → finish st ≡ Refused Check.Constant 0
unfolding finish
finish_unaccepted st e = rw e

-- Where all lines have passed the verdict names none.
ends_all : (state : code.HeldState) (held : List Held) (raws : List Raw) → lines_before (ends_as state held) raws ≡ raws
unfolding ends_as accepted_with lines_before
ends_all state held raws = go (has_constant (held_table state)) (first_without held state.clauses)
  where
    go : (constant : Bool) (first : Option ℕ) → lines_before (cond constant (accepted_with state.clauses first) (Refused Check.Constant 0)) raws ≡ raws
    go false first = refl
    go true (Some first) = refl
    go true None = refl

base_passed : (base job : List ℕ) (at : ℕ) → length (part_at base job at) ≡ 0 → length base ≤ at
base_passed base job at h = go (dec_lt at (length base))
  where
    go : Dec (at < length base) → length base ≤ at
    go (yes l) = absurd (omega (arith, sym (ap length (part_base base job at l)) ∙ h, length-drop at base))
    go (no l) = omega arith

-- A refusal names no input.
refusal_answers : (F : Figures) (base job text : List ℕ) (n : Check) (l : ℕ) {ns : List ℕ} → jointly F base job ≡ text → Refused n l ≡ verdict F text → ns ≡ [] →
    Answers F base job (Refused n l) ns
unfolding rests rests_in
refusal_answers F base job text n l j v z = record { is = rw j v; names = rw (j, ← v) z }

-- What is held where the reading stopped, once the answer is known and the text whose lines are read.
abbrev pub Stopped : Figures → List ℕ → List ℕ → Verdict → List ℕ → code.HeldState → ℕ → Type 0
Stopped F base job v ns state at = Answers F base job v ns × StopsAt F base job state at

-- A base that is too large by itself.
pub large_stopped : (F : Figures) (base job : List ℕ) {ns : List ℕ} {state : code.HeldState} → too_large F base ≡ true → ns ≡ [] → Begins state → Stopped F base job (Refused Check.Size 0) ns state 0
unfolding verdict is_accepted Begins text_read lines_before lines_length lines_passed split state_read state_after
large_stopped F base job t z b =
    let w : Refused Check.Size 0 ≡ verdict F base = rw t in
    let j = jointly_alone F base job (ap is_accepted (sym w)) in
    let q : lines_passed F base job ≡ [] = rw (j, ← w, t) in
    (refusal_answers F base job base Check.Size 0 j w z, record { state = rw q (b F.depth (part_at base job)); place = rw q })

module _ {F : Figures} {base job text rest : List ℕ} {at lines : ℕ} {state : code.HeldState} {held : List Held} (P : Reached F (part_at base job) text rest at lines state held) (t : text_read F base job ≡ text)
    {v : Verdict} {ns : List ℕ} (A : Answers F base job v ns) where
  stopped : lines_before v (split text) ≡ P.passed → Stopped F base job v ns state at
  unfolding lines_passed
  stopped e =
      let q : lines_passed F base job ≡ P.passed = rw (← A.is, t) e in
      (A, record { state = rw (q, ← P.read) P.holds; place = P.place ∙ ap lines_length (sym q) })

  stopped_end : rest ≡ [] → lines_before v (split text) ≡ split text → Stopped F base job v ns state at
  stopped_end e b = stopped (b ∙ before_end P e)

stopped_line : {F : Figures} {base job text rest : List ℕ} {at lines : ℕ} {state : code.HeldState} {held : List Held} (P : Reached F (part_at base job) text rest at lines state held) →
    text_read F base job ≡ text → {n : Check} {ns : List ℕ} → Answers F base job (Refused n (lines + 1)) ns → Stopped F base job (Refused n (lines + 1)) ns state at
unfolding lines_before
stopped_line {lines = lines} P t A = stopped P t A (rw (add-one lines) (before_next P))

module _ (F : Figures) (base job : List ℕ) (u : UpToOffice F) (small : too_large F base ≡ false) where
  read_alone : jointly F base job ≡ base → text_read F base job ≡ base
  unfolding text_read
  read_alone j = rw (j, small)

  read_both : jointly F base job ≡ base ++ job → too_large F (base ++ job) ≡ false → text_read F base job ≡ base ++ job
  unfolding text_read
  read_both j s = rw (j, small, s)

  read_base : jointly F base job ≡ base ++ job → too_large F (base ++ job) ≡ true → text_read F base job ≡ base
  unfolding text_read
  read_base j s = rw (j, small, s)

  -- The answer to a text as it is read.
  text_answers : (text : List ℕ) → too_large F text ≡ false → jointly F base job ≡ text → {v : Verdict} {ns : List ℕ} →
      (v ≡ read_on fresh 1 (readings F text)) × (ns ≡ rests_in (state_of F text) v) → Answers F base job v ns
  unfolding rests
  text_answers text s j (e, g) = let w = e ∙ read_verdict F text s in record { is = rw j w; names = rw (j, ← w) g }

  pub came_first : (state : code.HeldState) (held : List Held) → Begins state → length held ≡ office.lines → Came F base job 0 0 state held
  came_first state held b l = record {
    text = base;
    rest = base;
    stage = inl (record { is = refl; left = refl; within = omega arith });
    fits = omega (arith, (text_within F base small).0, u.bytes);
    within = omega arith;
    reached = reached_first F (part_at base job) base u small state held b l;
  }

  module _ {at lines : ℕ} {state : code.HeldState} {held : List Held} (P : Came F base job at lines state held) where
    -- Where the base ends: all its lines are read.
    module _ (q : at ≡ length base) where
      base_read : Reached F (part_at base job) base [] at lines state held
      base_read = go P.stage
        where
          go : Alone base at P.text P.rest ⊎ (Joined F base job at P.text P.rest × (length base < at)) → Reached F (part_at base job) base [] at lines state held
          go (inl A) =
              let e : P.rest ≡ [] = A.left ∙ past base at (omega (arith, q)) in
              rw (A.is, e) at P.reached
          go (inr w) = absurd (omega (arith, q, w.1))

      base_lines : lines ≡ length (split base)
      unfolding split
      base_lines = omega (arith, lines_left base_read)

      abbrev st : State
      st = base_read.st

      base_verdict : verdict F base ≡ finish st
      base_verdict = sym (read_verdict F base small) ∙ (reached_end base_read refl).0

      base_taken : has_constant st.symbols ≡ true → is_accepted (verdict F base) ≡ true
      base_taken c = ap is_accepted base_verdict ∙ finish_accepted st c

      both_split : has_constant st.symbols ≡ true → split (base ++ job) ≡ split base ++ split job
      both_split c = lines_append F base small (rw (base_taken c) tt) job

      both_large : has_constant st.symbols ≡ true → too_large (left_of F (length base) lines) job ≡ too_large F (base ++ job)
      both_large c = let w = text_within F base small in rw base_lines (left_large F base job w.0 w.1 (both_split c))

      said_by : (c : Bool) → has_constant st.symbols ≡ c →
          seam_failure F state (length base) at lines job ≡ cond c (cond (too_large F (base ++ job)) (Err Check.Size) (Ok tt)) (Err Check.Constant)
      unfolding seam_failure
      said_by true c = rw (eq-eqb at (length base) q, base_read.holds.table, c, both_large c) refl
      said_by false c = rw (eq-eqb at (length base) q, base_read.holds.table, c) refl

      seam_stopped : (check : Check) → seam_failure F state (length base) at lines job ≡ Err check → {ns : List ℕ} → ns ≡ [] →
          Stopped F base job (Refused check 0) ns state at
      unfolding verdict is_accepted lines_before
      seam_stopped check N {ns} g = go (has_constant st.symbols) refl (too_large F (base ++ job)) refl
        where
          go : (c : Bool) → has_constant st.symbols ≡ c → (b : Bool) → too_large F (base ++ job) ≡ b → Stopped F base job (Refused check 0) ns state at
          go true c true b =
              let e : Err check ≡ Err Check.Size = sym N ∙ said_by true c ∙ rw b refl in
              let k : check ≡ Check.Size = cc in
              let j = jointly_joined F base job (base_taken c) in
              stopped_end base_read (read_base j b) (refusal_answers F base job (base ++ job) check 0 j (rw (b, k)) g) refl refl
          go true c false b = let e : Err check ≡ Ok tt = sym N ∙ said_by true c ∙ rw b refl in absurd (cc)
          go false c b _ =
              let e : Err check ≡ Err Check.Constant = sym N ∙ said_by false c in
              let k : check ≡ Check.Constant = cc in
              let w : Refused check 0 ≡ verdict F base = rw k (sym (base_verdict ∙ finish_unaccepted st c)) in
              let j = jointly_alone F base job (ap is_accepted (sym w)) in
              stopped_end base_read (read_alone j) (refusal_answers F base job base check 0 j w g) refl refl

      module _ (z : seam_failure F state (length base) at lines job ≡ Ok tt) where
        constant_there : has_constant st.symbols ≡ true
        constant_there = go (has_constant st.symbols) refl
          where
            go : (c : Bool) → has_constant st.symbols ≡ c → has_constant st.symbols ≡ true
            go true c = c
            go false c = let e : Ok tt ≡ Err Check.Constant = sym z ∙ said_by false c in absurd (cc)

        both_small : too_large F (base ++ job) ≡ false
        both_small = go (too_large F (base ++ job)) refl
          where
            go : (b : Bool) → too_large F (base ++ job) ≡ b → too_large F (base ++ job) ≡ false
            go true b = let e : Ok tt ≡ Err Check.Size = sym z ∙ said_by true constant_there ∙ rw b refl in absurd (cc)
            go false b = b

        job_reached : Reached F (part_at base job) (base ++ job) job at lines state held
        unfolding readings
        job_reached =
            let a : T (is_accepted (verdict F base)) = rw (base_taken constant_there) tt in
            let w = reached_end base_read refl in
            let s = both_split constant_there in
            let k : 1 + length (readings F base) ≡ lines + 1 = omega (arith, base_lines, length-map (split base) (read_raw F.depth)) in
            record {
              st = st;
              passed = base_read.passed;
              parted = s ∙ rw (before_end base_read refl);
              counted = base_read.counted;
              place = base_read.place;
              read = base_read.read;
              holds = base_read.holds;
              kept = base_read.kept;
              good = base_read.good;
              room = base_read.room;
              few = omega (arith, (text_within F (base ++ job) both_small).1, u.lines);
              onward = read_joined F base small a job ∙ rw (w.1, k);
            }

        job_ahead : Ahead F base job at lines state held
        job_ahead =
            let k : at - length base ≡ 0 = omega (arith, q) in
            let e : job ≡ drop (at - length base) job = rw k in
            let m : at + length job ≤ office.bytes = omega (arith, q, (text_within F (base ++ job) both_small).0, length-append base job, u.bytes) in
            record {
              text = base ++ job;
              rest = job;
              stage = (
                inr (record { is = refl; left = e; within = omega (arith, q); accepted = base_taken constant_there; small = both_small }),
                e ∙ sym (part_job base job at (omega (arith, q))),
              );
              fits = m;
              within = omega (arith, q);
              reached = job_reached;
            }

    pub seam_refused : (check : Check) → seam_failure F state (length base) at lines job ≡ Err check → {ns : List ℕ} → ns ≡ [] →
        Stopped F base job (Refused check 0) ns state at
    unfolding seam_failure
    seam_refused check N {ns} g = go (ℕ_discrete at (length base))
      where
        go : Dec (at ≡ length base) → Stopped F base job (Refused check 0) ns state at
        go (yes q) = seam_stopped q check N g
        go (no q) = let e : seam_failure F state (length base) at lines job ≡ Ok tt = rw (ne_eqb at (length base) q) refl in absurd (cc)

    -- A line is ahead: of the base, or of the job, whose beginning is passed.
    pub came_ahead : seam_failure F state (length base) at lines job ≡ Ok tt → Ahead F base job at lines state held
    came_ahead z = go (ℕ_discrete at (length base)) P.stage
      where
        ahead : ((Alone base at P.text P.rest × (at < length base)) ⊎ Joined F base job at P.text P.rest) × (P.rest ≡ part_at base job at) → Ahead F base job at lines state held
        ahead s = record { text = P.text; rest = P.rest; stage = s; fits = P.fits; within = P.within; reached = P.reached }

        go : Dec (at ≡ length base) → Alone base at P.text P.rest ⊎ (Joined F base job at P.text P.rest × (length base < at)) → Ahead F base job at lines state held
        go (yes q) s = job_ahead q z
        go (no q) (inl A) = let l : at < length base = omega (arith, A.within) in ahead (inl (A, l), A.left ∙ sym (part_base base job at l))
        go (no q) (inr (J, l)) = ahead (inr J, J.left ∙ sym (part_job base job at J.within))

    -- All lines are read.
    pub came_end : length base + min (length job) (office.bytes + 1) ≤ at → {v : Verdict} {marks : List Bool} (before : List Bool) → v ≡ ends_as state held →
        marks ≡ marks_as state held before → named before ≡ [] → Stopped F base job v (named marks) state at
    came_end e {v} {marks} before f m z = go P.stage
      where
        h : length (part_at base job at) ≡ 0
        h = part_none base job at e (omega (arith, P.fits))

        all : (raws : List Raw) → lines_before v raws ≡ raws
        all raws = rw f (ends_all state held raws)

        ended_by : (text : List ℕ) → too_large F text ≡ false → jointly F base job ≡ text → text_read F base job ≡ text → P.text ≡ text → P.rest ≡ [] →
            Stopped F base job v (named marks) state at
        ended_by text s j t q r =
            let R : Reached F (part_at base job) text P.rest at lines state held = rw q at P.reached in
            stopped_end R t (text_answers text s j (finished R (ap length r) before f m z)) r (all (split text))

        go : Alone base at P.text P.rest ⊎ (Joined F base job at P.text P.rest × (length base < at)) → Stopped F base job v (named marks) state at
        go (inl A) =
            let w : length base ≤ at = base_passed base job at h in
            let e : P.rest ≡ [] = A.left ∙ past base at w in
            let k : at - length base ≡ 0 = omega (arith, A.within) in
            let j : job ≡ [] = no_length job (rw (part_job base job at w, k) at h) in
            let t : jointly F base job ≡ base = rw j (jointly_nothing F base) in
            ended_by base small t (read_alone t) A.is e
        go (inr (J, l)) =
            let e : P.rest ≡ part_at base job at = J.left ∙ sym (part_job base job at J.within) in
            let t = jointly_joined F base job J.accepted in
            ended_by (base ++ job) J.small t (read_both t J.small) J.is (no_length P.rest (ap length e ∙ h))

  -- A line that is ahead, by what the checks say of it.
  module _ {at lines : ℕ} {state : code.HeldState} {held : List Held} (P : Ahead F base job at lines state held) (some : 0 < length (part_at base job at)) where
    left_some : 0 < length P.rest
    left_some = rw P.stage.1 some

    abbrev said : Checked
    said = failure P.reached.st (read_line F.depth (first_line P.rest))

    line_stopped : (check : Check) → said ≡ Err check → {ns : List ℕ} → ns ≡ [] → Stopped F base job (Refused check (lines + 1)) ns state at
    unfolding is_accepted
    line_stopped check N {ns} g = go P.stage.0
      where
        refused_by : (text : List ℕ) → too_large F text ≡ false → P.text ≡ text → Refused check (lines + 1) ≡ verdict F text
        refused_by text s q = line_refused P.reached left_some check N ∙ rw q (read_verdict F text s)

        stopped_by : (text : List ℕ) → too_large F text ≡ false → P.text ≡ text → jointly F base job ≡ text → text_read F base job ≡ text →
            Stopped F base job (Refused check (lines + 1)) ns state at
        stopped_by text s q j t = stopped_line (rw q at P.reached) t (refusal_answers F base job text check (lines + 1) j (refused_by text s q) g)

        go : (Alone base at P.text P.rest × (at < length base)) ⊎ Joined F base job at P.text P.rest → Stopped F base job (Refused check (lines + 1)) ns state at
        go (inl (A, l)) =
            let j = jointly_alone F base job (ap is_accepted (sym (refused_by base small A.is))) in
            stopped_by base small A.is j (read_alone j)
        go (inr J) =
            let j = jointly_joined F base job J.accepted in
            stopped_by (base ++ job) J.small J.is j (read_both j J.small)

    room_here : state.clauses < office.lines
    room_here = clause_room P.reached left_some

    module _ (z : said ≡ Ok tt) where
      line_stands : LineStands (part_at base job) at (first_line P.rest) state
      line_stands =
          let bytes = first_line P.rest in
          let more = drop (length bytes) P.rest in
          let l = line_within P.reached left_some z in
          record {
            small = omega (arith, P.fits, l);
            rest = more;
            stands = λ k h.
                let m : k < length P.rest = omega (arith, l) in
                part_on base job at k (subst (λ x. k < length x) P.stage.1 m) ∙ ap (drop k) (sym P.stage.1 ∙ line_before P.reached left_some z) ∙ drop-append-le k bytes more (omega arith);
            room = room_here;
          }

      -- The place after the line.
      line_after : (at + (length (first_line P.rest) + 1) ≤ length base + length job) × (at + (length (first_line P.rest) + 1) ≤ office.bytes)
      line_after = let l = line_within P.reached left_some z in (omega (arith, P.within, l), omega (arith, P.fits, l))

      module _ (a : Added) (A : Represents F.depth (part_at base job) (with_added state a) (after P.reached.st (read_line F.depth (first_line P.rest))))
          {held' : List Held} (B : Keeps (after P.reached.st (read_line F.depth (first_line P.rest))) held') where
        came_after : Came F base job (at + (length (first_line P.rest) + 1)) (lines + 1) (with_added state a) held'
        came_after =
            let k = length (first_line P.rest) + 1 in
            let l = line_within P.reached left_some z in
            let m = length-drop k P.rest in
            record {
              text = P.text;
              rest = drop k P.rest;
              stage = go k (omega (arith, l)) P.stage.0;
              fits = omega (arith, P.fits, m, l);
              within = omega (arith, P.within, m, l);
              reached = reached_after P.reached left_some z a A B;
            }
          where
            go : (k : ℕ) → (0 < k) × (k ≤ length P.rest) → (Alone base at P.text P.rest × (at < length base)) ⊎ Joined F base job at P.text P.rest →
                Alone base (at + k) P.text (drop k P.rest) ⊎ (Joined F base job (at + k) P.text (drop k P.rest) × (length base < at + k))
            go k (o, l) (inl (S, h)) =
                inl (record {
                  is = S.is;
                  left = ap (drop k) S.left ∙ drop-drop k at base;
                  within = omega (arith, ap length S.left, length-drop at base);
                })
            go k (o, l) (inr J) =
                let e : at + k - length base ≡ (at - length base) + k = omega (arith, J.within) in
                inr (
                  record {
                    is = J.is;
                    left = rw e (ap (drop k) J.left ∙ drop-drop k (at - length base) job);
                    within = omega (arith, J.within);
                    accepted = J.accepted;
                    small = J.small;
                  },
                  omega (arith, J.within),
                )

  -- The next line, where the reading came to a place that is not past the two texts.
  module _ {at lines : ℕ} {state : code.HeldState} {held : List Held} (P : Came F base job at lines state held)
      (below : at < length base + min (length job) (office.bytes + 1))
      (first : AheadFailing F base job state held at lines) where
    some : 0 < length (part_at base job at)
    some = part_some base job at (office.bytes + 1) below

    module _ (q : seam_failure F state (length base) at lines job ≡ Ok tt) where
      abbrev ahead : Ahead F base job at lines state held
      ahead = came_ahead P q

      seen : {read : Result LineAt Check} → checked_at F.depth (part_at base job) state held (line_ahead base job at) ≡ read →
          SeenAs ahead.reached.st (first_line ahead.rest) (read_line F.depth (first_line ahead.rest)) (failure ahead.reached.st (read_line F.depth (first_line ahead.rest))) read
      unfolding FirstFailing
      seen e =
          let w = first q ahead.reached.st ahead.reached.holds ahead.reached.kept.sized in
          rw (ahead.stage.1, ← e) w

    -- It is refused.
    pub next_refused : {v : Verdict} {ns : List ℕ} → Err v ≡ next_at F base job state held at lines → ns ≡ [] → Stopped F base job v ns state at
    unfolding next_at told SeenAs
    next_refused {v} {ns} e g =
        go (seam_failure F state (length base) at lines job) refl (checked_at F.depth (part_at base job) state held (line_ahead base job at)) refl e
      where
        go : (s : Checked) → seam_failure F state (length base) at lines job ≡ s → (read : Result LineAt Check) →
            checked_at F.depth (part_at base job) state held (line_ahead base job at) ≡ read →
            Err v ≡ told s read (length (line_ahead base job at) + 1) (lines + 1) → Stopped F base job v ns state at
        go (Err check) q read r e = let k : v ≡ Refused check 0 = cc in rw k (seam_refused P check q g)
        go (Ok tt) q (Err check) r e = let k : v ≡ Refused check (lines + 1) = cc in rw k (line_stopped (ahead q) some check (seen q r) g)
        go (Ok tt) q (Ok l) r e = absurd (cc)

    pub next_passes : {line : LineAt} {size : ℕ} → Ok (line, size) ≡ next_at F base job state held at lines → Passes F base job at lines state held line size
    unfolding next_at told SeenAs
    next_passes {line} {size} e =
        go (seam_failure F state (length base) at lines job) refl (checked_at F.depth (part_at base job) state held (line_ahead base job at)) refl e
      where
        passes : (q : seam_failure F state (length base) at lines job ≡ Ok tt) → checked_at F.depth (part_at base job) state held (line_ahead base job at) ≡ Ok line →
            size ≡ length (line_ahead base job at) + 1 → Passes F base job at lines state held line size
        passes q r n =
            let A = ahead q in
            let w = seen q r in
            let m : size ≡ length (first_line A.rest) + 1 = n ∙ ap (λ x. length (first_line x) + 1) (sym A.stage.1) in
            let f = line_after A some w.0 in
            rw m (record {
              room = room_here A some;
              within = f.0;
              short = f.1;
              some = omega arith;
              onward = λ adds.
                  let K = line_held A.reached w.0 line w.1 (line_stands A some w.0) adds in
                  came_after A some w.0 (added_by at state.inputs line) K.0 K.1;
            })

        go : (s : Checked) → seam_failure F state (length base) at lines job ≡ s → (read : Result LineAt Check) →
            checked_at F.depth (part_at base job) state held (line_ahead base job at) ≡ read →
            Ok (line, size) ≡ told s read (length (line_ahead base job at) + 1) (lines + 1) → Passes F base job at lines state held line size
        go (Err check) q read r e = absurd (cc)
        go (Ok tt) q (Err check) r e = absurd (cc)
        go (Ok tt) q (Ok l) r e =
            let w = same_pair e in
            passes q (r ∙ ap Ok (sym w.0)) w.1
