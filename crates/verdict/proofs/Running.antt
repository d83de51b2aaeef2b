-- The lines of a text one after the other, as the code reads them: the state that it holds represents the state of the definitions, over
-- whatever gives what stands from each place on.
use Prim.Native.Nat.{ℕ, suc, ◌+◌, ◌≤◌, ◌<◌}
use mathlib.Core.Bool.{Bool, true, false, ◌||◌, true≢false}
use mathlib.Core.List.{List, [], ◌∷◌, ◌++◌, map, map-append, append_assoc, append-nil}
use mathlib.Core.Path.{◌≡◌, refl, sym, ap, ◌∙◌}
use native.Mathlib.Omega.{arith}
use native.Mathlib.Numerals.{add-one}
use native.Mathlib.Decide.{dec_lt}
use borrow.Author.Tests.{ltb-false}
use Rattle.std.proofs.Common.{Some, Ok, Err}
use lib.Dec.{T, ltb}
use lib.ListN.{length, set, take, drop, length-append, length-map, take-append-drop}
use lib.Seq.{get_or-set_same, get_or-set_other, take_at}
use Rattle.logic.specs.Syntax.{Step, Line, by, input}
use Rattle.logic.specs.Syntax as syntax
use Rattle.logic.proofs.Descending.{given_falls}
use Rattle.logic.specs.declared.Check.{Check}
use Rattle.logic.specs.StepChecks.{Checked}
use Rattle.descent.specs.declared.Held.{Held}
use Rattle.descent.specs.Walk.{parents_of, parents_held, nothing_held, HeldFrom}
use Rattle.outcome.specs.Ends.{ends_as, marks_as}
use Rattle.state.specs.declared.HeldState as code
use Rattle.state.specs.declared.Added.{Added}
use Rattle.text.specs.Form.{Reading, form, no_form}
use Rattle.text.specs.Read.{strip, one_of, read_form, whole, read_line, read_raw}
use Rattle.text.specs.Split.{Raw, ended, unended, split, too_large}
use Rattle.text.specs.declared.Figures.{Figures}
use Rattle.text.specs.Figures.{office, UpToOffice}
use Rattle.text.specs.Size.{line_length, first_line}
use Rattle.reader.specs.declared.forms.LineAt.{LineAt}
use Rattle.reader.specs.declared.forms.LineAt.TheVariants.{Sym, By}
use Rattle.reader.specs.LineAt.{step_of, line_of}
use Rattle.state.specs.ReadLine.{clause_added, added_by, with_added}
use Rattle.state.specs.State.{State, fresh, claim_of, clauses, advance, ordered, after, state_after}
use Rattle.state.specs.Failure.{line_failure, read_failure}
use Rattle.state.proofs.StateCode.{passed_both}
use Rattle.state.specs.Represents.{Represents, Begins, LineStands, Adds}
use Rattle.text.proofs.Sizes.{bytes_ended, bytes_unended, bytes_length, split_at, split_over}
use Rattle.meaning.specs.declared.Verdict.{Verdict}
use Rattle.meaning.specs.declared.Verdict.TheVariants.{Refused}
use Rattle.meaning.specs.Checks.{readings, state_of}
use Rattle.meaning.specs.Means.{named}
use Rattle.meaning.specs.Answer.{failure, finish, refused_or, read_on, rests_in}
use Rattle.step.specs.Step.{parents_at}
use Rattle.step.proofs.Judging.{read_passes}
use Rattle.verdict.specs.Running.{lines_length, state_read, held_with}
use Rattle.verdict.proofs.Kept.{Keeps, held_length, sizes_with}
use Rattle.verdict.proofs.Ends.{clause_count, ends_held, marks_held}
use Rattle.meaning.proofs.Jobs.{state_append}
use Rattle.meaning.proofs.Entailed.{Good, good_fresh, good_after, empty_list}

-- The first line of what is left to read.
split_unended : (text : List ℕ) → 0 < length text → length text ≤ line_length text → split text ≡ unended text ∷ []
split_unended [] h l = absurd (omega arith)
split_unended (b ∷ bs) h l = split_over b bs l

first_raw : {x y : Raw} {xs ys : List Raw} → x ∷ xs ≡ y ∷ ys → x ≡ y
first_raw e = cc

no_bytes : (depth : ℕ) → read_line depth [] ≡ no_form
unfolding read_line read_form one_of strip whole
no_bytes depth = refl

-- "Bytes after the last line end form one more line, which isn't a form": no more than none are.
module _ (text : List ℕ) (h : 0 < length text) where
  raw_read : (depth : ℕ) (raw : Raw) (raws : List Raw) → split text ≡ raw ∷ raws → read_raw depth raw ≡ read_line depth (first_line text)
  unfolding read_raw
  raw_read depth raw raws q = go (dec_lt (line_length text) (length text))
    where
      go : Dec (line_length text < length text) → read_raw depth raw ≡ read_line depth (first_line text)
      go (yes l) = rw (first_raw (sym q ∙ split_at text l), bytes_ended text l)
      go (no l) = rw (first_raw (sym q ∙ split_unended text h (omega arith)), bytes_unended text (omega arith), no_bytes depth)

  some_line : (raw : Raw) × (raws : List Raw) × (split text ≡ raw ∷ raws)
  some_line = go (dec_lt (line_length text) (length text))
    where
      go : Dec (line_length text < length text) → (raw : Raw) × (raws : List Raw) × (split text ≡ raw ∷ raws)
      go (yes l) = (_, _, split_at text l)
      go (no l) = (_, _, split_unended text h (omega arith))

-- A line is at most one clause more.
clauses_after : (st : State) (r : Reading) → length (clauses (after st r)) ≤ length (clauses st) + 1
unfolding clauses after advance
clauses_after st no_form = omega arith
clauses_after st (form (syntax.sym k)) = omega arith
clauses_after st (form (input c)) =
    omega (arith, length-append (st.inputs ++ (c ∷ [])) (map claim_of st.steps), length-append st.inputs (c ∷ []), length-append st.inputs (map claim_of st.steps))
clauses_after st (form (by s)) =
    omega (
      arith,
      length-append st.inputs (map claim_of (st.steps ++ (s ∷ []))),
      length-append st.inputs (map claim_of st.steps),
      length-map (st.steps ++ (s ∷ [])) claim_of,
      length-map st.steps claim_of,
      length-append st.steps (s ∷ []),
    )

pub no_length : (xs : List ℕ) → length xs ≡ 0 → xs ≡ []
no_length [] e = refl
no_length (x ∷ xs) e = absurd (omega arith)

-- A place between two lines of a text, what is left of it given: what is held represents the state after the lines that passed, which the
-- rules give, with no more clauses than lines, and reading on from that state is reading the text.
pub record Reached (F : Figures) (part : ℕ → List ℕ) (text rest : List ℕ) (at lines : ℕ) (state : code.HeldState) (held : List Held) : Type 0 where
  pub st : State
  pub passed : List Raw
  pub parted : split text ≡ passed ++ split rest
  pub counted : length passed ≡ lines
  pub place : at ≡ lines_length passed
  pub read : st ≡ state_read F passed
  pub holds : Represents F.depth part state st
  pub kept : Keeps st held
  pub good : Good st
  pub room : state.clauses ≤ lines
  pub few : length (split text) ≤ office.lines
  pub onward : read_on fresh 1 (readings F text) ≡ read_on st (lines + 1) (readings F rest)

length_lines : (xs ys : List Raw) → lines_length (xs ++ ys) ≡ lines_length xs + lines_length ys
unfolding lines_length
length_lines [] ys = omega arith
length_lines (ended w ∷ xs) ys = omega (arith, length_lines xs ys)
length_lines (unended w ∷ xs) ys = omega (arith, length_lines xs ys)

neither : (a b : Bool) → a || b ≡ false → (a ≡ false) × (b ≡ false)
neither true b e = absurd (true≢false e)
neither false b e = (refl, e)

pub text_within : (F : Figures) (text : List ℕ) → too_large F text ≡ false → (length text ≤ F.bytes) × (length (split text) ≤ F.lines)
unfolding too_large
text_within F text e =
    let (b, l) = neither (ltb F.bytes (length text)) (ltb F.lines (length (split text))) e in
    (ltb-false F.bytes (length text) b, ltb-false F.lines (length (split text)) l)

pub reached_first : (F : Figures) (part : ℕ → List ℕ) (text : List ℕ) → UpToOffice F → too_large F text ≡ false → (state : code.HeldState) (held : List Held) →
    Begins state → length held ≡ office.lines → Reached F part text text 0 0 state held
unfolding Begins fresh clauses HeldFrom lines_length state_read state_after
reached_first F part text u e state held b l =
    let R = b F.depth part in
    record {
      st = fresh;
      passed = [];
      parted = refl;
      counted = refl;
      place = refl;
      read = refl;
      holds = R;
      kept = record {
        parents = tt;
        sized = record { literals_room = length-map held _ ∙ l; widths_room = length-map held _ ∙ l; literals_of = λ n h. absurd (omega arith); widths_of = λ n h. absurd (omega arith) };
      };
      good = good_fresh;
      room = omega (arith, R.count);
      few = omega (arith, (text_within F text e).1, u.lines);
      onward = refl;
    }

module _ {F : Figures} {part : ℕ → List ℕ} {text rest : List ℕ} {at lines : ℕ} {state : code.HeldState} {held : List Held} (P : Reached F part text rest at lines state held) where
  pub lines_left : lines + length (split rest) ≡ length (split text)
  lines_left = omega (arith, P.counted, ap length P.parted, length-append P.passed (split rest))

  -- The lines before the next one are those that passed.
  pub before_next : take lines (split text) ≡ P.passed
  before_next = rw P.parted (take_at P.passed (split rest) lines P.counted)

  pub before_end : rest ≡ [] → split text ≡ P.passed
  unfolding split
  before_end e = P.parted ∙ rw (e, append-nil)

module _ {F : Figures} {part : ℕ → List ℕ} {text rest : List ℕ} {at lines : ℕ} {state : code.HeldState} {held : List Held} (P : Reached F part text rest at lines state held)
    (h : 0 < length rest) where
  -- What the checks say of the next line.
  abbrev said : Checked
  said = failure P.st (read_line F.depth (first_line rest))

  raw_said : (raw : Raw) (raws : List Raw) → split rest ≡ raw ∷ raws → failure P.st (read_raw F.depth raw) ≡ said
  raw_said raw raws q = ap (failure P.st) (raw_read rest h F.depth raw raws q)

  refused : (c : Check) (raw : Raw) (raws : List Raw) → split rest ≡ raw ∷ raws → said ≡ Err c → read_on P.st (lines + 1) (readings F rest) ≡ Refused c (lines + 1)
  unfolding readings read_on refused_or
  refused c raw raws q e = rw (q, raw_said raw raws q, e)

  pub line_refused : (c : Check) → said ≡ Err c → Refused c (lines + 1) ≡ read_on fresh 1 (readings F text)
  line_refused c e = let (raw, raws, q) = some_line rest h in sym (P.onward ∙ refused c raw raws q e)

  pub clause_room : state.clauses < office.lines
  clause_room = let (raw, raws, q) = some_line rest h in omega (arith, P.room, lines_left P, P.few, ap length q)

  module _ (z : said ≡ Ok tt) where
    line_is_ended : line_length rest < length rest
    unfolding failure
    line_is_ended = go (dec_lt (line_length rest) (length rest))
      where
        go : Dec (line_length rest < length rest) → line_length rest < length rest
        go (yes l) = l
        go (no l) =
            let e : said ≡ Err Check.Form = ap (failure P.st) (ap (read_line F.depth) (bytes_unended rest (omega arith)) ∙ no_bytes F.depth) in
            absurd (cc)

    pub line_within : length (first_line rest) < length rest
    line_within = let l = line_is_ended in omega (arith, bytes_length rest l)

    pub line_before : rest ≡ first_line rest ++ drop (length (first_line rest)) rest
    line_before =
        let l = line_is_ended in
        rw (bytes_length rest l, bytes_ended rest l) (sym (take-append-drop (line_length rest) rest))

    went_on : (raw : Raw) (raws : List Raw) → split rest ≡ raw ∷ raws →
        read_on P.st (lines + 1) (readings F rest) ≡ read_on (after P.st (read_raw F.depth raw)) (suc (lines + 1)) (map (read_raw F.depth) raws)
    unfolding readings read_on refused_or
    went_on raw raws q = rw (q, raw_said raw raws q, z)

    module _ (a : Added) (A : Represents F.depth part (with_added state a) (after P.st (read_line F.depth (first_line rest))))
        {held' : List Held} (B : Keeps (after P.st (read_line F.depth (first_line rest))) held') where
      pub reached_after : Reached F part text (drop (length (first_line rest) + 1) rest) (at + (length (first_line rest) + 1)) (lines + 1) (with_added state a) held'
      unfolding readings state_after state_read lines_length
      reached_after =
          let l = line_is_ended in
          let raw = ended (take (line_length rest) rest) in
          let raws = split (drop (length (first_line rest) + 1) rest) in
          let q : split rest ≡ raw ∷ raws = rw (bytes_length rest l) (split_at rest l) in
          let e = raw_read rest h F.depth raw raws q in
          let R : Represents F.depth part (with_added state a) (after P.st (read_raw F.depth raw)) = rw e A in
          record {
            st = after P.st (read_raw F.depth raw);
            passed = P.passed ++ (raw ∷ []);
            parted = P.parted ∙ rw (q, append_assoc);
            counted = omega (arith, P.counted, length-append P.passed (raw ∷ []));
            place = omega (arith, P.place, length_lines P.passed (raw ∷ []), ap length (bytes_ended rest l));
            read = rw (map-append, state_append, ← P.read);
            holds = R;
            kept = rw e B;
            good = rw e (good_after F P.st (read_line F.depth (first_line rest)) P.good z);
            room = omega (arith, R.count, P.holds.count, P.room, clauses_after P.st (read_raw F.depth raw));
            few = P.few;
            onward = P.onward ∙ went_on raw raws q ∙ rw (add-one (lines + 1));
          }

-- The parents that a line uses are held with the others.
held_last : (n : ℕ) (held : List Held) (ss : List Step) (s : Step) → HeldFrom n held ss → parents_held held (n + length ss) ≡ parents_of s → HeldFrom n held (ss ++ (s ∷ []))
unfolding HeldFrom
held_last n held [] s w e = let z : n + 0 ≡ n = omega arith in (rw z at e, tt)
held_last n held (t ∷ ss) s w e = let z : n + suc (length ss) ≡ suc n + length ss = omega arith in (w.0, held_last (suc n) held ss s w.1 (rw z at e))

held_set : (n : ℕ) (held : List Held) (ss : List Step) (m : ℕ) (x : Held) → n + length ss ≤ m → HeldFrom n held ss → HeldFrom n (set held m x) ss
unfolding HeldFrom
held_set n held [] m x h w = tt
held_set n held (s ∷ ss) m x h w =
    (ap (λ (c : Held). c.parents) (get_or-set_other held m n x nothing_held (λ e. absurd (omega arith))) ∙ w.0, held_set (suc n) held ss m x (omega arith) w.1)

in_order : (st : State) (l : Line) → read_failure st (form l) ≡ Ok tt → T (ordered st l)
unfolding read_failure line_failure
in_order st l z = (passed_both (ordered st l) _ Check.Order z).0

-- What is held of the clauses, after a line that passes.
held_after : (st : State) (r : Reading) (table bytes : List ℕ) (l : LineAt) (start inputs : ℕ) (held : List Held) → read_failure st r ≡ Ok tt →
    line_of table bytes r ≡ Some l → length (clauses st) < length held → HeldFrom (length st.inputs) held st.steps →
    HeldFrom (length (after st r).inputs) (held_with held (length (clauses st)) (parents_at l) (added_by start inputs l)) (after st r).steps
unfolding after advance read_failure ordered HeldFrom line_of step_of parents_at added_by clause_added held_with
held_after st no_form table bytes l start inputs held z is h w = absurd (cc)
held_after st (form (syntax.sym k)) table bytes l start inputs held z is h w = let e : l ≡ Sym k = cc in rw e w
held_after st (form (input c)) table bytes l start inputs held z is h w = rw (empty_list st.steps (in_order st (input c) z)) tt
held_after st (form (by s)) table bytes l start inputs held z is h w =
    let e : l ≡ By (step_of table bytes s) = cc in
    rw e
    (held_last (length st.inputs) _ st.steps s (held_set (length st.inputs) held st.steps (length (clauses st)) _ (omega (arith, clause_count st)) w)
    (rw (← clause_count st) (ap (λ (c : Held). c.parents) (get_or-set_same held (length (clauses st)) _ nothing_held h))))

module _ {F : Figures} {part : ℕ → List ℕ} {text rest : List ℕ} {at lines : ℕ} {state : code.HeldState} {held : List Held} (P : Reached F part text rest at lines state held) where
  pub held_within : state.clauses ≤ office.lines
  held_within = omega (arith, P.room, lines_left P, P.few)

  -- All lines are read.
  pub reached_end : length rest ≡ 0 → (read_on fresh 1 (readings F text) ≡ finish P.st) × (state_of F text ≡ P.st)
  unfolding readings split read_on state_of state_read
  reached_end h =
      let e : rest ≡ [] = no_length rest h in
      (P.onward ∙ rw e, rw (before_end P e, ← P.read))

  pub finished : length rest ≡ 0 → {v : Verdict} {marks : List Bool} (before : List Bool) → v ≡ ends_as state held → marks ≡ marks_as state held before →
      named before ≡ [] → (v ≡ read_on fresh 1 (readings F text)) × (named marks ≡ rests_in (state_of F text) v)
  finished h before e m z =
      let st = P.st in
      let falls = given_falls st.symbols st.inputs st.steps P.good.given in
      let q = e ∙ ends_held P.holds P.kept falls held_within in
      let (w, g) = reached_end h in
      (q ∙ sym w, ap named m ∙ marks_held P.holds P.kept falls held_within before z ∙ rw (g, q))

  -- What is held once the next line passes.
  module _ (z : failure P.st (read_line F.depth (first_line rest)) ≡ Ok tt) (l : LineAt) (is : line_of P.st.symbols (first_line rest) (read_line F.depth (first_line rest)) ≡ Some l)
      {start : ℕ} (L : LineStands part start (first_line rest) state) (A : Adds start state.inputs l (added_by start state.inputs l)) where
    abbrev next : State
    next = after P.st (read_line F.depth (first_line rest))

    abbrev more : Added
    more = added_by start state.inputs l

    passes : read_failure P.st (read_line F.depth (first_line rest)) ≡ Ok tt
    passes = read_passes P.st (read_line F.depth (first_line rest)) z

    pub line_held : Represents F.depth part (with_added state more) next × Keeps next (held_with held state.clauses (parents_at l) more)
    unfolding Adds
    line_held =
        let added = A F.depth part (first_line rest) state P.st P.holds L refl is passes in
        let long = held_length P.st held P.kept.sized in (
          added.0,
          record {
            parents = rw P.holds.count (held_after P.st (read_line F.depth (first_line rest)) P.st.symbols (first_line rest) l start state.inputs held passes is (omega (arith, P.holds.count, L.room, long)) P.kept.parents);
            sized = sizes_with P.st next held state.clauses (parents_at l) more added.1 P.kept.sized;
          },
        )
