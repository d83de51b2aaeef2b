-- The state that the code holds represents the state of the definitions, line after line.
use Prim.Native.Nat.{ℕ, ◌+◌, ◌≤◌, ◌<◌}
use mathlib.Core.Path.{◌≡◌, refl, sym, ◌∙◌, ap, subst}
use mathlib.Core.Bool.{◌&&◌}
use mathlib.Core.List.{List, [], ◌∷◌, ◌++◌, map, map-append, append_assoc, append-nil}
use native.Mathlib.Omega.{arith}
use native.Mathlib.Decide.{ℕ_discrete}
use native.Mathlib.Numerals.{add-one}
use borrow.Author.Tests.{eq-eqb, ne_eqb, lt-ltb, le-leb}
use lib.Dec.{T, leb, ltb, eqb, eqb-suc-zero, leb→le, ltb→lt}
use lib.ListN.{length, get_or, drop, set, length-append, length-set, length-drop, get_or-append}
use lib.Seq.{take-suc-set, get_or-set_same, get_or-set_other, get_or-append_seam}
use Rattle.logic.specs.Syntax.{Clause, Step, Line, input, by}
use Rattle.logic.specs.Syntax as syntax
use Rattle.logic.specs.Each.{width}
use Rattle.logic.proofs.Both.{right}
use Rattle.state.specs.declared.HeldState as code
use Rattle.state.specs.declared.Added.{Added}
use Rattle.state.specs.declared.Unpassed.{Unpassed}
use Rattle.std.specs.Prelude.{Option, Some, None, Result, Ok, Err}
use Rattle.logic.specs.declared.Check.{Check}
use Rattle.logic.specs.StepChecks.{Checked}
use Rattle.text.specs.Write.{put_clause}
use Rattle.text.specs.Form.{Reading, form, no_form, formed_number, formed_terms, formed_clause, formed_step, formed_line}
use Rattle.text.specs.Read.{read_line}
use Rattle.text.specs.Figures.{office, max_symbols, max_parts}
use Rattle.state.specs.State.{State, fresh, claim_of, clauses, advance, is_empty, ordered, constant_ready, clause_fits, list_fits, within_limits, symbols_declared, after}
use Rattle.state.specs.Failure.{line_failure, read_failure}
use Rattle.reader.specs.Summary.{of_clause, joined, bounds, clause_measure}
use Rattle.reader.specs.LineAt.{from_clause, place_of, step_of, line_of}
use Rattle.state.specs.ReadLine.{fresh_state, held_table, clause_failure, step_bounds, step_failure, failure_of, passing, seen_by, seen_at, placed, byte_of, counted, clause_added, added_by, symbol_held, clause_held, with_added}
use Rattle.state.specs.Represents.{Stands, Represents, Sized, Begins, SeenAs, checked_line, line_read, Sees, LineStands, SizesAdded, Adds}
use Rattle.text.proofs.Plain.{clause_plain, in_front}
use Rattle.text.proofs.Sound.{line_sound}
use Rattle.reader.proofs.LineParts.{input_place, claim_place}
use Rattle.reader.proofs.Bounds.{tell_terms, tell_clause, width_told, none_unknown, declared_told}
use Rattle.state.proofs.Limits.{and_comm, input_limits, step_limits, clause_small, clause_few}
use Rattle.text.proofs.Tests.{T_and}
use Rattle.reader.specs.declared.forms.LineAt.{LineAt}
use Rattle.reader.specs.declared.forms.LineAt.TheVariants.{Sym, Input, By}
use Rattle.state.proofs.StateCode.{passed_both}

pub fresh_begins : Begins fresh_state
unfolding Begins fresh_state fresh held_table clauses
fresh_begins depth part = record {
  counts_room = refl;
  starts_room = refl;
  table = refl;
  symbols = refl;
  inputs = refl;
  count = refl;
  places = λ n h. absurd (omega arith);
}

-- Empty lists, by their lengths.
no_clauses : (is : List Clause) (ss : List Step) → eqb (length (is ++ map claim_of ss)) 0 ≡ is_empty is && is_empty ss
unfolding is_empty
no_clauses [] [] = refl
no_clauses [] (s ∷ ss) = eqb-suc-zero (length (map claim_of ss))
no_clauses (i ∷ is) ss = eqb-suc-zero (length (is ++ map claim_of ss))

no_steps : (is : List Clause) (ss : List Step) → eqb (length (is ++ map claim_of ss)) (length is) ≡ is_empty ss
unfolding is_empty
no_steps is [] = eq-eqb _ _ (ap length (append-nil is))
no_steps is (s ∷ ss) = ne_eqb (length (is ++ claim_of s ∷ map claim_of ss)) (length is) (λ e. omega (arith, length-append is (claim_of s ∷ map claim_of ss)))

module _ {depth : ℕ} {part : ℕ → List ℕ} {held : code.HeldState} {st : State} (R : Represents depth part held st) (bytes : List ℕ) where
  -- Checks 3 to 6 by what is held are those of the definitions.
  sym_failure : (k : ℕ) → failure_of held (Sym k) ≡ read_failure st (form (syntax.sym k))
  unfolding failure_of read_failure line_failure ordered constant_ready within_limits symbols_declared clauses
  sym_failure k =
      rw (R.count, R.symbols, no_clauses st.inputs st.steps, and_comm (ltb (length st.symbols) max_symbols) (leb k max_parts)) refl

  input_failure : (c : Clause) →
      failure_of held (Input (record { start = place_of bytes (from_clause c); measure = clause_measure st.symbols c })) ≡ read_failure st (form (input c))
  unfolding failure_of clause_failure read_failure line_failure ordered constant_ready within_limits symbols_declared clauses
  input_failure c =
      rw (R.table, R.count, R.inputs, no_steps st.inputs st.steps, input_limits st.symbols c, tell_clause (declared_told st.symbols) c) refl

  step_failure_lem : (s : Step) → failure_of held (By (step_of st.symbols bytes s)) ≡ read_failure st (form (by s))
  unfolding failure_of step_failure step_bounds clause_failure read_failure line_failure ordered constant_ready within_limits symbols_declared step_of joined
  step_failure_lem s =
      rw (
        R.table,
        step_limits st.symbols bytes s,
        none_unknown,
        none_unknown,
        tell_terms (declared_told st.symbols) s.first,
        tell_terms (declared_told st.symbols) s.second,
        tell_clause (declared_told st.symbols) s.claim,
      ) refl

  -- What is said of a line that was read, and that it is that line, whether it passes or not.
  abbrev SeenRead : Reading → Checked → Result LineAt Unpassed → Type 0
  SeenRead r w x = SeenAs st bytes r w (checked_line x) × (line_read x ≡ line_of st.symbols bytes r)

  seen_as : (r : Reading) (l : LineAt) (w w' : Checked) → w ≡ w' → line_of st.symbols bytes r ≡ Some l → SeenRead r w' (seen_by w l)
  unfolding SeenAs seen_by checked_line line_read
  seen_as r l (Ok u) w' e o = ((sym e, o), sym o)
  seen_as r l (Err c) w' e o = (sym e, sym o)

  held_seen : (r : Reading) → SeenRead r (read_failure st r) (passing held (line_of st.symbols bytes r))
  unfolding SeenAs read_failure passing line_of checked_line line_read
  held_seen no_form = (refl, refl)
  held_seen (form (syntax.sym k)) = seen_as (form (syntax.sym k)) _ _ _ (sym_failure k) refl
  held_seen (form (input c)) = seen_as (form (input c)) _ _ _ (input_failure c) refl
  held_seen (form (by s)) = seen_as (form (by s)) _ _ _ (step_failure_lem s) refl

line_seen : (depth : ℕ) (held : code.HeldState) (bytes : List ℕ) → Sees depth held bytes (seen_at depth held bytes)
unfolding Sees seen_at
line_seen depth held bytes part st R = rw R.table (held_seen R bytes (read_line depth bytes))

-- What is seen of a line by the code is what the definitions say.
pub line_sees : (depth : ℕ) (held : code.HeldState) (bytes : List ℕ) (r : Result LineAt Unpassed) → r ≡ seen_at depth held bytes → Sees depth held bytes r
line_sees depth held bytes r e = rw e (line_seen depth held bytes)

-- What holds of each number held and its clause holds with one more of both.
module _ (cs : List Clause) (c : Clause) (xs : List ℕ) (x n : ℕ) (count : n ≡ length cs) (room : n < length xs) (Q : ℕ → Clause → Type 0) (new : Q x c) (old : (m : ℕ) → m < length cs → Q (get_or xs m 0) (get_or cs m [])) where
  new_held : Q (get_or (set xs n x) (length cs) 0) (get_or (cs ++ (c ∷ [])) (length cs) [])
  new_held = rw (← count, get_or-set_same xs n x 0 room, count, get_or-append_seam cs c [] []) new

  old_held : (m : ℕ) → m < length cs → Q (get_or (set xs n x) m 0) (get_or (cs ++ (c ∷ [])) m [])
  old_held m h = rw (get_or-set_other xs n m x 0 (λ q. omega (arith, count)), get_or-append cs (c ∷ []) [] m h) (old m h)

  each_held : (ds : List Clause) → ds ≡ cs ++ (c ∷ []) → (m : ℕ) → m < length ds → Q (get_or (set xs n x) m 0) (get_or ds m [])
  each_held ds e m h = go (ℕ_discrete m (length cs))
    where
      go : Dec (m ≡ length cs) → Q (get_or (set xs n x) m 0) (get_or ds m [])
      go (yes q) = rw (q, e) new_held
      go (no q) = rw e (old_held m (omega (arith, ap length e, length-append cs (c ∷ []))))

-- One number more, for one clause more.
module _ (st st' : State) (c : Clause) (e : clauses st' ≡ clauses st ++ (c ∷ [])) {n : ℕ} (count : n ≡ length (clauses st)) (full : n < office.lines) where
  one_more : (xs : List ℕ) (x : ℕ) → length xs ≡ office.lines → (Q : ℕ → Clause → Type 0) → Q x c → ((m : ℕ) → m < length (clauses st) → Q (get_or xs m 0) (get_or (clauses st) m [])) →
      (m : ℕ) → m < length (clauses st') → Q (get_or (set xs n x) m 0) (get_or (clauses st') m [])
  one_more xs x r Q new old = each_held (clauses st) c xs x n count (omega arith) Q new old (clauses st') e

  -- Its number of literals and its width.
  sized_more : {literals wide : ℕ} {ls ws : List ℕ} → literals ≡ length c → wide ≡ width c → Sized st ls ws → Sized st' (set ls n literals) (set ws n wide)
  sized_more {literals} {wide} {ls} {ws} el ew S = record {
    literals_room = length-set ls n literals ∙ S.literals_room;
    widths_room = length-set ws n wide ∙ S.widths_room;
    literals_of = one_more ls literals S.literals_room (λ m d. m ≡ length d) el S.literals_of;
    widths_of = one_more ws wide S.widths_room (λ m d. m ≡ width d) ew S.widths_of;
  }

  -- Its place.
  clause_added_lem : {depth : ℕ} {part : ℕ → List ℕ} {held : code.HeldState} {at inputs : ℕ} → Represents depth part held st → n ≡ held.clauses →
      Stands depth part at c → st'.symbols ≡ st.symbols → inputs ≡ length st'.inputs → Represents depth part (clause_held held at inputs) st'
  unfolding held_table clause_held
  clause_added_lem {depth} {part} {held} {at} {inputs} R o S t i = rw (lt-ltb held.clauses office.lines (omega (arith, o))) (record {
    counts_room = R.counts_room;
    starts_room = length-set held.starts held.clauses at ∙ R.starts_room;
    table = R.table ∙ sym t;
    symbols = R.symbols ∙ ap length (sym t);
    inputs = i;
    count = rw (e, R.count, length-append) refl;
    places = rw (← o) (one_more held.starts at R.starts_room (λ m d. Stands depth part m d) S R.places);
  })

-- No clause more.
sized_same : {st st' : State} {ls ws : List ℕ} → clauses st' ≡ clauses st → Sized st ls ws → Sized st' ls ws
sized_same e S = record {
  literals_room = S.literals_room;
  widths_room = S.widths_room;
  literals_of = rw e S.literals_of;
  widths_of = rw e S.widths_of;
}

-- A clause of a line stands where the line does.
clause_stands : {depth start : ℕ} {part : ℕ → List ℕ} {bytes : List ℕ} {held : code.HeldState} → LineStands part start bytes held → (at : ℕ) (c : Clause) →
    drop at bytes ≡ from_clause c → T (formed_clause depth c) → T (clause_fits c) → Stands depth part (placed start at) c
unfolding placed from_clause
clause_stands {start = start} {part = part} {bytes = bytes} P at c f formed fits =
    let rest = P.rest in
    let n = ap length f ∙ ap length (in_front (clause_plain c) (41 ∷ [])) ∙ length-append (put_clause c []) (41 ∷ []) in
    let k : at < length bytes = omega (arith, n, length-drop at bytes) in
    let tail = ap (λ x. x ++ rest) (in_front (clause_plain c) (41 ∷ [])) ∙ append_assoc (put_clause c []) (41 ∷ []) rest ∙ sym (in_front (clause_plain c) (41 ∷ rest)) in
    rw (le-leb (start + at) office.bytes (omega (arith, P.small))) (record {
      rest = 41 ∷ rest;
      written = P.stands at k ∙ rw f tail;
      formed = formed;
      fits = fits;
      few = clause_few c fits;
    })

-- One symbol more.
symbol_added : {depth : ℕ} {part : ℕ → List ℕ} {held : code.HeldState} {st : State} (k : ℕ) → Represents depth part held st → held.symbols < max_symbols →
    Represents depth part (symbol_held held k) (advance st (syntax.sym k))
unfolding held_table advance clauses symbol_held
symbol_added {held = held} k R less = rw (lt-ltb held.symbols max_symbols less) (record {
  counts_room = length-set held.counts held.symbols k ∙ R.counts_room;
  starts_room = R.starts_room;
  table = rw (add-one, take-suc-set held.counts held.symbols k (omega (arith, R.counts_room))) (ap (λ x. x ++ (k ∷ [])) R.table);
  symbols = rw (R.symbols, length-append) refl;
  inputs = R.inputs;
  count = R.count;
  places = R.places;
})

-- The clauses after one more line.
input_clauses : (st : State) (c : Clause) → T (is_empty st.steps) → clauses (advance st (input c)) ≡ clauses st ++ (c ∷ [])
unfolding clauses advance is_empty
input_clauses st c h = go st.steps h
  where
    go : (ss : List Step) → T (is_empty ss) → (st.inputs ++ (c ∷ [])) ++ map claim_of ss ≡ (st.inputs ++ map claim_of ss) ++ (c ∷ [])
    go [] h = append-nil (st.inputs ++ (c ∷ [])) ∙ ap (λ x. x ++ (c ∷ [])) (sym (append-nil st.inputs))
    go (s ∷ ss) h = absurd h

step_clauses : (st : State) (s : Step) → clauses (advance st (by s)) ≡ clauses st ++ (s.claim ∷ [])
unfolding clauses advance
step_clauses st s = ap (λ x. st.inputs ++ x) (map-append claim_of st.steps (s ∷ [])) ∙ sym (append_assoc st.inputs (map claim_of st.steps) (s.claim ∷ []))

-- After a line that passes checks 2 to 6 the state that comes back represents the state after the line.
module _ {depth start : ℕ} {part : ℕ → List ℕ} {bytes : List ℕ} {held : code.HeldState} {st : State} (R : Represents depth part held st) (P : LineStands part start bytes held)
    (passes : read_failure st (read_line depth bytes) ≡ Ok tt) where
  line_fits_lem : (l : Line) → read_line depth bytes ≡ form l → T (formed_line depth l) × T (within_limits st l)
  unfolding read_failure line_failure
  line_fits_lem l e =
      let z = sym (ap (read_failure st) e) ∙ passes in
      let o = passed_both (ordered st l) _ Check.Order z in
      let c = passed_both (constant_ready st l) _ Check.Constant o.1 in
      ((line_sound depth bytes l e).1, (passed_both (within_limits st l) _ Check.Limit c.1).0)

  input_fits : (c : Clause) → read_line depth bytes ≡ form (input c) → T (formed_clause depth c) × T (clause_fits c)
  unfolding formed_line within_limits
  input_fits c e = line_fits_lem (input c) e

  step_fits : (s : Step) → read_line depth bytes ≡ form (by s) → T (formed_clause depth s.claim) × T (clause_fits s.claim)
  unfolding formed_line formed_step within_limits
  step_fits s e =
      let w = line_fits_lem (by s) e in
      let numbers = formed_number s.a && formed_number s.i && formed_number s.b && formed_number s.j && formed_number s.k in (
        right (numbers && formed_terms depth s.first && formed_terms depth s.second) (formed_clause depth s.claim) w.0,
        right (list_fits s.second) _ (right (list_fits s.first) _ w.1),
      )

  sym_fits : (k : ℕ) → read_line depth bytes ≡ form (syntax.sym k) → (k ≤ max_parts) × (length st.symbols < max_symbols)
  unfolding within_limits
  sym_fits k e =
      let (a, b) = simp T_and at (line_fits_lem (syntax.sym k) e).1 in
      (leb→le k max_parts a, ltb→lt (length st.symbols) max_symbols b)

  -- an in line comes while there is no step
  unstepped : (c : Clause) → read_line depth bytes ≡ form (input c) → T (is_empty st.steps)
  unfolding read_failure line_failure ordered
  unstepped c e = (passed_both (is_empty st.steps) _ Check.Order (sym (ap (read_failure st) e) ∙ passes)).0

  -- within 255
  small_byte : {n : ℕ} → n ≤ 32 → byte_of n ≡ n
  unfolding byte_of
  small_byte {n} h = rw (le-leb n 255 (omega arith))

  input_counted : counted held.inputs ≡ held.inputs + 1
  unfolding counted clauses
  input_counted =
      rw (lt-ltb held.inputs office.lines (omega (arith, P.room, R.count, R.inputs, length-append st.inputs (map claim_of st.steps))))

  -- With what a line adds: the state, and the two lists.
  After : Reading → Option LineAt → Type 0
  After r None = Unit
  After r (Some l) = let added = added_by start held.inputs l in
      Represents depth part (with_added held added) (after st r) × SizesAdded st (after st r) held.clauses added

  clause_after : (c : Clause) (st' : State) {inputs : ℕ} → drop (place_of bytes (from_clause c)) bytes ≡ from_clause c → T (formed_clause depth c) × T (clause_fits c) → clauses st' ≡ clauses st ++ (c ∷ []) →
      st'.symbols ≡ st.symbols → inputs ≡ length st'.inputs →
      Represents depth part (clause_held held (placed start (place_of bytes (from_clause c))) inputs) st'
      × ((ls ws : List ℕ) → Sized st ls ws → Sized st' (set ls held.clauses (byte_of (length c))) (set ws held.clauses (byte_of (of_clause (bounds st.symbols) c).width)))
  clause_after c st' place fits e t i =
      let w = clause_small c fits.1 in (
        clause_added_lem st st' c e R.count P.room R refl (clause_stands P (place_of bytes (from_clause c)) c place fits.0 fits.1) t i,
        λ ls ws S. sized_more st st' c e R.count P.room (small_byte w.0) (ap byte_of (tell_clause (width_told st.symbols) c) ∙ small_byte w.1) S,
      )

  state_after_lem : (r : Reading) → read_line depth bytes ≡ r → After r (line_of st.symbols bytes r)
  unfolding After after line_of step_of with_added SizesAdded added_by clause_added advance clauses
  state_after_lem no_form e = tt
  state_after_lem (form (syntax.sym k)) e =
      let room = sym_fits k e in (
        rw (small_byte {n = k} (omega (arith, room.0))) (symbol_added k R (omega (arith, room.1, R.symbols))),
        λ ls ws S. sized_same {st = st} refl S,
      )
  state_after_lem (form (input c)) e =
      clause_after c (advance st (input c)) (input_place depth bytes e) (input_fits c e) (input_clauses st c (unstepped c e)) refl (input_counted ∙ rw (R.inputs, length-append) refl)
  state_after_lem (form (by s)) e = clause_after s.claim (advance st (by s)) (claim_place depth bytes e) (step_fits s e) (step_clauses st s) refl R.inputs

  line_after : (l : LineAt) → line_of st.symbols bytes (read_line depth bytes) ≡ Some l → After (read_line depth bytes) (Some l)
  line_after l e = subst (After (read_line depth bytes)) e (state_after_lem (read_line depth bytes) refl)

line_adds : (start inputs : ℕ) (l : LineAt) → Adds start inputs l (added_by start inputs l)
unfolding Adds After
line_adds start inputs l depth part bytes held st R P i e passes = rw i (line_after R P passes l e)

pub what_adds : (start inputs : ℕ) (l : LineAt) (r : Added) → r ≡ added_by start inputs l → Adds start inputs l r
what_adds start inputs l r e = rw e (line_adds start inputs l)
