-- The step check in bytes is `judge` of the definitions.
use Prim.Native.Nat.{ℕ, zero, suc, ◌≤◌, ◌<◌}
use mathlib.Core.Bool.{Bool, true, false, cond, ◌&&◌}
use mathlib.Core.List.{List, [], ◌∷◌}
use mathlib.Core.Path.{◌≡◌, refl, ap, subst, ◌∙◌}
use native.Mathlib.Omega.{arith}
use borrow.Author.Tests.{ne_eqb}
use lib.Dec.{T, eqb, eqb→eq, ltb→lt, leb, le→leb}
use lib.ListN.{length, drop, get_or}
use Rattle.logic.specs.declared.Link.TheVariants.{Sub}
use Rattle.logic.specs.declared.Rule.{Rule}
use Rattle.logic.specs.declared.Rule.TheVariants.{Refl, Res, Fac, Par, Acy, Tra, Inc, Inh, Inp, Out, Sca, Eli, Mer, Pro}
use Rattle.std.specs.Prelude.{Err}
use Rattle.logic.specs.declared.Check.{Check}
use Rattle.logic.specs.StepChecks.{Checked}
use Rattle.logic.specs.Syntax.{Terms, Clause, Step, by, link}
use Rattle.logic.specs.Terms.{count}
use Rattle.logic.specs.Each.{width, each_term}
use Rattle.logic.specs.Fill.{Substitution, entries}
use Rattle.logic.specs.Rules.{uses, always, plus, Parent, filled}
use Rattle.logic.specs.StepChecks.{parent_clause, parent_a, parent_b, below, parents_below, unused_zero, first_length, lists_fit, numbers_right}
use Rattle.logic.specs.Judge.{conclude, conclusion, judge_conclusion, judge}
use Rattle.logic.proofs.Both.{left, right}
use Rattle.logic.proofs.Over.{Over, fill_over}
use Rattle.reader.specs.declared.forms.StepAt.{StepAt}
use Rattle.text.specs.Words.{bytes}
use Rattle.text.specs.Write.{word, put_let, put_terms}
use Rattle.text.specs.Form.{formed_number, numbereds, formed_terms, formed_step, formed_line, formed_clause, depth_ofs, form, max_number}
use Rattle.text.specs.Read.{read_line}
use Rattle.reader.specs.LineAt.{from_first, from_second, from_clause, place_of, step_of}
use Rattle.text.proofs.Deep.{formed_symbol, each_numbered, entries_over, formed_over}
use Rattle.text.proofs.Heads.{strip_same}
use Rattle.reader.proofs.LineParts.{first_place, second_place, claim_place}
use Rattle.text.proofs.Sound.{line_sound}
use Rattle.rule_numbers.specs.declared.Numbers.{Numbers}
use Rattle.rule_numbers.specs.Uses.{parent_numbers, unused_numbers}
use Rattle.rules.specs.Judging.{ParentAt, step_at, HoldsClause, Judges}
use Rattle.rules.proofs.StepSame.{step_same}
use Rattle.rules.proofs.StepPlaces.{lists_at, conclude_at, settled_as, filling_places, placed_step}
use Rattle.clauses.proofs.Placing as placing
use Rattle.filling.proofs.LineLists.{line_entry}
use Rattle.rules.proofs.Meets.{Images}
use Rattle.rules.proofs.Literals.{PartOf}
use Rattle.rules.proofs.Concluded.{ClaimAt, concluded}
use Rattle.rules.proofs.RowsMeet.{refl_meets}
use Rattle.rules.proofs.StepMeets.{given_over, two_meets}
use Rattle.rules.proofs.RuleMeets.{bare, no_over, no_others, res_two, acy_two, sca_two, tra_two, inc_two, inh_two, inp_two, out_two, par_two, mer_two, eli_answers, pro_answers, fac_answers}
use Rattle.clauses.proofs.Places.{place_at, list_at}

module _ (depth : ℕ) where
  -- refl: no parent, and one entry.
  refl_answers : (σ τ : Substitution) (p line starts : List ℕ) → Images line starts σ 1 → {pos : ℕ} {claim : Clause} → ClaimAt line pos claim → T (each_term formed_number formed_symbol (σ 0)) → (i j k : ℕ) →
      conclude_at depth Refl k p 0 i line starts p 0 j starts pos ≡ judge_conclusion (conclude (bare σ) (bare τ) i j k Refl) claim
  unfolding conclude_at uses conclude
  refl_answers σ τ p line starts G {pos} {claim} at image i j k =
      let M = refl_meets depth k p (place_at p i) p (place_at p j) starts G in
      concluded depth Refl k p 0 i (place_at p i) line starts p 0 j (place_at p j) starts (plus (link Sub (σ 0) (σ 0)) ∷ []) [] [] at
      (M.claimed always (plus (link Sub (σ 0) (σ 0)) ∷ []) refl (drop pos line)) (no_others depth line p starts (drop pos line) _) (no_others depth line p starts (drop pos line) j) always M.judged
      (given_over (bare σ) (bare τ) (no_over σ) (no_over τ) image i j k Refl refl)

-- Checks 9 to 11 of a step. Clause n as a parent, if it is used.
abbrev parent : List Clause → Bool → ℕ → Substitution → Parent
parent cs used n σ = record { clause = parent_clause cs used n; image = σ }

module _ (depth : ℕ) where
  module _ (cs : List Clause) (a b : ℕ) (σ τ : Substitution) (p line starts q others : List ℕ) {pos : ℕ} {claim : Clause} (at : ClaimAt line pos claim)
      (image : T (each_term formed_number formed_symbol (σ 0))) (i j k : ℕ) where
    -- Where B is unused, A stands for it.
    abbrev answers : Rule → Checked
    answers rule =
        let n = cond (uses rule).a (length (get_or cs a [])) 0 in
        cond (uses rule).b (conclude_at depth rule k p n i line starts q (length (get_or cs b [])) j others pos) (conclude_at depth rule k p n i line starts p 0 j starts pos)

    conclude_meets : (rule : Rule) → (T (uses rule).a → PartOf depth p (get_or cs a [])) → (T (uses rule).b → PartOf depth q (get_or cs b [])) →
        Images line starts σ (first_length rule (parent_clause cs (uses rule).a a)) → Images line others τ (width (parent_clause cs (uses rule).b b)) →
        Over formed_number formed_symbol (filled (parent cs (uses rule).a a σ)) → Over formed_number formed_symbol (filled (parent cs (uses rule).b b τ)) →
        answers rule ≡ judge_conclusion (conclude (parent cs (uses rule).a a σ) (parent cs (uses rule).b b τ) i j k rule) claim
    unfolding uses parent_clause first_length conclude_at
    conclude_meets Refl P Q G H o o' = refl_answers depth σ τ p line starts G at image i j k
    conclude_meets Res P Q G H o o' = two_meets depth (parent cs true a σ) (parent cs true b τ) (P tt) (Q tt) G H at o o' image (res_two depth (parent cs true a σ) (parent cs true b τ) G H i j k)
    conclude_meets Par P Q G H o o' = two_meets depth (parent cs true a σ) (parent cs true b τ) (P tt) (Q tt) G H at o o' image (par_two depth (parent cs true a σ) (parent cs true b τ) G H i j k)
    conclude_meets Acy P Q G H o o' = two_meets depth (parent cs true a σ) (parent cs true b τ) (P tt) (Q tt) G H at o o' image (acy_two depth (parent cs true a σ) (parent cs true b τ) G H i j k)
    conclude_meets Tra P Q G H o o' = two_meets depth (parent cs true a σ) (parent cs true b τ) (P tt) (Q tt) G H at o o' image (tra_two depth (parent cs true a σ) (parent cs true b τ) G H i j k)
    conclude_meets Inc P Q G H o o' = two_meets depth (parent cs true a σ) (parent cs true b τ) (P tt) (Q tt) G H at o o' image (inc_two depth (parent cs true a σ) (parent cs true b τ) G H i j k)
    conclude_meets Inh P Q G H o o' = two_meets depth (parent cs true a σ) (parent cs true b τ) (P tt) (Q tt) G H at o o' image (inh_two depth (parent cs true a σ) (parent cs true b τ) G H i j k)
    conclude_meets Inp P Q G H o o' = two_meets depth (parent cs true a σ) (parent cs true b τ) (P tt) (Q tt) G H at o o' image (inp_two depth (parent cs true a σ) (parent cs true b τ) G H i j k)
    conclude_meets Out P Q G H o o' = two_meets depth (parent cs true a σ) (parent cs true b τ) (P tt) (Q tt) G H at o o' image (out_two depth (parent cs true a σ) (parent cs true b τ) G H i j k)
    conclude_meets Sca P Q G H o o' = two_meets depth (parent cs true a σ) (parent cs true b τ) (P tt) (Q tt) G H at o o' image (sca_two depth (parent cs true a σ) (parent cs true b τ) G H i j k)
    conclude_meets Mer P Q G H o o' = two_meets depth (parent cs true a σ) (parent cs true b τ) (P tt) (Q tt) G H at o o' image (mer_two depth (parent cs true a σ) (parent cs true b τ) G H i j k)
    conclude_meets Fac P Q G H o o' = fac_answers depth (parent cs true a σ) τ p line starts (P tt) G at o image i j k
    conclude_meets Eli P Q G H o o' = eli_answers depth (parent cs true a σ) τ p line starts (P tt) G at o image i j k (place_at p j)
    conclude_meets Pro P Q G H o o' = pro_answers depth (parent cs true a σ) τ p line starts (P tt) G at o image i j k (place_at p j)

-- A list without places gives as much to a clause without variables.
images_for : (line starts : List ℕ) (σ : Substitution) (n w : ℕ) → (0 < w → 0 < n) → Images line starts σ w → Images line (filling_places n starts) σ w
unfolding filling_places
images_for line starts σ zero w e g = record { entry = λ v h. absurd (omega (arith, e (omega arith))); numbers = g.numbers }
images_for line starts σ (suc n) w e g = rw (ne_eqb (suc n) 0 (omega arith)) g

used_wide : (used : Bool) (n w : ℕ) → cond used n 0 ≡ w → 0 < w → 0 < n
used_wide true n w e h = omega arith
used_wide false n w e h = absurd (omega arith)

-- What a list of the line gives.
list_images : (line : List ℕ) (at : ℕ) (ts : Terms) (rest : List ℕ) → placing.Stands line at (put_let ts rest) → count ts ≤ 32 → T (numbereds ts) → Images line (list_at line at) (entries ts) (count ts)
unfolding list_at put_let
list_images line at ts rest s c n =
    let w = placing.strip_stands line (bytes "(let") s (strip_same (bytes "(let") (put_terms ts (word ")" rest))) in
    record { entry = line_entry line ts _ rest c w.within w.bytes_there; numbers = λ v h. each_numbered (entries ts v) (entries_over ts n v (le→leb v max_number (omega arith))) }

module _ (depth : ℕ) where
  part_over : {p : List ℕ} (cs : List Clause) (used : Bool) (n : ℕ) → (T used → PartOf depth p (get_or cs n [])) → Over formed_number formed_symbol (parent_clause cs used n)
  unfolding Over parent_clause
  part_over cs false n P = tt
  part_over cs true n P = formed_over depth (get_or cs n []) (P tt).formed

filled_over : (c : Clause) (ts : Terms) → Over formed_number formed_symbol c → T (numbereds ts) → Over formed_number formed_symbol (filled (record { clause = c; image = entries ts }))
unfolding filled
filled_over c ts o n = fill_over formed_number formed_number formed_symbol (entries ts) (λ v h. entries_over ts n v h) c o

abbrev numbers_in : Step → Numbers
numbers_in s = record { a = s.a; i = s.i; b = s.b; j = s.j; k = s.k }

-- Numbers first, then the rest: where they are right, the rest decides.
settled_same : (below : Bool) {numbers numbers' : Bool} {answer answer' : Checked} → (T below → numbers ≡ numbers') → (T below → T numbers' → answer ≡ answer') →
    settled_as below numbers answer ≡ cond below (cond numbers' answer' (Err Check.Numbers)) (Err Check.Parents)
unfolding settled_as
settled_same false n a = refl
settled_same true {numbers} {numbers'} {answer} {answer'} n a = rw (n tt) (go numbers' (a tt))
  where
    go : (b : Bool) → (T b → answer ≡ answer') → cond b answer (Err Check.Numbers) ≡ cond b answer' (Err Check.Numbers)
    go true h = h tt
    go false h = refl

module _ (depth : ℕ) where
  -- A used parent whose number is below the step's own.
  module _ {p : ParentAt} (cs : List Clause) (n : ℕ) (h : n < length cs → HoldsClause depth p (get_or cs n [])) where
    part_of : (used : Bool) → T (below (length cs) used n) → T used → PartOf depth p.clause (get_or cs n [])
    unfolding below
    part_of true b u = let H = h (ltb→lt n (length cs) b) in record { rest = H.rest; written = H.written; formed = H.formed; few = H.few }
    part_of false b u = elim u [ ]

    width_of : (used : Bool) → T (below (length cs) used n) → cond used p.width 0 ≡ width (parent_clause cs used n)
    unfolding below parent_clause width
    width_of false b = refl
    width_of true b = (h (ltb→lt n (length cs) b)).narrow

    literals_of : (used : Bool) → T (below (length cs) used n) → cond used p.literals 0 ≡ cond used (length (get_or cs n [])) 0
    unfolding below
    literals_of false b = refl
    literals_of true b = (h (ltb→lt n (length cs) b)).literals

  module _ (line : List ℕ) (s : Step) (e : read_line depth line ≡ form (by s)) (short : count s.first ≤ 32) (short' : count s.second ≤ 32) where
    formed : T (formed_step depth s)
    unfolding formed_line
    formed = (line_sound depth line (by s) e).1

    -- The two lists and the claim, formed.
    lists_formed : T (formed_terms depth s.first) × T (formed_terms depth s.second) × T (formed_clause depth s.claim)
    unfolding formed_step
    lists_formed =
        let numbers = formed_number s.a && formed_number s.i && formed_number s.b && formed_number s.j && formed_number s.k in
        let lists = left (numbers && formed_terms depth s.first && formed_terms depth s.second) (formed_clause depth s.claim) formed in (
          right numbers (formed_terms depth s.first) (left (numbers && formed_terms depth s.first) (formed_terms depth s.second) lists),
          right (numbers && formed_terms depth s.first) (formed_terms depth s.second) lists,
          right (numbers && formed_terms depth s.first && formed_terms depth s.second) (formed_clause depth s.claim) formed,
        )

    list_numbered : (ts : Terms) → T (formed_terms depth ts) → T (numbereds ts)
    unfolding formed_terms
    list_numbered ts h = right (leb (depth_ofs ts) depth) (numbereds ts) h

    -- Where they stand in the line.
    first_images : Images line (list_at line (place_of line (from_first s))) (entries s.first) (count s.first)
    unfolding from_first
    first_images =
        list_images line (place_of line (from_first s)) s.first (word " " (from_second s)) (record { within = omega arith; bytes_there = first_place depth line e }) short (list_numbered s.first lists_formed.0)

    second_images : Images line (list_at line (place_of line (from_second s))) (entries s.second) (count s.second)
    unfolding from_second
    second_images =
        list_images line (place_of line (from_second s)) s.second (word " " (from_clause s.claim)) (record { within = omega arith; bytes_there = second_place depth line e }) short' (list_numbered s.second lists_formed.1)

    claim_at_lem : ClaimAt line (place_of line (from_clause s.claim)) s.claim
    claim_at_lem = record { stands = record { within = omega arith; bytes_there = claim_place depth line e }; over = formed_over depth s.claim lists_formed.2 }

    module _ (cs : List Clause) (p q : ParentAt) (f : s.a < length cs → HoldsClause depth p (get_or cs s.a [])) (g : s.b < length cs → HoldsClause depth q (get_or cs s.b [])) (b : T (parents_below cs s)) where
      below_a : T (below (length cs) (uses s.rule).a s.a)
      unfolding parents_below
      below_a = left (below (length cs) (uses s.rule).a s.a) (below (length cs) (uses s.rule).b s.b) b

      below_b : T (below (length cs) (uses s.rule).b s.b)
      unfolding parents_below
      below_b = right (below (length cs) (uses s.rule).a s.a) (below (length cs) (uses s.rule).b s.b) b

      first_length_lem : (used : Bool) → T (below (length cs) used s.a) → cond used p.width 1 ≡ cond used (width (parent_clause cs used s.a)) 1
      first_length_lem false h = refl
      first_length_lem true h = width_of cs s.a f true h

      -- Check 8.
      numbers_same : unused_numbers s.rule (numbers_in s) && lists_at (uses s.rule).a (uses s.rule).b (count s.first) (count s.second) p.width q.width ≡ numbers_right cs s
      unfolding unused_numbers lists_at numbers_right unused_zero lists_fit first_length parent_a parent_b
      numbers_same = rw (first_length_lem (uses s.rule).a below_a, width_of cs s.b g (uses s.rule).b below_b)

      abbrev first_places : List ℕ
      first_places = filling_places (cond (uses s.rule).a p.width 1) (list_at line (place_of line (from_first s)))

      abbrev second_places : List ℕ
      second_places = filling_places q.width (list_at line (place_of line (from_second s)))

      -- Checks 9 to 11, where the numbers are right.
      rest_same : T (numbers_right cs s) →
          cond (uses s.rule).b
          (conclude_at depth s.rule s.k p.clause (cond (uses s.rule).a p.literals 0) s.i line first_places q.clause q.literals s.j second_places (place_of line (from_clause s.claim)))
          (conclude_at depth s.rule s.k p.clause (cond (uses s.rule).a p.literals 0) s.i line first_places p.clause 0 s.j first_places (place_of line (from_clause s.claim))) ≡
          judge_conclusion (conclusion cs s) s.claim
      unfolding numbers_right lists_fit first_length conclusion parent_a parent_b
      rest_same h =
          let P = part_of cs s.a f (uses s.rule).a below_a in
          let Q = part_of cs s.b g (uses s.rule).b below_b in
          let fit = right (unused_zero s) (lists_fit cs s) h in
          let c = parent_clause cs (uses s.rule).a s.a in
          let d = parent_clause cs (uses s.rule).b s.b in
          let one : count s.first ≡ first_length s.rule c = eqb→eq _ _ (left (eqb (count s.first) (first_length s.rule c)) (eqb (count s.second) (width d)) fit) in
          let two : count s.second ≡ width d = eqb→eq _ _ (right (eqb (count s.first) (first_length s.rule c)) (eqb (count s.second) (width d)) fit) in
          let wide : 0 < first_length s.rule c → 0 < cond (uses s.rule).a p.width 1 = rw (first_length_lem (uses s.rule).a below_a) (λ n. n) in
          let wide' = used_wide (uses s.rule).b q.width (width d) (width_of cs s.b g (uses s.rule).b below_b) in
          let numbers = list_numbered s.first lists_formed.0 in
          let numbers' = list_numbered s.second lists_formed.1 in
          rw (literals_of cs s.a f (uses s.rule).a below_a) (with_b _ _ _ _ (uses s.rule).b below_b)
          ∙ conclude_meets depth cs s.a s.b (entries s.first) (entries s.second) p.clause line _ q.clause _ claim_at_lem (entries_over s.first numbers 0 tt) s.i s.j s.k s.rule P Q
          (images_for line _ (entries s.first) (cond (uses s.rule).a p.width 1) _ wide (subst (Images line _ (entries s.first)) one first_images))
          (images_for line _ (entries s.second) q.width _ wide' (subst (Images line _ (entries s.second)) two second_images))
          (filled_over c s.first (part_over depth cs (uses s.rule).a s.a P) numbers) (filled_over d s.second (part_over depth cs (uses s.rule).b s.b Q) numbers')
        where
          with_b : (x : Checked) (n : ℕ) (first second : List ℕ) (used : Bool) → T (below (length cs) used s.b) →
              cond used (conclude_at depth s.rule s.k p.clause n s.i line first q.clause q.literals s.j second (place_of line (from_clause s.claim))) x ≡
              cond used (conclude_at depth s.rule s.k p.clause n s.i line first q.clause (length (get_or cs s.b [])) s.j second (place_of line (from_clause s.claim))) x
          with_b x n first second false h = refl
          with_b x n first second true h = ap (λ m. conclude_at depth s.rule s.k p.clause n s.i line first q.clause m s.j second (place_of line (from_clause s.claim))) (literals_of cs s.b g true h)

  -- V22, of the step by places: the answer is that of the definitions.
  pub placed_meets : (own : ℕ) (p q : ParentAt) (line : List ℕ) (l : StepAt) → Judges depth own p q line l (placed_step depth own p q line l)
  unfolding Judges placed_step step_of judge parent_numbers parents_below
  placed_meets own p q line l cs s table o f g r e short short' =
      rw (r, o) (settled_same (parents_below cs s) (numbers_same line s e short short' cs p q f g) (rest_same line s e short short' cs p q f g))

  -- V22, of the step in bytes: the answer is that of the definitions.
  pub judge_meets : (own : ℕ) (p q : ParentAt) (line : List ℕ) (l : StepAt) → Judges depth own p q line l (step_at depth own p q line l)
  judge_meets own p q line l = subst (Judges depth own p q line l) (step_same depth own p q line l) (placed_meets own p q line l)

  -- V22, of an answer that is `step_at`.
  pub what_judges : (own : ℕ) (p q : ParentAt) (line : List ℕ) (l : StepAt) (r : Checked) → r ≡ step_at depth own p q line l → Judges depth own p q line l r
  what_judges own p q line l r e = rw e (judge_meets own p q line l)
