-- Where the text ends: the first clause without literals, and the answer.
use Rattle.std.proofs.Common.{ℕ, suc, ◌+◌, ◌≤◌, ◌<◌, ◌≡◌, ◌==◌, Bool, true, false, cond, List, [], ◌∷◌, length, get_or, take, map, Some, None, refl, ◌∙◌, arith}
use Rattle.std.specs.List.{position_or_len}
use borrow.Author.Tests.{eq-eqb, ne_eqb, ltb-true}
use lib.Dec.{eqb, ltb}
use lib.ListN.{length-take, length-append, length-map}
use Rattle.logic.specs.Syntax.{Clause}
use Rattle.logic.specs.declared.Check.{Check}
use Rattle.state.specs.declared.HeldState as code
use Rattle.state.specs.State.{State, claim_of, clauses, has_constant}
use Rattle.state.specs.Represents.{Represents}
use Rattle.logic.specs.Reach.{ParentsFall, rests_on}
use Rattle.text.specs.Figures.{office}
use Rattle.descent.specs.declared.Held.{Held}
use Rattle.descent.specs.Walk.{inputs_from}
use Rattle.descent.proofs.Walking.{walk_rests}
use Rattle.outcome.specs.Ends.{first_without, accepted_with, ends_as, marks_with, marks_as}
use Rattle.meaning.specs.declared.Verdict.TheVariants.{Refuted, Open, Refused}
use Rattle.meaning.specs.Means.{named}
use Rattle.meaning.specs.Answer.{is_nil, first_empty, accepted_as, finish, rests_in}
use Rattle.step.specs.Line.{literals_of}
use Rattle.verdict.proofs.Kept.{Keeps, held_length}

-- The numbers of literals are those of the clauses: the first clause without literals is the first empty one.
nil_test : (c : Clause) (n : ℕ) → n ≡ length c → eqb n 0 ≡ is_nil c
unfolding is_nil
nil_test [] n e = eq-eqb n 0 e
nil_test (l ∷ c) n e = ne_eqb n 0 (λ z. omega arith)

first_place : (cs : List Clause) (held : List Held) → length cs ≤ length held → ((m : ℕ) → m < length cs → get_or (literals_of held) m 0 ≡ length (get_or cs m [])) →
    position_or_len (λ (c : Held). c.literals == 0) (take (length cs) held) ≡ first_empty cs
unfolding first_empty
first_place [] held h S = refl
first_place (c ∷ cs) [] h S = absurd (omega arith)
first_place (c ∷ cs) (x ∷ held) h S =
    let e = nil_test c x.literals (S 0 (omega arith)) in
    let r = first_place cs held (omega arith) (λ m l. S (suc m) (omega arith)) in
    go (is_nil c) e r
  where
    go : (b : Bool) → eqb x.literals 0 ≡ b → position_or_len (λ (c : Held). c.literals == 0) (take (length cs) held) ≡ first_empty cs →
        position_or_len (λ (c : Held). c.literals == 0) (x ∷ take (length cs) held) ≡ cond b 0 (suc (first_empty cs))
    go true e r = rw e refl
    go false e r = rw (e, r) (omega arith)

-- The clauses are the inputs and the claims.
pub clause_count : (st : State) → length (clauses st) ≡ length st.inputs + length st.steps
unfolding clauses
clause_count st = length-append st.inputs (map claim_of st.steps) ∙ rw (length-map st.steps claim_of)

-- By the place of the first empty clause, where there is one.
with_place : (count n : ℕ) (b : Bool) → accepted_with count (cond b (Some n) None) ≡ cond b (Refuted count n) (Open count)
unfolding accepted_with
with_place count n true = refl
with_place count n false = refl

marks_place : (n inputs : ℕ) (held : List Held) (before : List Bool) (b : Bool) → marks_with (cond b (Some n) None) inputs held before ≡ cond b (inputs_from held inputs n) before
unfolding marks_with
marks_place n inputs held before true = refl
marks_place n inputs held before false = refl

-- The answer, from what the state that the code holds says.
module _ {depth : ℕ} {part : ℕ → List ℕ} {state : code.HeldState} {st : State} (R : Represents depth part state st) where
  module _ {held : List Held} (K : Keeps st held) (falls : ParentsFall (length st.inputs) st.steps) (room : state.clauses ≤ office.lines) where
    abbrev place : ℕ
    place = first_empty (clauses st)

    first_is : first_without held state.clauses ≡ cond (ltb place state.clauses) (Some place) None
    unfolding first_without
    first_is =
        let long = held_length st held K.sized in
        let e = first_place (clauses st) held (omega (arith, R.count, long)) K.sized.literals_of in
        let l : length (take (length (clauses st)) held) ≡ length (clauses st) = length-take (length (clauses st)) held ∙ omega (arith, R.count, long) in
        rw (R.count, e, l)

    pub ends_held : ends_as state held ≡ finish st
    unfolding ends_as finish accepted_as
    ends_held = rw (R.table, first_is, with_place state.clauses place (ltb place state.clauses), R.count)

    walked : place < state.clauses → named (inputs_from held state.inputs place) ≡ rests_on (length st.inputs) st.steps place
    unfolding named
    walked l =
        rw R.inputs
        (walk_rests (length st.inputs) st.steps held K.parents falls (omega (arith, R.count, clause_count st)) place (omega (arith, R.count, clause_count st)))

    -- The inputs that are named: none, or those that the walk back marks.
    pub marks_held : (before : List Bool) → named before ≡ [] → named (marks_as state held before) ≡ rests_in st (finish st)
    unfolding accepted_as marks_as rests_in finish
    marks_held before z =
        rw (R.table, first_is, marks_place place state.inputs held before (ltb place state.clauses), ← R.count)
        (go (has_constant st.symbols) (ltb place state.clauses) refl)
      where
        go : (b d : Bool) → ltb place state.clauses ≡ d → named (cond b (cond d (inputs_from held state.inputs place) before) before) ≡ rests_in st (cond b (cond d (Refuted state.clauses place) (Open state.clauses)) (Refused Check.Constant 0))
        go true true e = walked (ltb-true place state.clauses e)
        go true false e = z
        go false d e = z
