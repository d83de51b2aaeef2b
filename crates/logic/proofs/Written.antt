-- A derivation and its written form: the written steps are given by the rules, and steps so given are the written form of a derivation.
use Prim.Native.Nat.{ℕ, zero, suc, ◌+◌, ◌-◌, ◌<◌}
use mathlib.Core.Bool.{Bool, true, false, not, cond, ◌&&◌}
use mathlib.Core.List.{List, [], ◌∷◌, ◌++◌, map}
use mathlib.Core.Path.{◌≡◌, refl, sym, ap, subst}
use native.Mathlib.Omega.{arith}
use borrow.Author.Tests.{lt-ltb, le-ltb}
use lib.Dec.{T, eqb, eqb→eq, eqb_refl, ltb}
use Rattle.logic.specs.declared.Rule.{Rule}
use Rattle.logic.specs.Syntax.{var, Terms, Clause, Step}
use Rattle.logic.specs.Terms.{count}
use Rattle.logic.specs.Each.{each_term, each_terms, each_clause, declares, any, over_term, over_clause, allowed_clause, occurs_in, width}
use Rattle.logic.specs.Fill.{Substitution, entries}
use Rattle.logic.specs.Rules.{uses, filled}
use Rattle.logic.specs.StepChecks.{parent_clause, parent_a, parent_b, parents_below, unused_zero, first_length, lists_fit, numbers_right, Given}
use Rattle.logic.specs.Derivation.{Inference, step_of, inference_a, inference_b, Follows, AllFollow, AllOver, WrittenStep, WrittenSteps}
use Rattle.logic.proofs.Both.{left, right, both}
use Rattle.logic.proofs.Ground.{entry_each}
use Rattle.logic.proofs.Entailment.{ListsOver, ClauseOver, AllGiven}
use Rattle.logic.proofs.Over.{Over, infers_over, fill_over, over_clause_lem, over_each, over_allowed}
use Rattle.logic.proofs.Agreeing.{with, infers_agree, variable_below}

-- Equal numbers pass the test.
same : (m n : ℕ) → m ≡ n → T (eqb m n)
same m n e = subst (λ k. T (eqb m k)) e (eqb_refl m)

module _ (table : List ℕ) (cs : List Clause) where
  -- A written step is given by the rules.
  given_step : (n : Inference) (ts us : Terms) → Follows table cs n → WrittenStep table cs n (step_of n ts us) → Given cs (step_of n ts us)
  unfolding numbers_right lists_fit unused_zero parents_below parent_a parent_b inference_a inference_b step_of
  given_step n ts us f w =
      let A = parent_clause cs (uses n.rule).a n.a in
      let B = parent_clause cs (uses n.rule).b n.b in
      record {
        parents = f.parents;
        numbers = both (unused_zero (step_of n ts us)) (lists_fit cs (step_of n ts us)) f.unused
            (both (eqb (count ts) (first_length n.rule A)) (eqb (count us) (width B)) (same _ _ w.first.counted) (same _ _ w.second.counted));
        agreement = f.agreement;
        infers = infers_agree A B n.substitution (entries ts) (λ v. n.substitution (n.rename v)) (entries us)
            (λ v o. sym (w.first.images v o)) (λ v o. sym (w.second.images v o)) (λ h. sym (w.reflexive h)) f.infers;
        holds = f.holds;
      }

  pub written_given : (n : Inference) (s : Step) → Follows table cs n → WrittenStep table cs n s → Given cs s
  written_given n s f w = subst (Given cs) (sym w.step) (given_step n s.first s.second f (subst (WrittenStep table cs n) w.step w))

-- The inference of a step: B's variables behind the terms of the first list, and both lists as one substitution.
unfoldable pub merged : Terms → Terms → Substitution
merged ts us v = cond (ltb v (count ts)) (entries ts v) (entries us (v - count ts))

unfoldable pub inference_of : Step → Inference
inference_of s = record {
  rule = s.rule;
  a = s.a;
  i = s.i;
  b = s.b;
  j = s.j;
  k = s.k;
  rename = λ v. v + count s.first;
  substitution = merged s.first s.second;
  clause = s.claim;
}

merged_first : (ts us : Terms) (v : ℕ) → v < count ts → entries ts v ≡ merged ts us v
unfolding merged
merged_first ts us v h = rw (lt-ltb v (count ts) h)

merged_second : (ts us : Terms) (v : ℕ) → entries us v ≡ merged ts us (v + count ts)
unfolding merged
merged_second ts us v =
    let e : (v + count ts) - count ts ≡ v = omega arith in
    rw (le-ltb (v + count ts) (count ts) (omega arith), e)

-- A variable of A is below the length that its list must have.
occurs_below : (cs : List Clause) (rule : Rule) (n v : ℕ) → T (occurs_in v (parent_clause cs (uses rule).a n)) →
    v < first_length rule (parent_clause cs (uses rule).a n)
unfolding first_length parent_clause occurs_in each_clause
occurs_below cs rule n v = go (uses rule).a
  where
    go : (used : Bool) → T (occurs_in v (parent_clause cs used n)) → v < cond used (width (parent_clause cs used n)) 1
    go true h = variable_below v (parent_clause cs true n) h
    go false h = absurd h

refl_below : (rule : Rule) (c : Clause) → T (not (uses rule).a) → 0 < first_length rule c
unfolding first_length
refl_below rule c = go (uses rule).a
  where
    go : (used : Bool) → T (not used) → 0 < cond used (width c) 1
    go true h = absurd h
    go false h = omega arith

entries_over : (table : List ℕ) (ts : Terms) → T (each_terms any (declares table) ts) → (v : ℕ) → T (over_term table (entries ts v))
unfolding over_term entries each_term
entries_over table ts w v = entry_each any (declares table) (var v) ts v tt w

merged_over : (table : List ℕ) (ts us : Terms) → T (each_terms any (declares table) ts) → T (each_terms any (declares table) us) → (v : ℕ) → T (over_term table (merged ts us v))
unfolding merged
merged_over table ts us w w' v = go (ltb v (count ts))
  where
    go : (b : Bool) → T (over_term table (cond b (entries ts v) (entries us (v - count ts))))
    go true = entries_over table ts w v
    go false = entries_over table us w' (v - count ts)

module _ (table : List ℕ) (cs : List Clause) (s : Step) (g : Given cs s) (lists : ListsOver table s) where
  counts : (count s.first ≡ first_length s.rule (parent_a cs s).clause) × (count s.second ≡ width (parent_b cs s).clause)
  unfolding numbers_right lists_fit
  counts =
      let a = eqb (count s.first) (first_length s.rule (parent_a cs s).clause) in
      let b = eqb (count s.second) (width (parent_b cs s).clause) in
      let h = right (unused_zero s) (a && b) g.numbers in
      (eqb→eq _ _ (left a b h), eqb→eq _ _ (right a b h))

  below_first : (v : ℕ) → T (occurs_in v (parent_a cs s).clause) → v < count s.first
  unfolding parent_a
  below_first v o = let h = occurs_below cs s.rule s.a v o in let e = counts.0 in omega arith

  refl_entry : T (not (uses s.rule).a) → entries s.first 0 ≡ merged s.first s.second 0
  refl_entry h = merged_first s.first s.second 0 (let z = refl_below s.rule (parent_a cs s).clause h in let e = counts.0 in omega arith)

  -- A step that the rules give follows, without its lists, and is written as it stands.
  pub given_follows : Follows table cs (inference_of s)
  unfolding inference_of inference_a inference_b parent_a parent_b step_of parents_below unused_zero numbers_right
  given_follows = record {
    parents = g.parents;
    unused = left (unused_zero s) (lists_fit cs s) g.numbers;
    apart = record {
      injective = λ v w o o' e. omega arith;
      away = λ v w o o' e. let h = below_first v o in omega arith;
    };
    over = merged_over table s.first s.second lists.0 lists.1;
    agreement = g.agreement;
    infers = infers_agree (parent_a cs s).clause (parent_b cs s).clause (entries s.first) (merged s.first s.second) (entries s.second)
        (λ v. merged s.first s.second (v + count s.first)) (λ v o. merged_first s.first s.second v (below_first v o))
        (λ v o. merged_second s.first s.second v) refl_entry g.infers;
    holds = g.holds;
  }

  pub given_written : WrittenStep table cs (inference_of s) s
  unfolding inference_of inference_a inference_b parent_a parent_b step_of
  given_written = record {
    step = refl;
    first = record { counted = counts.0; over = lists.0; images = λ v o. merged_first s.first s.second v (below_first v o) };
    second = record { counted = counts.1; over = lists.1; images = λ v o. merged_second s.first s.second v };
    reflexive = refl_entry;
  }

-- What follows from clauses over the table is a clause over it.
parent_over : (table : List ℕ) (cs : List Clause) (used : Bool) (n : ℕ) → AllOver table cs → T (over_clause table (parent_clause cs used n))
unfolding AllOver over_clause allowed_clause each_clause parent_clause
parent_over table cs false n o = tt
parent_over table [] true n o = tt
parent_over table (c ∷ cs) true zero o = o.0
parent_over table (c ∷ cs) true (suc n) o = parent_over table cs true n o.1

filled_over : (table : List ℕ) (σ : Substitution) (c : Clause) → ((v : ℕ) → T (over_term table (σ v))) → T (over_clause table c) → Over any (declares table) (filled (with c σ))
unfolding filled over_term over_clause
filled_over table σ c h o =
    let d = declares table in
    let a = allowed_clause c in
    fill_over any any d σ (λ v t. h v) c (over_clause_lem any d c (left a (each_clause any d c) o) (right a (each_clause any d c) o))

pub follows_over : (table : List ℕ) (cs : List Clause) (n : Inference) → AllOver table cs → Follows table cs n → T (over_clause table n.clause)
unfolding inference_a inference_b over_clause over_term
follows_over table cs n o f =
    let d = declares table in
    let w = infers_over any d (inference_a cs n) (inference_b cs n) f.infers
    (filled_over table n.substitution (parent_clause cs (uses n.rule).a n.a) f.over (parent_over table cs (uses n.rule).a n.a o))
    (filled_over table (λ v. n.substitution (n.rename v)) (parent_clause cs (uses n.rule).b n.b) (λ v. f.over (n.rename v)) (parent_over table cs (uses n.rule).b n.b o))
    (f.over 0) in
    both (allowed_clause n.clause) (each_clause any d n.clause) (over_allowed any d n.clause w) (over_each any d n.clause w)

over_last : (table : List ℕ) (cs : List Clause) (c : Clause) → AllOver table cs → T (over_clause table c) → AllOver table (cs ++ (c ∷ []))
unfolding AllOver
over_last table [] c o w = (w, tt)
over_last table (d ∷ cs) c o w = (o.0, over_last table cs c o.1 w)

-- Steps in a row.
pub all_written : (table : List ℕ) (cs : List Clause) (ns : List Inference) (ss : List Step) → AllOver table cs → AllFollow table cs ns → WrittenSteps table cs ns ss → AllGiven table cs ss
unfolding AllFollow WrittenSteps AllGiven over_clause step_of
all_written table cs [] [] o f w = tt
all_written table cs [] (s ∷ ss) o f w = absurd w
all_written table cs (n ∷ ns) [] o f w = absurd w
all_written table cs (n ∷ ns) (s ∷ ss) o f w =
    let k = follows_over table cs n o f.0 in
    let e : n.clause ≡ s.claim = sym (ap (λ (t : Step). t.claim) w.0.step) in (
      written_given table cs n s f.0 w.0,
      (w.0.first.over, w.0.second.over),
      subst (ClauseOver table) e (right (allowed_clause n.clause) (each_clause any (declares table) n.clause) k),
      subst (λ (c : Clause). AllGiven table (cs ++ (c ∷ [])) ss) e (all_written table (cs ++ (n.clause ∷ [])) ns ss (over_last table cs n.clause o k) f.1 w.1),
    )

-- Steps that the rules give are a derivation's written steps.
pub all_given : (table : List ℕ) (cs : List Clause) (ss : List Step) → AllGiven table cs ss →
    AllFollow table cs (map inference_of ss) × WrittenSteps table cs (map inference_of ss) ss
unfolding AllFollow WrittenSteps AllGiven inference_of
all_given table cs [] g = (tt, tt)
all_given table cs (s ∷ ss) g =
    let h = all_given table (cs ++ (s.claim ∷ [])) ss g.3 in
    ((given_follows table cs s g.0 g.1, h.0), (given_written table cs s g.0 g.1, h.1))
