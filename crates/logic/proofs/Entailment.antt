-- From satisfied inputs to every clause: what a list of steps gives is entailed.
use Prim.Native.Nat.{ℕ, zero, suc, ◌<◌}
use mathlib.Core.Bool.{Bool, true, false}
use mathlib.Core.List.{List, [], ◌∷◌, ◌++◌, map, append-nil, append_assoc}
use mathlib.Core.Path.{◌≡◌, refl, ap, subst}
use native.Mathlib.Omega.{arith}
use lib.Dec.{T, leb→le}
use lib.ListN.{length, get_or}
use Rattle.logic.specs.Syntax.{Terms, Atom, Clause, Step}
use Rattle.logic.specs.Each.{each_terms, each_clause, declares, any}
use Rattle.logic.specs.Fill.{Substitution, entries}
use Rattle.logic.specs.Rules.{uses, filled}
use Rattle.logic.specs.StepChecks.{parent_clause, parent_a, parent_b, below, parents_below, Given}
use Rattle.logic.specs.Structure.{Structure, Satisfies, Grounds, Models}
use Rattle.logic.proofs.Both.{left, right}
use Rattle.logic.proofs.Filling.{compose}
use Rattle.logic.proofs.Instances.{further, holds_fill, infers_fill}
use Rattle.logic.proofs.Ground.{entries_ground, clause_ground}
use Rattle.logic.proofs.Soundness.{infers_sound}

-- The terms of a step's lists are over the table.
abbrev pub ListsOver : List ℕ → Step → Type 0
ListsOver table s = T (each_terms any (declares table) s.first) × T (each_terms any (declares table) s.second)

abbrev pub ClauseOver : List ℕ → Clause → Type 0
ClauseOver table c = T (each_clause any (declares table) c)

module _ {table : List ℕ} (H : Atom → Type 0) (S : Structure table H) where
  -- A parent under its list and then a ground substitution is a ground instance of its clause.
  parent_satisfied : (γ : Substitution) → Grounds table γ → (c : Clause) (ts : Terms) → T (each_terms any (declares table) ts) → Models table H c →
      Satisfies H (filled (further γ (record { clause = c; image = entries ts })))
  unfolding Models filled further
  parent_satisfied γ g c ts over m = m (compose γ (entries ts)) (entries_ground table γ g ts over)

  used_parent : (cs : List Clause) (used : Bool) (n : ℕ) → T used → (T used → Models table H (get_or cs n [])) → Models table H (parent_clause cs used n)
  unfolding parent_clause
  used_parent cs true n u m = m tt
  used_parent cs false n u m = absurd u

  parent_over : (cs : List Clause) (used : Bool) (n : ℕ) → ClauseOver table (get_or cs n []) → ClauseOver table (parent_clause cs used n)
  unfolding parent_clause each_clause
  parent_over cs true n w = w
  parent_over cs false n w = tt

  -- A step that the rules give, from satisfied parents.
  pub step_sound : (cs : List Clause) (s : Step) → Given cs s → ListsOver table s → ClauseOver table (get_or cs s.a []) →
      (T (uses s.rule).a → Models table H (get_or cs s.a [])) → (T (uses s.rule).b → Models table H (get_or cs s.b [])) → Models table H s.claim
  unfolding Models parent_a parent_b further filled Grounds
  step_sound cs s w over-lists over a b γ g =
      let h = entries_ground table γ g s.first over-lists.0 in
      infers_sound H S (further γ (parent_a cs s)) (further γ (parent_b cs s))
      (clause_ground table (compose γ (entries s.first)) h (parent_clause cs (uses s.rule).a s.a) (parent_over cs (uses s.rule).a s.a over))
      (h 0)
      (infers_fill γ w.infers)
      (holds_fill γ w.agreement w.holds)
      (λ u. parent_satisfied γ g (parent_clause cs (uses s.rule).a s.a) s.first over-lists.0 (used_parent cs (uses s.rule).a s.a u a))
      (λ u. parent_satisfied γ g (parent_clause cs (uses s.rule).b s.b) s.second over-lists.1 (used_parent cs (uses s.rule).b s.b u b))

-- Steps in a row, each given by the rules from the clauses before it, with lists and claim over the table.
unfoldable pub AllGiven : List ℕ → List Clause → List Step → Type 0
AllGiven table cs [] = Unit
AllGiven table cs (s ∷ ss) = Given cs s × ListsOver table s × ClauseOver table s.claim × AllGiven table (cs ++ (s.claim ∷ [])) ss

-- A set of clause numbers that has, with a step, the step's used parents.
unfoldable pub ClosedUnderParents : (ℕ → Type 0) → List Clause → List Step → Type 0
ClosedUnderParents Q cs [] = Unit
ClosedUnderParents Q cs (s ∷ ss) =
    (Q (length cs) → (T (uses s.rule).a → Q s.a) × (T (uses s.rule).b → Q s.b)) × ClosedUnderParents Q (cs ++ (s.claim ∷ [])) ss

-- Clause n of a list with one more at its end.
last_or_before : (P : Clause → Type 0) (cs : List Clause) (c : Clause) (n : ℕ) → n < length (cs ++ (c ∷ [])) →
    (n < length cs → P (get_or cs n [])) → (n ≡ length cs → P c) → P (get_or (cs ++ (c ∷ [])) n [])
last_or_before P [] c zero h before last = last refl
last_or_before P [] c (suc n) h before last = absurd (omega arith)
last_or_before P (d ∷ cs) c zero h before last = before (omega arith)
last_or_before P (d ∷ cs) c (suc n) h before last = last_or_before P cs c n (omega arith) (λ w. before (omega arith)) (λ e. last (ap suc e))

pub over_before : (table : List ℕ) (cs : List Clause) (c : Clause) → ((n : ℕ) → ClauseOver table (get_or cs n [])) → ClauseOver table c →
    (n : ℕ) → ClauseOver table (get_or (cs ++ (c ∷ [])) n [])
unfolding each_clause
over_before table [] c h w zero = w
over_before table [] c h w (suc n) = tt
over_before table (d ∷ cs) c h w zero = h 0
over_before table (d ∷ cs) c h w (suc n) = over_before table cs c (λ m. h (suc m)) w n

below_parent : (own : ℕ) (used : Bool) (n : ℕ) → T (below own used n) → T used → n < own
unfolding below
below_parent own true n h u = leb→le (suc n) own h
below_parent own false n h u = absurd u

pub parents : (cs : List Clause) (s : Step) → Given cs s → (T (uses s.rule).a → s.a < length cs) × (T (uses s.rule).b → s.b < length cs)
unfolding parents_below
parents cs s w =
    let a = below (length cs) (uses s.rule).a s.a in
    let b = below (length cs) (uses s.rule).b s.b in
    (below_parent (length cs) (uses s.rule).a s.a (left a b w.parents), below_parent (length cs) (uses s.rule).b s.b (right a b w.parents))

module _ {table : List ℕ} (H : Atom → Type 0) (S : Structure table H) (Q : ℕ → Type 0) where
  -- Each clause whose number is in the set is satisfied.
  abbrev Known : List Clause → Type 0
  Known cs = (n : ℕ) → n < length cs → Q n → Models table H (get_or cs n [])

  pub steps_sound : (cs : List Clause) (ss : List Step) → ((n : ℕ) → ClauseOver table (get_or cs n [])) → AllGiven table cs ss → ClosedUnderParents Q cs ss →
      Known cs → Known (cs ++ map (λ (s : Step). s.claim) ss)
  unfolding AllGiven ClosedUnderParents
  steps_sound cs [] over w q known = rw append-nil known
  steps_sound cs (s ∷ ss) over w q known =
      subst Known (append_assoc cs (s.claim ∷ []) (map (λ (s : Step). s.claim) ss))
      (steps_sound (cs ++ (s.claim ∷ [])) ss (over_before table cs s.claim over w.2) w.3 q.1 (λ n h here.
      last_or_before (Models table H) cs s.claim n h (λ h'. known n h' here) (λ e.
      step_sound H S cs s w.0 w.1 (over s.a)
      (λ u. known s.a ((parents cs s w.0).0 u) ((q.0 (subst Q e here)).0 u))
      (λ u. known s.b ((parents cs s w.0).1 u) ((q.0 (subst Q e here)).1 u)))))
