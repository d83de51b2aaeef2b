-- What the checks of an accepted text say of its table, inputs and steps, and from that the first two parts of the guarantee.
use Prim.Native.Nat.{ℕ, zero, suc, ◌<◌}
use mathlib.Core.Bool.{Bool, true, false, ◌&&◌, ◌||◌}
use mathlib.Core.List.{List, [], ◌∷◌, ◌++◌, map, append-nil, append_assoc}
use mathlib.Core.Logic.{inl, inr}
use mathlib.Core.Path.{◌≡◌, refl, subst}
use native.Mathlib.Omega.{arith}
use lib.Dec.{T, eqb}
use lib.ListN.{length, take, drop, get_or}
use lib.Seq.{drop-cons}
use Rattle.logic.specs.Syntax.{app, Atom, nil, Clause, Step, Line, sym as sym_line, input, by}
use Rattle.logic.specs.Terms.{count}
use Rattle.logic.specs.Each.{each_term, each_terms, each_clause, declares, any, ground_term}
use Rattle.logic.specs.Fill.{Substitution, fill_clause}
use Rattle.logic.specs.StepChecks.{AllPass, Given}
use Rattle.logic.specs.Descent.{Member, Descends, RestsOn}
use Rattle.logic.specs.Structure.{Structure, Models, ModelsAll, Satisfies, SomeLiteral, Grounds}
use Rattle.logic.proofs.Both.{left, right, both}
use Rattle.logic.proofs.Steps.{all→given}
use Rattle.logic.proofs.Entailment.{ListsOver, ClauseOver, AllGiven, ClosedUnderParents, over_before, steps_sound}
use Rattle.logic.proofs.Descending.{descends_closed}
use Rattle.text.specs.Form.{Reading, form, no_form}
use Rattle.text.specs.declared.Figures.{Figures}
use Rattle.state.specs.State.{State, fresh, clauses, claim_of, advance, is_empty, ordered, has_constant, symbols_declared, line_checks, after, state_after}
use Rattle.meaning.specs.Checks.{readings, step_part, checks_of, checks_at, state_of, table_of, inputs_of, steps_of, clauses_of, Accepted}
use Rattle.meaning.specs.Means.{FirstEmpty}
use Rattle.meaning.specs.Answer.{failure}
use Rattle.meaning.specs.Guarantee.{chosen}
use Rattle.std.specs.Prelude.{Ok}
use Rattle.logic.proofs.Steps.{Fails}
use Rattle.meaning.proofs.Meaning.{line_fails}

-- The inputs are clauses over the table, and each step is given by the rules, its lists and claim over the table.
pub record Good (st : State) : Type 0 where
  pub inputs_over : (n : ℕ) → ClauseOver st.symbols (get_or st.inputs n [])
  pub given : AllGiven st.symbols st.inputs st.steps

-- One step more.
given_last : (table : List ℕ) (cs : List Clause) (ss : List Step) (s : Step) → AllGiven table cs ss → Given (cs ++ map claim_of ss) s → ListsOver table s → ClauseOver table s.claim →
    AllGiven table cs (ss ++ (s ∷ []))
unfolding AllGiven
given_last table cs [] s w g l c = (rw append-nil at g, l, c, tt)
given_last table cs (t ∷ ss) s w g l c =
    (w.0, w.1, w.2, given_last table (cs ++ (t.claim ∷ [])) ss s w.3 (rw append_assoc g) l c)

pub empty_list : {A : Type 0} (xs : List A) → T (is_empty xs) → xs ≡ []
unfolding is_empty
empty_list [] h = refl
empty_list (x ∷ xs) h = absurd h

-- A line that passes its checks keeps the state good.
good_line : (F : Figures) (st : State) (l : Line) → Good st → AllPass (checks_of st (form l)) → Good (advance st l)
unfolding checks_of line_checks AllPass ordered symbols_declared advance AllGiven step_part each_clause clauses
good_line F st (sym_line k) g w =
    let i = empty_list st.inputs (left (is_empty st.inputs) (is_empty st.steps) w.1.0) in
    let s = empty_list st.steps (right (is_empty st.inputs) (is_empty st.steps) w.1.0) in
    record { inputs_over = rw i (λ n. tt); given = rw (i, s) tt }
good_line F st (input c) g w =
    record {
      inputs_over = over_before st.symbols st.inputs c g.inputs_over w.1.1.1.1.0;
      given = rw (empty_list st.steps w.1.0) tt;
    }
good_line F st (by s) g w =
    let a = each_terms any (declares st.symbols) s.first in
    let b = each_terms any (declares st.symbols) s.second in
    let c = each_clause any (declares st.symbols) s.claim in
    let d = w.1.1.1.1.0 in
    record {
      inputs_over = g.inputs_over;
      given = given_last st.symbols st.inputs st.steps s g.given (all→given (clauses st) s w.1.1.1.1.1)
          (left a (b && c) d, left b c (right a (b && c) d)) (right b c (right a (b && c) d));
    }

pub not_a_form : {P : Type 0} (F : Figures) (st : State) → AllPass (checks_of st no_form) → P
unfolding checks_of AllPass
not_a_form F st w = absurd w.0

good_all : (F : Figures) (st : State) (rs : List Reading) → Good st → ((m : ℕ) → AllPass (checks_at st rs m)) → Good (state_after st rs)
unfolding state_after checks_at after
good_all F st [] g w = g
good_all F st (form l ∷ rs) g w = good_all F (advance st l) rs (good_line F st l g (w 0)) (λ m. w (suc m))
good_all F st (no_form ∷ rs) g w = not_a_form F st (w 0)

-- The state before the first line, and after one more that passes.
pub good_fresh : Good fresh
unfolding fresh AllGiven each_clause
good_fresh = record { inputs_over = λ n. tt; given = tt }

pub good_after : (F : Figures) (st : State) (r : Reading) → Good st → failure st r ≡ Ok tt → Good (after st r)
unfolding after Fails
good_after F st no_form g z = g
good_after F st (form l) g z = good_line F st l g (subst (λ w. Fails 2 w (checks_of st (form l))) z (line_fails F st (form l)))

pub accepted_good : (F : Figures) (text : List ℕ) → Accepted F text → Good (state_of F text)
unfolding state_of fresh AllGiven each_clause
accepted_good F text a = good_all F fresh (readings F text) (record { inputs_over = λ n. tt; given = tt }) a.passes

-- Each clause of a list is satisfied.
module _ (table : List ℕ) (H : Atom → Type 0) where
  models_each : (cs : List Clause) → ModelsAll table H cs → (n : ℕ) → n < length cs → Models table H (get_or cs n [])
  unfolding ModelsAll
  models_each [] m n h = absurd (omega arith)
  models_each (c ∷ cs) m zero h = m.0
  models_each (c ∷ cs) m (suc n) h = models_each cs m.1 n (omega arith)

  each_models : (cs : List Clause) → ((n : ℕ) → n < length cs → Models table H (get_or cs n [])) → ModelsAll table H cs
  unfolding ModelsAll
  each_models [] m = tt
  each_models (c ∷ cs) m = (m 0 (omega arith), each_models cs (λ n h. m (suc n) (omega arith)))

all_closed : (cs : List Clause) (ss : List Step) → ClosedUnderParents (λ n. Unit) cs ss
unfolding ClosedUnderParents
all_closed cs [] = tt
all_closed cs (s ∷ ss) = (λ h. (λ u. tt, λ u. tt), all_closed (cs ++ (s.claim ∷ [])) ss)

pub accepted_entails : (F : Figures) (text : List ℕ) → Accepted F text → (H : Atom → Type 0) → Structure (table_of F text) H →
    ModelsAll (table_of F text) H (inputs_of F text) → ModelsAll (table_of F text) H (clauses_of F text)
unfolding table_of inputs_of clauses_of clauses
accepted_entails F text a H S m =
    let st = state_of F text in
    let g = accepted_good F text a in
    each_models st.symbols H (st.inputs ++ map claim_of st.steps) (λ n h.
    steps_sound H S (λ n. Unit) st.inputs st.steps g.inputs_over g.given (all_closed st.inputs st.steps)
    (λ n h u. models_each st.symbols H st.inputs m n h) n h tt)

-- A table with a symbol without arguments has a ground term.
constant_declared : (table : List ℕ) → T (has_constant table) → (f : ℕ) × T (declares table f 0)
unfolding has_constant declares
constant_declared [] h = absurd h
constant_declared (k ∷ table) h = go (eqb k 0) refl (λ w. constant_declared table w) h
  where
    go : (b : Bool) → eqb k 0 ≡ b → (T (has_constant table) → (f : ℕ) × T (declares table f 0)) → T (b || has_constant table) → (f : ℕ) × T (declares (k ∷ table) f 0)
    go true e later h = (0, rw e tt)
    go false e later h = (suc (later h).0, (later h).1)

ground_substitution : (table : List ℕ) → T (has_constant table) → (γ : Substitution) × Grounds table γ
unfolding Grounds ground_term each_term count
ground_substitution table h = let w = constant_declared table h in (λ n. app w.0 nil, λ n. both (declares table w.0 0) true w.1 tt)

-- The first empty clause is a clause and has no literal.
empty_clause : (n : ℕ) (cs : List Clause) → FirstEmpty n cs → (n < length cs) × (get_or cs n [] ≡ [])
unfolding FirstEmpty
empty_clause n [] h = absurd h
empty_clause zero (c ∷ cs) h = (omega arith, h)
empty_clause (suc n) (c ∷ cs) h = let w = empty_clause n cs h.1 in (omega arith, w.1)

pub refuted_none : (F : Figures) (text : List ℕ) (n : ℕ) → Accepted F text → FirstEmpty n (clauses_of F text) → (H : Atom → Type 0) → Structure (table_of F text) H →
    ModelsAll (table_of F text) H (inputs_of F text) → ⊥
unfolding Models Satisfies fill_clause SomeLiteral
refuted_none F text n a e H S m =
    let w = empty_clause n (clauses_of F text) e in
    let k = models_each (table_of F text) H (clauses_of F text) (accepted_entails F text a H S m) n w.0 in
    let g = ground_substitution (table_of F text) a.constant in
    let none : Models (table_of F text) H [] = rw w.1 at k in
    none g.0 g.1 (λ h. h)

-- The clauses that have these numbers are satisfied each.
models_rest : (table : List ℕ) (H : Atom → Type 0) (cs ds : List Clause) → ModelsAll table H (cs ++ ds) → ModelsAll table H ds
unfolding ModelsAll
models_rest table H [] ds m = m
models_rest table H (c ∷ cs) ds m = models_rest table H cs ds m.1

chosen_each : (table : List ℕ) (H : Atom → Type 0) (cs : List Clause) (ns : List ℕ) → ModelsAll table H (chosen ns cs) → (n : ℕ) → n < length cs → Member n ns →
    Models table H (get_or cs n [])
unfolding ModelsAll chosen Member
chosen_each table H cs [] m n l h = absurd h
chosen_each table H cs (k ∷ ns) m n l (inl e) = rw e (let first = rw (drop-cons cs k [] (rw e at l)) at m in first.0)
chosen_each table H cs (k ∷ ns) m n l (inr h) = chosen_each table H cs ns (models_rest table H (take 1 (drop k cs)) (chosen ns cs) m) n l h

-- The first empty clause, from the inputs alone from which it descends.
pub rests_none : (F : Figures) (text : List ℕ) (first : ℕ) (ns : List ℕ) → Accepted F text → FirstEmpty first (clauses_of F text) →
    RestsOn (length (inputs_of F text)) (steps_of F text) first ns → (H : Atom → Type 0) → Structure (table_of F text) H → ModelsAll (table_of F text) H (chosen ns (inputs_of F text)) → ⊥
unfolding Models Satisfies fill_clause SomeLiteral table_of inputs_of steps_of clauses_of clauses
rests_none F text first ns a e r H S m =
    let st = state_of F text in
    let g = accepted_good F text a in
    let w = empty_clause first (clauses_of F text) e in
    let Q : ℕ → Type 0 = Descends (length st.inputs) st.steps first in
    let known : (n : ℕ) → n < length st.inputs → Q n → Models st.symbols H (get_or st.inputs n []) =
    λ n h q. chosen_each st.symbols H st.inputs ns m n h ((r.exactly n).1 (h, q)) in
    let k = steps_sound H S Q st.inputs st.steps g.inputs_over g.given
    (descends_closed (length st.inputs) st.steps first st.inputs 0 st.steps (omega arith) refl) known first w.0 Descends.itself in
    let y = ground_substitution (table_of F text) a.constant in
    let none : Models (table_of F text) H [] = rw w.1 at k in
    none y.0 y.1 (λ h. h)
