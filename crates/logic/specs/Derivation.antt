-- Derivations, which have no lists (D1, D2), and their written form (D3 to D5).
use Rattle.std.specs.Prelude.{ℕ, not, List, [], ◌∷◌, ◌++◌, map, ◌≡◌, T}
use Rattle.logic.specs.Syntax.{Rule, Terms, nil, Clause, Step, Line, sym, input, by}
use Rattle.logic.specs.Terms.{count}
use Rattle.logic.specs.Each.{occurs_in, each_terms, any, declares, over_term, over_clause, width}
use Rattle.logic.specs.Fill.{Substitution, entries}
use Rattle.logic.specs.Rules.{uses, Agreement, Holds, Parent, Infers}
use Rattle.logic.specs.StepChecks.{parent_clause, parents_below, unused_zero, first_length}

-- D2: one inference: its rule and numbers (unused ones 0, D5), how B's variables are renamed, the one substitution (refl's T is its
-- term for variable 0), and the clause that follows.
pub record Inference : Type 0 where
  pub rule : Rule
  pub a : ℕ
  pub i : ℕ
  pub b : ℕ
  pub j : ℕ
  pub k : ℕ
  pub rename : ℕ → ℕ
  pub substitution : Substitution
  pub clause : Clause

-- D3, D5: the step with an inference's rule, numbers and clause, and two given lists.
unfoldable pub step_of : Inference → Terms → Terms → Step
step_of n first second =
    record { rule = n.rule; a = n.a; i = n.i; b = n.b; j = n.j; k = n.k; first = first; second = second; claim = n.clause }

-- D2: the parents of an inference: A by the substitution, B renamed and then by the same substitution.
unfoldable pub inference_a : List Clause → Inference → Parent
inference_a cs n = record { clause = parent_clause cs (uses n.rule).a n.a; image = n.substitution }

unfoldable pub inference_b : List Clause → Inference → Parent
inference_b cs n = record { clause = parent_clause cs (uses n.rule).b n.b; image = λ v. n.substitution (n.rename v) }

-- D2: "the variables of B are renamed away from those of A": no two to one, and none to a variable of A.
pub record Apart (rename : ℕ → ℕ) (a b : Clause) : Type 0 where
  pub injective : (v w : ℕ) → T (occurs_in v b) → T (occurs_in w b) → rename v ≡ rename w → v ≡ w
  pub away : (v w : ℕ) → T (occurs_in v a) → T (occurs_in w b) → v ≡ rename w → ⊥

-- D2: "Each later clause follows from earlier ones by a rule, after the variables of B are renamed away from those of A and one
-- substitution is made under which the agreement holds." D1: its "substitutions are over the symbol table", and so its clause
-- (`follows_over`).
pub record Follows (table : List ℕ) (cs : List Clause) (n : Inference) : Type 0 where
  pub parents : T (parents_below cs (step_of n nil nil))
  pub unused : T (unused_zero (step_of n nil nil))
  pub apart : Apart n.rename (inference_a cs n).clause (inference_b cs n).clause
  pub over : (v : ℕ) → T (over_term table (n.substitution v))
  pub agreement : Agreement
  pub infers : Infers (inference_a cs n) (inference_b cs n) n.i n.j n.k n.rule agreement n.clause
  pub holds : Holds agreement

-- D2: so of "each later clause".
unfoldable pub AllFollow : List ℕ → List Clause → List Inference → Type 0
AllFollow table cs [] = Unit
AllFollow table cs (n ∷ ns) = Follows table cs n × AllFollow table (cs ++ (n.clause ∷ [])) ns

-- D1: its clauses "are over the symbol table".
unfoldable pub AllOver : List ℕ → List Clause → Type 0
AllOver table [] = Unit
AllOver table (c ∷ cs) = T (over_clause table c) × AllOver table cs

-- D1: "A *derivation* has no lists." D2: "Its inputs come first."
pub record Derivation (table : List ℕ) : Type 0 where
  pub inputs : List Clause
  pub inferences : List Inference
  pub inputs_over : AllOver table inputs
  pub follow : AllFollow table inputs inferences

-- D4: "In a by line the list entry of each variable of a parent is the variable's image. .. For a variable that the parent lacks, below
-- its highest one, any term over the table stands.": a list of a parent whose variables have these images.
pub record Listed (table : List ℕ) (length : ℕ) (c : Clause) (image : Substitution) (ts : Terms) : Type 0 where
  pub counted : count ts ≡ length
  pub over : T (each_terms any (declares table) ts)
  pub images : (v : ℕ) → T (occurs_in v c) → entries ts v ≡ image v

-- D3: its written form has "each of its steps as a by line": the step with the inference's numbers (D5) and two such lists (D4); "refl's T
-- is its only entry".
pub record WrittenStep (table : List ℕ) (cs : List Clause) (n : Inference) (s : Step) : Type 0 where
  pub step : s ≡ step_of n s.first s.second
  pub first : Listed table (first_length n.rule (inference_a cs n).clause) (inference_a cs n).clause n.substitution s.first
  pub second : Listed table (width (inference_b cs n).clause) (inference_b cs n).clause (inference_b cs n).image s.second
  pub reflexive : T (not (uses n.rule).a) → entries s.first 0 ≡ n.substitution 0

-- D3: so of "each of its steps".
unfoldable pub WrittenSteps : List ℕ → List Clause → List Inference → List Step → Type 0
WrittenSteps table cs [] [] = Unit
WrittenSteps table cs [] (s ∷ ss) = ⊥
WrittenSteps table cs (n ∷ ns) [] = ⊥
WrittenSteps table cs (n ∷ ns) (s ∷ ss) = WrittenStep table cs n s × WrittenSteps table (cs ++ (n.clause ∷ [])) ns ss

-- D3: "Its *written form* has the sym lines of the table, its inputs as in lines and each of its steps as a by line."
unfoldable pub lines_of : List ℕ → List Clause → List Step → List Line
lines_of table inputs steps = map sym table ++ (map input inputs ++ map by steps)

-- D3: these lines are the written form of this derivation.
unfoldable pub WrittenForm : (table : List ℕ) → Derivation table → List Line → Type 0
WrittenForm table d lines =
    (steps : List Step) × WrittenSteps table d.inputs d.inferences steps × (lines ≡ lines_of table d.inputs steps)
