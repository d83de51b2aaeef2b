-- Nothing here is to be believed: `judge_meets` (proofs/JudgeMeets) says that on written clauses it is `judge` of the definitions.
-- Checks 7 to 11 of a step in bytes, over the parts of the text that begin with its parents, and what the answer means.
use Rattle.std.specs.Prelude.{ℕ, ◌≤◌, ◌<◌, ◌≡◌, Bool, cond, not, ◌&&◌, ◌||◌, List, [], T, eqb, length, drop, get_or, Option, Some, None, Ok, Err}
use Rattle.logic.specs.declared.Check.{Check}
use Rattle.logic.specs.StepChecks.{Checked}
use Rattle.logic.specs.declared.Rule.{Rule}
use Rattle.logic.specs.Syntax.{Clause, Step, by}
use Rattle.logic.specs.Terms.{count}
use Rattle.logic.specs.Each.{width}
use Rattle.logic.specs.Judge.{judge}
use Rattle.text.specs.Write.{put_clause}
use Rattle.text.specs.Form.{formed_clause, form}
use Rattle.text.specs.Figures.{few_parts_all}
use Rattle.text.specs.Read.{Parsed, and_then, read_line}
use Rattle.text.specs.Access.{stood}
use Rattle.reader.specs.declared.forms.StepAt.{StepAt}
use Rattle.reader.specs.LineAt.{step_of}
use Rattle.clauses.specs.Entries.{entries}
use Rattle.clauses.specs.Shapes.{literal, positive}
use Rattle.filling.specs.Items.{Item}
use Rattle.rules.specs.declared.steps.Parent as code
use Rattle.rule_numbers.specs.Uses.{uses_of, parent_numbers, unused_numbers}
use Rattle.rule_table.specs.Rows.{FoundAt, row_of, found_by, agrees_by}
use Rattle.rules.specs.Claim.{PremiseAt, KeptAt, without, claims}

-- R3: "The list of a used parent has exactly as many terms as the parent's highest variable plus 1, and 0 where it has no variable. The
-- list of an unused parent has none, but for refl, whose first list has one term T."
unfoldable pub lists_fit : StepAt → ℕ → ℕ → Bool
lists_fit s v w = eqb s.first.measure.count (cond (uses_of s.rule).a v 1) && eqb s.second.measure.count (cond (uses_of s.rule).b w 0)

-- The entries that fill a clause of this width: none are asked for where it has no variables.
unfoldable pub given : ℕ → List (List ℕ) → Option (List (List ℕ))
given width es = cond (eqb width 0) None (Some es)

abbrev pub clause_with : List ℕ → Option (List (List ℕ)) → Item
clause_with bs es = record { bytes = bs; entries = es }

-- The literal of A that the claim lacks. R22: "For fac the claim is A without the literal at J where the two are positive, and without the
-- literal at I where they are negative."
-- It is told by the numbers that the rule uses: fac alone has no B and uses J.
unfoldable pub dropped_by : Bool → Bool → Parsed (Unit {0}) → ℕ → ℕ → ℕ
dropped_by uses_b uses_j x i j = cond (uses_b || not uses_j) i (cond (stood (and_then x (λ _. positive))) j i)

-- What checks 9 to 11 (V19 to V21) say of what was found: that there is such, that it agrees, and that the claim is the rule's.
unfoldable pub checked : ℕ → KeptAt → KeptAt → List ℕ → Option FoundAt → Checked
checked depth a b claim None = Err Check.Shape
checked depth a b claim (Some f) =
    cond (agrees_by depth a.clause b.clause f) (cond (claims depth a b f claim) (Ok tt) (Err Check.Claim)) (Err Check.Agreement)

-- R5: "At I" is a position in A, "at J" one in B. T9: the claim "begins wherever the second list ends": it is the rest of the line.
unfoldable pub conclude_by : ℕ → StepAt → PremiseAt → PremiseAt → List ℕ → Checked
conclude_by depth s a b claim =
    let x = literal s.numbers.i a.clause.bytes in
    let y = literal s.numbers.j b.clause.bytes in
    let kept = without a (dropped_by (uses_of s.rule).b (uses_of s.rule).j x s.numbers.i s.numbers.j) in
    checked depth kept (without b s.numbers.j) claim (found_by (row_of s.rule) s.numbers.k x y)

-- A parent as it stands in the text: what begins with its clause, its number of literals and its width.
pub record ParentAt : Type 0 where
  pub clause : List ℕ
  pub literals : ℕ
  pub width : ℕ

abbrev pub parent_of : code.Parent → ParentAt
parent_of p = record { clause = p.clause.now; literals = p.literals; width = p.width }

abbrev pub parents_of : Option code.Parent → Option ParentAt
parents_of None = None
parents_of (Some p) = Some (parent_of p)

-- R8, refl, "no parent; the first list has one term T": no literal, and a list of one term.
abbrev pub first_of : Rule → ParentAt → ParentAt
first_of rule a = cond (uses_of rule).a a (record { clause = a.clause; literals = 0; width = 1 })

abbrev pub second_of : Rule → ParentAt → Option ParentAt
second_of rule b = cond (uses_of rule).b (Some b) None

abbrev pub premise : List ℕ → Option (List (List ℕ)) → ℕ → PremiseAt
premise bs es literals = record { clause = clause_with bs es; literals = literals }

-- Checks 9 to 11 under the lists of the line. An unused parent has no literals. For fac I and J are positions in A: where B is unused, A
-- stands for it.
unfoldable pub under_lists : ℕ → ParentAt → ParentAt → List ℕ → StepAt → Checked
under_lists depth a b line s =
    let used = uses_of s.rule in
    let firsts = given (cond used.a a.width 1) (entries (drop s.first.start line)) in
    let seconds = given b.width (entries (drop s.second.start line)) in
    let first = premise a.clause firsts (cond used.a a.literals 0) in
    let claim = drop s.claim.start line in
    let two = conclude_by depth s first (premise b.clause seconds b.literals) claim in
    let one = conclude_by depth s first (premise a.clause firsts 0) claim in
    cond used.b two one

-- Checks 7 and 8 come before.
unfoldable pub settled : Bool → Bool → Checked → Checked
settled parents numbers answer = cond parents (cond numbers answer (Err Check.Numbers)) (Err Check.Parents)

-- A step, as it was read, over its parents as they stand; `own` is its own number.
unfoldable pub step_at : ℕ → ℕ → ParentAt → ParentAt → List ℕ → StepAt → Checked
step_at depth own a b line s =
    let right = unused_numbers s.rule s.numbers && lists_fit s a.width b.width in
    settled (parent_numbers s.rule own s.numbers) right (under_lists depth a b line s)

-- A parent's clause, formed, its terms at most so deep, its molecules with few parts; its number of literals and its width are these.
pub record HoldsClause (depth : ℕ) (p : ParentAt) (c : Clause) : Type 0 where
  pub rest : List ℕ
  pub written : p.clause ≡ put_clause c rest
  pub formed : T (formed_clause depth c)
  pub few : T (few_parts_all c)
  pub literals : p.literals ≡ length c
  pub narrow : p.width ≡ width c

-- V22, "A step passes checks 7 to 11 exactly when the rules give its claim from its parents by its numbers under its two lists": where the
-- line is the step s, its lists within the limit, and the parents hold the clauses that it names, if there are such, the answer is `judge`.
unfoldable pub Judges : ℕ → ℕ → ParentAt → ParentAt → List ℕ → StepAt → Checked → Type 0
Judges depth own a b line read r =
    (cs : List Clause) (s : Step) (table : List ℕ) → own ≡ length cs →
    (s.a < length cs → HoldsClause depth a (get_or cs s.a [])) → (s.b < length cs → HoldsClause depth b (get_or cs s.b [])) →
    read ≡ step_of table line s → read_line depth line ≡ form (by s) →
    count s.first ≤ 32 → count s.second ≤ 32 → r ≡ judge cs s
