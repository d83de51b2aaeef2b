-- Checks in order, each a predicate that says that the check is passed (V3); checks 7 to 11 of a step (V17 to V21).
use Rattle.std.specs.Prelude.{ℕ, zero, suc, Bool, cond, not, ◌&&◌, ◌||◌, List, [], ◌∷◌, ◌≡◌, length, get_or, T, eqb, ltb, Result, Ok, Err}
use Rattle.logic.specs.declared.Check.{Check}
use Rattle.logic.specs.Syntax.{Rule, Clause, Step}
use Rattle.logic.specs.Terms.{count}
use Rattle.logic.specs.Each.{width}
use Rattle.logic.specs.Fill.{entries}
use Rattle.logic.specs.Rules.{uses, Agreement, Holds, Parent, Infers}

-- V3: "no check fails".
unfoldable pub AllPass : List (Type 0) → Type 0
AllPass [] = Unit
AllPass (P ∷ Ps) = P × AllPass Ps

-- V3: "the first check that it fails": check n, counted from 0, fails and those before it pass.
unfoldable pub FailsFirst : ℕ → List (Type 0) → Type 0
FailsFirst n [] = ⊥
FailsFirst zero (P ∷ Ps) = P → ⊥
FailsFirst (suc n) (P ∷ Ps) = P × FailsFirst n Ps

-- R1, R6, T17: clause n of the text, where the rule uses it as a parent; an unused parent has no literal.
unfoldable pub parent_clause : List Clause → Bool → ℕ → Clause
parent_clause cs used n = cond used (get_or cs n []) []

-- R1, R2: the parents of a step, each with its list.
unfoldable pub parent_a : List Clause → Step → Parent
parent_a cs s = record { clause = parent_clause cs (uses s.rule).a s.a; image = entries s.first }

unfoldable pub parent_b : List Clause → Step → Parent
parent_b cs s = record { clause = parent_clause cs (uses s.rule).b s.b; image = entries s.second }

-- V17, check 7: "the number of a used parent isn't below the step's own". The step's own number is the number of clauses before it (T17).
unfoldable pub below : ℕ → Bool → ℕ → Bool
below own used n = not used || ltb n own

unfoldable pub parents_below : List Clause → Step → Bool
parents_below cs s = below (length cs) (uses s.rule).a s.a && below (length cs) (uses s.rule).b s.b

-- V18, check 8: "an unused number isn't 0, or a list has the wrong length". R7: "Numbers that a rule doesn't use are 0."
unfoldable pub zero_if_unused : Bool → ℕ → Bool
zero_if_unused used n = used || eqb n 0

unfoldable pub unused_zero : Step → Bool
unused_zero s =
    zero_if_unused (uses s.rule).a s.a
    && (zero_if_unused (uses s.rule).i s.i
    && (zero_if_unused (uses s.rule).b s.b
    && (zero_if_unused (uses s.rule).j s.j
    && zero_if_unused (uses s.rule).k s.k)))

-- R3: "The list of a used parent has exactly as many terms as the parent's highest variable plus 1, and 0 where it has no variable. The
-- list of an unused parent has none, but for refl, whose first list has one term T."
-- R6: refl alone uses no A.
unfoldable pub first_length : Rule → Clause → ℕ
first_length rule c = cond (uses rule).a (width c) 1

unfoldable pub lists_fit : List Clause → Step → Bool
lists_fit cs s =
    eqb (count s.first) (first_length s.rule (parent_a cs s).clause) && eqb (count s.second) (width (parent_b cs s).clause)

unfoldable pub numbers_right : List Clause → Step → Bool
numbers_right cs s = unused_zero s && lists_fit cs s

-- R8 to R19: what the rule table gives a step: a row's agreement and clause.
abbrev pub StepInfers : List Clause → Step → Agreement → Clause → Type 0
StepInfers cs s g c = Infers (parent_a cs s) (parent_b cs s) s.i s.j s.k s.rule g c

-- V19, check 9: "a position, sign, kind of atom, result, K, or pair I, J isn't as the rule's shape says". Passed: the table has a row for
-- them.
unfoldable pub Shaped : List Clause → Step → Type 0
Shaped cs s = (g : Agreement) × (c : Clause) × StepInfers cs s g c

-- V20, check 10: "the agreement fails". Passed: the row's agreement holds.
unfoldable pub Agrees : List Clause → Step → Type 0
Agrees cs s = (g : Agreement) (c : Clause) → StepInfers cs s g c → Holds g

-- V21, check 11: "the claim isn't the rule's". Passed: the row's clause is the claim.
unfoldable pub Claims : List Clause → Step → Type 0
Claims cs s = (g : Agreement) (c : Clause) → StepInfers cs s g c → c ≡ s.claim

-- V17 to V21: checks 7 to 11, in order.
unfoldable pub step_checks : List Clause → Step → List (Type 0)
step_checks cs s = T (parents_below cs s) ∷ (T (numbers_right cs s) ∷ (Shaped cs s ∷ (Agrees cs s ∷ (Claims cs s ∷ []))))

-- V22: "the rules give its claim from its parents by its numbers under its two lists".
pub record Given (cs : List Clause) (s : Step) : Type 0 where
  pub parents : T (parents_below cs s)
  pub numbers : T (numbers_right cs s)
  pub agreement : Agreement
  pub infers : StepInfers cs s agreement s.claim
  pub holds : Holds agreement

-- V11 to V21: the number of each check.
unfoldable pub check_number : Check → ℕ
check_number Check.Size = 1
check_number Check.Form = 2
check_number Check.Order = 3
check_number Check.Constant = 4
check_number Check.Limit = 5
check_number Check.Symbol = 6
check_number Check.Parents = 7
check_number Check.Numbers = 8
check_number Check.Shape = 9
check_number Check.Agreement = 10
check_number Check.Claim = 11

-- V3: "the first check that it fails", or none.
abbrev pub Checked : Type 0
Checked = Result (Unit {0}) Check

-- What is told of what passes; a check that fails stays the answer.
abbrev pub if_passed : {A : Type 0} → Checked → A → Result A Check
if_passed (Ok u) x = Ok x
if_passed (Err c) x = Err c
