-- Over clauses without molecules a step of a former rule passes each of checks 7 to 11 exactly if it did by the former rule table (Former):
-- the rows are the same, and where no atom is a molecule, X fits into Y exactly if Y covers X (Fitting).
use Prim.Native.Nat.{ℕ, zero, suc}
use mathlib.Core.Bool.{Bool, true, false}
use mathlib.Core.List.{List, [], ◌∷◌, ◌++◌}
use mathlib.Core.Logic.{◌↔◌}
use mathlib.Core.Path.{◌≡◌, refl}
use lib.Dec.{T}
use Rattle.std.specs.List.{list_all}
use Rattle.logic.specs.declared.Rule.{Rule}
use Rattle.logic.specs.Syntax.{only, also, Atom, link, obj, arrows, Literal, lit, Clause, Step}
use Rattle.logic.specs.Each.{one_part, no_molecule}
use Rattle.logic.specs.Fill.{Substitution, fill_parts, fill_atom, fill_literal, fill_clause}
use Rattle.logic.specs.Rules.{Agreement, fitting, Holds, Row, Parent, filled, At, Infers}
use Rattle.logic.specs.StepChecks.{AllPass, FailsFirst, parent_clause, parent_a, parent_b, parents_below, numbers_right, StepInfers, Shaped, Agrees, Claims, step_checks}
use Rattle.logic.proofs.Both.{left, right, both}
use Rattle.logic.proofs.Fitting.{fits_covers}
use Rattle.logic.proofs.Former.{plain_literal, plain, former_rule, FormerHolds, FormerRow, FormerInfers}

-- What the former table gave, the table gives.
former_row : {k : ℕ} {rule : Rule} {l m : Literal} {g : Agreement} {new : Clause} → FormerRow k rule l m g new → Row k rule l m g new
former_row FormerRow.res = Row.res
former_row FormerRow.acy = Row.acy
former_row FormerRow.tra = Row.tra
former_row FormerRow.inc = Row.inc
former_row (FormerRow.inh h) = Row.inh h
former_row (FormerRow.inp h p) = Row.inp h p
former_row (FormerRow.out h) = Row.out h
former_row (FormerRow.sca h h') = Row.sca h h'

former_infers : {A B : Parent} {i j k : ℕ} {rule : Rule} {g : Agreement} {c : Clause} → FormerInfers A B i j k rule g c → Infers A B i j k rule g c
former_infers FormerInfers.refl = Infers.refl
former_infers (FormerInfers.fac⁺ p q n) = Infers.fac⁺ p q n
former_infers (FormerInfers.fac⁻ p q n) = Infers.fac⁻ p q n
former_infers (FormerInfers.par p q e) = Infers.par p q e
former_infers (FormerInfers.eli p) = Infers.eli p
former_infers (FormerInfers.two p q w) = Infers.two p q (former_row w)

-- Filling makes no molecule, and a literal of a clause without molecules has none.
literal_filled : (σ : Substitution) (l : Literal) → T (plain_literal l) → T (plain_literal (fill_literal σ l))
unfolding plain_literal no_molecule one_part fill_literal fill_atom fill_parts
literal_filled σ (lit g (link l t u)) h = tt
literal_filled σ (lit g (obj t)) h = tt
literal_filled σ (lit g (arrows o (only p))) h = tt
literal_filled σ (lit g (arrows o (also p ps))) h = absurd h

clause_filled : (σ : Substitution) (c : Clause) → T (plain c) → T (plain (fill_clause σ c))
unfolding plain fill_clause
clause_filled σ [] h = tt
clause_filled σ (l ∷ c) h = both _ _ (literal_filled σ l (left _ _ h)) (clause_filled σ c (right _ _ h))

plain_at : {i : ℕ} {l : Literal} {c r : Clause} → At i l c r → T (plain c) → T (plain_literal l)
unfolding plain
plain_at At.here h = left _ _ h
plain_at (At.there p) h = plain_at p (right _ _ h)

filled_at : (A : Parent) → T (plain A.clause) → {i : ℕ} {l : Literal} {r : Clause} → At i l (filled A) r → T (plain_literal l)
unfolding filled
filled_at A h p = plain_at p (clause_filled A.image A.clause h)

-- What the table gives by a former rule, the former table gave, and of literals without molecules its agreement says what it said.
pub same : {P : Type 0} → P ↔ P
same = (λ w. w, λ w. w)

fitting_same : (x y : Atom) → T (no_molecule x) → T (no_molecule y) → FormerHolds (fitting x y) ↔ Holds (fitting x y)
unfolding FormerHolds Holds
fitting_same x y h k = let f = fits_covers x y h k in (f.1, f.0)

row_former : {k : ℕ} {rule : Rule} {l m : Literal} {g : Agreement} {new : Clause} → Row k rule l m g new →
    T (former_rule rule) → T (plain_literal l) → T (plain_literal m) → FormerRow k rule l m g new × (FormerHolds g ↔ Holds g)
unfolding FormerHolds Holds former_rule plain_literal
row_former (Row.res {x} {y}) t h h' = (FormerRow.res, fitting_same x y h h')
row_former Row.acy t h h' = (FormerRow.acy, same)
row_former Row.tra t h h' = (FormerRow.tra, same)
row_former Row.inc t h h' = (FormerRow.inc, same)
row_former (Row.inh a) t h h' = (FormerRow.inh a, same)
row_former (Row.inp a p) t h h' = (FormerRow.inp a p, same)
row_former (Row.out a) t h h' = (FormerRow.out a, same)
row_former (Row.sca a b) t h h' = (FormerRow.sca a b, same)
row_former Row.mer t h h' = absurd t

infers_former : (A B : Parent) → T (plain A.clause) → T (plain B.clause) →
    {i j k : ℕ} {rule : Rule} {g : Agreement} {c : Clause} → Infers A B i j k rule g c → T (former_rule rule) → FormerInfers A B i j k rule g c × (FormerHolds g ↔ Holds g)
unfolding FormerHolds Holds former_rule plain_literal
infers_former A B h h' Infers.refl t = (FormerInfers.refl, same)
infers_former A B h h' (Infers.fac⁺ {x} {y} p q n) t = (FormerInfers.fac⁺ p q n, fitting_same x y (filled_at A h p) (filled_at A h q))
infers_former A B h h' (Infers.fac⁻ {x} {y} p q n) t = (FormerInfers.fac⁻ p q n, fitting_same x y (filled_at A h p) (filled_at A h q))
infers_former A B h h' (Infers.par p q e) t = (FormerInfers.par p q e, same)
infers_former A B h h' (Infers.eli p) t = (FormerInfers.eli p, same)
infers_former A B h h' (Infers.pro p q) t = absurd t
infers_former A B h h' (Infers.two p q w) t = let r = row_former w t (filled_at A h p) (filled_at B h' q) in (FormerInfers.two p q r.0, r.1)

-- Checks 7 to 11 by a table that gives a step agreements and clauses, and by what an agreement says.
unfoldable pub checks_by : List Clause → Step → (Agreement → Clause → Type 0) → (Agreement → Type 0) → List (Type 0)
checks_by cs s gives says =
    T (parents_below cs s)
    ∷ (T (numbers_right cs s)
    ∷ (((g : Agreement) × (c : Clause) × gives g c)
    ∷ (((g : Agreement) (c : Clause) → gives g c → says g)
    ∷ (((g : Agreement) (c : Clause) → gives g c → c ≡ s.claim)
    ∷ []))))

-- By the rule table they are the checks.
pub checks_by_table : (cs : List Clause) (s : Step) → checks_by cs s (StepInfers cs s) Holds ≡ step_checks cs s
unfolding checks_by step_checks Shaped Agrees Claims
checks_by_table cs s = refl

unfoldable pub former_checks : List Clause → Step → List (Type 0)
former_checks cs s = checks_by cs s (FormerInfers (parent_a cs s) (parent_b cs s) s.i s.j s.k s.rule) FormerHolds

-- Two lists of checks, each check passed exactly if the one at its place in the other is.
pub data SameChecks : List (Type 0) → List (Type 0) → Type 1 where
  done : SameChecks [] []
  next : {P Q : Type 0} {Ps Qs : List (Type 0)} → P ↔ Q → SameChecks Ps Qs → SameChecks (P ∷ Ps) (Q ∷ Qs)

-- So if all pass in the one they do in the other, and the check that is the first to fail in the one is in the other.
pub same_pass : {Ps Qs : List (Type 0)} → SameChecks Ps Qs → AllPass Ps → AllPass Qs
unfolding AllPass
same_pass done w = w
same_pass (next h s) w = (h.0 w.0, same_pass s w.1)

pub same_fail : {Ps Qs : List (Type 0)} (n : ℕ) → SameChecks Ps Qs → FailsFirst n Ps → FailsFirst n Qs
unfolding FailsFirst
same_fail n done w = w
same_fail zero (next h s) w = λ q. w (h.1 q)
same_fail (suc n) (next h s) w = (h.0 w.0, same_fail n s w.1)

pub same_before : (Ps : List (Type 0)) {Qs Rs : List (Type 0)} → SameChecks Qs Rs → SameChecks (Ps ++ Qs) (Ps ++ Rs)
same_before [] s = s
same_before (P ∷ Ps) s = next same (same_before Ps s)

-- The checks of a step of a former rule, over clauses without molecules.
plain_parent : (cs : List Clause) (used : Bool) (n : ℕ) → T (list_all plain cs) → T (plain (parent_clause cs used n))
unfolding plain parent_clause
plain_parent cs false n h = tt
plain_parent [] true n h = tt
plain_parent (c ∷ cs) true zero h = left _ _ h
plain_parent (c ∷ cs) true (suc n) h = plain_parent cs true n (right _ _ h)

pub step_same : (cs : List Clause) (s : Step) → T (list_all plain cs) → T (former_rule s.rule) → SameChecks (former_checks cs s) (step_checks cs s)
unfolding former_checks checks_by step_checks Shaped Agrees Claims parent_a parent_b
step_same cs s h t =
    next same
    (next same
    (next (λ (g, c, w). (g, c, former_infers w), λ (g, c, w). (g, c, (now w).0))
    (next (λ f g c w. (now w).1.0 (f g c (now w).0), λ f g c w. (now (former_infers w)).1.1 (f g c (former_infers w)))
    (next (λ f g c w. f g c (now w).0, λ f g c w. f g c (former_infers w)) done))))
  where
    now : {g : Agreement} {c : Clause} → StepInfers cs s g c → FormerInfers (parent_a cs s) (parent_b cs s) s.i s.j s.k s.rule g c × (FormerHolds g ↔ Holds g)
    now w = infers_former (parent_a cs s) (parent_b cs s) (plain_parent cs _ s.a h) (plain_parent cs _ s.b h) w t
