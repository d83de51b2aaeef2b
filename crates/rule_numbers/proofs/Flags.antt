-- A table with a row for each rule: what stands in a rule's row is what the definition says of the rule.
use Prim.Native.Nat.{ℕ, zero, suc, ◌<◌}
use mathlib.Core.Path.{◌≡◌, refl, ◌∙◌, ap}
use mathlib.Core.Bool.{Bool, false}
use mathlib.Core.List.{List, [], ◌∷◌, map}
use native.Mathlib.Omega.{arith}
use lib.ListN.{length, get_or}
use Rattle.logic.specs.declared.Rule.{Rule}
use Rattle.logic.specs.declared.Rule.TheVariants.{Refl, Res, Fac, Par, Acy, Tra, Inc, Inh, Inp, Out, Sca, Eli, Mer, Pro}
use Rattle.logic.specs.Rules.{Uses, uses}
use Rattle.rule_numbers.specs.declared.Uses as code
use Rattle.rule_numbers.specs.Uses.{rule_row, uses_of}

abbrev pub rules : List Rule
rules = Refl ∷ Res ∷ Fac ∷ Par ∷ Acy ∷ Tra ∷ Inc ∷ Inh ∷ Inp ∷ Out ∷ Sca ∷ Eli ∷ Mer ∷ Pro ∷ []

pub record Placed (rule : Rule) : Type 0 where
  pub below : rule_row rule < 14
  pub there : get_or rules (rule_row rule) Refl ≡ rule

pub placed : (rule : Rule) → Placed rule
placed = elim [
  | Refl ↦ record { below = omega arith; there = refl }
  | Res ↦ record { below = omega arith; there = refl }
  | Fac ↦ record { below = omega arith; there = refl }
  | Par ↦ record { below = omega arith; there = refl }
  | Acy ↦ record { below = omega arith; there = refl }
  | Tra ↦ record { below = omega arith; there = refl }
  | Inc ↦ record { below = omega arith; there = refl }
  | Inh ↦ record { below = omega arith; there = refl }
  | Inp ↦ record { below = omega arith; there = refl }
  | Out ↦ record { below = omega arith; there = refl }
  | Sca ↦ record { below = omega arith; there = refl }
  | Eli ↦ record { below = omega arith; there = refl }
  | Mer ↦ record { below = omega arith; there = refl }
  | Pro ↦ record { below = omega arith; there = refl }
]

row_of_lem : {A : Type 0} (f : Rule → A) (d : A) (rs : List Rule) (n : ℕ) → n < length rs → get_or (map f rs) n d ≡ f (get_or rs n Refl)
row_of_lem f d [] n h = absurd (omega arith)
row_of_lem f d (r ∷ rs) zero h = refl
row_of_lem f d (r ∷ rs) (suc n) h = row_of_lem f d rs n (omega arith)

-- The table is the one that is computed from the definition; so each rule has its own.
pub carried : {A : Type 0} (f : Rule → A) (d : A) (rule : Rule) {n : ℕ} → n ≡ rule_row rule → get_or (map f rules) n d ≡ f rule
carried f d rule e = rw e (row_of_lem f d rules (rule_row rule) (placed rule).below ∙ ap f (placed rule).there)

-- The flags of A I B J K, as a row of the table has them, and the other way round.
abbrev flags : Uses → List Bool
flags u = u.a ∷ u.i ∷ u.b ∷ u.j ∷ u.k ∷ []

abbrev flagged : List Bool → code.Uses
flagged bs = record { a = get_or bs 0 false; i = get_or bs 1 false; b = get_or bs 2 false; j = get_or bs 3 false; k = get_or bs 4 false }

pub uses_carried : (rule : Rule) {n : ℕ} → n ≡ rule_row rule → flagged (get_or (map (λ r. flags (uses r)) rules) n []) ≡ uses_of rule
uses_carried rule e = ap flagged (carried (λ r. flags (uses r)) [] rule e)
