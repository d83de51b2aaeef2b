-- The literals that are kept, one after another.
use Prim.Native.Nat.{ℕ, suc, ◌+◌, ◌-◌, ◌≤◌, ◌<◌}
use mathlib.Core.Path.{◌≡◌}
use mathlib.Core.List.{List}
use native.Mathlib.Omega.{arith}
use borrow.Author.Tests.{eq-eqb, ne_eqb}
use Rattle.text.specs.Read.{Parsed, got, and_then}
use Rattle.text.specs.Access.{pass_item}
use Rattle.filling.specs.Items.{Item, beside}
use Rattle.expected.specs.Claims.{kept, others_from}

module _ (depth dropped count n : ℕ) (x : Item) (rest : List ℕ) where
  abbrev these : Parsed (Unit {0})
  these = others_from depth dropped (count - n) n x rest

  abbrev those : Item → List ℕ → Parsed (Unit {0})
  those y left = others_from depth dropped (count - (n + 1)) (n + 1) y left

  pub no_more : count ≤ n → these ≡ got tt rest
  unfolding others_from
  no_more h = let z : count - n ≡ 0 = omega arith in rw z

  module _ (h : n < count) where
    more : count - n ≡ suc (count - (n + 1))
    more = omega arith

    pub is_kept : (n ≡ dropped → ⊥) → these ≡ and_then (kept depth x rest) (λ left bs. those (beside x bs) left)
    unfolding others_from
    is_kept d = rw (more, ne_eqb n dropped d)

    module _ (d : n ≡ dropped) where
      pub is_passed : n + 1 < count → these ≡ and_then (pass_item x.bytes) (λ _ bs. those (beside x bs) rest)
      unfolding others_from
      is_passed l = let k : count - (n + 1) ≡ 0 → ⊥ = λ z. omega arith in rw (more, eq-eqb n dropped d, ne_eqb (count - (n + 1)) 0 k)

      pub is_last : count ≤ n + 1 → these ≡ got tt rest
      unfolding others_from
      is_last l = let z : count - (n + 1) ≡ 0 = omega arith in rw (more, eq-eqb n dropped d, z)

pub ruleset others_steps = (no_more, is_kept, is_passed, is_last)
