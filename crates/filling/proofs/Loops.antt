-- The loop over the inside of an item, whatever is done with a bracket that opens.
use Prim.Native.Nat.{ℕ, zero, suc, ◌-◌, ◌≤◌, ◌<◌}
use mathlib.Core.Path.{◌≡◌, refl, sym, ◌∙◌}
use mathlib.Core.List.{List, [], ◌∷◌}
use native.Mathlib.Decide.{ℕ_discrete}
use native.Mathlib.Omega.{arith}
use lib.ListN.{length}
use Rattle.std.proofs.Common.{Option, Some, None, Bor}
use Rattle.text.specs.Read.{Parsed, bad, got, and_then, strip}
use Rattle.text.proofs.Gives.{given}
use Rattle.filling.specs.Filled.{along}
use Rattle.filling.specs.Items.{compared, Shorter}
use Rattle.filling.proofs.Walk.{Pair, Shortens, along_open, along_close, along_on}

-- The whole is what is left, in enough steps.
pub record Going (item : Pair) (all : Parsed (List ℕ)) (ps ts : List ℕ) : Type 0 where
  pub steps : ℕ
  pub enough : length ps ≤ steps
  pub left : all ≡ along item steps ps ts

pub empty : (bs : List ℕ) → length bs ≡ 0 → bs ≡ []
empty [] z = refl
empty (b ∷ bs) z = absurd (omega arith)

-- The item ends first.
pub loop_ends : {item : Pair} {all : Parsed (List ℕ)} {ps ts : List ℕ} → Going item all ps ts → length ps ≡ 0 → bad ≡ all
unfolding along
loop_ends {item} {ps} {ts} g z = sym (g.left ∙ rw (empty ps z) (none g.steps))
  where
    none : (k : ℕ) → along item k [] ts ≡ bad
    none zero = refl
    none (suc k) = refl

module _ {item : Pair} {all : Parsed (List ℕ)} {ps ts : List ℕ} (g : Going item all ps ts) {b : ℕ} {after : List ℕ} (e : ps ≡ b ∷ after) where
  longer : length ps ≡ suc (length after)
  longer = rw e

  stepped : all ≡ along item (suc (g.steps - 1)) (b ∷ after) ts
  stepped = let more : g.steps ≡ suc (g.steps - 1) = omega (arith, g.enough, longer) in g.left ∙ rw (← more, e)

  -- A bracket opens: the item, found or not.
  module _ (o : b ≡ 40) where
    opened : all ≡ and_then (item ps ts) (λ left rest. along item (g.steps - 1) rest left)
    opened = stepped ∙ along_open item (g.steps - 1) b after ts o ∙ rw (← e)

    pub part_bad : bad ≡ item ps ts → bad ≡ all
    part_bad m = sym (opened ∙ rw (← m))

    pub part_again : {left rest : List ℕ} → length rest < length ps → got left rest ≡ item ps ts → Going item all rest left
    part_again l m = record { steps = g.steps - 1; enough = omega (arith, g.enough, l); left = opened ∙ rw (← m) }

  -- Another byte, and whether it stands in the other text.
  module _ (o : b ≡ 40 → ⊥) where
    pub byte_other : bad ≡ strip (b ∷ []) ts → bad ≡ all
    byte_other m = sym (stepped ∙ go (ℕ_discrete b 41))
      where
        go : Dec (b ≡ 41) → along item (suc (g.steps - 1)) (b ∷ after) ts ≡ bad
        go (yes c) = rw (along_close item (g.steps - 1) b after ts c, ← c, ← m)
        go (no c) = rw (along_on item (g.steps - 1) b after ts o c, ← m)

    module _ {left : List ℕ} (m : got tt left ≡ strip (b ∷ []) ts) where
      pub byte_closes : b ≡ 41 → got left after ≡ all
      byte_closes c = sym (stepped ∙ rw (along_close item (g.steps - 1) b after ts c, ← c, ← m))

      pub byte_again : (b ≡ 41 → ⊥) → Going item all after left
      byte_again c = record { steps = g.steps - 1; enough = omega (arith, g.enough, longer); left = stepped ∙ rw (along_on item (g.steps - 1) b after ts o c, ← m) }

-- What is compared is shorter after.
pub fewer : {item : Pair} → Shortens item → {xs ys : List ℕ} (r : Option (Bor (List ℕ) × Bor (List ℕ))) → compared r ≡ item xs ys → Shorter xs r
fewer s None e = tt
fewer s {xs} {ys} (Some p) e = (given (s.shortens xs ys) (sym e)).first.less
