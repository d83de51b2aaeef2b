-- The bytes of a kind, and where the test of a byte is the test of its kind. Where a byte is known, `kind_of` computes.
use Prim.Native.Nat.{ℕ, ◌≤◌}
use mathlib.Core.Path.{◌≡◌, refl, sym, ◌∙◌, subst}
use mathlib.Core.Bool.{Bool, true, false, true≢false, ◌||◌}
use mathlib.Core.Logic.{◌↔◌}
use native.Mathlib.Omega.{arith}
use lib.Dec.{T, eqb, eqb→eq, leb→le}
use borrow.Author.Tests.{le-leb, eq-eqb, ne_eqb}
use Rattle.text.specs.Words.{line_end}
use Rattle.text.specs.Kinds.{between, kind_of}
use Rattle.text.specs.Read.{digit}
use Rattle.text.proofs.Tests.{T_and, on_test}

within : (a z b : ℕ) → a ≤ b → b ≤ z → between a z b ≡ true
within a z b l h = rw (le-leb a b l, le-leb b z h)

pub digit_kind : {b : ℕ} → 48 ≤ b → b ≤ 57 → kind_of b ≡ 0
unfolding kind_of
digit_kind {b = b} l h = rw (within 48 57 b l h)

-- What the kinds digit, space and line end tell of a byte.
record Told (b k : ℕ) : Type 0 where
  digits : k ≡ 0 → (48 ≤ b) × (b ≤ 57)
  space : k ≡ 4 → b ≡ 32
  line_end_lem : k ≡ 5 → b ≡ line_end

told : (b : ℕ) → Told b (kind_of b)
unfolding kind_of
told b =
    on_test (Told b) (between 48 57 b) (λ t. let (l, h) = simp T_and at t in omega (arith, leb→le)) λ _.
    on_test (Told b) (between 97 122 b) (λ _. omega arith) λ _.
    on_test (Told b) (eqb b 40 || eqb b 41) (λ _. omega arith) λ _.
    on_test (Told b) (eqb b 43 || eqb b 45) (λ _. omega arith) λ _.
    on_test (Told b) (eqb b 32) (λ t. omega (arith, eqb→eq)) λ _.
    on_test (Told b) (eqb b 10) (λ t. omega (arith, eqb→eq)) (λ _. omega arith)

-- The bytes of kind digit are those that a number is made of.
pub kind_digit : (b : ℕ) → eqb (kind_of b) 0 ≡ digit b
unfolding digit
kind_digit b = go (between 48 57 b) refl
  where
    go : (t : Bool) → between 48 57 b ≡ t → eqb (kind_of b) 0 ≡ t
    go true e = let (l, h) = simp T_and at (subst T (sym e) tt) in eq-eqb (kind_of b) 0 (digit_kind (leb→le 48 b l) (leb→le b 57 h))
    go false e = ne_eqb (kind_of b) 0 λ k. let (l, h) = (told b).digits k in true≢false (sym (within 48 57 b l h) ∙ e)

-- One byte alone is a space, and one a line end: to ask for the byte is to ask for the kind.
pub kind_space : (b : ℕ) → kind_of b ≡ 4 ↔ b ≡ 32
unfolding kind_of
kind_space b = ((told b).space, λ e. rw e)

pub kind_line_end : (b : ℕ) → kind_of b ≡ 5 ↔ b ≡ line_end
unfolding kind_of
kind_line_end b = ((told b).line_end_lem, λ e. rw e)
