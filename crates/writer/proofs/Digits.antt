-- The digits that `io::decimal` gives are the numeral.
use Prim.Native.Nat.{ℕ, zero, suc, ◌+◌, ◌/◌, ◌%◌, ◌^◌, ◌≤◌, ◌<◌}
use mathlib.Core.Path.{◌≡◌, refl, sym, ap, ◌∙◌, subst}
use mathlib.Core.Bool.{Bool, true, false}
use mathlib.Core.List.{List, [], ◌∷◌, ◌++◌, append_assoc, append-nil}
use native.Mathlib.Nat.{pow-suc, mod-eq_of_lt, mod-lt, div-lt_iff_lt-mul, le-div_iff_mul-le, one-le-pow}
use native.Mathlib.Omega.{arith}
use lib.Dec.{ltb, lit<}
use lib.ListN.{length}
use borrow.Author.Tests.{lt-ltb, le-ltb, ltb-false}
use Rattle.io.specs.Digits.{hex_digit_ascii, last_digits, IsDigitCount}
use Rattle.text.specs.Write.{put_digits, put_number}
use Rattle.writer.specs.Written.{numeral}

small_glyph : (d : ℕ) → d < 10 → hex_digit_ascii d ≡ 48 + d
small_glyph d h = simp (lt-ltb d 10 h)

one_digit : (n : ℕ) (rest : List ℕ) → n < 10 → last_digits 10 1 n ++ rest ≡ (48 + n) ∷ rest
one_digit n rest h = rw (mod-eq_of_lt h, small_glyph n h)

-- k + 1 digits, without a leading zero, and a bound that is large enough
given : (f k n : ℕ) (rest : List ℕ) → k ≤ f → n < 10 ^ suc k → (0 < k → 10 ^ k ≤ n) → put_digits f n rest ≡ last_digits 10 (suc k) n ++ rest
unfolding put_digits
given zero zero n rest h small large = sym (one_digit n rest (omega (arith, pow-suc 10 0)))
given zero (suc k) n rest h small large = absurd (omega arith)
given (suc f) zero n rest h small large =
    let few : n < 10 = omega (arith, pow-suc 10 0) in
    rw (lt-ltb n 10 few) (sym (one_digit n rest few))
given (suc f) (suc k) n rest h small large =
    let many : 10 ≤ n = omega (arith, large (omega arith), pow-suc 10 k, one-le-pow k 10 (lit< tt)) in
    let below : n / 10 < 10 ^ suc k = (div-lt_iff_lt-mul (lit< tt)).1 (subst (λ (m : ℕ). n < m) (pow-suc 10 (suc k)) small) in
    let above : 10 ^ k ≤ n / 10 = (le-div_iff_mul-le (lit< tt)).1 (subst (λ (m : ℕ). m ≤ n) (pow-suc 10 k) (large (omega arith))) in
    rw (le-ltb n 10 many)
    (given f k (n / 10) ((48 + n % 10) ∷ rest) (omega arith) below (λ _. above)
    ∙ ap (λ (d : ℕ). last_digits 10 (suc k) (n / 10) ++ (d ∷ rest)) (sym (small_glyph (n % 10) (mod-lt n (lit< tt))))
    ∙ sym (append_assoc (last_digits 10 (suc k) (n / 10)) (hex_digit_ascii (n % 10) ∷ []) rest))

below_power : (k : ℕ) → k < 10 ^ k
below_power zero = lit< tt
below_power (suc k) = omega (arith, below_power k, pow-suc 10 k)

enough : (n k : ℕ) → (0 < k → 10 ^ k ≤ n) → k ≤ n
enough n zero large = omega arith
enough n (suc k) large = omega (arith, below_power (suc k), large (omega arith))

pub decimal_numeral : (n k : ℕ) → IsDigitCount 10 1 n k → last_digits 10 k n ≡ numeral n
unfolding numeral put_number
decimal_numeral n zero h = absurd (omega arith)
decimal_numeral n (suc k) h = sym (given n k n [] (enough n k large) h.1 large ∙ append-nil _)
  where
    large : 0 < k → 10 ^ k ≤ n
    large p = subst (λ (m : ℕ). 10 ^ m ≤ n) (omega arith) (h.2 (omega arith))

-- A number below 10 ^ (d + 1) is put as at most d + 1 digits.
abbrev Short : ℕ → ℕ → ℕ → List ℕ → Type 0
Short f d n rest = n < 10 ^ suc d → length (put_digits f n rest) ≤ suc d + length rest

short_at : (f d n : ℕ) (rest : List ℕ) (b : Bool) → ltb n 10 ≡ b → ((e : ℕ) → Short f e (n / 10) ((48 + n % 10) ∷ rest)) → Short (suc f) d n rest
unfolding put_digits
short_at f d n rest true e front small = rw e (omega arith)
short_at f zero n rest false e front small = absurd (omega (arith, pow-suc 10 0, ltb-false n 10 e))
short_at f (suc d) n rest false e front small =
    let below : n / 10 < 10 ^ suc d = (div-lt_iff_lt-mul (lit< tt)).1 (subst (λ (m : ℕ). n < m) (pow-suc 10 (suc d)) small) in
    rw e (omega (arith, front d below))

short : (f d n : ℕ) (rest : List ℕ) → Short f d n rest
unfolding put_digits
short zero d n rest small = omega arith
short (suc f) d n rest small = short_at f d n rest (ltb n 10) refl (λ e. short f e (n / 10) ((48 + n % 10) ∷ rest)) small

pub numeral_short : (d n : ℕ) → n < 10 ^ suc d → length (numeral n) ≤ suc d
unfolding numeral put_number
numeral_short d n small = omega (arith, short n d n [] small)
