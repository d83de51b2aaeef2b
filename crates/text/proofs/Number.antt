-- Numbers: what is written is read, and what is read was written.
use Prim.Native.Nat.{ℕ, zero, suc, ◌+◌, ◌*◌, ◌-◌, ◌/◌, ◌%◌, ◌≤◌, ◌<◌}
use mathlib.Core.Path.{◌≡◌, refl, sym, ◌∙◌, ap}
use mathlib.Core.Bool.{Bool, true, not}
use mathlib.Core.List.{List, [], ◌∷◌}
use native.Mathlib.Omega.{arith}
use lib.Dec.{T, ltb, leb→le, le→leb, ltb→lt, nltb→le, T_not}
use borrow.Author.Tests.{lt-ltb, le-ltb}
use Rattle.text.specs.Write.{digit_byte, put_digits, put_number}
use Rattle.text.specs.Form.{max_number, formed_number}
use Rattle.text.specs.Read.{got, digit, goes_on, read_digits, read_number}
use Rattle.text.proofs.Tests.{T_and, holds, on_test}
use Rattle.text.proofs.Gives.{Gives, nothing, gives, Sound}

-- No digit stands at the front.
abbrev pub ends : List ℕ → Bool
ends [] = true
ends (b ∷ bs) = not (digit b)

pub bounded : {n : ℕ} → T (formed_number n) → n ≤ max_number
bounded {n} t = leb→le n max_number t

digit_value : (b : ℕ) → T (digit b) → (b ≡ digit_byte (b - 48)) × (b - 48 < 10)
unfolding digit
digit_value b t = let (l, h) = simp T_and at t in omega (arith, leb→le 48 b l, leb→le b 57 h)

digit_byte_lem : (d : ℕ) → d < 10 → T (digit (digit_byte d))
unfolding digit
digit_byte_lem d h = simp T_and (omega (arith, le→leb), omega (arith, le→leb))

byte_value : (d : ℕ) → digit_byte d - 48 ≡ d
byte_value d = omega arith

goes_on_lem : (n m : ℕ) → 0 < n → m ≤ max_number → T (goes_on n m)
unfolding goes_on
goes_on_lem n m p h = simp T_and (omega (arith, le→leb), omega (arith, le→leb))

-- The first digit, and a further one.
first_digit : (n : ℕ) (rest : List ℕ) → n < 10 → read_number (digit_byte n ∷ rest) ≡ read_digits n rest
unfolding read_number
first_digit n rest h = rw (holds (digit (digit_byte n)) (digit_byte_lem n h), byte_value n)

further_digit : (n d : ℕ) (rest : List ℕ) → 0 < n → d < 10 → n * 10 + d ≤ max_number → read_digits n (digit_byte d ∷ rest) ≡ read_digits (n * 10 + d) rest
unfolding read_digits
further_digit n d rest p h l = rw (holds (digit (digit_byte d)) (digit_byte_lem d h), byte_value d, holds (goes_on n (n * 10 + d)) (goes_on_lem n (n * 10 + d) p l))

-- what is written is read as far as the number's last digit
digits_read : (k n : ℕ) (rest : List ℕ) → n ≤ k → n ≤ max_number → read_number (put_digits k n rest) ≡ read_digits n rest
unfolding put_digits
digits_read zero n rest h l = first_digit n rest (omega arith)
digits_read (suc k) n rest h l =
    on_test (λ bs. read_number bs ≡ read_digits n rest) (ltb n 10) (λ t. first_digit n rest (ltb→lt n 10 t)) λ t.
    digits_read k (n / 10) (digit_byte (n % 10) ∷ rest) (omega (arith, nltb→le)) (omega arith)
    ∙ further_digit (n / 10) (n % 10) rest (omega (arith, nltb→le)) (omega arith) (omega arith)
    ∙ ap (λ m. read_digits m rest) (omega arith)

stops : (n : ℕ) (rest : List ℕ) → T (ends rest) → read_digits n rest ≡ got n rest
unfolding read_digits
stops n [] t = refl
stops n (b ∷ bs) t = on_test (λ p. p ≡ got n (b ∷ bs)) (digit b) (λ d. absurd (T_not (digit b) t d)) (λ _. refl)

pub number_complete : (n : ℕ) (rest : List ℕ) → T (formed_number n) → T (ends rest) → read_number (put_number n rest) ≡ got n rest
unfolding put_number
number_complete n rest f t = digits_read n n rest (omega arith) (bounded f) ∙ stops n rest t

-- The bound on the digits does not matter where it is large enough.
one_digit : (k n : ℕ) (rest : List ℕ) → n < 10 → put_digits k n rest ≡ digit_byte n ∷ rest
unfolding put_digits
one_digit zero n rest h = refl
one_digit (suc k) n rest h = rw (lt-ltb n 10 h)

digits_fuel : (k j n : ℕ) (rest : List ℕ) → n ≤ k → n ≤ j → put_digits k n rest ≡ put_digits j n rest
unfolding put_digits
digits_fuel zero j n rest h i = sym (one_digit j n rest (omega arith))
digits_fuel (suc k) zero n rest h i = one_digit (suc k) n rest (omega arith)
digits_fuel (suc k) (suc j) n rest h i = rw (digits_fuel k j (n / 10) (digit_byte (n % 10) ∷ rest) (omega arith) (omega arith))

-- A number of several digits ends in the last of them.
put_further : (n d : ℕ) (rest : List ℕ) → 0 < n → d < 10 → put_number n (digit_byte d ∷ rest) ≡ put_number (n * 10 + d) rest
unfolding put_number put_digits
put_further n d rest p h =
    let m = n * 10 + d in
    let q : m / 10 ≡ n = omega arith in
    let r : m % 10 ≡ d = omega arith in
    digits_fuel n m n (digit_byte d ∷ rest) (omega arith) (omega arith) ∙ rw (digits_fuel m (suc m) m rest (omega arith) (omega arith), le-ltb m 10 (omega arith), q, r)

digits_sound : (n : ℕ) (bs : List ℕ) → T (formed_number n) → Gives (λ m rest. (put_number n bs ≡ put_number m rest) × T (formed_number m)) (read_digits n bs)
unfolding read_digits goes_on
digits_sound n [] f = gives (refl, f)
digits_sound n (b ∷ bs) f =
    on_test (Gives _) (digit b)
    (λ t. on_test (Gives _) (goes_on n (n * 10 + (b - 48))) (λ g.
    let (p, l) = simp T_and at g in
    let (e, h) = digit_value b t in
    rw (ap (λ c. put_number n (c ∷ bs)) e ∙ put_further n (b - 48) bs (leb→le 1 n p) h) (digits_sound (n * 10 + (b - 48)) bs l)) (λ _. nothing))
    (λ _. gives (refl, f))

number_gives : (bs : List ℕ) → Gives (λ n rest. (bs ≡ put_number n rest) × T (formed_number n)) (read_number bs)
unfolding read_number put_number
number_gives [] = nothing
number_gives (b ∷ bs) = on_test (Gives _) (digit b) (λ t.
    let (e, h) = digit_value b t in
    rw (ap (λ c. c ∷ bs) e ∙ sym (one_digit (b - 48) (b - 48) bs h)) (digits_sound (b - 48) bs (omega (arith, le→leb)))) (λ _. nothing)

pub number_sound : Sound put_number (λ n. T (formed_number n)) read_number
number_sound = record { at = number_gives }
