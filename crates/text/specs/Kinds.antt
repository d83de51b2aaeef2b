-- Nothing in this file has to be believed: the kinds of the 256 byte values. The reader asks only for digits, and `kind_digit`
-- (proofs/KindBytes) says that these are the digits of a number. `kinds_kept` (proofs/FormerKinds) holds them to the table that there was.
use Rattle.std.specs.Prelude.{ℕ, Bool, ◌&&◌, ◌||◌, cond, leb, eqb}

-- a byte from a to b
abbrev pub between : ℕ → ℕ → ℕ → Bool
between a b x = leb a x && leb x b

-- T5: "Each of the 256 byte values has a kind: digit (48 to 57), small letter (97 to 122), bracket (40 and 41), sign (43 and 45), space
-- (32), line end (10) or other (all the rest).": 0 to 6 in this order.
unfoldable pub kind_of : ℕ → ℕ
kind_of b =
    cond (between 48 57 b) 0
    (cond (between 97 122 b) 1
    (cond (eqb b 40 || eqb b 41) 2
    (cond (eqb b 43 || eqb b 45) 3
    (cond (eqb b 32) 4
    (cond (eqb b 10) 5 6)))))
