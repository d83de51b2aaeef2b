-- The table of argument counts at one symbol.
use Rattle.std.proofs.Common.{◌≡◌, ℕ, zero, suc, ◌<◌, ◌≤◌, false, eqb, List, [], ◌∷◌, length, get_or, refl, arith}
use Rattle.logic.specs.Each.{declares}

pub declares_past : (table : List ℕ) (f n : ℕ) → length table ≤ f → declares table f n ≡ false
unfolding declares
declares_past [] f n h = refl
declares_past (k ∷ table) zero n h = absurd (omega arith)
declares_past (k ∷ table) (suc f) n h = declares_past table f n (omega arith)

pub declares_at : (table : List ℕ) (f n : ℕ) → f < length table → declares table f n ≡ eqb (get_or table f 0) n
unfolding declares
declares_at [] f n h = absurd (omega arith)
declares_at (k ∷ table) zero n h = refl
declares_at (k ∷ table) (suc f) n h = declares_at table f n (omega arith)
