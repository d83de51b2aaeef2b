-- Bytes among which an item cannot end, and what is left after bytes that were passed.
use Rattle.std.proofs.Common.{◌≡◌, ◌≤◌, ℕ, ◌+◌, ◌-◌, cond, List, [], ◌∷◌, ◌++◌, eqb, length, take, drop, count_by, sym, ap, ◌∙◌, arith}
use native.Mathlib.Decide.{ℕ_discrete}
use borrow.Author.Tests.{ne_eqb}
use Rattle.std.proofs.lemmas.List.{take-append-drop}
use Rattle.std.proofs.lemmas.List.Sums.{sum_by-cons}
use Rattle.text.specs.Access.{closing}

-- No more brackets close among w than are open.
abbrev Leaps : List ℕ → List ℕ → ℕ → Type 0
Leaps w rest level = count_by (eqb 41) w ≤ level → closing level (w ++ rest) ≡ closing (level + count_by (eqb 40) w - count_by (eqb 41) w) rest

counted : (b x : ℕ) (w : List ℕ) → count_by (eqb b) (x ∷ w) ≡ cond (eqb b x) 1 0 + count_by (eqb b) w
counted b x w = sum_by-cons (λ y. cond (eqb b y) 1 0) x w

opens : (w rest : List ℕ) (level : ℕ) → Leaps w rest (level + 1) → Leaps (40 ∷ w) rest level
unfolding closing
opens w rest level l h = l (omega (arith, counted 41 40 w)) ∙ ap (λ n. closing n rest) (omega (arith, counted 40 40 w, counted 41 40 w))

closes : (w rest : List ℕ) (level : ℕ) → Leaps w rest (level - 1) → Leaps (41 ∷ w) rest level
unfolding closing
closes w rest level l h =
    let n : level ≡ 0 → ⊥ = λ z. omega (arith, counted 41 41 w) in
    rw (ne_eqb level 0 n) (l (omega (arith, counted 41 41 w)) ∙ ap (λ n. closing n rest) (omega (arith, counted 40 41 w, counted 41 41 w)))

goes_on : (x : ℕ) (w rest : List ℕ) (level : ℕ) → (x ≡ 40 → ⊥) → (x ≡ 41 → ⊥) → Leaps w rest level → Leaps (x ∷ w) rest level
unfolding closing
goes_on x w rest level n m l h =
    let o : count_by (eqb 40) (x ∷ w) ≡ count_by (eqb 40) w = counted 40 x w ∙ rw (ne_eqb 40 x (λ e. n (sym e))) (omega arith) in
    let c : count_by (eqb 41) (x ∷ w) ≡ count_by (eqb 41) w = counted 41 x w ∙ rw (ne_eqb 41 x (λ e. m (sym e))) (omega arith) in
    rw (ne_eqb x 40 n, ne_eqb x 41 m) (l (omega arith) ∙ ap (λ n. closing n rest) (omega arith))

by_byte : (x : ℕ) (w rest : List ℕ) (level : ℕ) → ((n : ℕ) → Leaps w rest n) → Dec (x ≡ 40) → Dec (x ≡ 41) → Leaps (x ∷ w) rest level
by_byte x w rest level l (yes e) _ = rw e (opens w rest level (l (level + 1)))
by_byte x w rest level l (no n) (yes e) = rw e (closes w rest level (l (level - 1)))
by_byte x w rest level l (no n) (no m) = goes_on x w rest level n m (l level)

leaps : (w rest : List ℕ) (level : ℕ) → Leaps w rest level
leaps [] rest level = λ h. let z : level + 0 - 0 ≡ level = omega arith in rw z
leaps (x ∷ w) rest level = by_byte x w rest level (leaps w rest) (ℕ_discrete x 40) (ℕ_discrete x 41)

-- The same of the first 16 bytes.
pub leap_over : (level : ℕ) (bs : List ℕ) → 16 ≤ length bs → count_by (eqb 41) (take 16 bs) ≤ level → closing level bs ≡ closing (level + count_by (eqb 40) (take 16 bs) - count_by (eqb 41) (take 16 bs)) (drop 16 bs)
leap_over level bs l h = ap (closing level) (sym (take-append-drop 16 bs)) ∙ leaps (take 16 bs) (drop 16 bs) level h
