-- Line ends are counted, and the first of them ends the first line.
use Rattle.std.proofs.Common.{ℕ, zero, suc, ◌+◌, ◌<◌, ◌≡◌, refl, sym, ap, ◌∙◌, List, [], ◌∷◌, Bool, true, false, cond, count_by, eqb, length, take, arith}
use native.Mathlib.Decide.{ℕ_discrete}
use borrow.Author.Tests.{eq-eqb, ne_eqb}
use Rattle.std.proofs.lemmas.List.Sums.{sum_by-cons}
use Rattle.std.specs.Prelude.{None, Some}
use Rattle.memchr.specs.Find.{IsFirstByte, Nowhere, Passes, is_byte}
use Rattle.text.proofs.Sizes.{bytes_ended, bytes_unended, count_empty, count_ended, count_unended, ends_most}
use Rattle.text.specs.Words.{line_end}
use Rattle.text.specs.Size.{line_length, first_line, line_end_count}

one_more : (b n m : ℕ) → n ≡ m → Dec (b ≡ line_end) → cond (eqb line_end b) 1 0 + n ≡ cond (eqb b line_end) (suc m) m
one_more b n m h (yes e) = rw (eq-eqb b line_end e, eq-eqb line_end b (sym e)) (omega (arith, h))
one_more b n m h (no d) = rw (ne_eqb b line_end d, ne_eqb line_end b (λ e. d (sym e))) (omega (arith, h))

-- The line ends are the bytes that are one.
pub ends_counted : (text : List ℕ) → count_by (eqb line_end) text ≡ line_end_count text
unfolding line_end_count
ends_counted [] = refl
ends_counted (b ∷ bs) = sum_by-cons (λ x. cond (eqb line_end x) 1 0) b bs ∙ one_more b _ _ (ends_counted bs) (ℕ_discrete b line_end)

not_true : (t : Bool) → (t ≡ true → ⊥) → t ≡ false
not_true true h = absurd (h refl)
not_true false h = refl

-- The byte of the line ends is at k, and not before.
length_to : (text : List ℕ) (k : ℕ) → k < length text → Passes (is_byte line_end) text k → Nowhere (Passes (is_byte line_end) text) 0 k → line_length text ≡ k
unfolding line_length
length_to [] k h here before = absurd (omega arith)
length_to (b ∷ bs) zero h here before = rw here
length_to (b ∷ bs) (suc k) h here before =
    let none : eqb b line_end ≡ false = not_true _ (before 0 (omega arith) (omega arith)) in
    rw none (ap suc (length_to bs k (omega arith) here (λ j a l p. before (suc j) (omega arith) (omega arith) p)))

-- It is nowhere.
length_all : (text : List ℕ) → Nowhere (Passes (is_byte line_end) text) 0 (length text) → line_length text ≡ length text
unfolding line_length
length_all [] before = refl
length_all (b ∷ bs) before =
    let none : eqb b line_end ≡ false = not_true _ (before 0 (omega arith) (omega arith)) in
    rw none (ap suc (length_all bs (λ j a l p. before (suc j) (omega arith) (omega arith) p)))

pub first_ended : (text : List ℕ) (k : ℕ) → IsFirstByte (is_byte line_end) text (Some k) → take k text ≡ first_line text
first_ended text k h =
    let e = length_to text k h.0.high h.1 h.0.before in
    ap (λ (n : ℕ). take n text) (sym e) ∙ sym (bytes_ended text (omega (arith, h.0.high)))

pub first_unended : (text : List ℕ) → IsFirstByte (is_byte line_end) text None → [] ≡ first_line text
first_unended text h = sym (bytes_unended text (omega (arith, length_all text h)))

-- The lines of a text, by its line ends and its last byte.
pub ruleset line_counts = (count_empty, count_ended, count_unended, ends_most)
