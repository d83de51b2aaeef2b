-- Lines counted and found in a text.
use Prim.Native.Nat.{ℕ, suc, ◌+◌, ◌-◌, ◌≤◌, ◌<◌}
use mathlib.Core.Path.{◌≡◌, refl, sym, ◌∙◌, ap}
use mathlib.Core.Bool.{Bool, true, false, cond}
use mathlib.Core.List.{List, [], ◌∷◌, ◌++◌}
use native.Mathlib.Omega.{arith}
use borrow.Author.Tests.{eq-eqb, ne_eqb, lt-ltb, le-ltb, ltb-false}
use lib.Dec.{T, eqb, ltb, eqb→eq}
use lib.ListN.{length, get_or, take, drop, length-take, length-drop}
use lib.Seq.{take_all, drop-drop}
use native.Mathlib.Nat.{suc-add}
use Rattle.text.specs.Words.{line_end}
use Rattle.text.specs.Split.{Raw, ended, unended, push, split}
use Rattle.text.specs.Size.{line_length, first_line, part_at, line_end_count, line_count}
use Rattle.text.proofs.Tests.{T_and, on_test}
use Rattle.text.proofs.Plain.{unbroken}
use Rattle.text.proofs.Places.{at_byte, past}
use Rattle.text.proofs.Lines.{split_line, split_end}

-- A byte at the front of a line is no line more, and bytes have a line.
push_some : (b : ℕ) (lines : List Raw) → 0 < length (push b lines)
unfolding push
push_some b [] = omega arith
push_some b (ended w ∷ lines) = omega arith
push_some b (unended w ∷ lines) = omega arith

push_length : (b : ℕ) (lines : List Raw) → 0 < length lines → length (push b lines) ≡ length lines
unfolding push
push_length b [] h = absurd (omega arith)
push_length b (ended w ∷ lines) h = refl
push_length b (unended w ∷ lines) h = refl

split_some : (b : ℕ) (bs : List ℕ) → 0 < length (split (b ∷ bs))
unfolding split
split_some b bs = on_test (λ x. 0 < length x) (eqb b line_end) {x = ended [] ∷ split bs} (λ _. omega arith) (λ _. push_some b (split bs))

-- The lines of a text are as many as its line ends, and one more where its last byte is not one.
count_front : (t : Bool) (b ends more : ℕ) (lines : List Raw) → 0 < length lines → length lines ≡ ends + more → length (cond t (ended [] ∷ lines) (push b lines)) ≡ cond t (suc ends) ends + more
count_front true b ends more lines h e = omega arith
count_front false b ends more lines h e = push_length b lines h ∙ e

count_last : (b : ℕ) (bs : List ℕ) → line_count (b ∷ bs) ≡ line_end_count (b ∷ bs) + cond (eqb (get_or (b ∷ bs) (length bs) 0) line_end) 0 1
unfolding split push line_end_count
count_last b [] = go (eqb b line_end)
  where
    go : (t : Bool) → length (cond t (ended [] ∷ []) (unended (b ∷ []) ∷ [])) ≡ cond t 1 0 + cond t 0 1
    go true = refl
    go false = refl
count_last b (c ∷ bs) = count_front (eqb b line_end) b (line_end_count (c ∷ bs)) _ (split (c ∷ bs)) (split_some c bs) (count_last c bs)

pub count_empty : (text : List ℕ) → length text ≡ 0 → line_count text ≡ 0
unfolding split
count_empty [] h = refl
count_empty (b ∷ bs) h = absurd (omega arith)

count_ends : (text : List ℕ) → 0 < length text → line_count text ≡ line_end_count text + cond (eqb (get_or text (length text - 1) 0) line_end) 0 1
count_ends [] h = absurd (omega arith)
count_ends (b ∷ bs) h = let z : suc (length bs) - 1 ≡ length bs = omega arith in rw z (count_last b bs)

module _ (text : List ℕ) (h : 0 < length text) where
  pub count_ended : get_or text (length text - 1) 0 ≡ 10 → line_count text ≡ line_end_count text
  count_ended e = omega (arith, rw (eq-eqb _ line_end e) at (count_ends text h))

  pub count_unended : (get_or text (length text - 1) 0 ≡ 10 → ⊥) → line_count text ≡ line_end_count text + 1
  count_unended e = omega (arith, rw (ne_eqb _ line_end e) at (count_ends text h))

pub ends_most : (bs : List ℕ) → line_end_count bs ≤ length bs
unfolding line_end_count
ends_most [] = omega arith
ends_most (b ∷ bs) = on_test (λ n. n ≤ suc (length bs)) (eqb b line_end) {x = suc (line_end_count bs)} {y = line_end_count bs} (λ _. omega (arith, ends_most bs)) (λ _. omega (arith, ends_most bs))

module _ (text : List ℕ) (i : ℕ) where
  pub ends_here : i < length text → get_or text i 0 ≡ 10 → line_end_count (drop i text) ≡ suc (line_end_count (drop (i + 1) text))
  unfolding line_end_count
  ends_here h e = rw (at_byte text i h, eq-eqb (get_or text i 0) line_end e)

  pub ends_further : i < length text → (get_or text i 0 ≡ 10 → ⊥) → line_end_count (drop i text) ≡ line_end_count (drop (i + 1) text)
  unfolding line_end_count
  ends_further h e = rw (at_byte text i h, ne_eqb (get_or text i 0) line_end e)

  pub ends_over : length text ≤ i → line_end_count (drop i text) ≡ 0
  unfolding line_end_count
  ends_over h = rw (past text i h)

-- The line end that is found ends the first line of the bytes left: `split` begins with the bytes before it.
line_front : (bs : List ℕ) → T (unbroken (take (line_length bs) bs))
unfolding line_length
line_front [] = tt
line_front (b ∷ bs) = on_test (λ n. T (unbroken (take n (b ∷ bs)))) (eqb b line_end) (λ _. tt) (λ t. simp T_and (t, line_front bs))

line_rest : (bs : List ℕ) → line_length bs < length bs → bs ≡ take (line_length bs) bs ++ (line_end ∷ drop (line_length bs + 1) bs)
unfolding line_length
line_rest [] h = absurd (omega arith)
line_rest (b ∷ bs) h = on_test (λ n. n < suc (length bs) → b ∷ bs ≡ take n (b ∷ bs) ++ (line_end ∷ drop (n + 1) (b ∷ bs))) (eqb b line_end) (λ t _. ap (λ c. c ∷ bs) (eqb→eq b line_end t)) (λ _ l. rw suc-add (ap (λ c. b ∷ c) (line_rest bs (omega arith)))) h

pub split_at : (bs : List ℕ) → line_length bs < length bs → split bs ≡ ended (take (line_length bs) bs) ∷ split (drop (line_length bs + 1) bs)
split_at bs h = ap split (line_rest bs h) ∙ split_line (take (line_length bs) bs) (drop (line_length bs + 1) bs) (line_front bs)

pub split_over : (b : ℕ) (bs : List ℕ) → length (b ∷ bs) ≤ line_length (b ∷ bs) → split (b ∷ bs) ≡ unended (b ∷ bs) ∷ []
split_over b bs h = split_end b bs (rw (take_all (line_length (b ∷ bs)) (b ∷ bs) h) at (line_front (b ∷ bs)))

-- The first line, ended and not.
module _ (text : List ℕ) where
  pub bytes_ended : line_length text < length text → first_line text ≡ take (line_length text) text
  unfolding first_line
  bytes_ended l = rw (lt-ltb (line_length text) (length text) l)

  pub bytes_unended : length text ≤ line_length text → first_line text ≡ []
  unfolding first_line
  bytes_unended l = rw (le-ltb (line_length text) (length text) l)

  pub bytes_length : line_length text < length text → length (first_line text) ≡ line_length text
  bytes_length l = omega (arith, ap length (bytes_ended l), length-take (line_length text) text)

-- Of two texts in a row: within what stands from a place on, the same text holds what follows.
pub part_on : (base job : List ℕ) (at k : ℕ) → k < length (part_at base job at) → part_at base job (at + k) ≡ drop k (part_at base job at)
unfolding part_at
part_on base job at k h = go (ltb at (length base)) refl
  where
    go : (b : Bool) → ltb at (length base) ≡ b → part_at base job (at + k) ≡ drop k (part_at base job at)
    go true e =
        let g : k < length (drop at base) = rw e at h in
        let n : at + k < length base = omega (arith, length-drop at base) in
        rw (e, lt-ltb (at + k) (length base) n) (sym (drop-drop k at base))
    go false e =
        let n = ltb-false at (length base) e in
        let m : at + k - length base ≡ (at - length base) + k = omega arith in
        rw (e, le-ltb (at + k) (length base) (omega arith), m) (sym (drop-drop k (at - length base) job))
