-- Bytes are counted block by block.
use Rattle.std.proofs.Common.{ℕ, zero, suc, ◌+◌, ◌*◌, ◌<◌, ◌≡◌, sym, ap, ◌∙◌, List, Bool, cond, get_or, take, drop, count_by, arith}
use Rattle.std.proofs.Math.Seq.{drop-drop}
use Rattle.std.proofs.lemmas.List.Sums.{sum_by-take-drop}
use Rattle.std.specs.Simd.{first_chunks}

chunk_at : (n k i : ℕ) (xs d : List ℕ) → i < k → get_or {A = List ℕ} (first_chunks n k xs) i d ≡ take n (drop (i * n) xs)
chunk_at n zero i xs d h = absurd (omega arith)
chunk_at n (suc k) zero xs d h = let none : 0 ≡ 0 * n = omega arith in ap (λ (m : ℕ). take n (drop m xs)) none
chunk_at n (suc k) (suc i) xs d h = chunk_at n k i (drop n xs) d (omega arith) ∙ ap (take n) (drop-drop (i * n) n xs ∙ ap (λ (m : ℕ). drop m xs) (omega arith))

-- How many pass a test from block i on: those of the block and those from the next one on.
pub in_blocks : (p : ℕ → Bool) (n k i : ℕ) (xs d : List ℕ) → i < k → count_by p (drop (i * n) xs) ≡ count_by p (get_or {A = List ℕ} (first_chunks n k xs) i d) + count_by p (drop ((i + 1) * n) xs)
in_blocks p n k i xs d h =
    let next : drop n (drop (i * n) xs) ≡ drop ((i + 1) * n) xs = drop-drop n (i * n) xs ∙ ap (λ (m : ℕ). drop m xs) (omega arith) in
    let block = chunk_at n k i xs d h in
    rw (block, ← next) (sym (sum_by-take-drop (λ x. cond (p x) 1 0) (drop (i * n) xs) n))
