-- What is written one part after another.
use Prim.Native.Nat.{ℕ, zero, suc, ◌+◌, ◌-◌, min, ◌≤◌}
use mathlib.Core.Path.{◌≡◌, refl, ap, ◌∙◌}
use mathlib.Core.List.{List, [], ◌∷◌, ◌++◌, append-nil}
use native.Mathlib.Omega.{arith}
use lib.ListN.{length, take, drop, length-append, length-drop, drop_of_length-le}
use lib.Seq.{take_all, take-nil, drop-nil}
use Rattle.writer.specs.Written.{over, Wrote}

pub over_none : (l : List ℕ) → over [] l ≡ l
unfolding over
over_none l = rw take-nil

pub over_length : (a l : List ℕ) → length (over a l) ≡ length l
unfolding over
over_length [] l = rw take-nil
over_length (x ∷ a) [] = refl
over_length (x ∷ a) (y ∷ l) = ap suc (over_length a l)

-- Where there is room, the part stands before the rest.
pub over_room : (a l : List ℕ) → length a ≤ length l → over a l ≡ a ++ drop (length a) l
unfolding over
over_room a l h = rw (take_all (length l) a)

-- As much of the part as there is room for, and then the bytes behind it.
pub over_put : (part l : List ℕ) (n : ℕ) → n ≡ min (length part) (length l) → take n part ++ drop n l ≡ over part l
unfolding over
over_put [] l zero h = rw take-nil
over_put [] l (suc n) h = absurd (omega arith)
over_put (b ∷ part) [] zero h = refl
over_put (b ∷ part) [] (suc n) h = absurd (omega arith)
over_put (b ∷ part) (x ∷ l) zero h = absurd (omega arith)
over_put (b ∷ part) (x ∷ l) (suc n) h = ap (λ m. b ∷ m) (over_put part l n (omega arith))

over_both : (a b l : List ℕ) (j : ℕ) → j ≡ min (length a) (length l) → take j (over a l) ++ over b (drop j (over a l)) ≡ over (a ++ b) l
unfolding over
over_both [] b l zero h = rw (take-nil (length l))
over_both [] b l (suc j) h = absurd (omega arith)
over_both (x ∷ a) b [] zero h = drop-nil (length b)
over_both (x ∷ a) b [] (suc j) h = absurd (omega arith)
over_both (x ∷ a) b (y ∷ l) zero h = absurd (omega arith)
over_both (x ∷ a) b (y ∷ l) (suc j) h = ap (λ m. x ∷ m) (over_both a b l j (omega arith))

pub wrote_length : {a l m : List ℕ} {j : ℕ} → Wrote a l j m → length m ≡ length l
wrote_length {a} {l} w = ap length w.buffer ∙ over_length a l

-- What is lent of m from j on, and m when it is back.
abbrev pub behind : ℕ → List ℕ → List ℕ
behind j m = take (length m - j) (drop j m)

abbrev pub back : ℕ → List ℕ → List ℕ → List ℕ
back j m n = take j m ++ (n ++ drop (length m - j) (drop j m))

-- A part, and a second behind it, are written as one.
pub wrote_both : {a b l m n : List ℕ} {j k : ℕ} → Wrote a l j m → Wrote b (behind j m) k n → Wrote (a ++ b) l (j + k) (back j m n)
wrote_both {a} {b} {l} {m} {n} {j} {k} s t =
    let whole : behind j m ≡ drop j m = take_all (length m - j) (drop j m) (omega (arith, length-drop j m)) in
    let none : drop (length m - j) (drop j m) ≡ [] = drop_of_length-le (drop j m) {i = length m - j} (omega (arith, length-drop j m)) in
    let u : Wrote b (drop j m) k n = rw whole at t in
    let same = wrote_length s in
    record {
      count = omega (arith, s.count, u.count, length-drop j m, length-append a b);
      buffer = rw (none, append-nil n, u.buffer, s.buffer) (over_both a b l j s.count);
    }
