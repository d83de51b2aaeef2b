-- Positions in a text: the bytes from a place on, and the place where they begin.
use Prim.Native.Nat.{ℕ, zero, suc, ◌+◌, ◌-◌, ◌≤◌}
use mathlib.Core.Path.{◌≡◌, refl, sym}
use mathlib.Core.List.{List, [], ◌∷◌, ◌++◌}
use native.Mathlib.Omega.{arith}
use lib.ListN.{length, drop, replicate, length-drop, length-append, drop_of_length-le}
use lib.Seq.{drop-drop, drop_at, drop-length}
use native.Mathlib.Decide.{dec_le}
use lib.Dec.{eqb}
use Rattle.text.specs.Read.{Parsed, bad, got, Reader, and_then, ◌>>◌, strip}
use Rattle.text.proofs.Places.{end_of, places}
use Rattle.text.specs.Access.{closing, skip_item, pass_item, to_item}
use Rattle.text.proofs.Tests.{on_test}
use Rattle.text.proofs.Gives.{Gives, nothing, gives, given, weaken, bind, strip_gives, Sound}
use Rattle.text.proofs.Plain.{Plain}
use Rattle.text.specs.Write.{Writer}

-- What is left after reading is the end of the bytes read from.
pub record End (bs rest : List ℕ) : Type 0 where
  pub within : length rest ≤ length bs
  pub dropped : drop (length bs - length rest) bs ≡ rest

pub record Tail {A : Type 0} (read : Reader A) : Type 0 where
  pub tail : (bs : List ℕ) → Gives (λ _ rest. End bs rest) (read bs)

pub end_refl : (bs : List ℕ) → End bs bs
end_refl bs = let z : length bs - length bs ≡ 0 = omega arith in record { within = omega arith; dropped = rw z }

pub end_append : (w rest : List ℕ) → End (w ++ rest) rest
end_append w rest = let l : length (w ++ rest) ≡ length w + length rest = length-append w rest in record { within = omega arith; dropped = drop_at w rest (length (w ++ rest) - length rest) (omega arith) }

pub end_trans : {bs mid rest : List ℕ} → End bs mid → End mid rest → End bs rest
end_trans {bs} {mid} {rest} p q =
    let e : length bs - length mid + (length mid - length rest) ≡ length bs - length rest = omega arith in
    record { within = omega arith; dropped = rw (← e, ← drop-drop, p.dropped, q.dropped) }

pub end_cons : (b : ℕ) {bs rest : List ℕ} → End bs rest → End (b ∷ bs) rest
end_cons b {bs} {rest} p = let e : suc (length bs) - length rest ≡ suc (length bs - length rest) = omega arith in record { within = omega arith; dropped = rw e p.dropped }

pub strip_tail : (w : List ℕ) → Tail (strip w)
strip_tail w = record { tail = λ bs. weaken (strip_gives w bs) (λ _ rest e. rw e (end_append w rest)) }

-- What is read is what was written.
pub sound_tail : {A : Type 0} {put : A → Writer} {F : A → Type 0} {read : Reader A} → Sound put F read → ((a : A) → Plain (put a)) → Tail read
sound_tail s plain = record { tail = λ bs. weaken (s.at bs) (λ a rest q. rw (q.0, (plain a).puts rest) (end_append (plain a).front rest)) }

-- The bytes from that place on.
pub end_drop : (s : List ℕ) (at : ℕ) (rest : List ℕ) → End (drop at s) rest → drop (length s - length rest) s ≡ rest
end_drop s at rest p =
    let l : length (drop at s) ≡ length s - at = length-drop at s in
    go l (dec_le at (length s))
  where
    empty : (r : List ℕ) → length r ≡ 0 → r ≡ []
    empty [] z = refl
    empty (b ∷ r) z = absurd (omega arith)

    go : length (drop at s) ≡ length s - at → Dec (at ≤ length s) → drop (length s - length rest) s ≡ rest
    go l (yes h) = let e : at + (length (drop at s) - length rest) ≡ length s - length rest = omega arith in rw (← e, ← drop-drop, p.dropped)
    go l (no h) = let z : length rest ≡ 0 = omega arith in let n : length s - length rest ≡ length s = omega arith in rw (n, drop-length) (sym (empty rest z))

pub then_end : {A B : Type 0} (s : List ℕ) (at : ℕ) {read : Reader A} → Tail read → (next : Reader B) → next [] ≡ bad → end_of s (and_then (read (drop at s)) (λ _. next)) ≡ end_of s (next (drop (end_of s (read (drop at s))) s))
unfolding end_of
then_end {A} s at {read} t next none = go (t.tail (drop at s))
  where
    go : {p : Parsed A} → Gives (λ _ rest. End (drop at s) rest) p → end_of s (and_then p (λ _. next)) ≡ end_of s (next (drop (end_of s p) s))
    go nothing = rw (drop_of_length-le s {i = length s + 1} (omega arith), none)
    go (gives {rest} e) = rw (end_drop s at rest e)

pub and_tail : {A B : Type 0} {read : Reader A} {next : Reader B} → Tail read → Tail next → Tail (read >> next)
and_tail t u = record { tail = λ bs. bind (t.tail bs) (λ a mid p. weaken (u.tail mid) (λ b rest q. end_trans p q)) }

pub closing_tail : (n : ℕ) → Tail (closing n)
unfolding closing
closing_tail n = record { tail = λ bs. go bs n }
  where
    go : (bs : List ℕ) (n : ℕ) → Gives (λ _ rest. End bs rest) (closing n bs)
    go [] n = nothing
    go (b ∷ bs) n =
        let on : (m : ℕ) → Gives (λ _ rest. End (b ∷ bs) rest) (closing m bs) = λ m. weaken (go bs m) (λ _ rest e. end_cons b e) in
        on_test (Gives _) (eqb b 40) (λ _. on (n + 1)) (λ _. on_test (Gives _) (eqb b 41) (λ _. on_test (Gives _) (eqb n 0) (λ _. gives (end_cons b (end_refl bs))) (λ _. on (n - 1))) (λ _. on n))

pub skip_tail : Tail skip_item
unfolding skip_item
skip_tail = and_tail (strip_tail (40 ∷ [])) (closing_tail 0)

pub pass_tail : Tail pass_item
unfolding pass_item
pass_tail = and_tail (strip_tail (32 ∷ [])) skip_tail

pub item_tail : (n : ℕ) → Tail (to_item n)
unfolding to_item
item_tail zero = strip_tail (32 ∷ [])
item_tail (suc n) = and_tail pass_tail (item_tail n)

-- Past the end there are no more items.
pub places_past : (s : List ℕ) (n : ℕ) → places s n (length s + 1) ≡ replicate n (length s + 1)
unfolding places pass_item strip end_of
places_past s zero = refl
places_past s (suc n) = let l : length s ≤ length s + 1 = omega arith in rw (drop_of_length-le s l, places_past s n)

-- A walk that finds its end: the place is within the text, and the rest stands there.
pub landed : {A : Type 0} (s : List ℕ) (at : ℕ) {read : Reader A} {a : A} {rest : List ℕ} → Tail read → read (drop at s) ≡ got a rest → (end_of s (read (drop at s)) ≤ length s) × (drop (end_of s (read (drop at s))) s ≡ rest)
unfolding end_of
landed s at {rest} t e = rw e (omega arith, end_drop s at rest (given (t.tail (drop at s)) e))
