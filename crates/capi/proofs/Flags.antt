-- Which numbers `numbers_below` lists, and the flags one after another.
use Prim.Native.Nat.{ℕ, zero, suc, ◌+◌, ◌-◌, ◌≤◌, ◌<◌}
use mathlib.Core.Path.{◌≡◌, refl, sym, ap, ◌∙◌}
use mathlib.Core.Bool.{Bool, true, false, cond}
use mathlib.Core.List.{List, [], ◌∷◌, ◌++◌, append_assoc}
use native.Mathlib.Numerals.{add-one}
use native.Mathlib.Omega.{arith}
use mir.Val.{bool_byte}
use native.Mathlib.Decide.{dec_lt}
use Rattle.std.proofs.lemmas.List.{get_or_past, get_or_push, same_lists, get_or_append_left, get_or-append_right}
use lib.ListN.{length, drop, set, get_or, length-append}
use lib.Seq.{drop-cons, set_at}
use Rattle.logic.specs.Descent.{among, numbers_below}
use Rattle.logic.proofs.Descending.{member→among, among→member, numbers_below_lem, below_numbers}
use Rattle.text.proofs.Tests.{same_test}
use Rattle.meaning.specs.Means.{named}
use Rattle.capi.specs.Numbered.{flag, flags}

-- A number below the bound is listed exactly where it passes the test, and no other is.
below : (m n : ℕ) (test : ℕ → Bool) → n < m → among n (numbers_below m test) ≡ test n
below m n test h =
    same_test (among n (numbers_below m test)) (test n) (λ t. (numbers_below_lem m test n (among→member n (numbers_below m test) t)).1)
    (λ t. member→among n (numbers_below m test) (below_numbers m test n h t))

not_below : (m n : ℕ) (test : ℕ → Bool) → m ≤ n → among n (numbers_below m test) ≡ false
not_below m n test h =
    same_test (among n (numbers_below m test)) false (λ t. let w = numbers_below_lem m test n (among→member n (numbers_below m test) t) in absurd (omega (arith, w.0)))
    (λ t. absurd t)

pub length_flags : (n : ℕ) (ns : List ℕ) → length (flags n ns) ≡ n
unfolding flags
length_flags zero ns = refl
length_flags (suc n) ns = omega (arith, length-append (flags n ns) (flag ns n ∷ []), length_flags n ns)

-- No flags, and one more, before the rest.
pub no_flags : (ns l : List ℕ) → l ≡ flags 0 ns ++ l
unfolding flags
no_flags ns l = refl

pub more_flags : (n : ℕ) (ns l : List ℕ) → n < length l → set (flags n ns ++ drop n l) n (flag ns n) ≡ flags (n + 1) ns ++ drop (n + 1) l
unfolding flags
more_flags n ns l h =
    rw (add-one n, drop-cons l n 0 h)
    (set_at (flags n ns) _ (drop (suc n) l) (flag ns n) n (length_flags n ns) ∙ sym (append_assoc (flags n ns) (flag ns n ∷ []) (drop (suc n) l)))

-- The flag of a number is its mark, and there is none past the marks.
pub flag_mark : (marks : List Bool) (n : ℕ) → length marks ≡ 1024 → flag (named marks) n ≡ cond (get_or marks n false) 1 0
unfolding flag named
flag_mark marks n l = ap (λ (t : Bool). cond t 1 0) (go (dec_lt n 1024))
  where
    test : ℕ → Bool
    test m = get_or marks m false

    go : Dec (n < 1024) → among n (numbers_below 1024 test) ≡ get_or marks n false
    go (yes h) = below 1024 n test h
    go (no h) = not_below 1024 n test (omega arith) ∙ sym (get_or_past marks n false (omega (arith, l)))

-- A mark as a byte is its number's flag.
pub mark_flag : (marks : List Bool) (n : ℕ) → length marks ≡ 1024 → bool_byte (get_or marks n false) ≡ flag (named marks) n
mark_flag marks n l = go (get_or marks n false) ∙ sym (flag_mark marks n l)
  where
    go : (b : Bool) → bool_byte b ≡ cond b 1 0
    go true = refl
    go false = refl

read_flag : (n : ℕ) (ns : List ℕ) (k d : ℕ) → k < n → get_or (flags n ns) k d ≡ flag ns k
unfolding flags
read_flag zero ns k d h = absurd (omega (arith, h))
read_flag (suc n) ns k d h = go (λ i. read_flag n ns k d i) (dec_lt k n)
  where
    go : (k < n → get_or (flags n ns) k d ≡ flag ns k) → Dec (k < n) → get_or (flags n ns ++ flag ns n ∷ []) k d ≡ flag ns k
    go f (yes i) = get_or_append_left (flags n ns) (flag ns n ∷ []) d k (rw (length_flags n ns) i) ∙ f i
    go f (no i) =
        let e : k ≡ n = omega (arith, h, i) in
        ap (λ m. get_or (flags n ns ++ flag ns n ∷ []) m d) e ∙ get_or_push (flags n ns) (flag ns n) d n (length_flags n ns) ∙ ap (flag ns) (sym e)

-- The flags of numbers up to the last mark, and behind them no mark.
pub all_flags : (marks : List Bool) (zs : List ℕ) (n size : ℕ) → length marks ≡ 1024 → n + length zs ≡ size → (0 < length zs → 1024 ≤ n)
    → ((k d : ℕ) → k < length zs → get_or zs k d ≡ 0) → flags n (named marks) ++ zs ≡ flags size (named marks)
all_flags marks zs n size l s past none =
    same_lists _ _ total (λ k d h. go k d h (dec_lt k n))
  where
    ns : List ℕ
    ns = named marks

    total : length (flags n ns ++ zs) ≡ length (flags size ns)
    total = omega (arith, length-append (flags n ns) zs, length_flags n ns, length_flags size ns, s)

    go : (k d : ℕ) → k < length (flags n ns ++ zs) → Dec (k < n) → get_or (flags n ns ++ zs) k d ≡ get_or (flags size ns) k d
    go k d h (yes i) =
        get_or_append_left (flags n ns) zs d k (rw (length_flags n ns) i) ∙ read_flag n ns k d i ∙ sym (read_flag size ns k d (omega (arith, s, i)))
    go k d h (no i) =
        let b : k - n < length zs = omega (arith, h, i, length-append (flags n ns) zs, length_flags n ns) in
        let m : 1024 ≤ k = omega (arith, i, past (omega (arith, b))) in
        get_or-append_right (flags n ns) zs n k d (length_flags n ns) (omega (arith, i))
        ∙ none (k - n) d b
        ∙ sym (flag_mark marks k l ∙ ap (λ t. cond t 1 0) (get_or_past marks k false (omega (arith, l, m))))
        ∙ sym (read_flag size ns k d (omega (arith, s, b, i)))
