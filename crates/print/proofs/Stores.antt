-- The numbers of a line, one after another.
use Prim.Native.Nat.{ℕ, zero, suc, ◌+◌, ◌*◌, ◌≤◌, ◌<◌}
use mathlib.Core.Path.{◌≡◌, refl, sym, ap, subst, ◌∙◌}
use mathlib.Core.Bool.{Bool, true, false}
use mathlib.Core.List.{List, [], ◌∷◌, ◌++◌, append_assoc, append-nil}
use native.Mathlib.Numerals.{add-one}
use native.Mathlib.Omega.{arith}
use lib.ListN.{length, drop, take, get_or, length-append}
use Rattle.std.proofs.lemmas.List.{take_more}
use lib.Seq.{length-take-le}
use Rattle.io.specs.Counts.{IsPrefixLen}
use Rattle.logic.specs.declared.Check.{Check}
use Rattle.logic.specs.Descent.{numbers_below}
use Rattle.logic.specs.StepChecks.{check_number}
use Rattle.text.specs.Words.{bytes, line_end}
use Rattle.meaning.specs.declared.Verdict.{Verdict}
use Rattle.meaning.specs.declared.Verdict.TheVariants.{Refuted, Open, Refused}
use Rattle.meaning.specs.Means.{named, verdict_word, numbers}
use Rattle.writer.specs.Written.{numeral, Wrote}
use Rattle.writer.proofs.Digits.{numeral_short}
use Rattle.writer.proofs.Writing.{over_room, behind, back, wrote_both}
use Rattle.print.specs.Line.{spaced, word_line, verdict_line, rests_line, written}

pub spaced_append : (ns ms : List ℕ) → spaced (ns ++ ms) ≡ spaced ns ++ spaced ms
unfolding spaced
spaced_append [] ms = refl
spaced_append (n ∷ ns) ms = rw (spaced_append ns ms) (sym (append_assoc (32 ∷ numeral n) (spaced ns) (spaced ms)))

pub spaced_one : (n : ℕ) → spaced (n ∷ []) ≡ 32 ∷ numeral n
unfolding spaced
spaced_one n = append-nil (32 ∷ numeral n)

-- One more number of a list.
pub next_spaced : (ns : List ℕ) (i : ℕ) → i < length ns → spaced (take (i + 1) ns) ≡ spaced (take i ns) ++ spaced (get_or ns i 0 ∷ [])
next_spaced ns i h = ap spaced (take_more ns i 0 h) ∙ spaced_append (take i ns) (get_or ns i 0 ∷ [])

-- One more number of those that pass a test, and one that does not pass it.
pub more_spaced : (test : ℕ → Bool) (n : ℕ) → test n ≡ true → spaced (numbers_below (n + 1) test) ≡ spaced (numbers_below n test) ++ spaced (n ∷ [])
unfolding numbers_below
more_spaced test n e = rw (add-one n, e) (spaced_append (numbers_below n test) (n ∷ []))

pub none_more : (test : ℕ → Bool) (n : ℕ) → test n ≡ false → numbers_below (n + 1) test ≡ numbers_below n test
unfolding numbers_below
none_more test n e = rw (add-one n, e) (append-nil _)

-- Each number below 1,024 takes at most five bytes.
pub spaced_short : (test : ℕ → Bool) (n : ℕ) → n ≤ 1024 → length (spaced (numbers_below n test)) ≤ 5 * n
unfolding numbers_below spaced
spaced_short test zero h = omega arith
spaced_short test (suc n) h =
    subst (λ (m : ℕ). length (spaced (numbers_below m test)) ≤ 5 * m) (add-one n) (go (test n) refl (spaced_short test n (omega arith)))
  where
    go : (b : Bool) → test n ≡ b → length (spaced (numbers_below n test)) ≤ 5 * n → length (spaced (numbers_below (n + 1) test)) ≤ 5 * (n + 1)
    go true e k =
        rw (more_spaced test n e, spaced_one n)
        (omega (arith, length-append (spaced (numbers_below n test)) (32 ∷ numeral n), numeral_short 3 n (omega arith)))
    go false e k = rw (none_more test n e) (omega arith)

-- A line is written part after part.
pub line_wrote : {l m n o : List ℕ} {j k i : ℕ} (word ns : List ℕ) → Wrote word l j m → Wrote (spaced ns) (behind j m) k n → Wrote (line_end ∷ []) (behind (j + k) (back j m n)) i o →
    Wrote (word_line word ns) l (j + k + i) (back (j + k) (back j m n) o)
unfolding word_line
line_wrote word ns s t u = rw append_assoc at (wrote_both (wrote_both s t) u)

pub line_short : (word ns : List ℕ) {k : ℕ} → length (spaced ns) ≤ k → length (word_line word ns) ≤ length word + (k + 1)
unfolding word_line
line_short word ns h = omega (arith, length-append word (spaced ns ++ line_end ∷ []), length-append (spaced ns) (line_end ∷ []))

-- The line of each verdict.
pub refuted_verdict : {v : Verdict} {count first : ℕ} → v ≡ Refuted count first → verdict_line v ≡ word_line (bytes "refuted") (count ∷ first ∷ [])
unfolding verdict_line verdict_word numbers
refuted_verdict e = rw e

pub open_verdict : {v : Verdict} {count : ℕ} → v ≡ Open count → verdict_line v ≡ word_line (bytes "open") (count ∷ [])
unfolding verdict_line verdict_word numbers
open_verdict e = rw e

pub refused_verdict : {v : Verdict} {check : Check} {line : ℕ} → v ≡ Refused check line → verdict_line v ≡ word_line (bytes "refused") (check_number check ∷ line ∷ [])
unfolding verdict_line verdict_word numbers
refused_verdict e = rw e

-- A refuted text has a second line, and no other has one.
pub second_line : {v : Verdict} {count first : ℕ} (ns : List ℕ) → v ≡ Refuted count first → written v ns ≡ verdict_line v ++ word_line (bytes "rests") ns
unfolding written rests_line
second_line ns e = rw e

pub open_line : {v : Verdict} {count : ℕ} (ns : List ℕ) → v ≡ Open count → written v ns ≡ verdict_line v
unfolding written rests_line
open_line ns e = rw e (append-nil _)

pub refused_line : {v : Verdict} {check : Check} {line : ℕ} (ns : List ℕ) → v ≡ Refused check line → written v ns ≡ verdict_line v
unfolding written rests_line
refused_line ns e = rw e (append-nil _)

-- There is room for the two lines.
pub lines_short : (v : Verdict) (marks : List Bool) → length (verdict_line v) ≤ 64 → length (written v (named marks)) ≤ 8192
unfolding written rests_line named
lines_short (Refuted count first) marks h =
    let test : ℕ → Bool = λ m. get_or marks m false in
    let second = line_short (bytes "rests") (named marks) (spaced_short test 1024 (omega arith)) in
    omega (arith, length-append (verdict_line (Refuted count first)) (word_line (bytes "rests") (named marks)))
lines_short (Open count) marks h = omega (arith, length-append (verdict_line (Open count)) [])
lines_short (Refused check line) marks h = omega (arith, length-append (verdict_line (Refused check line)) [])

-- What is written where there is room for it.
pub wrote_all : {r : ℕ} {m : List ℕ} (part l : List ℕ) → length part ≤ length l → Wrote part l r m → (r ≡ length part) × (m ≡ part ++ drop r l)
wrote_all {r} part l h w =
    let e : r ≡ length part = omega (arith, w.count) in
    (e, w.buffer ∙ rw e (over_room part l h))

-- What the caller of `lines` learns: they lie within the buffer.
pub lines_counts : {n : ℕ} {m : List ℕ} (v : Verdict) (ns rest : List ℕ)
    → n ≡ length (written v ns) → m ≡ written v ns ++ rest → IsPrefixLen n m
lines_counts {n} {m} v ns rest e p =
    let within : n ≤ length m = omega (arith, simp length-append at (ap length p)) in
    (within, sym (length-take-le n m within))
