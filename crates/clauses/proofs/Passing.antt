-- What is left after a word and after an item.
use Rattle.std.proofs.Common.{◌≡◌, ◌≤◌, ℕ, zero, suc, ◌+◌, List, length, arith, sym}
use Rattle.text.specs.Read.{got, Reader, strip}
use Rattle.text.specs.Access.{skip_item, pass_item, to_item}
use Rattle.text.proofs.Gives.{given}
use Rattle.text.proofs.Positions.{Tail, strip_tail, skip_tail}

-- It is no longer than what it was before.
pub left_within : {A : Type 0} {read : Reader A} → Tail read → (bs : List ℕ) {a : A} {rest : List ℕ} → got a rest ≡ read bs → length rest ≤ length bs
left_within t bs e = (given (t.tail bs) (sym e)).within

pub strip_within : (w bs : List ℕ) {rest : List ℕ} → got tt rest ≡ strip w bs → length rest ≤ length bs
strip_within w bs e = left_within (strip_tail w) bs e

pub skip_within : (bs : List ℕ) {rest : List ℕ} → got tt rest ≡ skip_item bs → length rest ≤ length bs
skip_within bs e = left_within skip_tail bs e

-- Item n, after one of them.
pub item_later : (n k : ℕ) (bs : List ℕ) {rest : List ℕ} → n ≡ k + 1 → got tt rest ≡ pass_item bs → to_item n bs ≡ to_item k rest
unfolding to_item
item_later zero k bs z e = absurd (omega arith)
item_later (suc n) k bs z e = let s : n ≡ k = omega arith in rw (← e, s)
