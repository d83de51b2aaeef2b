-- Nothing in this file has to be believed: the parts of a clause in its bytes, what stands in brackets, one item after another.
-- `clause_item` and `argument_item` (proofs/Nesting) and `written_entry` (crates/rules/proofs/ListsSame) say what is found in what the writer
-- puts.
use Rattle.std.specs.Prelude.{ℕ, zero, suc, ◌+◌, ◌-◌, Bool, true, false, cond, ◌||◌, List, [], ◌∷◌, eqb}
use Rattle.text.specs.Read.{Parsed, bad, got, Reader, ◌>>◌, skip}

-- Up to the bracket that closes the item, with n brackets open inside it.
unfoldable pub closing : ℕ → Reader (Unit {0})
closing n [] = bad
closing n (b ∷ bs) =
    let deeper = closing (n + 1) bs in
    let out = closing (n - 1) bs in
    let on = closing n bs in
    cond (eqb b 40) deeper (cond (eqb b 41) (cond (eqb n 0) (got tt bs) out) on)

-- T1, "nested brackets": an item is what stands in brackets, with them.
unfoldable pub skip_item : Reader (Unit {0})
skip_item = skip "(" >> closing 0

-- T3, "One space stands between two items": a space and the item after it.
unfoldable pub pass_item : Reader (Unit {0})
pass_item = skip " " >> skip_item

-- Positions are counted from 0: past the space in front of item n.
unfoldable pub to_item : ℕ → Reader (Unit {0})
to_item zero = skip " "
to_item (suc n) = pass_item >> to_item n

-- T13, T17: argument n of "(T ...)", numbered from 0: the first has no space in front of it.
unfoldable pub opening : Reader (Unit {0})
opening [] = bad
opening (b ∷ bs) = cond (eqb b 40) (got tt (b ∷ bs)) bad

unfoldable pub to_argument : ℕ → Reader (Unit {0})
to_argument zero = skip "(" >> opening
to_argument (suc n) = skip "(" >> skip_item >> to_item n

unfoldable pub stood : Parsed (Unit {0}) → Bool
stood bad = false
stood (got u rest) = true

-- T11: a term begins with "(v " or "(f ".
unfoldable pub begins_term : List ℕ → Bool
begins_term bs = stood (skip "(v " bs) || stood (skip "(f " bs)

-- R20, "Occurrences are counted from 0 .., from left to right, a term before its parts, variables included":
-- from inside an item, with n brackets open in it, to the term that k terms come before.
unfoldable pub seek : ℕ → ℕ → Reader (Unit {0})
seek k n [] = bad
seek k n (b ∷ bs) =
    let passed = seek (k - 1) (n + 1) bs in
    let deeper = seek k (n + 1) bs in
    let out = seek k (n - 1) bs in
    let on = seek k n bs in
    let term = cond (eqb k 0) (got tt (b ∷ bs)) passed in
    cond (eqb b 40) (cond (begins_term (b ∷ bs)) term deeper) (cond (eqb b 41) (cond (eqb n 0) bad out) on)

unfoldable pub to_occurrence : ℕ → Reader (Unit {0})
to_occurrence k = skip "(" >> seek k 0
