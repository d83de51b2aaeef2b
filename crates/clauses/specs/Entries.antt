-- Nothing here is to be believed: `written_entry` (crates/rules/proofs/ListsSame) says what is found in a written list.
-- R2, "variable N of A becomes term N of the first list": the bytes of the entries of a list.
use Rattle.std.specs.Prelude.{ℕ, zero, suc, ◌-◌, List, [], ◌∷◌, Option, Some, None, length, take, map}
use Rattle.std.specs.Borrow.{Bor}
use Rattle.text.specs.Read.{Parsed, bad, got, Reader, and_then, ◌>>◌, skip}
use Rattle.text.specs.Access.{skip_item}

-- The bytes after what was read; none where nothing was.
unfoldable pub after : Parsed (Unit {0}) → List ℕ
after bad = []
after (got u rest) = rest

-- The bytes of an item as they stand.
unfoldable pub itself : Reader (List ℕ)
itself bs = and_then (skip_item bs) (λ _ rest. got (take (length bs - length rest) bs) rest)

-- After a space.
unfoldable pub next_entry : Reader (List ℕ)
next_entry = skip " " >> itself

-- What was read and what is read after it; none where nothing was.
unfoldable pub one_more : {A : Type 0} → (List ℕ → List A) → Parsed A → List A
one_more others bad = []
one_more others (got item rest) = item ∷ others rest

-- What is read n times in a row, or as often as something is.
unfoldable pub items : {A : Type 0} → Reader A → ℕ → List ℕ → List A
items read zero bs = []
items read (suc n) bs = one_more (items read n) (read bs)

-- T6, T9, "a list, `(let TERM ...)`": its entries, of which there are at most 32.
unfoldable pub entries : List ℕ → List (List ℕ)
entries bs = items next_entry 32 (after (skip "(let" bs))

-- Texts that are lent, by their bytes.
abbrev pub texts : List (Bor (List ℕ)) → List (List ℕ)
texts es = map (λ e. e.now) es

-- An item and the bytes after it.
abbrev pub taken : Option (Bor (List ℕ) × Bor (List ℕ)) → Parsed (List ℕ)
taken None = bad
taken (Some p) = got p.0.now p.1.now
