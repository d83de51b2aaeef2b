-- Nothing here is to be believed: the laws in proofs/ say what it gives on written clauses. Terms nest at most `depth` deep.
-- Agreement of filled items in bytes, and of what two arrow atoms have before their results.
use Rattle.std.specs.Prelude.{ℕ, Bool, cond, ◌&&◌, List, drop}
use Rattle.filling.specs.Filled.{matches, same_item, item_depth}
use Rattle.filling.proofs.Places.{plain, ground, filled_by, ends_of}
use Rattle.clauses.proofs.Places.{next_at, within}

-- The item at x of p, filled by a list of the line, stands at y of q.
unfoldable pub stands_at : ℕ → List ℕ → ℕ → List ℕ → List ℕ → List ℕ → ℕ → Bool
stands_at depth p x line starts q y = within q (ends_of p q (matches (filled_by line starts (item_depth depth) (drop x p)) (drop y q))).pos

-- The item at x of p, filled by one list of the line, is the item at y of q, filled by another. Where one clause has no variables, the
-- other's item is expected in its bytes.
unfoldable pub agree_at : ℕ → List ℕ → ℕ → List ℕ → List ℕ → List ℕ → ℕ → List ℕ → Bool
agree_at depth p x line starts q y others =
    let both = within p (ends_of p q (same_item (plain line starts) (plain line others) (item_depth depth) (drop x p) (drop y q))).at in
    cond (ground others) (stands_at depth p x line starts q y) (cond (ground starts) (stands_at depth q y line others p x) both)

-- R18, "same .. argument count, .. method, arguments", the methods at x and y
unfoldable pub parts_at : ℕ → List ℕ → ℕ → List ℕ → List ℕ → List ℕ → ℕ → List ℕ → Bool
parts_at depth p x line starts q y others =
    agree_at depth p x line starts q y others && agree_at depth p (next_at p x) line starts q (next_at q y) others

-- R18, "same .. argument count, object, method, arguments", the objects at x and y
unfoldable pub calls_at : ℕ → List ℕ → ℕ → List ℕ → List ℕ → List ℕ → ℕ → List ℕ → Bool
calls_at depth p x line starts q y others =
    agree_at depth p x line starts q y others && parts_at depth p (next_at p x) line starts q (next_at q y) others
