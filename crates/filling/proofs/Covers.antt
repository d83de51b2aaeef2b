-- Nothing here is to be believed: the laws in proofs/ say what it gives on written clauses. Terms nest at most `depth` deep.
-- Covering in bytes, and the atoms of literals by their signs.
use Rattle.std.specs.Prelude.{ℕ, Bool, ◌&&◌, ◌||◌, List, take, drop}
use Rattle.text.specs.Words.{bytes}
use Rattle.clauses.proofs.Places.{strip_at, result_at}
use Rattle.filling.proofs.Agree.{agree_at, calls_at}
use Rattle.clauses.proofs.Places.{within}

-- The head of an arrow atom: a bracket, two letters and a space.
unfoldable pub head_at : List ℕ → ℕ → List ℕ
head_at p x = take 4 (drop x p)

-- R4, "Y is X with none in place of a term result": the atom at x of p has none and is otherwise the one at y of q.
unfoldable pub bare_at : ℕ → List ℕ → ℕ → List ℕ → List ℕ → List ℕ → ℕ → List ℕ → Bool
bare_at depth p x line starts q y others =
    let o = strip_at p (head_at p x) x in
    let u = strip_at q (head_at p x) y in
    within p (strip_at p (bytes "none") (result_at p o)) && (within q u && calls_at depth p o line starts q u others)

-- R4, "X *covers* Y if they are equal, or if Y is X with none in place of a term result": the atom at y of q covers the one at x of p.
unfoldable pub covers_at : ℕ → List ℕ → ℕ → List ℕ → List ℕ → List ℕ → ℕ → List ℕ → Bool
covers_at depth p x line starts q y others = agree_at depth p x line starts q y others || bare_at depth p x line starts q y others
