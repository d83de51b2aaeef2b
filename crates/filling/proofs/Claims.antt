-- Nothing here is to be believed: the laws in proofs/ say what it gives on written clauses. Terms nest at most `depth` deep.
-- Check 11 (V21) in bytes. R21: "The claim, all of it filled, is the new literal, if there is one, then A's other literals, then B's other
-- literals, in order."
use Rattle.std.specs.Prelude.{ℕ, zero, suc, ◌+◌, ◌-◌, Bool, true, false, List, eqb, length, drop}
use Rattle.text.specs.Words.{bytes}
use Rattle.filling.proofs.Places.{Ends}
use Rattle.filling.specs.Filled.{fill_item, matches, item_depth, hole_depth}
use Rattle.filling.proofs.Places.{replacing, filled_by, ends_of}
use Rattle.clauses.proofs.Places.{strip_at, skip_at, literals_at}

-- The item at `at` of p, filled by a list of the line, stands in the bytes `rest`: the place past it.
unfoldable pub filled_at : ℕ → List ℕ → ℕ → List ℕ → List ℕ → List ℕ → ℕ → ℕ
filled_at depth p at line starts rest pos =
    (ends_of p rest (matches (filled_by line starts (item_depth depth) (drop at p)) (drop pos rest))).pos

-- After a space, the literal at `at` of p, filled, with the item at `from` of q, filled by another list, in place of the item at `hole`.
unfoldable pub rewritten_at : ℕ → List ℕ → ℕ → ℕ → List ℕ → List ℕ → List ℕ → ℕ → List ℕ → List ℕ → ℕ → ℕ
rewritten_at depth p at hole line starts q from others rest pos =
    let new = fill_item (replacing line starts (length p - hole) q from others) (hole_depth depth) (drop at p) in
    (ends_of p rest (matches new (drop (strip_at rest (bytes " ") pos) rest))).pos

-- A new literal of two terms: its head with the space in front, an item of p, a space, an item of q, and two closing brackets.
unfoldable pub linked_at : ℕ → List ℕ → List ℕ → ℕ → List ℕ → List ℕ → List ℕ → ℕ → List ℕ → List ℕ → ℕ → ℕ
linked_at depth head p x line starts q y others rest pos =
    let first = filled_at depth p x line starts rest (strip_at rest head pos) in
    strip_at rest (bytes "))") (filled_at depth q y line others rest (strip_at rest (bytes " ") first))

-- R8: "+ sub(T,T)", T what variable 0 becomes. R12: "+ eq(P,Q)"; R18: "+ eq(R,R')".
unfoldable pub reflexive_at : ℕ → List ℕ → List ℕ → List ℕ → ℕ → ℕ
reflexive_at depth line starts rest pos = linked_at depth (bytes " (+ (sub ") (bytes "(v 0)") 0 line starts (bytes "(v 0)") 0 starts rest pos

unfoldable pub equated_at : ℕ → List ℕ → ℕ → List ℕ → List ℕ → List ℕ → ℕ → List ℕ → List ℕ → ℕ → ℕ
equated_at depth p x line starts q y others rest pos = linked_at depth (bytes " (+ (eq ") p x line starts q y others rest pos

-- The literal at `at` after a space: the places past it, in p and in the rest.
unfoldable pub kept_at : ℕ → List ℕ → ℕ → List ℕ → List ℕ → List ℕ → ℕ → Ends
kept_at depth p at line starts rest pos =
    ends_of p rest (matches (filled_by line starts (item_depth depth) (drop at p)) (drop (strip_at rest (bytes " ") pos) rest))

-- One literal: a dropped one is passed, another is kept.
unfoldable pub once_at : ℕ → List ℕ → ℕ → Bool → List ℕ → List ℕ → List ℕ → ℕ → Ends
once_at depth p at true line starts rest pos = record { at = skip_at p at; pos = pos }
once_at depth p at false line starts rest pos = kept_at depth p at line starts rest pos

-- The k literals from literal n on, which begins after a space at `at`, without the dropped one, each after a space.
unfoldable pub others_from : ℕ → List ℕ → ℕ → List ℕ → List ℕ → List ℕ → ℕ → ℕ → ℕ → ℕ → ℕ
others_from depth p dropped line starts rest zero n at pos = pos
others_from depth p dropped line starts rest (suc k) n at pos =
    let ends = once_at depth p (strip_at p (bytes " ") at) (eqb n dropped) line starts rest pos in
    others_from depth p dropped line starts rest k (n + 1) ends.at ends.pos

-- All literals of a clause but one.
unfoldable pub others_at : ℕ → List ℕ → ℕ → ℕ → List ℕ → List ℕ → List ℕ → ℕ → ℕ
others_at depth p count dropped line starts rest pos = others_from depth p dropped line starts rest count 0 (literals_at p) pos

-- T9, "followed by the clause that it claims": past the claim and its line, which its last literal ends at.
abbrev pub claim_end : List ℕ → ℕ → ℕ
claim_end rest pos = strip_at rest (bytes "))") pos
