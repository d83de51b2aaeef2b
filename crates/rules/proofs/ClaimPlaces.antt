-- Check 11 by places: the new literals of the rule table, and the claim as a whole. `rest` is the rest of the line from the claim on; each
-- answers the place in it past what it expects.
use Rattle.std.specs.Prelude.{ℕ, ◌+◌, Bool, cond, not, ◌||◌, List, Option, Some, None, length, drop}
use Rattle.logic.specs.declared.Rule.{Rule}
use Rattle.logic.specs.Rules.{uses}
use Rattle.clauses.proofs.Places.{literals_at, positive_at, within}
use Rattle.filling.proofs.Claims.{rewritten_at, reflexive_at, equated_at, others_at, claim_end}
use Rattle.text.proofs.Places.{end_of}
use Rattle.clauses.specs.Parts.{PartIn, part_at}
use Rattle.filling.specs.Filled.{matches, item_depth}
use Rattle.filling.proofs.Places.{filled_by}
use Rattle.expected.specs.Claims.{Expected, merged, projected}
use Rattle.rules.proofs.RowPlaces.{Kind, Reflexivity, Resolution, Factoring, Rewriting, Acyclicity, Scalarity, Elimination, Merging, Projection, bare_item, Found, found_at}

-- What the claim keeps, of terms that nest at most `depth` deep: of A's first `a` literals all but literal i, of B's first `b` all but
-- literal j.
pub record Kept : Type 0 where
  pub depth : ℕ
  pub a : ℕ
  pub i : ℕ
  pub b : ℕ
  pub j : ℕ

-- An item, filled by a list of the line, is expected; the new literals of mer and pro.
abbrev pub expected_at : ℕ → List ℕ → List ℕ → Expected
expected_at depth line starts x rest = matches (filled_by line starts (item_depth depth) x.bytes) rest

unfoldable pub projected_at : ℕ → List ℕ → List ℕ → List ℕ → Option PartIn → List ℕ → ℕ → ℕ
projected_at depth line starts object None rest pos = length rest + 1
projected_at depth line starts object (Some y) rest pos =
    end_of rest (projected (expected_at depth line starts) (bare_item object) y (drop pos rest))

unfoldable pub merged_at : ℕ → List ℕ → List ℕ → List ℕ → List ℕ → List ℕ → List ℕ → ℕ → ℕ
merged_at depth line starts atom others other rest pos =
    end_of rest (merged (expected_at depth line starts) (expected_at depth line others) (bare_item atom) (bare_item other) (drop pos rest))

-- R8 to R26, "new literal, filled": the new literal, if there is one, after a space.
unfoldable pub new_by : ℕ → Kind → Found → List ℕ → List ℕ → List ℕ → List ℕ → List ℕ → List ℕ → ℕ → ℕ
new_by depth Reflexivity f p line starts q others rest pos = reflexive_at depth line starts rest pos
new_by depth Resolution f p line starts q others rest pos = pos
new_by depth Factoring f p line starts q others rest pos = pos
new_by depth Rewriting f p line starts q others rest pos =
    rewritten_at depth p f.literal f.left line starts q f.other others rest pos
new_by depth Acyclicity f p line starts q others rest pos = equated_at depth p f.left line starts p f.more starts rest pos
new_by depth Scalarity f p line starts q others rest pos = equated_at depth p f.more line starts q f.other others rest pos
new_by depth Elimination f p line starts q others rest pos = pos
new_by depth Merging f p line starts q others rest pos = merged_at depth line starts (drop f.left p) others (drop f.right q) rest pos
new_by depth Projection f p line starts q others rest pos =
    projected_at depth line starts (drop f.left p) (part_at f.more (drop f.left p)) rest pos

unfoldable pub new_at : ℕ → Rule → ℕ → List ℕ → ℕ → List ℕ → List ℕ → List ℕ → ℕ → List ℕ → List ℕ → ℕ → ℕ
new_at depth rule k p i line starts q j others rest pos =
    let f = found_at rule k p i q j in
    new_by depth f.kind f p line starts q others rest pos

-- The literal of A that the claim lacks. R22: "For fac the claim is A without the literal at J where the two are positive, and without the
-- literal at I where they are negative."
-- It is told by the numbers that the rule uses: fac alone has no B and uses J. The literal at I stands at `at`.
unfoldable pub dropped_at : Bool → Bool → List ℕ → ℕ → ℕ → ℕ → ℕ
dropped_at uses_b uses_j p at i j = cond (uses_b || not uses_j) i (cond (within p (positive_at p at)) j i)

-- R21: "The claim, all of it filled, is the new literal, if there is one, then A's other literals, then B's other literals, in order."
unfoldable pub claim_by : Found → Kept → List ℕ → List ℕ → List ℕ → List ℕ → List ℕ → List ℕ → ℕ
claim_by f kept p line starts q others rest =
    let new = new_by kept.depth f.kind f p line starts q others rest (literals_at rest) in
    let first = others_at kept.depth p kept.a kept.i line starts rest new in
    claim_end rest (others_at kept.depth q kept.b kept.j line others rest first)

-- The clauses have n and m literals, those at I and J begin at the places x and y.
unfoldable pub claim_at : ℕ → Rule → ℕ → List ℕ → ℕ → ℕ → ℕ → List ℕ → List ℕ → List ℕ → ℕ → ℕ → ℕ → List ℕ → List ℕ → ℕ
claim_at depth rule k p n i x line starts q m j y others rest =
    let kept : Kept = record { depth = depth; a = n; i = dropped_at (uses rule).b (uses rule).j p x i j; b = m; j = j } in
    claim_by (found_at rule k p x q y) kept p line starts q others rest
