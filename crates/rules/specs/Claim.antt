-- Nothing here is to be believed: `judge_meets` says what it gives on written clauses. Terms nest at most `depth` deep.
-- Check 11 (V21) in bytes: the new literals of the rule table (R8 to R26), and the claim as a whole.
use Rattle.std.specs.Prelude.{ℕ, Bool, false, List, length}
use Rattle.text.specs.Read.{Parsed, bad, got, Reader, ◌>>◌}
use Rattle.clauses.specs.Shapes.{literals}
use Rattle.filling.specs.Items.{Item, item_of, beside}
use Rattle.expected.specs.Claims.{item_expected, reflexive, equated, rewritten, merged, projected, others, claim_ends}
use Rattle.expected.specs.declared.claims.Kept.{Kept}
use Rattle.rule_table.specs.Rows.{FoundAt, nothing, fitting, rewriting, crossing, calling, denied_term, merging, projecting}
use Rattle.rules.specs.declared.claims.Premise.{Premise}

-- R8 to R26, "new literal, filled": the new literal, if there is one, after a space, of what was found in the clauses x and y.
unfoldable pub new_by : ℕ → Item → Item → FoundAt → Reader (Unit {0})
new_by depth x y nothing = reflexive depth x.entries
new_by depth x y (fitting l r) = λ rest. got tt rest
new_by depth x y (rewriting l t s o) = rewritten depth (beside x l) (length t) (beside y o)
new_by depth x y (crossing p q p' q') = equated depth (beside x p) (beside x q)
new_by depth x y (calling same o r o' r') = equated depth (beside x r) (beside y r')
new_by depth x y denied_term = λ rest. got tt rest
new_by depth x y (merging l o r o') = merged (item_expected depth) (item_expected depth) (beside x l) (beside y r)
new_by depth x y (projecting o p) = projected (item_expected depth) (beside x o) p

-- A parent, filled, and its number of literals.
pub record PremiseAt : Type 0 where
  pub clause : Item
  pub literals : ℕ

abbrev pub premise_of : Premise → PremiseAt
premise_of p = record { clause = item_of p.clause; literals = p.literals }

-- What the claim keeps of a parent: of so many literals of its clause all but one.
pub record KeptAt : Type 0 where
  pub clause : Item
  pub literals : ℕ
  pub dropped : ℕ

abbrev pub kept_of : Kept → KeptAt
kept_of k = record { clause = item_of k.clause; literals = k.literals; dropped = k.dropped }

abbrev pub without : PremiseAt → ℕ → KeptAt
without p dropped = record { clause = p.clause; literals = p.literals; dropped = dropped }

abbrev pub others_of : ℕ → KeptAt → Reader (Unit {0})
others_of depth k = others depth k.literals k.dropped k.clause

-- R21: "The claim, all of it filled, is the new literal, if there is one, then A's other literals, then B's other literals, in order."
unfoldable pub literals_by : ℕ → KeptAt → KeptAt → FoundAt → Reader (Unit {0})
literals_by depth a b f = literals >> (new_by depth a.clause b.clause f >> (others_of depth a >> others_of depth b))

abbrev pub ends_after : Parsed (Unit {0}) → Bool
ends_after bad = false
ends_after (got u rest) = claim_ends rest

-- V21: the claim is what stands in the line, up to its end.
unfoldable pub claims : ℕ → KeptAt → KeptAt → FoundAt → List ℕ → Bool
claims depth a b f claim = ends_after (literals_by depth a b f claim)
