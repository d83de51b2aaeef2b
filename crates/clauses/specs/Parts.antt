-- Nothing here is to be believed: the laws in proofs/Molecules say what it gives on written atoms.
-- What an arrow atom or a molecule says of its object (T13, T21), in its bytes.
use Rattle.std.specs.Prelude.{ℕ, List, [], ◌∷◌, map, Option, Some, None}
use Rattle.std.specs.Borrow.{Bor}
use Rattle.logic.specs.declared.Arrow.{Arrow}
use Rattle.text.specs.Read.{Parsed, bad, got, Reader, and_then, ◌>>=◌, ◌>>◌, return, skip, read_arrow}
use Rattle.text.specs.Access.{skip_item, to_item}
use Rattle.clauses.specs.Entries.{after, items}
use Rattle.clauses.specs.Shapes.{next, first_or}
use Rattle.clauses.specs.declared.parts.Part.{Part}

-- T13, "(ARROW ", of an atom or a part: the arrow, and what stands behind its word.
unfoldable pub arrow_head : Reader Arrow
arrow_head = do
  skip "("
  a ← read_arrow
  skip " "
  return a

-- T21: to the object of a molecule; T13: to that of an arrow atom; of either.
unfoldable pub molecule : Reader (Unit {0})
molecule = skip "(mol "

unfoldable pub arrow_object : Reader (Unit {0})
arrow_object bs = and_then (arrow_head bs) (λ _. return tt)

unfoldable pub object_of : Reader (Unit {0})
object_of bs = first_or (molecule bs) (arrow_object bs)

-- A part: its arrow, what stands from its method on, and what stands from its bracket on. An arrow atom's part has no bracket of its own.
pub record PartIn : Type 0 where
  pub arrow : Arrow
  pub method : List ℕ
  pub item : List ℕ

abbrev pub part_in : Arrow → List ℕ → List ℕ → PartIn
part_in a ms bs = record { arrow = a; method = ms; item = bs }

-- T21: the next PART, `(ARROW M (T ...) R)`, after a space, and the bytes after it.
unfoldable pub next_part : Reader PartIn
next_part = skip " " >> (λ bs. and_then (arrow_head bs) (λ a ms. and_then (skip_item bs) (λ _ rest. got (part_in a ms bs) rest)))

-- The one part of an arrow atom, from its object on.
unfoldable pub one_part : Arrow → Parsed (Unit {0}) → List PartIn
one_part a bad = []
one_part a (got u ms) = part_in a ms [] ∷ []

unfoldable pub arrow_part : Parsed Arrow → List PartIn
arrow_part bad = []
arrow_part (got a object) = one_part a (next object)

-- The parts of a molecule behind its object, of which there are at most 16 (T18); of an atom that is none, the one of an arrow atom.
unfoldable pub parts_or : Parsed (Unit {0}) → List PartIn → List PartIn
parts_or bad others = others
parts_or (got u object) others = items next_part 16 (after (skip_item object))

unfoldable pub parts : List ℕ → List PartIn
parts bs = parts_or (molecule bs) (arrow_part (arrow_head bs))

-- R26, "a part K, counted from 0": part k of a molecule, from its object on.
unfoldable pub made : List ℕ → Parsed Arrow → Option PartIn
made bs bad = None
made bs (got a ms) = Some (part_in a ms bs)

unfoldable pub made_at : Parsed (Unit {0}) → Option PartIn
made_at bad = None
made_at (got u bs) = made bs (arrow_head bs)

unfoldable pub part_at : ℕ → List ℕ → Option PartIn
part_at k object = made_at ((skip_item >> to_item k) object)

-- The code's parts.
abbrev pub shown : Part → PartIn
shown p = part_in p.arrow p.method.now p.item.now

abbrev pub all_shown : List Part → List PartIn
all_shown ps = map shown ps

abbrev pub maybe_shown : Option Part → Option PartIn
maybe_shown None = None
maybe_shown (Some p) = Some (shown p)

abbrev pub seen : Option (Part × Bor (List ℕ)) → Parsed PartIn
seen None = bad
seen (Some p) = got (shown p.0) p.1.now
