-- Nothing here is to be believed: the laws in proofs/ say what it gives on written clauses.
-- An item of a clause, and what fills the clause.
use Rattle.std.specs.Prelude.{IfSome, ◌<◌, ℕ, cond, List, [], Option, Some, None, eqb, get_or, length}
use Rattle.std.specs.Borrow.{Bor}
use Rattle.text.specs.Read.{Parsed, bad, got, Reader}
use Rattle.clauses.specs.Entries.{texts}
use Rattle.filling.specs.Filled.{Filler, fill_item}
use Rattle.clauses.specs.Entries.{itself}
use Rattle.filling.specs.declared.compare.Filled.{Filled}
use Rattle.filling.specs.declared.compare.Replaced.{Replaced}
use Rattle.filling.specs.declared.compare.Filling.{Filling}

-- The bytes from the item on, and the entries that fill its clause; none where the clause has no variables.
pub record Item : Type 0 where
  pub bytes : List ℕ
  pub entries : Option (List (List ℕ))

abbrev pub entries_of : Option (Bor (List (Bor (List ℕ)))) → Option (List (List ℕ))
entries_of None = None
entries_of (Some es) = Some (texts es.now)

abbrev pub item_of : Filled → Item
item_of x = record { bytes = x.item.now; entries = entries_of x.entries }

-- Another item of the same clause.
abbrev pub beside : Item → List ℕ → Item
beside x bs = record { bytes = bs; entries = x.entries }

-- The entries of a clause; without variables it asks for none.
abbrev pub listed : Option (List (List ℕ)) → List (List ℕ)
listed None = []
listed (Some es) = es

-- No hole: no item has 0 bytes.
unfoldable pub by_entries : List (List ℕ) → Filler
by_entries es = record { entry = λ n. get_or es n []; hole = 0; new = λ _. bad }

-- The item in the hole, which is known by the number of bytes from it on, is replaced by another clause's, filled.
unfoldable pub with_hole : List (List ℕ) → ℕ → Item → Filler
with_hole es hole new =
    record { entry = λ n. get_or es n []; hole = hole; new = λ depth. fill_item (by_entries (listed new.entries)) depth new.bytes }

abbrev pub replaced_by : List (List ℕ) → Option Replaced → Filler
replaced_by es None = by_entries es
replaced_by es (Some r) = with_hole es r.hole (item_of r.new)

abbrev pub filler_of : Filling → Filler
filler_of f = replaced_by (texts f.entries.now) f.replaced

-- What takes the place of an item from which n bytes are left.
abbrev pub instead_of : Option Replaced → ℕ → Option Filled
instead_of None n = None
instead_of (Some r) n = cond (eqb r.hole n) (Some r.new) None

-- The item filled, at most so many brackets deep. A clause without variables is its own filled form.
unfoldable pub filled_in : Option (List (List ℕ)) → ℕ → Reader (List ℕ)
filled_in None depth = itself
filled_in (Some es) depth = fill_item (by_entries es) depth

abbrev pub filled : Item → ℕ → Parsed (List ℕ)
filled x depth = filled_in x.entries depth x.bytes

-- What is left of an item's bytes, and of those in which it stood, filled.
abbrev pub compared : Option (Bor (List ℕ) × Bor (List ℕ)) → Parsed (List ℕ)
compared None = bad
compared (Some p) = got p.1.now p.0.now

-- Fewer bytes are left.
abbrev pub Shorter : List ℕ → Option (Bor (List ℕ) × Bor (List ℕ)) → Type 0
Shorter bs r = IfSome r (λ p. length p.0.now < length bs)
