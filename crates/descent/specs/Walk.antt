-- Nothing here is to be believed: `walk_rests` (proofs/Walking) says that it gives the inputs from which a clause descends.
-- The walk back over the clauses.
use Rattle.std.specs.Prelude.{ℕ, zero, suc, ◌+◌, ◌-◌, Bool, true, false, cond, Option, Some, None, List, [], ◌∷◌, ◌≡◌, ◌&&◌, ltb, get_or, set, replicate}
use Rattle.logic.specs.Syntax.{Step}
use Rattle.logic.specs.declared.Rule.{Rule}
use Rattle.logic.specs.Rules.{uses}
use Rattle.text.specs.Figures.{office}
use Rattle.descent.specs.declared.Parents.{Parents}
use Rattle.descent.specs.declared.Held.{Held}

-- The number of a parent that is used, if a clause can have it.
unfoldable pub parent_if : Bool → ℕ → Option ℕ
parent_if used n = cond (used && ltb n office.lines) (Some n) None

unfoldable pub parents_by : Rule → ℕ → ℕ → Parents
parents_by rule a b = record { a = parent_if (uses rule).a a; b = parent_if (uses rule).b b }

abbrev pub parents_of : Step → Parents
parents_of s = parents_by s.rule s.a s.b

-- What is held where nothing is held of a clause.
abbrev pub no_parents : Parents
no_parents = record { a = None; b = None }

abbrev pub nothing_held : Held
nothing_held = record { literals = 0; width = 0; parents = no_parents }

-- The parents that are held of clause n.
abbrev pub parents_held : List Held → ℕ → Parents
parents_held held n = (get_or held n nothing_held).parents

-- The parents that are held from clause n on are those of steps.
unfoldable pub HeldFrom : ℕ → List Held → List Step → Type 0
HeldFrom n held [] = Unit
HeldFrom n held (s ∷ ss) = (parents_held held n ≡ parents_of s) × HeldFrom (suc n) held ss

-- A number that no clause has marks nothing.
unfoldable pub marked : List Bool → Option ℕ → List Bool
marked marks None = marks
marked marks (Some n) = set marks n true

-- A marked step gives way to the parents that it uses.
unfoldable pub passed : List Bool → ℕ → Parents → List Bool
passed marks n ps = cond (get_or marks n false) (marked (marked (set marks n false) ps.a) ps.b) marks

-- The k clauses after the inputs, the last first.
unfoldable pub walked : List Held → ℕ → ℕ → List Bool → List Bool
walked held inputs zero marks = marks
walked held inputs (suc k) marks = walked held inputs k (passed marks (inputs + k) (parents_held held (inputs + k)))

-- The inputs, so many, from which clause `first` descends: those that are marked.
unfoldable pub inputs_from : List Held → ℕ → ℕ → List Bool
inputs_from held inputs first = walked held inputs (suc first - inputs) (set (replicate office.lines false) first true)
