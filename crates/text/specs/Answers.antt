-- What the readers in the code give, as the list reader gives it: nothing, or a value and the bytes after it.
use Rattle.std.specs.Prelude.{ℕ, List, Option, Some, None}
use Rattle.std.specs.Borrow.{Bor}
use Rattle.text.specs.Read.{Parsed, bad, got}

abbrev pub parsed : {A : Type 0} → Option (A × Bor (List ℕ)) → Parsed A
parsed None = bad
parsed (Some p) = got p.0 p.1.now

abbrev pub passed : Option (Bor (List ℕ)) → Parsed (Unit {0})
passed None = bad
passed (Some rest) = got tt rest.now

-- The same bytes after another value.
abbrev pub mapped : {A B : Type 0} → (A → B) → Parsed A → Parsed B
mapped f bad = bad
mapped f (got a rest) = got (f a) rest
