-- A table of words: values, each beside its word.
use Rattle.std.specs.Prelude.{ℕ, List, map}
use Rattle.std.specs.Borrow.{Bor}
use Prim.Native.String.{String}
use Rattle.text.specs.Words.{bytes}

-- The word of each value.
abbrev pub Words : Type 0 → Type 0
Words A = A → String

-- The values and the bytes of their words, as the code holds them, and as the text form has them (T6).
abbrev pub held : {A : Type 0} → List (A × Bor (List ℕ)) → List (A × List ℕ)
held = map (λ entry. (entry.0, entry.1.now))

abbrev pub spelled : {A : Type 0} → Words A → List A → List (A × List ℕ)
spelled word = map (λ a. (a, bytes (word a)))
