-- Where reading stops: the bytes after a value are the end of the bytes read from, and a list is read by its first step.
use Prim.Native.Nat.{ℕ}
use mathlib.Core.Path.{◌≡◌}
use mathlib.Core.List.{List, [], ◌∷◌}
use Rattle.logic.specs.Syntax.{nil, cons}
use Rattle.text.specs.Read.{read_next, read_many, read_term, read_terms, read_literal}
use Rattle.text.proofs.Plain.{term_plain, literal_plain}
use Rattle.text.proofs.Items.{terms, literals, many_step}
use Rattle.text.proofs.Sound.{term_sound, literal_sound}

-- With no bound to name: the closing bracket, or one item and the others.
pub terms_step : (d : ℕ) (bs : List ℕ) → read_terms (read_term d) bs ≡ read_next nil cons (read_term d) (read_terms (read_term d)) bs
terms_step d = many_step (terms d) (term_sound d) term_plain

pub clause_step : (d : ℕ) (bs : List ℕ) → read_many [] ◌∷◌ (read_literal d) bs ≡ read_next [] ◌∷◌ (read_literal d) (read_many [] ◌∷◌ (read_literal d)) bs
clause_step d = many_step (literals d) (literal_sound d) literal_plain
