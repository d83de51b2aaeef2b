-- What the laws of filling ask, for the lists of a line.
use Prim.Native.Nat.{ℕ, zero, suc, ◌+◌, ◌≤◌, ◌<◌}
use mathlib.Core.Path.{◌≡◌, refl, ◌∙◌, ap}
use mathlib.Core.List.{List, []}
use native.Mathlib.Omega.{arith}
use lib.Dec.{T}
use lib.ListN.{length, drop}
use Rattle.logic.specs.Syntax.{Term, var, Terms}
use Rattle.logic.specs.Terms.{count}
use Rattle.logic.specs.Each.{term_width}
use Rattle.logic.specs.Fill.{Substitution, fill, entries}
use Rattle.text.specs.Write.{word, put_term, put_terms}
use Rattle.text.specs.Form.{formed_term}
use Rattle.text.specs.Read.{got}
use Rattle.text.proofs.Places.{places, entry_of}
use Rattle.text.proofs.Nesting.{let_entry}
use Rattle.filling.specs.Filled.{fill_item}
use Rattle.filling.proofs.Places.{plain, replacing}
use Rattle.filling.proofs.Filling.{Clear, after_it, fill_term}
use Rattle.filling.proofs.Holes.{stack}
use Rattle.filling.proofs.NumberedFill.{term_deeper}

-- The entries of a list that is written in the line, by the places that starts(line, at) gives.
pub line_entry : (line : List ℕ) (ts : Terms) (at : ℕ) (rest : List ℕ) → count ts ≤ 32 → at ≤ length line → drop at line ≡ put_terms ts (word ")" rest) → (n : ℕ) → n < count ts → entry_of line (places line 33 at) n ≡ put_term (entries ts n) []
unfolding entries
line_entry line ts at rest c h e n l = let_entry line ts n at rest (var n) l (omega arith) h e

pub plain_entry : (line starts : List ℕ) (σ : Substitution) (w : ℕ) → ((n : ℕ) → n < w → entry_of line starts n ≡ put_term (σ n) []) → (n : ℕ) → n < w → (plain line starts).entry n ≡ put_term (σ n) []
unfolding plain
plain_entry line starts σ w h = h

pub replacing_entry : (line starts : List ℕ) (hole : ℕ) (q : List ℕ) (from : ℕ) (others : List ℕ) (σ : Substitution) (w : ℕ) → ((n : ℕ) → n < w → entry_of line starts n ≡ put_term (σ n) []) → (n : ℕ) → n < w → (replacing line starts hole q from others).entry n ≡ put_term (σ n) []
unfolding replacing
replacing_entry line starts hole q from others σ w h = h

-- No hole is clear of every item.
pub plain_bare : (line starts : List ℕ) → (plain line starts).hole ≡ 0
unfolding plain
plain_bare line starts = refl

pub plain_clear : (line starts : List ℕ) (low high : ℕ) → Clear (plain line starts).hole low high
plain_clear line starts low high = after_it (omega (arith, plain_bare line starts))

-- What goes into the hole: a term written at a place of q, filled by its own list.
pub new_term : (line starts : List ℕ) (hole : ℕ) (q : List ℕ) (from : ℕ) (others : List ℕ) (τ : Substitution) (w d : ℕ) → ((n : ℕ) → n < w → entry_of line others n ≡ put_term (τ n) []) → (t : Term) (rest : List ℕ) → T (formed_term d t) → term_width t ≤ w → drop from q ≡ put_term t rest → (e : ℕ) → d ≤ e → (r : List ℕ) × ((replacing line starts hole q from others).new e ≡ got (put_term (fill τ t) []) r)
unfolding replacing
new_term line starts hole q from others τ w d h t rest f l p e k =
    (rest, ap (fill_item (plain line others) e) p ∙ fill_term (plain line others) τ w e (plain_entry line others τ w h) t (term_deeper d e t k f) l rest (plain_clear line others (length rest) (length (put_term t rest))))

-- The depth of a call of `expect`.
pub stack_sum : (D d : ℕ) → stack D d ≡ d + D
unfolding stack
stack_sum D zero = omega arith
stack_sum D (suc d) = omega (arith, stack_sum D d)
