-- A choice among words, one word at a time.
use Prim.Native.Nat.{ℕ}
use Prim.Native.String.{String}
use mathlib.Core.Path.{◌≡◌, refl}
use mathlib.Core.List.{List, ◌∷◌}
use Rattle.text.specs.Read.{bad, got, Reader, strip, skip, Branch, ◌⇒◌, one_of}

pub first_word : {A : Type 0} (w : String) (r : Reader A) (others : List (Branch A)) (bs : List ℕ) {rest : List ℕ} → skip w bs ≡ got tt rest → one_of ((w ⇒ r) ∷ others) bs ≡ r rest
unfolding one_of
first_word w r others bs e = rw e

pub later_word : {A : Type 0} (w : String) (r : Reader A) (others : List (Branch A)) (bs : List ℕ) → skip w bs ≡ bad → one_of ((w ⇒ r) ∷ others) bs ≡ one_of others bs
unfolding one_of
later_word w r others bs e = rw e

pub no_word : {A : Type 0} (r : Reader A) (others : List (Branch A)) (bs : List ℕ) → one_of (("" ⇒ r) ∷ others) bs ≡ r bs
unfolding one_of strip
no_word r others bs = refl
