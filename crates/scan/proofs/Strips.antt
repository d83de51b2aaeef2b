-- What std's strip_prefix gives is what the list reader strips.
use Rattle.std.proofs.Common.{◌≡◌, ℕ, ◌+◌, Bool, true, false, List, [], ◌∷◌, ◌++◌, eqb, length, take, drop, Option, Some, None, Bor, refl}
use Rattle.std.proofs.Common.{MatchOption, sym, ◌∙◌, ap}
use Rattle.std.specs.Cmp.Lexicographic.{pointwise}
use Rattle.std.proofs.lemmas.Slice.Eq.{strip_prefix_is}
use Rattle.std.proofs.lemmas.Bool.Decides.{Decides-eqb}
use Rattle.std.proofs.lemmas.Bool.{eq-eqb, eqb-true}
use Rattle.text.specs.Read.{bad, got, strip}
use Rattle.text.specs.Answers.{passed}

strip-append : (w rest : List ℕ) → strip w (w ++ rest) ≡ got tt rest
unfolding strip
strip-append [] rest = refl
strip-append (x ∷ w) rest = rw (eq-eqb x x refl) (strip-append w rest)

strip-bad : (w s : List ℕ) → ((rest : List ℕ) → s ≡ w ++ rest → ⊥) → strip w s ≡ bad
unfolding strip
strip-bad [] s h = absurd (h s refl)
strip-bad (x ∷ w) [] h = refl
strip-bad (x ∷ w) (b ∷ s) h = go (eqb x b) refl (λ e. strip-bad w s (λ rest p. h rest (let k = eqb-true x b e in cc)))
  where
    go : (t : Bool) → eqb x b ≡ t → (eqb x b ≡ true → strip w s ≡ bad) → strip (x ∷ w) (b ∷ s) ≡ bad
    go true e onward = rw e (onward e)
    go false e onward = rw e

pub strips : (w s : List ℕ) (r : Option (Bor (List ℕ)))
    → MatchOption r (pointwise eqb (take (length w) s) w ≡ false)
    (λ x. (pointwise eqb (take (length w) s) w ≡ true) × (x.now ≡ drop (length w) s) × (length x.now + length w ≡ length s))
    → passed r ≡ strip w s
strips w s None m = sym (strip-bad w s (strip_prefix_is Decides-eqb s w None m))
strips w s (Some rest) m = sym (ap (strip w) (strip_prefix_is Decides-eqb s w (Some rest) m) ∙ strip-append w rest.now)
