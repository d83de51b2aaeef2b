-- The words of a table, tried one after the other.
use Rattle.std.proofs.Common.{◌≡◌, ℕ, ◌+◌, ◌<◌, ◌≤◌, List, [], ◌∷◌, Bor, length, get_or, drop, refl, sym, ◌∙◌, ap}
use Rattle.std.proofs.lemmas.List.{at_drop_more, at_drop_all}
use Rattle.text.specs.Read.{Parsed, bad, got, Reader, return, strip, skip, or_else, one_of, each}
use Rattle.text.specs.Words.{bytes}
use Rattle.scan.specs.Tables.{Words, held, spelled}

unfoldable pub tried : {A : Type 0} → List (A × Bor (List ℕ)) → Reader A
tried [] bs = bad
tried (entry ∷ entries) bs = or_else (strip entry.1.now bs) (return entry.0) (tried entries) bs

pub tries : {A : Type 0} (w : Words A) (xs : List A) (entries : List (A × Bor (List ℕ))) (bs : List ℕ) → held entries ≡ spelled w xs
    → one_of (each w return xs) bs ≡ tried entries bs
unfolding one_of tried
tries w [] [] bs h = refl
tries w [] (e ∷ es) bs h = cc
tries w (x ∷ xs) [] bs h = cc
tries {A} w (x ∷ xs) ((a, b) ∷ es) bs h =
    let entry : A × List ℕ = (a, b.now) in
    let e : entry ≡ (x, bytes (w x)) = cc in
    let v : a ≡ x = ap (λ (p : A × List ℕ). p.0) e in
    let n : b.now ≡ bytes (w x) = ap (λ (p : A × List ℕ). p.1) e in
    rw (v, n) (go (skip (w x) bs) (tries w xs es bs cc))
  where
    go : (p : Parsed (Unit {0})) → one_of (each w return xs) bs ≡ tried es bs
        → or_else p (return x) (one_of (each w return xs)) bs ≡ or_else p (return x) (tried es) bs
    go bad onward = onward
    go (got u rest) onward = refl

module _ {A : Type 0} (entries : List (A × Bor (List ℕ))) (i : ℕ) (entry : A × Bor (List ℕ)) (bs : List ℕ)
    (within : i < length entries) (is : entry ≡ get_or entries i entry) where
  turn : tried (drop i entries) bs ≡ or_else (strip entry.1.now bs) (return entry.0) (tried (drop (i + 1) entries)) bs
  unfolding tried
  turn = at_drop_more (λ es. tried es bs) entries i entry within ∙ rw (← is)

  pub found : {rest : List ℕ} → got tt rest ≡ strip entry.1.now bs → got entry.0 rest ≡ tried (drop i entries) bs
  found e = sym (turn ∙ rw (← e))

  pub onward : bad ≡ strip entry.1.now bs → tried (drop i entries) bs ≡ tried (drop (i + 1) entries) bs
  onward e = turn ∙ rw (← e)

pub none : {A : Type 0} (entries : List (A × Bor (List ℕ))) (i : ℕ) (bs : List ℕ) → length entries ≤ i → bad ≡ tried (drop i entries) bs
unfolding tried
none entries i bs h = sym (at_drop_all (λ es. tried es bs) entries i h)
