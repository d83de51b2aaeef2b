-- Items after one space each, up to the closing bracket, read and measured in one loop.
use Rattle.std.proofs.Common.{◌≡◌, ℕ, suc, ◌+◌, List, [], ◌∷◌, length, refl, sym, ◌∙◌, ap, ap₂, arith}
use Rattle.reader.specs.declared.measures.Bounds.{Bounds}
use Rattle.reader.specs.declared.measures.Measure.{Measure}
use Rattle.text.specs.Words.{bytes}
use Rattle.text.specs.Read.{Parsed, bad, got, Reader, and_then, return, strip, ◌⇒◌, or_else, one_of, read_next}
use Rattle.text.specs.Answers.{mapped}
use Rattle.reader.specs.Summary.{joined, measured, empty}
use Rattle.reader.specs.Listed.{before, Listed}
use Rattle.text.proofs.Gives.{strip_gives, given}
use Rattle.reader.proofs.Bounds.{bounds_lawful}

-- What follows a value, exchanged for what agrees with it, and what follows two values in turn.
pub after : {A B : Type 0} {f g : A → Reader B} (p : Parsed A) → ((a : A) (r : List ℕ) → f a r ≡ g a r) → and_then p f ≡ and_then p g
after bad h = refl
after (got a rest) h = h a rest

pub after_after : {A B C : Type 0} (p : Parsed A) (f : A → Reader B) (g : B → Reader C)
    → and_then (and_then p f) g ≡ and_then p (λ a rest. and_then (f a rest) g)
after_after bad f g = refl
after_after (got a rest) f g = refl

-- A space and an item, or the closing bracket: where a space stands, and where none does.
pub space_next : {A S : Type 0} (none : S) (more : A → S → S) (read : Reader A) (others : Reader S) (bs : List ℕ) {rest : List ℕ}
    → strip (bytes " ") bs ≡ got tt rest
    → read_next none more read others bs ≡ and_then (read rest) (λ a bs. and_then (others bs) (λ x. return (more a x)))
unfolding read_next one_of strip
space_next none more read others bs {rest} e = rw (given (strip_gives (bytes " ") bs) e)

pub no_space_next : {A S : Type 0} (none : S) (more : A → S → S) (read : Reader A) (others : Reader S) (bs : List ℕ)
    → strip (bytes " ") bs ≡ bad → read_next none more read others bs ≡ and_then (strip (bytes ")") bs) (λ _. return none)
unfolding read_next one_of
no_space_next {A} {S} none more read others bs e = go (strip (bytes ")") bs) _
  where
    go : (p : Parsed (Unit {0})) (r : Reader S) → or_else p (return none) (one_of ((" " ⇒ r) ∷ [])) bs ≡ and_then p (λ _. return none)
    go bad r = rw e
    go (got u rest) r = refl

-- Of what was measured: a value of this measure was read.
pub measuring : {A M : Type 0} (f : A → M) {m : M} {rest : List ℕ} (p : Parsed A) → got m rest ≡ mapped f p
    → (a : A) × (p ≡ got a rest) × (m ≡ f a)
measuring f bad h = cc
measuring f (got a r) h = (a, cc, cc)

-- What is read of items, measured, is what is read of their measures.
pub mapped_next : {A S : Type 0} (none : S) (more : A → S → S) (read : Reader A) (others : Reader S) (item : A → Bounds) (list : S → Measure)
    → list none ≡ empty → ((a : A) (x : S) → list (more a x) ≡ before (item a) (list x)) → (bs : List ℕ)
    → mapped list (read_next none more read others bs)
    ≡ read_next empty before (λ bs. mapped item (read bs)) (λ bs. mapped list (others bs)) bs
unfolding read_next one_of
mapped_next {A} {S} none more read others item list n m bs =
    closed (strip (bytes ")") bs) (one_of ((" " ⇒ onward) ∷ [])) (one_of ((" " ⇒ measured_onward) ∷ [])) (spaced (strip (bytes " ") bs))
  where
    onward : Reader S
    onward bs = and_then (read bs) (λ a bs. and_then (others bs) (λ x. return (more a x)))

    measured_onward : Reader Measure
    measured_onward bs = and_then (mapped item (read bs)) (λ b bs. and_then (mapped list (others bs)) (λ x. return (before b x)))

    joins : (a : A) (p : Parsed S)
        → mapped list (and_then p (λ x. return (more a x))) ≡ and_then (mapped list p) (λ x. return (before (item a) x))
    joins a bad = refl
    joins a (got x rest) = rw (m a x)

    reads : (p : Parsed A) → mapped list (and_then p (λ a bs. and_then (others bs) (λ x. return (more a x))))
        ≡ and_then (mapped item p) (λ b bs. and_then (mapped list (others bs)) (λ x. return (before b x)))
    reads bad = refl
    reads (got a rest) = joins a (others rest)

    spaced : (p : Parsed (Unit {0})) → mapped list (or_else p onward (one_of []) bs) ≡ or_else p measured_onward (one_of []) bs
    spaced bad = refl
    spaced (got u rest) = reads (read rest)

    closed : (p : Parsed (Unit {0})) (q : Reader S) (r : Reader Measure) → mapped list (q bs) ≡ r bs
        → mapped list (or_else p (return none) q bs) ≡ or_else p (return empty) r bs
    closed bad q r h = h
    closed (got u rest) q r h = ap (λ v. got v rest) n

-- Parts of one measure on the left of parts of another.
abbrev beside : Measure → Measure → Measure
beside m n = measured (m.count + n.count) (joined m.bounds n.bounds)

-- One byte less is left.
pub one_less : (b : ℕ) (s : List ℕ) {rest : List ℕ} → got tt rest ≡ strip (b ∷ []) s → length s ≡ suc (length rest)
one_less b s e = ap length (given (strip_gives (b ∷ []) s) (sym e))

-- In the loop: items of measure m have been read of s, and the rest is left.
pub record Going (all : Reader Measure) (s rest : List ℕ) (m : Measure) : Type 0 where
  pub reads : all s ≡ mapped (beside m) (all rest)

pub start : (all : Reader Measure) (s : List ℕ) → Going all s s empty
start all s = record { reads = go (all s) }
  where
    go : (p : Parsed Measure) → p ≡ mapped (beside empty) p
    go bad = refl
    go (got m rest) = ap (λ v. got v rest) (ap₂ measured (omega arith) (sym (bounds_lawful.left m.bounds)))

module _ {one : Reader Bounds} {all : Reader Measure} (L : Listed one all) {s rest : List ℕ} {m : Measure} (g : Going all s rest m) where
  module _ {next : List ℕ} (spaced : got tt next ≡ strip (bytes " ") rest) where
    onto : all rest ≡ and_then (one next) (λ b bs. and_then (all bs) (λ x. return (before b x)))
    onto = L.step rest ∙ space_next empty before one all rest (sym spaced)

    pub lost : bad ≡ one next → bad ≡ all s
    lost e = sym (g.reads ∙ rw (onto, ← e))

    pub turn : {b : Bounds} {after : List ℕ} {n : Measure} → got b after ≡ one next → n ≡ measured (m.count + 1) (joined m.bounds b)
        → Going all s after n
    turn {b} {after} e h = record { reads = g.reads ∙ rw (onto, ← e, h) (go (all after)) }
      where
        go : (p : Parsed Measure) → mapped (beside m) (and_then p (λ x. return (before b x)))
            ≡ mapped (beside (measured (m.count + 1) (joined m.bounds b))) p
        go bad = refl
        go (got x rest) = ap (λ v. got v rest) (ap₂ measured (omega arith) (bounds_lawful.assoc m.bounds b x.bounds))

  module _ (spaced : bad ≡ strip (bytes " ") rest) where
    onto_end : all rest ≡ and_then (strip (bytes ")") rest) (λ _. return empty)
    onto_end = L.step rest ∙ no_space_next empty before one all rest (sym spaced)

    pub unclosed : bad ≡ strip (bytes ")") rest → bad ≡ all s
    unclosed e = sym (g.reads ∙ rw (onto_end, ← e))

    pub finish : {after : List ℕ} → got tt after ≡ strip (bytes ")") rest → got m after ≡ all s
    finish {after} e =
        sym (g.reads ∙ rw (onto_end, ← e) (ap (λ v. got v after) (ap₂ measured (omega arith) (bounds_lawful.right m.bounds))))
