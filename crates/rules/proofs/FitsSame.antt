-- R24, "if their objects are equal and each part of X is covered by some part of Y", by two tests of items: where the tests agree on the
-- items of two clauses, so do the answers.
use Prim.Native.Nat.{ℕ}
use mathlib.Core.Bool.{Bool}
use mathlib.Core.List.{List, [], ◌∷◌}
use mathlib.Core.Path.{◌≡◌, refl}
use Rattle.std.specs.Prelude.{Option}
use Rattle.text.specs.Read.{Parsed, bad, got}
use Rattle.clauses.specs.Shapes.{next}
use Rattle.clauses.specs.Parts.{PartIn, object_of, parts}
use Rattle.filling.specs.Items.{Item}
use Rattle.agreement.specs.Agrees.{further, result_covered, arguments_covered, part_covered_by, part_covered, some_covers, each_covered, parts_fit}
use Rattle.rules.proofs.ClaimsSame.{item}

-- Of the parts of two atoms, one by one.
module _ (covered covered' : PartIn → PartIn → Bool) (same : (p q : PartIn) → covered p q ≡ covered' p q) where
  some_alike : (p : PartIn) (qs : List PartIn) → some_covers (covered p) qs ≡ some_covers (covered' p) qs
  unfolding some_covers
  some_alike p [] = refl
  some_alike p (q ∷ qs) = rw (same p q, some_alike p qs)

  each_alike : (ps qs : List PartIn) → each_covered covered ps qs ≡ each_covered covered' ps qs
  unfolding each_covered
  each_alike [] qs = refl
  each_alike (p ∷ ps) qs = rw (some_alike p qs, each_alike ps qs)

-- What fills the clauses need not be the same for both tests.
module _ (es fs es' fs' : Option (List (List ℕ))) where
  pub record TestsAlike (test test' : Item → Item → Bool) : Type 0 where
    pub at : (ps qs : List ℕ) → test (item ps es) (item qs fs) ≡ test' (item ps es') (item qs fs')

  further_alike : {test test' : Item → Item → Bool} → TestsAlike test test' → (ps qs : List ℕ) (a b : Parsed (Unit {0})) →
      further test (item ps es) (item qs fs) a b ≡ further test' (item ps es') (item qs fs') a b
  unfolding further
  further_alike h ps qs bad b = refl
  further_alike h ps qs (got u xs) bad = refl
  further_alike h ps qs (got u xs) (got v ys) = h.at xs ys

  module _ {test test' : Item → Item → Bool} (h : TestsAlike test test') where
    result_alike : TestsAlike (result_covered test) (result_covered test')
    unfolding result_covered
    result_alike = record { at = λ ps qs. rw (h.at ps qs) }

    arguments_alike : TestsAlike (arguments_covered test) (arguments_covered test')
    unfolding arguments_covered
    arguments_alike = record { at = λ ps qs. rw (h.at ps qs, further_alike result_alike ps qs (next ps) (next qs)) }

    part_alike : (ps qs : List ℕ) (p q : PartIn) → part_covered test (item ps es) (item qs fs) p q ≡ part_covered test' (item ps es') (item qs fs') p q
    unfolding part_covered_by
    part_alike ps qs p q = rw (h.at p.method q.method, h.at p.item q.item, further_alike arguments_alike p.method q.method (next p.method) (next q.method))

    pub fit_alike : TestsAlike (parts_fit test) (parts_fit test')
    unfolding parts_fit
    fit_alike = record {
      at = λ ps qs. rw (further_alike h ps qs (object_of ps) (object_of qs), each_alike _ _ (part_alike ps qs) (parts ps) (parts qs));
    }
