-- Of a set given by a test: a clause is satisfied exactly if some literal of it is, a negative molecule exactly if one of its atoms is missing.
use Prim.Native.Nat.{ℕ, suc}
use mathlib.Core.Bool.{Bool, true, false}
use mathlib.Core.List.{[], ◌∷◌}
use mathlib.Core.Logic.{◌⊎◌, inl, inr, ⊎_elim, ◌↔◌}
use lib.Dec.{T}
use Rattle.logic.specs.declared.Sign.TheVariants.{Positive, Negative}
use Rattle.logic.specs.Syntax.{Term, Part, Parts, only, also, Atom, link, obj, arrows, Literal, lit, Clause}
use Rattle.logic.specs.Rules.{PartAt}
use Rattle.logic.specs.Structure.{AllIn, TrueIn, SatisfiesLiteral, SomeLiteral, Satisfies}

module _ (S : Atom → Bool) where
  abbrev members : Atom → Type 0
  members x = T (S x)

  decided : (b : Bool) → T b ⊎ (T b → ⊥)
  decided true = inl tt
  decided false = inr (λ h. h)

  all_decided : (o : Term) (ps : Parts) → AllIn members o ps ⊎ (AllIn members o ps → ⊥)
  unfolding AllIn
  all_decided o (only p) = decided (S (arrows o (only p)))
  all_decided o (also p ps) = go (decided (S (arrows o (only p)))) (all_decided o ps)
    where
      go : T (S (arrows o (only p))) ⊎ (T (S (arrows o (only p))) → ⊥) → AllIn members o ps ⊎ (AllIn members o ps → ⊥) →
          AllIn members o (also p ps) ⊎ (AllIn members o (also p ps) → ⊥)
      go (inl h) (inl k) = inl (h, k)
      go (inl h) (inr m) = inr (λ w. m w.1)
      go (inr n) d = inr (λ w. n w.0)

  truth_decided : (x : Atom) → TrueIn members x ⊎ (TrueIn members x → ⊥)
  unfolding TrueIn
  truth_decided (link l t u) = decided (S (link l t u))
  truth_decided (obj t) = decided (S (obj t))
  truth_decided (arrows o ps) = all_decided o ps

  literal_decided : (l : Literal) → SatisfiesLiteral members l ⊎ (SatisfiesLiteral members l → ⊥)
  unfolding SatisfiesLiteral
  literal_decided (lit Positive x) = truth_decided x
  literal_decided (lit Negative x) = go (truth_decided x)
    where
      go : TrueIn members x ⊎ (TrueIn members x → ⊥) → (TrueIn members x → ⊥) ⊎ ((TrueIn members x → ⊥) → ⊥)
      go (inl h) = inr (λ n. n h)
      go (inr n) = inl n

  some_decided : (c : Clause) → SomeLiteral members c ⊎ (SomeLiteral members c → ⊥)
  unfolding SomeLiteral
  some_decided [] = inr (λ h. h)
  some_decided (l ∷ c) = go (literal_decided l) (some_decided c)
    where
      go : SatisfiesLiteral members l ⊎ (SatisfiesLiteral members l → ⊥) → SomeLiteral members c ⊎ (SomeLiteral members c → ⊥) →
          SomeLiteral members (l ∷ c) ⊎ (SomeLiteral members (l ∷ c) → ⊥)
      go (inl h) d = inl (inl h)
      go (inr n) (inl h) = inl (inr h)
      go (inr n) (inr m) = inr (⊎_elim n m)

  pub tested : (c : Clause) → Satisfies members c ↔ SomeLiteral members c
  unfolding Satisfies
  tested c = (λ w. go w (some_decided c), λ h n. n h)
    where
      go : ((SomeLiteral members c → ⊥) → ⊥) → SomeLiteral members c ⊎ (SomeLiteral members c → ⊥) → SomeLiteral members c
      go w (inl h) = h
      go w (inr n) = absurd (w n)

-- H11: a molecule is true exactly if all its atoms are in the set.
module _ (S : Atom → Type 0) (o : Term) where
  pub atom_in : {k : ℕ} {q : Part} {ps : Parts} → PartAt k q ps → AllIn S o ps → S (arrows o (only q))
  unfolding AllIn
  atom_in PartAt.alone h = h
  atom_in PartAt.here h = h.0
  atom_in (PartAt.there w) h = atom_in w h.1

  all_in : (ps : Parts) → ((k : ℕ) (q : Part) → PartAt k q ps → S (arrows o (only q))) → AllIn S o ps
  unfolding AllIn
  all_in (only p) f = f 0 p PartAt.alone
  all_in (also p ps) f = (f 0 p PartAt.here, all_in ps (λ k q w. f (suc k) q (PartAt.there w)))

  pub molecule_true : (ps : Parts) → TrueIn S (arrows o ps) ↔ ((k : ℕ) (q : Part) → PartAt k q ps → S (arrows o (only q)))
  unfolding TrueIn
  molecule_true ps = (λ h k q w. atom_in w h, all_in ps)

-- H9: a negative literal with a molecule is satisfied exactly if one of its atoms is missing.
module _ (S : Atom → Bool) (o : Term) where
  abbrev Missing : Parts → Type 0
  Missing ps = (k : ℕ) × (q : Part) × PartAt k q ps × (T (S (arrows o (only q))) → ⊥)

  one_missing : (ps : Parts) → (AllIn (members S) o ps → ⊥) → Missing ps
  unfolding AllIn
  one_missing (only p) n = (0, p, PartAt.alone, n)
  one_missing (also p ps) n = go (decided S (S (arrows o (only p)))) (λ h. one_missing ps (λ w. n (h, w)))
    where
      go : T (S (arrows o (only p))) ⊎ (T (S (arrows o (only p))) → ⊥) → (T (S (arrows o (only p))) → Missing ps) → Missing (also p ps)
      go (inl h) f = let m = f h in (suc m.0, m.1, PartAt.there m.2, m.3)
      go (inr a) f = (0, p, PartAt.here, a)

  pub molecule_missing : (ps : Parts) → SatisfiesLiteral (members S) (lit Negative (arrows o ps)) ↔ Missing ps
  unfolding SatisfiesLiteral TrueIn
  molecule_missing ps = (λ n. one_missing ps n, λ m h. m.3 (atom_in (members S) o m.2 h))
