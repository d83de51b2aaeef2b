-- Between two arrow atoms "fits into" is "is covered by", and so wherever there is no molecule; a molecule fits into no other kind of atom.
use Prim.Native.Nat.{ℕ}
use mathlib.Core.Logic.{◌⊎◌, inl, inr, ◌↔◌}
use mathlib.Core.Path.{◌≡◌, ap, ap₂, sym}
use native.Mathlib.Omega.{arith}
use lib.Dec.{T}
use Rattle.logic.specs.declared.Link.{Link}
use Rattle.logic.specs.Syntax.{Term, Part, Parts, only, also, Atom, link, obj, arrows}
use Rattle.logic.specs.Each.{one_part, no_molecule}
use Rattle.logic.specs.Rules.{bare_part, bare, Covers, CoversPart, SomeCovers, EachCovered, Fits}

only_covers : (o o' : Term) (q p : Part) → Fits (arrows o (only q)) (arrows o' (only p)) ↔ Covers (arrows o' (only p)) (arrows o (only q))
unfolding Fits EachCovered SomeCovers CoversPart Covers bare
only_covers o o' q p = (there, back)
  where
    there : (o ≡ o') × ((p ≡ q) ⊎ (bare_part p ≡ q)) → (arrows o' (only p) ≡ arrows o (only q)) ⊎ (arrows o' (only (bare_part p)) ≡ arrows o (only q))
    there (e, inl f) = inl (ap₂ arrows (sym e) (ap only f))
    there (e, inr f) = inr (ap₂ arrows (sym e) (ap only f))

    back : (arrows o' (only p) ≡ arrows o (only q)) ⊎ (arrows o' (only (bare_part p)) ≡ arrows o (only q)) → (o ≡ o') × ((p ≡ q) ⊎ (bare_part p ≡ q))
    back (inl e) = (cc, inl cc)
    back (inr e) = (cc, inr cc)

pub fits_covers : (x y : Atom) → T (no_molecule x) → T (no_molecule y) → Fits x y ↔ Covers y x
unfolding no_molecule one_part Fits
fits_covers (link l t u) y h k = (λ w. w, λ w. w)
fits_covers (obj t) y h k = (λ w. w, λ w. w)
fits_covers (arrows o qs) (link l t u) h k = (λ w. w, λ w. w)
fits_covers (arrows o qs) (obj t) h k = (λ w. w, λ w. w)
fits_covers (arrows o (only q)) (arrows o' (only p)) h k = only_covers o o' q p
fits_covers (arrows o (only q)) (arrows o' (also p ps)) h k = absurd k
fits_covers (arrows o (also q qs)) (arrows o' ps) h k = absurd h

-- Atoms of different kinds.
pub fits_link : (o : Term) (qs : Parts) (l : Link) (t u : Term) → Fits (arrows o qs) (link l t u) → ⊥
unfolding Fits Covers bare
fits_link o qs l t u (inl e) = let z : ◌≡◌ {A = ℕ} 0 1 = cc in absurd (omega arith)
fits_link o qs l t u (inr e) = let z : ◌≡◌ {A = ℕ} 0 1 = cc in absurd (omega arith)

pub fits_obj : (o : Term) (qs : Parts) (t : Term) → Fits (arrows o qs) (obj t) → ⊥
unfolding Fits Covers bare
fits_obj o qs t (inl e) = let z : ◌≡◌ {A = ℕ} 0 1 = cc in absurd (omega arith)
fits_obj o qs t (inr e) = let z : ◌≡◌ {A = ℕ} 0 1 = cc in absurd (omega arith)

pub link_fits : (l : Link) (t u o : Term) (ps : Parts) → Fits (link l t u) (arrows o ps) → ⊥
unfolding Fits Covers bare
link_fits l t u o ps (inl e) = let z : ◌≡◌ {A = ℕ} 0 1 = cc in absurd (omega arith)
link_fits l t u o (only p) (inr e) = let z : ◌≡◌ {A = ℕ} 0 1 = cc in absurd (omega arith)
link_fits l t u o (also p ps) (inr e) = let z : ◌≡◌ {A = ℕ} 0 1 = cc in absurd (omega arith)

pub obj_fits : (t o : Term) (ps : Parts) → Fits (obj t) (arrows o ps) → ⊥
unfolding Fits Covers bare
obj_fits t o ps (inl e) = let z : ◌≡◌ {A = ℕ} 0 1 = cc in absurd (omega arith)
obj_fits t o (only p) (inr e) = let z : ◌≡◌ {A = ℕ} 0 1 = cc in absurd (omega arith)
obj_fits t o (also p ps) (inr e) = let z : ◌≡◌ {A = ℕ} 0 1 = cc in absurd (omega arith)
