-- What holds of each variable and symbol of the parents, and that none stands only where it may, holds of what a rule gives.
use Prim.Native.Nat.{ℕ}
use mathlib.Core.Bool.{Bool, ◌&&◌}
use mathlib.Core.List.{[], ◌∷◌, ◌++◌}
use mathlib.Core.Path.{◌≡◌, refl, ap₂, subst}
use lib.Dec.{T}
use Rattle.logic.specs.declared.Rule.{Rule}
use Rattle.logic.specs.Syntax.{Term, Result, value, none, may_be_none, Part, part, Parts, only, also, Atom, link, obj, arrows, Literal, lit, Clause}
use Rattle.logic.specs.Each.{each_term, each_atom, each_clause, atom_over, allowed, allowed_part, allowed_parts, allowed_result, allowed_clause}
use Rattle.logic.specs.Fill.{Substitution, fill_result, fill_part, fill_parts, fill_atom, fill_literal, fill_clause}
use Rattle.logic.specs.Occurrence.{found, find_atom, find_literal}
use Rattle.logic.specs.Rules.{Agreement, join_parts, PartAt, Row, Parent, filled, At, Infers}
use Rattle.logic.proofs.Both.{left, right, both}
use Rattle.logic.proofs.Finding.{found_map, atom_replaced}
use Rattle.logic.proofs.Instances.{at_fill}
use Rattle.logic.proofs.Ground.{atom_each_fill}
use Rattle.logic.proofs.Parts.{link_parts, link_over, PartsOver, only_over, also_parts, also_over, arrow_parts, arrow_over}
use Rattle.logic.proofs.Parts.{method_parts, method_over, object_over, argument_over, replaced_over}

-- A clause whose atoms are allowed and over p and s.
unfoldable pub Over : (ℕ → Bool) → (ℕ → ℕ → Bool) → Clause → Type 0
Over p s [] = Unit
Over p s (lit g x ∷ c) = T (atom_over p s x) × Over p s c

module _ (p : ℕ → Bool) (s : ℕ → ℕ → Bool) where
  pub over_append : (c d : Clause) → Over p s c → Over p s d → Over p s (c ++ d)
  unfolding Over
  over_append [] d h k = k
  over_append (lit g x ∷ c) d h k = (h.0, over_append c d h.1 k)

  pub over_at : {i : ℕ} {l : Literal} {c r : Clause} → At i l c r → Over p s c → Over p s (l ∷ []) × Over p s r
  unfolding Over
  over_at (At.here {l = lit g x}) h = ((h.0, tt), h.1)
  over_at (At.there {l = lit g' y} {m = lit g x} w) h = let k = over_at w h.1 in (k.0, (h.0, k.1))

  join_parts_over : (ps qs : Parts) → PartsOver p s ps → PartsOver p s qs → PartsOver p s (join_parts ps qs)
  unfolding join_parts
  join_parts_over (only q) qs h k = also_over p s q qs (rw (← only_over p s q) h) k
  join_parts_over (also q ps) qs h k =
      let w = also_parts p s q ps h in also_over p s q (join_parts ps qs) w.0 (join_parts_over ps qs w.1 k)

  part_at_over : {k : ℕ} {q : Part} {ps : Parts} → PartAt k q ps → PartsOver p s ps → PartsOver p s (only q)
  part_at_over PartAt.alone h = h
  part_at_over (PartAt.here {q = q} {ps = ps}) h = rw (only_over p s q) (also_parts p s q ps h).0
  part_at_over (PartAt.there {p = q} {ps = ps} w) h = part_at_over w (also_parts p s q ps h).1

  row_over : {k : ℕ} {rule : Rule} {l m : Literal} {g : Agreement} {new : Clause} → Row k rule l m g new → Over p s (l ∷ []) → Over p s (m ∷ []) → Over p s new
  unfolding Over
  row_over Row.res h k = tt
  row_over Row.acy h k = (link_over p s _ _ _ (link_parts p s _ _ _ h.0).0 (link_parts p s _ _ _ h.0).1, tt)
  row_over Row.tra h k = (link_over p s _ _ _ (link_parts p s _ _ _ h.0).0 (link_parts p s _ _ _ k.0).1, tt)
  row_over Row.inc h k = (link_over p s _ _ _ (link_parts p s _ _ _ h.0).0 (link_parts p s _ _ _ k.0).1, tt)
  row_over (Row.inh t) h k = (object_over p s _ _ _ _ _ _ h.0 (link_parts p s _ _ _ k.0).0, tt)
  row_over (Row.inp t q) h k = (argument_over p s _ _ _ _ q h.0 (link_parts p s _ _ _ k.0).0, tt)
  row_over (Row.out t) h k = let w = method_parts p s _ _ _ _ _ h.0 in (method_over p s _ _ _ _ _ w.0 w.1 w.2 (link_parts p s _ _ _ k.0).1, tt)
  row_over (Row.sca t t') h k = (link_over p s _ _ _ (method_parts p s _ _ _ _ _ h.0).3 (method_parts p s _ _ _ _ _ k.0).3, tt)
  row_over (Row.mer {ps = ps} {qs = qs}) h k =
      let w = arrow_parts p s _ ps h.0 in
      (arrow_over p s _ (join_parts ps qs) w.0 (join_parts_over ps qs w.1 (arrow_parts p s _ qs k.0).1), tt)

  found_over : (σ : Substitution) (u : Term) {t : Term} (l l' : Literal) (k : ℕ) → find_literal σ u l k ≡ found t l' → T (each_term p s u) → Over p s (fill_literal σ l ∷ []) → Over p s (l' ∷ [])
  unfolding find_literal fill_literal Over
  found_over σ u {t} (lit g x) l' k e h w =
      found_map (lit g) (find_atom σ u x k) e (λ y e₁ e₂. subst (λ (m : Literal). Over p s (m ∷ [])) e₂ (replaced_over p s t u (fill_atom σ x) y h w.0 (atom_replaced σ u x k e₁), tt))

  pub infers_over : (A B : Parent) {i j k : ℕ} {rule : Rule} {g : Agreement} {c : Clause} → Infers A B i j k rule g c →
      Over p s (filled A) → Over p s (filled B) → T (each_term p s (A.image 0)) → Over p s c
  unfolding Over filled
  infers_over A B Infers.refl ha hb ht = (link_over p s _ _ _ ht ht, tt)
  infers_over A B (Infers.fac⁺ w v n) ha hb ht = (over_at v ha).1
  infers_over A B (Infers.fac⁻ w v n) ha hb ht = (over_at w ha).1
  infers_over A B {k = k} (Infers.par {l = l} {l' = lit g y} {u = u} {r = r} {r' = r'} w v e) ha hb ht =
      let a = over_at (at_fill A.image w) ha in
      let b = over_at v hb in
      let f = found_over A.image u l (lit g y) k e (link_parts p s _ _ _ b.0.0).1 a.0 in
      (f.0, over_append (fill_clause A.image r) r' a.1 b.1)
  infers_over A B (Infers.eli w) ha hb ht = (over_at w ha).1
  infers_over A B (Infers.pro {p = q} {ps = ps} w v) ha hb ht =
      let a = over_at w ha in
      let b = arrow_parts p s _ (also q ps) a.0.0 in (arrow_over p s _ (only _) b.0 (part_at_over v b.1), a.1)
  infers_over A B (Infers.two {new = new} {r = r} {r' = r'} w v q) ha hb ht =
      let a = over_at w ha in
      let b = over_at v hb in
      over_append new (r ++ r') (row_over q a.0 b.0) (over_append r r' a.1 b.1)

-- Filling keeps it, where the terms filled in keep it.
result_kind : (b : Bool) (σ : Substitution) (r : Result) → allowed_result b (fill_result σ r) ≡ allowed_result b r
unfolding allowed_result fill_result
result_kind b σ (value t) = refl
result_kind b σ none = refl

part_kind : (σ : Substitution) (p : Part) → allowed_part (fill_part σ p) ≡ allowed_part p
unfolding allowed_part fill_part
part_kind σ (part a m ts r) = result_kind (may_be_none a) σ r

parts_kind : (σ : Substitution) (ps : Parts) → allowed_parts (fill_parts σ ps) ≡ allowed_parts ps
unfolding allowed_parts fill_parts
parts_kind σ (only p) = part_kind σ p
parts_kind σ (also p ps) = ap₂ ◌&&◌ (part_kind σ p) (parts_kind σ ps)

fill_allowed : (σ : Substitution) (x : Atom) → allowed (fill_atom σ x) ≡ allowed x
unfolding allowed fill_atom
fill_allowed σ (link l t u) = refl
fill_allowed σ (obj t) = refl
fill_allowed σ (arrows o ps) = parts_kind σ ps

pub fill_over : (p q : ℕ → Bool) (s : ℕ → ℕ → Bool) (σ : Substitution) → ((v : ℕ) → T (p v) → T (each_term q s (σ v))) → (c : Clause) → Over p s c → Over q s (fill_clause σ c)
unfolding Over fill_clause fill_literal atom_over
fill_over p q s σ h [] w = tt
fill_over p q s σ h (lit g x ∷ c) w = (
  both (allowed (fill_atom σ x)) (each_atom q s (fill_atom σ x)) (rw (fill_allowed σ x) (left (allowed x) (each_atom p s x) w.0))
      (atom_each_fill p q s σ h x (right (allowed x) (each_atom p s x) w.0)),
  fill_over p q s σ h c w.1,
)

-- A clause that is over p and s, its atoms allowed; and back.
pub over_clause_lem : (p : ℕ → Bool) (s : ℕ → ℕ → Bool) (c : Clause) → T (allowed_clause c) → T (each_clause p s c) → Over p s c
unfolding Over atom_over allowed_clause each_clause
over_clause_lem p s [] h w = tt
over_clause_lem p s (lit g x ∷ c) h w = (
  both (allowed x) (each_atom p s x) (left (allowed x) (allowed_clause c) h) (left (each_atom p s x) (each_clause p s c) w),
  over_clause_lem p s c (right (allowed x) (allowed_clause c) h) (right (each_atom p s x) (each_clause p s c) w),
)

pub over_each : (p : ℕ → Bool) (s : ℕ → ℕ → Bool) (c : Clause) → Over p s c → T (each_clause p s c)
unfolding Over atom_over each_clause
over_each p s [] w = tt
over_each p s (lit g x ∷ c) w = both (each_atom p s x) (each_clause p s c) (right (allowed x) (each_atom p s x) w.0) (over_each p s c w.1)

pub over_allowed : (p : ℕ → Bool) (s : ℕ → ℕ → Bool) (c : Clause) → Over p s c → T (allowed_clause c)
unfolding Over atom_over allowed_clause
over_allowed p s [] w = tt
over_allowed p s (lit g x ∷ c) w = both (allowed x) (allowed_clause c) (left (allowed x) (each_atom p s x) w.0) (over_allowed p s c w.1)
