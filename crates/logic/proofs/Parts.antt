-- The parts of an atom of which something holds for each variable and symbol.
use Prim.Native.Nat.{ℕ}
use mathlib.Core.Bool.{Bool, true, ◌&&◌}
use mathlib.Core.Path.{◌≡◌, refl, ap₂}
use lib.Dec.{T}
use Rattle.logic.specs.declared.Link.{Link}
use Rattle.logic.specs.declared.Arrow.{Arrow}
use Rattle.logic.specs.Syntax.{Term, Terms, nil, cons, Result, value, none, may_be_none}
use Rattle.logic.specs.Syntax.{Part, part, Parts, only, also, Atom, link, obj, arrows, method}
use Rattle.logic.specs.Terms.{count, join, result_terms, part_terms, parts_terms, terms_of, with_result, with_part_terms, with_parts_terms, with_terms}
use Rattle.logic.specs.Each.{each_term, each_terms, each_atom, atom_over, allowed, allowed_part, allowed_parts, allowed_result}
use Rattle.logic.specs.Occurrence.{Replaced, ReplacedAtom}
use Rattle.logic.specs.Rules.{Placed}
use Rattle.logic.proofs.Both.{left, right, both}
use Rattle.logic.proofs.Filling.{Fits, with_has}
use Rattle.logic.proofs.Finding.{replaced_count}

module _ (p : ℕ → Bool) (s : ℕ → ℕ → Bool) where
  pub join_each : (ts us : Terms) → T (each_terms p s ts) → T (each_terms p s us) → T (each_terms p s (join ts us))
  unfolding each_term join
  join_each nil us h h' = h'
  join_each (cons t ts) us h h' =
      both (each_term p s t) (each_terms p s (join ts us)) (left (each_term p s t) (each_terms p s ts) h) (join_each ts us (right (each_term p s t) (each_terms p s ts) h) h')

  pub each_join : (ts us : Terms) → T (each_terms p s (join ts us)) → T (each_terms p s ts) × T (each_terms p s us)
  unfolding each_term join
  each_join nil us h = (tt, h)
  each_join (cons t ts) us h =
      let w = each_join ts us (right (each_term p s t) (each_terms p s (join ts us)) h) in
      (both (each_term p s t) (each_terms p s ts) (left (each_term p s t) (each_terms p s (join ts us)) h) w.0, w.1)

  pub placed_each : {q t : Term} {k : ℕ} {ts us : Terms} → Placed q k t ts us → T (each_term p s q) → T (each_terms p s ts) → T (each_terms p s us)
  unfolding each_term
  placed_each {q} (Placed.here {q = t} {ts = ts}) h w = both (each_term p s q) (each_terms p s ts) h (right (each_term p s t) (each_terms p s ts) w)
  placed_each (Placed.there {t = t} {ts = ts} {us = us} x) h w =
      both (each_term p s t) (each_terms p s us) (left (each_term p s t) (each_terms p s ts) w) (placed_each x h (right (each_term p s t) (each_terms p s ts) w))

  pub replaced_each : {a b : Term} {ts us : Terms} → T (each_term p s b) → Replaced a b ts us → T (each_terms p s ts) → T (each_terms p s us)
  unfolding each_term
  replaced_each {a} {b} h (Replaced.here {ts = ts}) w = both (each_term p s b) (each_terms p s ts) h (right (each_term p s a) (each_terms p s ts) w)
  replaced_each h (Replaced.inside {f = f} {ts = ts} {us = us} {rest = rest} x) w =
      let v = left (s f (count ts) && each_terms p s ts) (each_terms p s rest) w in
      both (s f (count us) && each_terms p s us) (each_terms p s rest)
      (both (s f (count us)) (each_terms p s us) (rw (replaced_count x) (left (s f (count ts)) (each_terms p s ts) v)) (replaced_each h x (right (s f (count ts)) (each_terms p s ts) v)))
      (right (s f (count ts) && each_terms p s ts) (each_terms p s rest) w)
  replaced_each h (Replaced.later {t = t} {ts = ts} {us = us} x) w =
      both (each_term p s t) (each_terms p s us) (left (each_term p s t) (each_terms p s ts) w) (replaced_each h x (right (each_term p s t) (each_terms p s ts) w))

result_allowed : (b : Bool) (r : Result) (us : Terms) → allowed_result b (with_result r us) ≡ allowed_result b r
unfolding allowed_result with_result
result_allowed b (value t) us = refl
result_allowed b none us = refl

part_allowed : (p : Part) (us : Terms) → allowed_part (with_part_terms p us) ≡ allowed_part p
unfolding allowed_part with_part_terms
part_allowed (part a m ts r) us = result_allowed (may_be_none a) r _

parts_allowed : (ps : Parts) (us : Terms) → allowed_parts (with_parts_terms ps us) ≡ allowed_parts ps
unfolding allowed_parts with_parts_terms
parts_allowed (only p) us = part_allowed p us
parts_allowed (also p ps) us = ap₂ ◌&&◌ (part_allowed p _) (parts_allowed ps _)

pub with_allowed : (x : Atom) (us : Terms) → allowed (with_terms x us) ≡ allowed x
unfolding allowed with_terms
with_allowed (link l t u) us = refl
with_allowed (obj t) us = refl
with_allowed (arrows o ps) us = parts_allowed ps _

module _ (p : ℕ → Bool) (s : ℕ → ℕ → Bool) where
  abbrev pub E : Term → Bool
  E t = each_term p s t

  abbrev pub Es : Terms → Bool
  Es ts = each_terms p s ts

  pub link_parts : (l : Link) (t u : Term) → T (atom_over p s (link l t u)) → T (E t) × T (E u)
  unfolding atom_over allowed each_atom terms_of each_term
  link_parts l t u h = (left (E t) (E u && true) h, left (E u) true (right (E t) (E u && true) h))

  pub link_over : (l : Link) (t u : Term) → T (E t) → T (E u) → T (atom_over p s (link l t u))
  unfolding atom_over allowed each_atom terms_of each_term
  link_over l t u h k = both (E t) (E u && true) h (both (E u) true k tt)

  pub obj_over : (t : Term) → T (E t) → T (atom_over p s (obj t))
  unfolding atom_over allowed each_atom terms_of each_term
  obj_over t h = both (E t) true h tt

  pub obj_part : (t : Term) → T (atom_over p s (obj t)) → T (E t)
  unfolding atom_over allowed each_atom terms_of each_term
  obj_part t h = left (E t) true h

  -- A part, parts: none stands only where it may, and E of the terms. An arrow atom or a molecule: E of its object, and so its parts.
  abbrev pub PartOver : Part → Type 0
  PartOver q = T (allowed_part q) × T (Es (part_terms q))

  abbrev pub PartsOver : Parts → Type 0
  PartsOver qs = T (allowed_parts qs) × T (Es (parts_terms qs))

  pub only_over : (q : Part) → PartsOver (only q) ≡ PartOver q
  unfolding allowed_parts parts_terms
  only_over q = refl

  pub also_parts : (q : Part) (qs : Parts) → PartsOver (also q qs) → PartOver q × PartsOver qs
  unfolding allowed_parts parts_terms
  also_parts q qs h =
      let w = each_join p s (part_terms q) (parts_terms qs) h.1 in
      ((left (allowed_part q) (allowed_parts qs) h.0, w.0), (right (allowed_part q) (allowed_parts qs) h.0, w.1))

  pub also_over : (q : Part) (qs : Parts) → PartOver q → PartsOver qs → PartsOver (also q qs)
  unfolding allowed_parts parts_terms
  also_over q qs h k = (both (allowed_part q) (allowed_parts qs) h.0 k.0, join_each p s (part_terms q) (parts_terms qs) h.1 k.1)

  pub arrow_parts : (o : Term) (qs : Parts) → T (atom_over p s (arrows o qs)) → T (E o) × PartsOver qs
  unfolding atom_over allowed each_atom terms_of each_term
  arrow_parts o qs h =
      let w = right (allowed_parts qs) (E o && Es (parts_terms qs)) h in
      (left (E o) (Es (parts_terms qs)) w, (left (allowed_parts qs) (E o && Es (parts_terms qs)) h, right (E o) (Es (parts_terms qs)) w))

  pub arrow_over : (o : Term) (qs : Parts) → T (E o) → PartsOver qs → T (atom_over p s (arrows o qs))
  unfolding atom_over allowed each_atom terms_of each_term
  arrow_over o qs h w = both (allowed_parts qs) (E o && Es (parts_terms qs)) w.0 (both (E o) (Es (parts_terms qs)) h w.1)

  -- Method, arguments and result of a part.
  abbrev pub Said : Term → Terms → Result → Type 0
  Said m ts r = T (E m) × T (Es ts) × T (Es (result_terms r))

  pub part_parts : (a : Arrow) (m : Term) (ts : Terms) (r : Result) → PartOver (part a m ts r) → Said m ts r
  unfolding part_terms each_term
  part_parts a m ts r h =
      let z = each_join p s ts (result_terms r) (right (E m) (Es (join ts (result_terms r))) h.1) in
      (left (E m) (Es (join ts (result_terms r))) h.1, z.0, z.1)

  pub part_over : (a : Arrow) (m : Term) (ts : Terms) (r : Result) → T (allowed_result (may_be_none a) r) → Said m ts r → PartOver (part a m ts r)
  unfolding allowed_part part_terms each_term
  part_over a m ts r h w = (h, both (E m) (Es (join ts (result_terms r))) w.0 (join_each p s ts (result_terms r) w.1 w.2))

  -- An arrow atom with a term result.
  pub method_parts : (a : Arrow) (o m : Term) (ts : Terms) (r : Term) → T (atom_over p s (method a o m ts (value r))) → T (E o) × T (E m) × T (Es ts) × T (E r)
  unfolding result_terms each_term allowed_parts parts_terms
  method_parts a o m ts r h =
      let w = arrow_parts o (only (part a m ts (value r))) h in
      let v = part_parts a m ts (value r) w.1 in (w.0, v.0, v.1, left (E r) true v.2)

  pub method_over : (a : Arrow) (o m : Term) (ts : Terms) (r : Term) → T (E o) → T (E m) → T (Es ts) → T (E r) → T (atom_over p s (method a o m ts (value r)))
  unfolding allowed_result result_terms each_term allowed_parts parts_terms
  method_over a o m ts r ho hm hs hr = arrow_over o (only (part a m ts (value r))) ho (part_over a m ts (value r) tt (hm, hs, both (E r) true hr tt))

  -- Another object, and another argument; the result stays.
  pub object_over : (a : Arrow) (o m q : Term) (ts : Terms) (r : Result) → T (atom_over p s (method a o m ts r)) → T (E q) → T (atom_over p s (method a q m ts r))
  object_over a o m q ts r h k = arrow_over q (only (part a m ts r)) k (arrow_parts o (only (part a m ts r)) h).1

  pub argument_over : (a : Arrow) (o m : Term) {q t : Term} {k : ℕ} {ts us : Terms} (r : Result) → Placed q k t ts us → T (atom_over p s (method a o m ts r)) → T (E q) → T (atom_over p s (method a o m us r))
  unfolding allowed_part allowed_parts parts_terms
  argument_over a o m {ts = ts} {us} r v h k =
      let w = arrow_parts o (only (part a m ts r)) h in
      let z = part_parts a m ts r w.1 in arrow_over o (only (part a m us r)) w.0 (part_over a m us r w.1.0 (z.0, placed_each p s v k z.1, z.2))

  pub replaced_over : (a b : Term) (x y : Atom) → T (E b) → T (atom_over p s x) → ReplacedAtom a b x y → T (atom_over p s y)
  unfolding atom_over each_atom ReplacedAtom
  replaced_over a b x y h w r =
      let us : Terms = r.0 in
      let f : Fits x us = replaced_count r.1 in
      let k = replaced_each p s h r.1 (right (allowed x) (Es (terms_of x)) w) in
      rw (r.2, with_allowed x us, with_has x us f) (both (allowed x) (Es us) (left (allowed x) (Es (terms_of x)) w) k)
