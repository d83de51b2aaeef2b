-- The set of all ground atoms over a table is an H-structure: the definition is not empty.
use Prim.Native.Nat.{ℕ}
use mathlib.Core.Bool.{Bool, true, false}
use mathlib.Core.List.{List}
use mathlib.Core.Path.{◌≡◌, refl}
use lib.Dec.{T}
use Rattle.logic.specs.declared.Link.TheVariants.{Eq, Mem, Sub}
use Rattle.logic.specs.Syntax.{Term, Terms, Result, may_be_none, Part, part, Parts, only, also, Atom, link, obj, arrows}
use Rattle.logic.specs.Terms.{result_terms, parts_terms, with_parts_terms, with_terms}
use Rattle.logic.specs.Each.{each_terms, each_term, atom_over, declares, never, ground_term, one_part, no_molecule, ground_atom}
use Rattle.logic.specs.Each.{allowed_part, allowed_parts, allowed_result}
use Rattle.logic.specs.Occurrence.{ReplacedAtom}
use Rattle.logic.specs.Rules.{bare_result, bare_part, bare}
use Rattle.logic.specs.Structure.{Structure}
use Rattle.logic.proofs.Both.{left, right, both}
use Rattle.logic.proofs.Parts.{link_parts, link_over, obj_over, PartOver, arrow_parts, arrow_over, part_parts, part_over, method_parts, method_over, object_over, argument_over, replaced_over}

module _ (p : ℕ → Bool) (s : ℕ → ℕ → Bool) where
  bare_result_lem : (b : Bool) (r : Result) → T (allowed_result b r) → T (each_terms p s (result_terms r)) →
      T (allowed_result b (bare_result b r)) × T (each_terms p s (result_terms (bare_result b r)))
  unfolding allowed_result bare_result result_terms each_term
  bare_result_lem true r h w = (tt, tt)
  bare_result_lem false r h w = (h, w)

  bare_part_lem : (q : Part) → PartOver p s q → PartOver p s (bare_part q)
  unfolding bare_part allowed_part
  bare_part_lem (part a m ts r) h =
      let w = part_parts p s a m ts r h in
      let k = bare_result_lem (may_be_none a) r h.0 w.2 in
      part_over p s a m ts (bare_result (may_be_none a) r) k.0 (w.0, w.1, k.1)

  bare_over : (x : Atom) → T (atom_over p s x) → T (atom_over p s (bare x))
  unfolding bare allowed_parts parts_terms
  bare_over (link l t u) h = h
  bare_over (obj t) h = h
  bare_over (arrows o (only q)) h = let w = arrow_parts p s o (only q) h in arrow_over p s o (only (bare_part q)) w.0 (bare_part_lem q w.1)
  bare_over (arrows o (also q qs)) h = h

-- What is no molecule stays none.
one_part_with : (ps : Parts) (us : Terms) → one_part (with_parts_terms ps us) ≡ one_part ps
unfolding one_part with_parts_terms
one_part_with (only p) us = refl
one_part_with (also p ps) us = refl

with_no_molecule : (x : Atom) (us : Terms) → no_molecule (with_terms x us) ≡ no_molecule x
unfolding no_molecule with_terms
with_no_molecule (link l t u) us = refl
with_no_molecule (obj t) us = refl
with_no_molecule (arrows o ps) us = one_part_with ps _

bare_no_molecule : (x : Atom) → no_molecule (bare x) ≡ no_molecule x
unfolding no_molecule one_part bare
bare_no_molecule (link l t u) = refl
bare_no_molecule (obj t) = refl
bare_no_molecule (arrows o (only p)) = refl
bare_no_molecule (arrows o (also p ps)) = refl

module _ (table : List ℕ) where
  ground_none : (x : Atom) → T (ground_atom table x) → T (no_molecule x)
  unfolding ground_atom
  ground_none x h = left (no_molecule x) (atom_over never (declares table) x) h

  pub ground_over : (x : Atom) → T (ground_atom table x) → T (atom_over never (declares table) x)
  unfolding ground_atom
  ground_over x h = right (no_molecule x) (atom_over never (declares table) x) h

  over_ground : (x : Atom) → T (no_molecule x) → T (atom_over never (declares table) x) → T (ground_atom table x)
  unfolding ground_atom
  over_ground x h k = both (no_molecule x) (atom_over never (declares table) x) h k

  replaced_ground : (a b : Term) (x y : Atom) → T (ground_term table b) → T (ground_atom table x) → ReplacedAtom a b x y → T (ground_atom table y)
  unfolding ReplacedAtom ground_term
  replaced_ground a b x y g h r =
      let n : no_molecule y ≡ no_molecule x = rw (r.2) (with_no_molecule x r.0) in
      over_ground y (rw n (ground_none x h)) (replaced_over never (declares table) a b x y g (ground_over x h) r)

  bare_ground : (x : Atom) → T (ground_atom table x) → T (ground_atom table (bare x))
  bare_ground x h = over_ground (bare x) (rw (bare_no_molecule x) (ground_none x h)) (bare_over never (declares table) x (ground_over x h))

pub everything : (table : List ℕ) → Structure table (λ x. T (ground_atom table x))
unfolding ground_term ground_atom no_molecule one_part
everything table =
    let d : ℕ → ℕ → Bool = declares table in
    record {
      ground = λ h. h;
      eq_refl = λ t h. link_over never d Eq t t h h;
      sub_refl = λ t h. link_over never d Sub t t h h;
      obj_all = λ t h. obj_over never d t h;
      replace = λ {a} {b} {x} {y} h w r. replaced_ground table a b x y (link_parts never d Eq a b h).1 w r;
      sub_trans = λ {a} {b} {c} h w. link_over never d Sub a c (link_parts never d Sub a b h).0 (link_parts never d Sub b c w).1;
      sub_antisym = λ {a} {b} h w. link_over never d Eq a b (link_parts never d Sub a b h).0 (link_parts never d Sub a b h).1;
      mem_sub = λ {a} {b} {c} h w. link_over never d Mem a c (link_parts never d Mem a b h).0 (link_parts never d Sub b c w).1;
      sub_object = λ {g} {o} {m} {q} {ts} {r} t h w. object_over never d g o m q ts r h (link_parts never d Sub q o w).0;
      sub_argument = λ {g} {o} {m} {q} {p} {ts} {us} {r} t h v w. argument_over never d g o m r v h (link_parts never d Sub q p w).0;
      sub_result = λ {g} {o} {m} {r} {s} {ts} t h w.
          let k = method_parts never d g o m ts r h in method_over never d g o m ts s k.0 k.1 k.2 (link_parts never d Sub r s w).1;
      scalar_eq = λ {g} {o} {m} {r} {s} {ts} t h w. link_over never d Eq r s (method_parts never d g o m ts r h).3 (method_parts never d g o m ts s w).3;
      none_holds = λ {x} h. bare_ground table x h;
    }
