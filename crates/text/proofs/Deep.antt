-- Clauses whose numbers are numbers N, of any depth: each is formed at some depth, so its bytes determine it.
use Prim.Native.Nat.{ℕ, max, ◌≤◌}
use mathlib.Core.Bool.{Bool, true, ◌&&◌}
use mathlib.Core.List.{List, [], ◌∷◌}
use mathlib.Core.Path.{◌≡◌}
use native.Mathlib.Omega.{arith}
use lib.Dec.{T, leb, le→leb}
use Rattle.logic.specs.declared.Arrow.{Arrow}
use Rattle.logic.specs.Syntax.{Term, var, app, Terms, nil, cons, Result, value, none, may_be_none, Part, part, Parts, only, also, Atom, link, obj, arrows, lit, Clause}
use Rattle.logic.specs.Terms.{part_terms, parts_terms, terms_of, join, result_terms}
use Rattle.logic.specs.Each.{each_term, each_terms, atom_over, allowed_part, allowed_result}
use Rattle.logic.proofs.Both.{left, right, both}
use Rattle.logic.proofs.Parts.{link_parts, link_over, obj_part, obj_over, PartOver, PartsOver, only_over, also_parts, also_over, arrow_parts, arrow_over, part_parts, part_over}
use Rattle.logic.specs.Fill.{entries}
use Rattle.logic.proofs.Ground.{entry_each}
use Rattle.logic.proofs.Over.{Over}
use Rattle.text.specs.Write.{put_clause}
use Rattle.text.specs.Form.{formed_number, depth_of, depth_ofs, numbered, numbereds, formed_term, formed_terms, formed_result, formed_part, formed_parts, formed_atom, formed_literal, formed_clause}
use Rattle.text.proofs.Unique.{clause_unique}

-- A symbol's number is a number N.
abbrev pub formed_symbol : ℕ → ℕ → Bool
formed_symbol f n = formed_number f

mutual
  unfolding each_term numbered

  pub each_numbered : (t : Term) → T (each_term formed_number formed_symbol t) → T (numbered t)
  each_numbered (var n) h = h
  each_numbered (app f ts) h =
      both (formed_number f) (numbereds ts) (left (formed_number f) (each_terms formed_number formed_symbol ts) h) (eachs_numbered ts (right (formed_number f) (each_terms formed_number formed_symbol ts) h))

  pub eachs_numbered : (ts : Terms) → T (each_terms formed_number formed_symbol ts) → T (numbereds ts)
  eachs_numbered nil h = tt
  eachs_numbered (cons t ts) h =
      let a = each_term formed_number formed_symbol t in
      let b = each_terms formed_number formed_symbol ts in
      both (numbered t) (numbereds ts) (each_numbered t (left a b h)) (eachs_numbered ts (right a b h))

mutual
  unfolding each_term numbered

  pub numbered_each : (t : Term) → T (numbered t) → T (each_term formed_number formed_symbol t)
  numbered_each (var n) h = h
  numbered_each (app f ts) h =
      both (formed_number f) (each_terms formed_number formed_symbol ts) (left (formed_number f) (numbereds ts) h) (numbereds_each ts (right (formed_number f) (numbereds ts) h))

  pub numbereds_each : (ts : Terms) → T (numbereds ts) → T (each_terms formed_number formed_symbol ts)
  numbereds_each nil h = tt
  numbereds_each (cons t ts) h =
      both (each_term formed_number formed_symbol t) (each_terms formed_number formed_symbol ts) (numbered_each t (left (numbered t) (numbereds ts) h)) (numbereds_each ts (right (numbered t) (numbereds ts) h))

-- The depth of an atom's terms.
unfoldable pub atom_depth : Atom → ℕ
atom_depth x = depth_ofs (terms_of x)

unfoldable pub clause_depth : Clause → ℕ
clause_depth [] = 0
clause_depth (lit g x ∷ c) = max (atom_depth x) (clause_depth c)

term_formed : (d : ℕ) (t : Term) → depth_of t ≤ d → T (each_term formed_number formed_symbol t) → T (formed_term d t)
unfolding formed_term
term_formed d t h k = both (leb (depth_of t) d) (numbered t) (le→leb (depth_of t) d h) (each_numbered t k)

terms_formed_deep : (d : ℕ) (ts : Terms) → depth_ofs ts ≤ d → T (each_terms formed_number formed_symbol ts) → T (formed_terms d ts)
unfolding formed_terms
terms_formed_deep d ts h k = both (leb (depth_ofs ts) d) (numbereds ts) (le→leb (depth_ofs ts) d h) (eachs_numbered ts k)

join_depth : (ts us : Terms) → depth_ofs (join ts us) ≡ max (depth_ofs ts) (depth_ofs us)
unfolding join depth_of
join_depth nil us = omega arith
join_depth (cons t ts) us = let e = join_depth ts us in omega arith

result_formed : (d : ℕ) (a : Arrow) (r : Result) → depth_ofs (result_terms r) ≤ d → T (allowed_result (may_be_none a) r) → T (each_terms formed_number formed_symbol (result_terms r)) →
    T (formed_result d a r)
unfolding formed_result result_terms depth_of allowed_result each_term
result_formed d a (value t) h k w = term_formed d t (omega arith) (left (each_term formed_number formed_symbol t) true w)
result_formed d a none h k w = k

part_formed : (d : ℕ) (p : Part) → depth_ofs (part_terms p) ≤ d → PartOver formed_number formed_symbol p → T (formed_part d p)
unfolding formed_part part_terms depth_of allowed_part
part_formed d (part a m ts r) h k =
    let w = part_parts formed_number formed_symbol a m ts r k in
    let e = join_depth ts (result_terms r) in
    both (formed_term d m && formed_terms d ts) (formed_result d a r)
    (both (formed_term d m) (formed_terms d ts) (term_formed d m (omega arith) w.0) (terms_formed_deep d ts (omega arith) w.1))
    (result_formed d a r (omega arith) k.0 w.2)

parts_formed : (d : ℕ) (ps : Parts) → depth_ofs (parts_terms ps) ≤ d → PartsOver formed_number formed_symbol ps → T (formed_parts d ps)
unfolding formed_parts parts_terms
parts_formed d (only p) h k = part_formed d p h (rw (← only_over formed_number formed_symbol p) k)
parts_formed d (also p ps) h k =
    let w = also_parts formed_number formed_symbol p ps k in
    let e = join_depth (part_terms p) (parts_terms ps) in
    both (formed_part d p) (formed_parts d ps) (part_formed d p (omega arith) w.0) (parts_formed d ps (omega arith) w.1)

pub atom_formed : (d : ℕ) (x : Atom) → atom_depth x ≤ d → T (atom_over formed_number formed_symbol x) → T (formed_atom d x)
unfolding formed_atom atom_depth terms_of depth_of
atom_formed d (link l t u) h k = let w = link_parts formed_number formed_symbol l t u k in both (formed_term d t) (formed_term d u) (term_formed d t (omega arith) w.0) (term_formed d u (omega arith) w.1)
atom_formed d (obj t) h k = term_formed d t (omega arith) (obj_part formed_number formed_symbol t k)
atom_formed d (arrows o ps) h k =
    let w = arrow_parts formed_number formed_symbol o ps k in
    both (formed_term d o) (formed_parts d ps) (term_formed d o (omega arith) w.0) (parts_formed d ps (omega arith) w.1)

pub over_formed : (d : ℕ) (c : Clause) → clause_depth c ≤ d → Over formed_number formed_symbol c → T (formed_clause d c)
unfolding formed_clause formed_literal clause_depth Over
over_formed d [] h k = tt
over_formed d (lit g x ∷ c) h k = both (formed_atom d x) (formed_clause d c) (atom_formed d x (omega arith) k.0) (over_formed d c (omega arith) k.1)

-- Equal bytes are equal clauses, of any depth.
pub clause_bytes : (c d : Clause) (r s : List ℕ) → Over formed_number formed_symbol c → Over formed_number formed_symbol d → put_clause c r ≡ put_clause d s → (c ≡ d) × (r ≡ s)
clause_bytes c d r s h k e =
    let n = max (clause_depth c) (clause_depth d) in
    clause_unique n c d r s (over_formed n c (omega arith) h) (over_formed n d (omega arith) k) e

-- What is formed has such numbers.
formed_numbered : (d : ℕ) (t : Term) → T (formed_term d t) → T (each_term formed_number formed_symbol t)
unfolding formed_term
formed_numbered d t h = numbered_each t (right (leb (depth_of t) d) (numbered t) h)

formeds_numbered : (d : ℕ) (ts : Terms) → T (formed_terms d ts) → T (each_terms formed_number formed_symbol ts)
unfolding formed_terms
formeds_numbered d ts h = numbereds_each ts (right (leb (depth_ofs ts) d) (numbereds ts) h)

formed_result_lem : (d : ℕ) (a : Arrow) (r : Result) → T (formed_result d a r) → T (allowed_result (may_be_none a) r) × T (each_terms formed_number formed_symbol (result_terms r))
unfolding formed_result allowed_result result_terms each_term
formed_result_lem d a (value t) h = (tt, both (each_term formed_number formed_symbol t) true (formed_numbered d t h) tt)
formed_result_lem d a none h = (h, tt)

formed_part_lem : (d : ℕ) (p : Part) → T (formed_part d p) → PartOver formed_number formed_symbol p
unfolding formed_part
formed_part_lem d (part a m ts r) h =
    let w = left (formed_term d m && formed_terms d ts) (formed_result d a r) h in
    let z = formed_result_lem d a r (right (formed_term d m && formed_terms d ts) (formed_result d a r) h) in
    part_over formed_number formed_symbol a m ts r z.0 (formed_numbered d m (left (formed_term d m) (formed_terms d ts) w), formeds_numbered d ts (right (formed_term d m) (formed_terms d ts) w), z.1)

formed_parts_lem : (d : ℕ) (ps : Parts) → T (formed_parts d ps) → PartsOver formed_number formed_symbol ps
unfolding formed_parts
formed_parts_lem d (only p) h = rw (only_over formed_number formed_symbol p) (formed_part_lem d p h)
formed_parts_lem d (also p ps) h =
    also_over formed_number formed_symbol p ps (formed_part_lem d p (left (formed_part d p) (formed_parts d ps) h))
    (formed_parts_lem d ps (right (formed_part d p) (formed_parts d ps) h))

formed_atom_lem : (d : ℕ) (x : Atom) → T (formed_atom d x) → T (atom_over formed_number formed_symbol x)
unfolding formed_atom
formed_atom_lem d (link l t u) h =
    link_over formed_number formed_symbol l t u (formed_numbered d t (left (formed_term d t) (formed_term d u) h)) (formed_numbered d u (right (formed_term d t) (formed_term d u) h))
formed_atom_lem d (obj t) h = obj_over formed_number formed_symbol t (formed_numbered d t h)
formed_atom_lem d (arrows o ps) h =
    arrow_over formed_number formed_symbol o ps (formed_numbered d o (left (formed_term d o) (formed_parts d ps) h))
    (formed_parts_lem d ps (right (formed_term d o) (formed_parts d ps) h))

pub formed_over : (d : ℕ) (c : Clause) → T (formed_clause d c) → Over formed_number formed_symbol c
unfolding formed_clause formed_literal Over
formed_over d [] h = tt
formed_over d (lit g x ∷ c) h = (formed_atom_lem d x (left (formed_atom d x) (formed_clause d c) h), formed_over d c (right (formed_atom d x) (formed_clause d c) h))

-- The images that a list gives have such numbers, where the variable's number is one.
pub entries_over : (ts : Terms) → T (numbereds ts) → (v : ℕ) → T (formed_number v) → T (each_term formed_number formed_symbol (entries ts v))
unfolding entries each_term
entries_over ts h v w = entry_each formed_number formed_symbol (var v) ts v w (numbereds_each ts h)
