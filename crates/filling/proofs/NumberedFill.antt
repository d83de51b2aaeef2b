-- Filling keeps to numbers N where the images have such numbers; and what is formed at one depth is formed at a greater one.
use Prim.Native.Nat.{ℕ, ◌≤◌, ◌<◌, max}
use mathlib.Core.Bool.{Bool, true, ◌&&◌}
use mathlib.Core.List.{List, [], ◌∷◌}
use mathlib.Core.Path.{◌≡◌, sym, ap, ◌∙◌}
use native.Mathlib.Omega.{arith}
use lib.Dec.{T, ltb, leb→le, le→leb, ltb→lt, lt→ltb}
use Rattle.logic.specs.declared.Sign.TheVariants.{Positive}
use Rattle.logic.specs.declared.Arrow.{Arrow}
use Rattle.logic.specs.Syntax.{Term, var, app, Terms, nil, cons, Result, value, none, Part, part, Parts, only, also, Atom, link, obj, arrows, lit}
use Rattle.logic.specs.Terms.{terms_of}
use Rattle.logic.specs.Each.{each_term, each_terms, each_atom, atom_over, allowed, term_width, terms_width}
use Rattle.logic.specs.Fill.{Substitution, fill, fills, fill_atom, fill_literal, fill_clause}
use Rattle.logic.proofs.Both.{left, right, both}
use Rattle.logic.proofs.Ground.{each_fill, eachs_fill}
use Rattle.logic.proofs.Over.{Over, fill_over}
use Rattle.text.specs.Write.{put_bracketed, put_atom}
use Rattle.text.specs.Form.{formed_number, numbered, numbereds, formed_term, formed_terms, formed_result, formed_part, formed_parts, formed_atom, formed_literal, formed_clause}
use Rattle.text.proofs.Tests.{T_and}
use Rattle.text.specs.Read.{got, read_bracketed}
use Rattle.text.proofs.Complete.{bracketed_complete}
use Rattle.text.proofs.Unique.{atom_unique}
use Rattle.text.proofs.Deep.{formed_symbol, each_numbered, eachs_numbered, numbered_each, numbereds_each, atom_depth, atom_formed, formed_over}

module _ (σ : Substitution) (w : ℕ) (numbers : (v : ℕ) → v < w → T (numbered (σ v))) where
  -- A variable's number: a number N below w.
  abbrev below : ℕ → Bool
  below v = formed_number v && ltb v w

  mutual
    unfolding each_term term_width

    each_below : (t : Term) → T (each_term formed_number formed_symbol t) → term_width t ≤ w → T (each_term below formed_symbol t)
    each_below (var n) h k = both (formed_number n) (ltb n w) h (lt→ltb n w (omega arith))
    each_below (app f ts) h k =
        let a = each_terms formed_number formed_symbol ts in
        both (formed_number f) (each_terms below formed_symbol ts) (left (formed_number f) a h) (eachs_below ts (right (formed_number f) a h) k)

    eachs_below : (ts : Terms) → T (each_terms formed_number formed_symbol ts) → terms_width ts ≤ w → T (each_terms below formed_symbol ts)
    eachs_below nil h k = tt
    eachs_below (cons t ts) h k =
        let a = each_term formed_number formed_symbol t in
        let b = each_terms formed_number formed_symbol ts in
        both (each_term below formed_symbol t) (each_terms below formed_symbol ts) (each_below t (left a b h) (omega arith)) (eachs_below ts (right a b h) (omega arith))

  image_each : (v : ℕ) → T (below v) → T (each_term formed_number formed_symbol (σ v))
  image_each v h = numbered_each (σ v) (numbers v (ltb→lt v w (right (formed_number v) (ltb v w) h)))

  pub fill_numbered : (t : Term) → T (numbered t) → term_width t ≤ w → T (numbered (fill σ t))
  fill_numbered t h k = each_numbered (fill σ t) (each_fill below formed_number formed_symbol σ image_each t (each_below t (numbered_each t h) k))

  pub fills_numbered : (ts : Terms) → T (numbereds ts) → terms_width ts ≤ w → T (numbereds (fills σ ts))
  fills_numbered ts h k = eachs_numbered (fills σ ts) (eachs_fill below formed_number formed_symbol σ image_each ts (eachs_below ts (numbereds_each ts h) k))

  -- An atom that is formed, filled: none stands only where it may, and the numbers are numbers N.
  pub fill_atom_over : (d : ℕ) (x : Atom) → T (formed_atom d x) → terms_width (terms_of x) ≤ w → T (atom_over formed_number formed_symbol (fill_atom σ x))
  unfolding formed_clause formed_literal Over atom_over each_atom fill_clause fill_literal
  fill_atom_over d x f k =
      let o = (formed_over d (lit Positive x ∷ []) (both (formed_atom d x) true f tt)).0 in
      let a = allowed x in
      let b = each_terms formed_number formed_symbol (terms_of x) in
      (fill_over below formed_number formed_symbol σ image_each (lit Positive x ∷ []) (both a (each_terms below formed_symbol (terms_of x)) (left a b o) (eachs_below (terms_of x) (right a b o) k), tt)).0

-- Such atoms are determined by their bytes, of any depth.
pub atom_bytes : (x y : Atom) (r s : List ℕ) → T (atom_over formed_number formed_symbol x) → T (atom_over formed_number formed_symbol y) → put_atom x r ≡ put_atom y s → x ≡ y
atom_bytes x y r s h k e =
    let d = max (atom_depth x) (atom_depth y) in
    (atom_unique d x y r s (atom_formed d x (omega arith) h) (atom_formed d y (omega arith) k) e).0

-- So are parts of such arrow atoms, as a molecule has them.
bracketed_unique : (d : ℕ) (p q : Part) (r s : List ℕ) → T (formed_part d p) → T (formed_part d q) → put_bracketed p r ≡ put_bracketed q s → p ≡ q
bracketed_unique d p q r s f g e = let z : got p r ≡ got q s = sym (bracketed_complete d p f r) ∙ ap (read_bracketed d) e ∙ bracketed_complete d q g s in cc

pub bracketed_bytes : (o u : Term) (p q : Part) (r s : List ℕ) → T (atom_over formed_number formed_symbol (arrows o (only p))) → T (atom_over formed_number formed_symbol (arrows u (only q))) →
    put_bracketed p r ≡ put_bracketed q s → p ≡ q
unfolding formed_atom formed_parts
bracketed_bytes o u p q r s h k e =
    let d = max (atom_depth (arrows o (only p))) (atom_depth (arrows u (only q))) in
    let f = atom_formed d (arrows o (only p)) (omega arith) h in
    let g = atom_formed d (arrows u (only q)) (omega arith) k in
    bracketed_unique d p q r s (simp T_and at f).1 (simp T_and at g).1 e

-- A greater depth.
pub term_deeper : (d e : ℕ) (t : Term) → d ≤ e → T (formed_term d t) → T (formed_term e t)
unfolding formed_term
term_deeper d e t h f = let (m, n) = simp T_and at f in simp T_and (omega (arith, leb→le, le→leb), n)

pub terms_deeper : (d e : ℕ) (ts : Terms) → d ≤ e → T (formed_terms d ts) → T (formed_terms e ts)
unfolding formed_terms
terms_deeper d e ts h f = let (m, n) = simp T_and at f in simp T_and (omega (arith, leb→le, le→leb), n)

result_deeper : (d e : ℕ) (a : Arrow) (r : Result) → d ≤ e → T (formed_result d a r) → T (formed_result e a r)
unfolding formed_result
result_deeper d e a (value t) h f = term_deeper d e t h f
result_deeper d e a none h f = f

pub part_deeper : (d e : ℕ) (p : Part) → d ≤ e → T (formed_part d p) → T (formed_part e p)
unfolding formed_part
part_deeper d e (part a m ts r) h f =
    let ((q, y), z) = simp T_and at f in
    simp T_and ((term_deeper d e m h q, terms_deeper d e ts h y), result_deeper d e a r h z)

parts_deeper : (d e : ℕ) (ps : Parts) → d ≤ e → T (formed_parts d ps) → T (formed_parts e ps)
unfolding formed_parts
parts_deeper d e (only p) h f = part_deeper d e p h f
parts_deeper d e (also p ps) h f = let (m, n) = simp T_and at f in simp T_and (part_deeper d e p h m, parts_deeper d e ps h n)

pub atom_deeper : (d e : ℕ) (x : Atom) → d ≤ e → T (formed_atom d x) → T (formed_atom e x)
unfolding formed_atom
atom_deeper d e (link l t u) h f = let (m, n) = simp T_and at f in simp T_and (term_deeper d e t h m, term_deeper d e u h n)
atom_deeper d e (obj t) h f = term_deeper d e t h f
atom_deeper d e (arrows o ps) h f = let (m, n) = simp T_and at f in simp T_and (term_deeper d e o h m, parts_deeper d e ps h n)
