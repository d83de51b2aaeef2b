-- A link with another second term, a signature with another object, result or argument: filling with the hole there.
use Prim.Native.Nat.{ℕ, zero, suc, ◌≤◌, ◌<◌}
use mathlib.Core.Path.{◌≡◌, refl, sym, ◌∙◌, ap, subst}
use mathlib.Core.List.{List, [], ◌∷◌}
use lib.Dec.{T}
use lib.ListN.{length}
use Rattle.logic.specs.declared.Sign.{Sign}
use Rattle.logic.specs.declared.Link.{Link}
use Rattle.logic.specs.declared.Arrow.{Arrow}
use Rattle.logic.specs.Syntax.{Term, Terms, cons, Result, value, Part, part, only, arrow_of, Atom, link, arrows, method, lit}
use Rattle.logic.specs.Terms.{terms_of}
use Rattle.logic.specs.Each.{terms_width}
use Rattle.logic.specs.Fill.{Substitution, fill, fills, fill_result, fill_part}
use Rattle.logic.proofs.Filling.{arrow_fill}
use Rattle.text.specs.Words.{bytes, sign_word, link_word, arrow_word}
use Rattle.text.specs.Write.{Writer, word, put_term, put_terms, put_result, put_part, put_literal}
use Rattle.text.specs.Form.{formed_atom}
use Rattle.text.specs.Read.{got}
use Rattle.text.proofs.Trees.{Tree, node, Trees, end, byte, bracket, put_tree, put_inside, texts, Clean, Within, Below, tree_term, tree_terms, tree_arguments, tree_result, tree_part, tree_atom, tree_literal, put_term_lem, put_terms_lem, put_result_lem, put_part_lem, put_literal_lem, clean_literal, within_literal}
use Rattle.filling.specs.Filled.{Filler, fill_item}
use Rattle.filling.proofs.Filling.{fill_trees, trees, tree_term_lem, tree_terms_lem, tree_arguments_lem, tree_result_lem, tree_part_lem}
use Rattle.filling.proofs.Holes.{found, map_found, turn, Good, stack}
use Rattle.filling.proofs.Spots.{Spot, here, within, SpotIn, skip, now, later, spot, spot_in, spot_held, atom_spot, spot_atom}

-- Term t is argument k, and these are the arguments behind it.
pub data Argument (t : Term) : ℕ → Terms → Terms → Type 0 where
  first : {ts : Terms} → Argument t zero (cons t ts) ts
  next : {k : ℕ} {a : Term} {ts more : Terms} → Argument t k ts more → Argument t (suc k) (cons a ts) more

spot_of : {t : Term} {k : ℕ} {ts more : Terms} → Argument t k ts more → SpotIn (tree_terms ts)
unfolding tree_terms
spot_of first = skip (now here)
spot_of (next a) = skip (later (spot_of a))

argument_spot : {t : Term} {k : ℕ} {ts more : Terms} → Argument t k ts more → Spot (tree_arguments ts)
unfolding tree_arguments
argument_spot first = within (now here)
argument_spot (next a) = within (later (spot_of a))

module _ (σ : Substitution) (u : Term) where
  -- The arguments, filled, with u in place of argument k.
  unfoldable pub replaced : {t : Term} {k : ℕ} {ts more : Terms} → Argument t k ts more → Terms
  replaced (first {ts}) = cons u (fills σ ts)
  replaced (next {a} p) = cons (fill σ a) (replaced p)

  spots_argument : {t : Term} {k : ℕ} {ts more : Terms} (p : Argument t k ts more) → spot_in (trees σ) (tree_term u) (spot_of p) ≡ found (tree_term t) (put_inside (tree_terms more)) (tree_terms (replaced p))
  unfolding spot_of spot_in map_found turn replaced tree_terms fill_trees
  spots_argument (first {ts}) = rw (tree_terms_lem σ ts)
  spots_argument (next {a} p) = rw (spots_argument p, tree_term_lem σ a)

  spots_arguments : {t : Term} {k : ℕ} {ts more : Terms} (p : Argument t k ts more) → spot (trees σ) (tree_term u) (argument_spot p) ≡ found (tree_term t) (λ rest. put_inside (tree_terms more) (41 ∷ rest)) (tree_arguments (replaced p))
  unfolding argument_spot spot map_found turn replaced tree_arguments
  spots_arguments (first {ts}) = rw (tree_terms_lem σ ts)
  spots_arguments (next {a} p) = rw (spots_argument p, tree_term_lem σ a)

-- The spots of an argument and of the result in a part.
module _ (σ : Substitution) (u : Term) (a : Arrow) (m : Term) (ts : Terms) where
  in_arguments : {t : Term} {k : ℕ} {more : Terms} (r : Result) → Argument t k ts more → SpotIn (tree_part (part a m ts r))
  unfolding tree_part
  in_arguments r p = later (skip (now (argument_spot p)))

  spots_in_arguments : {t : Term} {k : ℕ} {more : Terms} (r : Result) (p : Argument t k ts more) → spot_in (trees σ) (tree_term u) (in_arguments r p) ≡ found (tree_term t) (λ rest. put_inside (tree_terms more) (41 ∷ put_inside (byte 32 (tree_result r)) rest)) (tree_part (part a (fill σ m) (replaced σ u p) (fill_result σ r)))
  unfolding in_arguments spot_in map_found turn fill_trees tree_part
  spots_in_arguments r p = rw (spots_arguments σ u p, tree_term_lem σ m, tree_result_lem σ r)

  result_spot : (t : Term) → SpotIn (tree_part (part a m ts (value t)))
  unfolding tree_part tree_result
  result_spot t = later (skip (later (skip (now here))))

  spots_result : (t : Term) → spot_in (trees σ) (tree_term u) (result_spot t) ≡ found (tree_term t) (λ rest. rest) (tree_part (part a (fill σ m) (fills σ ts) (value u)))
  unfolding result_spot spot_in map_found turn fill_trees tree_part tree_result put_inside
  spots_result t = rw (tree_term_lem σ m, tree_arguments_lem σ ts)

-- What stands behind the word of an arrow atom: the spot of its object, and those in its part.
abbrev behind : Term → Trees → Trees
behind o ts = byte 32 (bracket (tree_term o) (byte 32 ts))

object_spot : (o : Term) (ts : Trees) → SpotIn (behind o ts)
object_spot o ts = skip (now here)

spots_object : (σ : Substitution) (u o : Term) (p : Part) → spot_in (trees σ) (tree_term u) (object_spot o (tree_part p)) ≡ found (tree_term o) (put_inside (byte 32 (tree_part p))) (behind u (tree_part (fill_part σ p)))
unfolding object_spot spot_in map_found turn fill_trees
spots_object σ u o p = rw (tree_part_lem σ p)

in_part : (o : Term) {ts : Trees} → SpotIn ts → SpotIn (behind o ts)
in_part o q = skip (later (skip q))

spots_in_part : (σ : Substitution) (u o : Term) {ts us : Trees} {t : Tree} {v : Writer} (q : SpotIn ts) → spot_in (trees σ) (tree_term u) q ≡ found t v us → spot_in (trees σ) (tree_term u) (in_part o q) ≡ found t v (behind (fill σ o) us)
unfolding in_part spot_in map_found
spots_in_part σ u o q e = rw (e, tree_term_lem σ o)

-- The terms of a link, and the second of them.
abbrev pair : Term → Term → Trees
pair t v = byte 32 (bracket (tree_term t) (byte 32 (bracket (tree_term v) end)))

second_spot : (t v : Term) → SpotIn (pair t v)
second_spot t v = skip (later (skip (now here)))

spots_second : (σ : Substitution) (u t v : Term) → spot_in (trees σ) (tree_term u) (second_spot t v) ≡ found (tree_term v) (λ rest. rest) (pair (fill σ t) u)
unfolding second_spot spot_in map_found turn fill_trees put_inside
spots_second σ u t v = rw (tree_term_lem σ t)

-- A spot behind the word of an atom, and the literal that it leads to.
module _ (f : Filler) (σ : Substitution) (w d D : ℕ) (entry : (n : ℕ) → n < w → f.entry n ≡ put_term (σ n) []) (u : Term) (new : (e : ℕ) → D ≤ e → (r : List ℕ) × (f.new e ≡ got (put_term u []) r)) (g : Sign) where
  by_spot : (x : Atom) (wd : List ℕ) (ts : Trees) → tree_atom x ≡ node (texts wd ts) → T (formed_atom d x) → terms_width (terms_of x) ≤ w → (p : SpotIn ts) (t : Term) (v : Writer) (x' : Atom) (us : Trees) → tree_atom x' ≡ node (texts wd us) → spot_in (trees σ) (tree_term u) p ≡ found (tree_term t) v us → (rest left : List ℕ) → v (41 ∷ 41 ∷ rest) ≡ left → f.hole ≡ length (put_term t left) → fill_item f (stack D (suc (suc (suc (suc d))))) (put_literal (lit g x) rest) ≡ got (put_literal (lit g x') []) rest
  unfolding tree_literal
  by_spot x wd ts shape fx wx p t v x' us shape' e rest left q h =
      let around : Tree → Tree = λ y. node (texts (bytes (sign_word g)) (byte 32 (bracket y end))) in
      let s = atom_spot g wd p in
      let good = spot_held f (trees σ) (Below w) (λ n b. b.0) (λ n b. entry n b.1 ∙ put_term_lem (σ n) []) (tree_term u) D (λ x i. ((new x i).0, (new x i).1 ∙ ap (λ b. got b (new x i).0) (put_term_lem u []))) s (suc (suc (suc (suc d)))) (subst (λ y. Clean (around y)) shape (clean_literal (lit g x))) (subst (λ y. Within (Below w) (around y) (suc (suc (suc (suc d))))) shape (within_literal w d g x fx wx)) in
      let held = subst (Good f (stack D (suc (suc (suc (suc d))))) (around (node (texts wd ts)))) (spot_atom (trees σ) (tree_term u) g wd p e) good rest in
      ap (fill_item f (stack D (suc (suc (suc (suc d)))))) (put_literal_lem (lit g x) rest ∙ ap (λ y. put_tree (around y) rest) shape)
      ∙ (held.filled (h ∙ ap length (put_term_lem t left ∙ ap (put_tree (tree_term t)) (sym q)))
      ∙ ap (λ b. got b rest) (sym (put_literal_lem (lit g x') [] ∙ ap (λ y. put_tree (around y) []) shape')))

  -- "r", the second term of a link
  pub hole_second : (l : Link) (t v : Term) → T (formed_atom d (link l t v)) → terms_width (terms_of (link l t v)) ≤ w → (rest : List ℕ) → f.hole ≡ length (put_term v (word ")" (word ")" rest))) → fill_item f (stack D (suc (suc (suc (suc d))))) (put_literal (lit g (link l t v)) rest) ≡ got (put_literal (lit g (link l (fill σ t) u)) []) rest
  unfolding tree_atom
  hole_second l t v fx wx rest h = by_spot (link l t v) (bytes (link_word l)) (pair t v) refl fx wx (second_spot t v) v (λ x. x) (link l (fill σ t) u) (pair (fill σ t) u) refl (spots_second σ u t v) rest _ refl h

  module _ (o : Term) (p : Part) (fx : T (formed_atom d (arrows o (only p)))) (wx : terms_width (terms_of (arrows o (only p))) ≤ w) where
    in_arrow : (q : SpotIn (behind o (tree_part p))) (t : Term) (v : Writer) (o' : Term) (p' : Part) → arrow_of p' ≡ arrow_of p → spot_in (trees σ) (tree_term u) q ≡ found (tree_term t) v (behind o' (tree_part p')) → (rest left : List ℕ) → v (41 ∷ 41 ∷ rest) ≡ left → f.hole ≡ length (put_term t left) → fill_item f (stack D (suc (suc (suc (suc d))))) (put_literal (lit g (arrows o (only p))) rest) ≡ got (put_literal (lit g (arrows o' (only p'))) []) rest
    unfolding tree_atom
    in_arrow q t v o' p' same e rest left i h =
        by_spot (arrows o (only p)) (bytes (arrow_word (arrow_of p))) (behind o (tree_part p)) refl fx wx q t v (arrows o' (only p')) (behind o' (tree_part p')) (rw same) e rest left i h

    -- "first, object S"
    pub hole_object : (rest : List ℕ) → f.hole ≡ length (put_term o (word " " (put_part p (word ")" rest)))) → fill_item f (stack D (suc (suc (suc (suc d))))) (put_literal (lit g (arrows o (only p))) rest) ≡ got (put_literal (lit g (arrows u (only (fill_part σ p)))) []) rest
    unfolding put_inside
    hole_object rest h = in_arrow (object_spot o (tree_part p)) o _ u (fill_part σ p) (arrow_fill σ p) (spots_object σ u o p) rest _ (rw (put_part_lem p (41 ∷ rest))) h

  module _ (a : Arrow) (o m : Term) (ts : Terms) where
    -- "first, argument K is S"
    pub hole_argument : (r : Result) → T (formed_atom d (method a o m ts r)) → terms_width (terms_of (method a o m ts r)) ≤ w → {t : Term} {k : ℕ} {more : Terms} (p : Argument t k ts more) (rest : List ℕ) → f.hole ≡ length (put_term t (put_terms more (word ")" (word " " (put_result r (word ")" (word ")" rest))))))) → fill_item f (stack D (suc (suc (suc (suc d))))) (put_literal (lit g (method a o m ts r)) rest) ≡ got (put_literal (lit g (method a (fill σ o) (fill σ m) (replaced σ u p) (fill_result σ r))) []) rest
    unfolding put_inside
    hole_argument r fx wx {t} {more} p rest h = in_arrow o (part a m ts r) fx wx (in_part o (in_arguments σ u a m ts r p)) t _ (fill σ o) (part a (fill σ m) (replaced σ u p) (fill_result σ r)) refl (spots_in_part σ u o _ (spots_in_arguments σ u a m ts r p)) rest _ (rw (put_result_lem r (41 ∷ 41 ∷ rest), put_terms_lem more _)) h

    -- "first, result S"
    pub hole_result : (t : Term) → T (formed_atom d (method a o m ts (value t))) → terms_width (terms_of (method a o m ts (value t))) ≤ w → (rest : List ℕ) → f.hole ≡ length (put_term t (word ")" (word ")" rest))) → fill_item f (stack D (suc (suc (suc (suc d))))) (put_literal (lit g (method a o m ts (value t))) rest) ≡ got (put_literal (lit g (method a (fill σ o) (fill σ m) (fills σ ts) (value u))) []) rest
    hole_result t fx wx rest h = in_arrow o (part a m ts (value t)) fx wx (in_part o (result_spot σ u a m ts t)) t (λ x. x) (fill σ o) (part a (fill σ m) (fills σ ts) (value u)) refl (spots_in_part σ u o _ (spots_result σ u a m ts t)) rest _ refl h
