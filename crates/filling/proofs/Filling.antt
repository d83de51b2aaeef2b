-- What filling in bytes gives on written forms.
use Prim.Native.Nat.{ℕ, zero, suc, ◌≤◌, ◌<◌}
use mathlib.Core.Path.{◌≡◌, refl, ◌∙◌}
use mathlib.Core.Bool.{false, not}
use mathlib.Core.List.{List, [], ◌∷◌, ◌++◌, append_assoc}
use native.Mathlib.Omega.{arith}
use lib.Dec.{T, eqb, T_not}
use lib.ListN.{length, length-append}
use borrow.Author.Tests.{ne_eqb}
use Rattle.logic.specs.Syntax.{Term, var as variable, app, Terms, nil, cons, Result, value, none, Part, part, Parts, only, also, Atom, link, obj, arrows, Literal, lit}
use Rattle.logic.specs.Each.{term_width}
use Rattle.logic.specs.Fill.{Substitution, fill, fills, fill_result, fill_part, fill_parts, fill_atom, fill_literal}
use Rattle.logic.proofs.Filling.{arrow_fill}
use Rattle.text.specs.Words.{bytes}
use Rattle.text.specs.Write.{put_term}
use Rattle.text.specs.Form.{formed_number, formed_term}
use Rattle.text.specs.Read.{bad, got, Reader, and_then, one_of, strip, digit}
use Rattle.text.proofs.Number.{number_complete}
use Rattle.text.proofs.Plain.{number_plain, in_front, put_grows}
use Rattle.text.proofs.Trees.{Tree, var, node, Trees, end, byte, bracket, put_tree, put_inside, opens, Clean, CleanIn, Within, WithinIn, number_bytes, texts, Below, tree_term, tree_terms, tree_arguments, tree_result, tree_part, tree_bracketed, tree_parts, tree_atom, tree_literal, put_term_lem, clean_term, within_term}
use Rattle.text.proofs.Nesting.{inner_tests}
use Rattle.filling.specs.Filled.{Filler, prefixed, inside_up_to, inside, read_index, indexed, fill_item}

unfoldable mutual
  pub fill_tree : (ℕ → Tree) → Tree → Tree
  fill_tree σ (var n) = σ n
  fill_tree σ (node ts) = node (fill_trees σ ts)

  pub fill_trees : (ℕ → Tree) → Trees → Trees
  fill_trees σ end = end
  fill_trees σ (byte b ts) = byte b (fill_trees σ ts)
  fill_trees σ (bracket t ts) = bracket (fill_tree σ t) (fill_trees σ ts)

-- A tree's bytes alone, then what follows.
mutual
  unfolding put_tree

  pub tree_front : (t : Tree) (rest : List ℕ) → put_tree t rest ≡ put_tree t [] ++ rest
  tree_front (var n) rest = rw (in_front (number_plain n) (41 ∷ rest), in_front (number_plain n) (41 ∷ []), append_assoc)
  tree_front (node ts) rest = rw (inside_front ts (41 ∷ rest), inside_front ts (41 ∷ []), append_assoc)

  pub inside_front : (ts : Trees) (rest : List ℕ) → put_inside ts rest ≡ put_inside ts [] ++ rest
  inside_front end rest = refl
  inside_front (byte b ts) rest = rw (inside_front ts rest)
  inside_front (bracket t ts) rest = rw (inside_front ts rest, tree_front t (put_inside ts [] ++ rest), tree_front t (put_inside ts []), append_assoc)

pub inside_grows : (ts : Trees) (rest : List ℕ) → length rest ≤ length (put_inside ts rest)
inside_grows ts rest = rw (inside_front ts rest, length-append) (omega arith)

pub tree_longer : (t : Tree) (rest : List ℕ) → length rest < length (put_tree t rest)
unfolding put_tree
tree_longer (var n) rest = omega (arith, put_grows (number_plain n) (41 ∷ rest))
tree_longer (node ts) rest = omega (arith, inside_grows ts (41 ∷ rest))

-- What stands in a bracket does not begin as a variable does.
pub not_variable : (ts : Trees) → T (opens ts) → (rest : List ℕ) → strip (118 ∷ 32 ∷ []) (put_inside ts (41 ∷ rest)) ≡ bad
unfolding strip put_tree
not_variable end o rest = refl
not_variable (byte b ts) o rest = rw (other b o)
  where
    other : (b : ℕ) → T (not (eqb b 118)) → eqb 118 b ≡ false
    other b o = ne_eqb 118 b (λ e. T_not (eqb b 118) o (rw (← e) tt))
not_variable (bracket (var n) ts) o rest = refl
not_variable (bracket (node us) ts) o rest = refl

pub inside_part : (item : Reader (List ℕ)) (k : ℕ) (t : Tree) (rest : List ℕ) → inside_up_to item (suc k) (put_tree t rest) ≡ and_then (item (put_tree t rest)) (λ w left. prefixed w (inside_up_to item k left))
unfolding inside_up_to put_tree
inside_part item k (var n) rest = refl
inside_part item k (node ts) rest = refl

-- The hole is not among the bytes between two numbers of bytes left.
pub data Clear (hole low high : ℕ) : Type 0 where
  after_it : hole ≤ low → Clear hole low high
  before_it : high < hole → Clear hole low high

pub narrow : {hole low high : ℕ} (low' high' : ℕ) → Clear hole low high → low ≤ low' → high' ≤ high → Clear hole low' high'
narrow low' high' (after_it h) l k = after_it (omega arith)
narrow low' high' (before_it h) l k = before_it (omega arith)

clear_here : {hole low high : ℕ} → Clear hole low high → low < high → eqb high hole ≡ false
clear_here {hole} {low} {high} (after_it h) l = ne_eqb high hole (omega arith)
clear_here {hole} {low} {high} (before_it h) l = ne_eqb high hole (omega arith)

module _ (f : Filler) (σ : ℕ → Tree) (P : ℕ → Type 0) (formed : (n : ℕ) → P n → T (formed_number n)) (entry : (n : ℕ) → P n → f.entry n ≡ put_tree (σ n) []) where
  mutual
    unfolding fill_item fill_tree put_tree inside inside_up_to read_index indexed one_of strip digit prefixed

    pub fill_tree_lem : (t : Tree) (d : ℕ) → Clean t → Within P t d → (rest : List ℕ) → Clear f.hole (length rest) (length (put_tree t rest)) → fill_item f d (put_tree t rest) ≡ got (put_tree (fill_tree σ t) []) rest
    fill_tree_lem (var n) zero c w rest o = absurd w
    fill_tree_lem (var n) (suc d) c w rest o = rw (clear_here o (tree_longer (var n) rest), number_complete n (41 ∷ rest) (formed n w) tt, entry n w)
    fill_tree_lem (node ts) zero c w rest o = absurd w
    fill_tree_lem (node ts) (suc d) c w rest o =
        rw (clear_here o (tree_longer (node ts) rest), not_variable ts c.0 rest, fill_inside ts d c.1 w (length (put_inside ts (41 ∷ rest))) rest (omega arith) (narrow _ _ o (omega arith) (omega arith)))

    pub fill_inside : (ts : Trees) (d : ℕ) → CleanIn ts → WithinIn P ts d → (k : ℕ) (rest : List ℕ) → length (put_inside ts (41 ∷ rest)) ≤ k → Clear f.hole (length rest) (length (put_inside ts (41 ∷ rest))) → inside_up_to (fill_item f d) k (put_inside ts (41 ∷ rest)) ≡ got (put_inside (fill_trees σ ts) (41 ∷ [])) rest
    fill_inside end d c w zero rest h o = absurd (omega arith)
    fill_inside end d c w (suc k) rest h o = refl
    fill_inside (byte b ts) d c w zero rest h o = absurd (omega arith)
    fill_inside (byte b ts) d c w (suc k) rest h o =
        let (i, j) = inner_tests b c.0 in
        rw (i, j, fill_inside ts d c.1 w k rest (omega arith) (narrow _ _ o (omega arith) (omega arith)))
    fill_inside (bracket t ts) d c w zero rest h o = absurd (omega (arith, tree_longer t (put_inside ts (41 ∷ rest))))
    fill_inside (bracket t ts) d c w (suc k) rest h o =
        let l = tree_longer t (put_inside ts (41 ∷ rest)) in
        let g = inside_grows ts (41 ∷ rest) in
        inside_part (fill_item f d) k t (put_inside ts (41 ∷ rest))
        ∙ rw (fill_tree_lem t d c.0 w.0 (put_inside ts (41 ∷ rest)) (narrow _ _ o (omega arith) (omega arith)), fill_inside ts d c.1 w.1 k rest (omega arith) (narrow _ _ o (omega arith) (omega arith)), tree_front (fill_tree σ t) (put_inside (fill_trees σ ts) (41 ∷ [])))

-- Filling commutes with the trees of terms and literals.
fill_texts : (σ : ℕ → Tree) (bs : List ℕ) (ts : Trees) → fill_trees σ (texts bs ts) ≡ texts bs (fill_trees σ ts)
unfolding fill_trees texts
fill_texts σ [] ts = refl
fill_texts σ (b ∷ bs) ts = rw (fill_texts σ bs ts)

module _ (σ : Substitution) where
  abbrev pub trees : ℕ → Tree
  trees n = tree_term (σ n)

  mutual
    unfolding fill_tree tree_term fill

    pub tree_term_lem : (t : Term) → fill_tree trees (tree_term t) ≡ tree_term (fill σ t)
    tree_term_lem (variable n) = refl
    tree_term_lem (app n ts) = rw (fill_texts trees (number_bytes n) (tree_terms ts), tree_terms_lem ts)

    pub tree_terms_lem : (ts : Terms) → fill_trees trees (tree_terms ts) ≡ tree_terms (fills σ ts)
    tree_terms_lem nil = refl
    tree_terms_lem (cons t ts) = rw (tree_term_lem t, tree_terms_lem ts)

  pub tree_arguments_lem : (ts : Terms) → fill_tree trees (tree_arguments ts) ≡ tree_arguments (fills σ ts)
  unfolding fill_tree tree_arguments fills
  tree_arguments_lem nil = refl
  tree_arguments_lem (cons t ts) = rw (tree_term_lem t, tree_terms_lem ts)

  pub tree_result_lem : (r : Result) → fill_trees trees (tree_result r) ≡ tree_result (fill_result σ r)
  unfolding fill_trees tree_result fill_result
  tree_result_lem (value t) = rw (tree_term_lem t)
  tree_result_lem none = fill_texts trees (bytes "none") end

  pub tree_part_lem : (p : Part) → fill_trees trees (tree_part p) ≡ tree_part (fill_part σ p)
  unfolding fill_trees tree_part fill_part
  tree_part_lem (part a m ts r) = rw (tree_term_lem m, tree_arguments_lem ts, tree_result_lem r)

  pub tree_bracketed_lem : (p : Part) → fill_tree trees (tree_bracketed p) ≡ tree_bracketed (fill_part σ p)
  unfolding fill_tree tree_bracketed
  tree_bracketed_lem p = rw (fill_texts, tree_part_lem p, arrow_fill σ p)

  pub tree_parts_lem : (ps : Parts) → fill_trees trees (tree_parts ps) ≡ tree_parts (fill_parts σ ps)
  unfolding fill_trees tree_parts fill_parts
  tree_parts_lem (only p) = rw (tree_bracketed_lem p)
  tree_parts_lem (also p ps) = rw (tree_bracketed_lem p, tree_parts_lem ps)

  pub tree_atom_lem : (x : Atom) → fill_tree trees (tree_atom x) ≡ tree_atom (fill_atom σ x)
  unfolding fill_tree tree_atom fill_atom fill_parts
  tree_atom_lem (link l t u) = rw (fill_texts, tree_term_lem t, tree_term_lem u)
  tree_atom_lem (obj t) = rw (fill_texts, tree_term_lem t)
  tree_atom_lem (arrows o (only p)) = rw (fill_texts, tree_term_lem o, tree_part_lem p, arrow_fill σ p)
  tree_atom_lem (arrows o (also p ps)) = rw (fill_texts, tree_term_lem o, tree_parts_lem (also p ps))

  pub tree_literal_lem : (l : Literal) → fill_tree trees (tree_literal l) ≡ tree_literal (fill_literal σ l)
  unfolding fill_tree tree_literal fill_literal
  tree_literal_lem (lit g x) = rw (fill_texts, tree_atom_lem x)

-- The filled bytes of a written term, where the list has the entries of the variables below w and the hole stands elsewhere.
module _ (f : Filler) (σ : Substitution) (w d : ℕ) (entry : (n : ℕ) → n < w → f.entry n ≡ put_term (σ n) []) where
  pub given_entry : (n : ℕ) → Below w n → f.entry n ≡ put_tree (tree_term (σ n)) []
  given_entry n h = entry n h.1 ∙ put_term_lem (σ n) []

  pub fill_term : (t : Term) → T (formed_term d t) → term_width t ≤ w → (rest : List ℕ) → Clear f.hole (length rest) (length (put_term t rest)) → fill_item f d (put_term t rest) ≡ got (put_term (fill σ t) []) rest
  fill_term t k h rest c = rw (put_term_lem t rest, put_term_lem (fill σ t) [], ← tree_term_lem σ t) (fill_tree_lem f (trees σ) (Below w) (λ n p. p.0) given_entry (tree_term t) d (clean_term t) (within_term w t d k h) rest (rw put_term_lem at c))
