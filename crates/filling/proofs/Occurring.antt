-- Occurrence K of a written literal: its place, and the filled literal with another term in its place.
use Prim.Native.Nat.{ℕ, suc, ◌≤◌, ◌<◌}
use mathlib.Core.Path.{◌≡◌, refl, sym, ◌∙◌, ap}
use mathlib.Core.List.{List, [], ◌∷◌}
use native.Mathlib.Omega.{arith}
use lib.Dec.{T, leb→le, le→leb}
use lib.ListN.{length}
use Rattle.logic.specs.declared.Sign.{Sign}
use Rattle.logic.specs.Syntax.{Term, app, Terms, nil, cons, Result, value, none, Part, part, Parts, only, also, Atom, link, obj, arrows, Literal, lit}
use Rattle.logic.specs.Terms.{join, result_terms, part_terms, parts_terms, terms_of}
use Rattle.logic.specs.Each.{term_width, terms_width}
use Rattle.logic.specs.Fill.{Substitution, fill}
use Rattle.logic.specs.Occurrence.{Search, past, found, find_literal}
use Rattle.text.specs.Words.{bytes, sign_word}
use Rattle.text.specs.Write.{put_term, put_literal}
use Rattle.text.specs.Form.{depth_of, depth_ofs, numbered, numbereds, formed_term, formed_terms, formed_result, formed_part, formed_parts, formed_atom}
use Rattle.text.specs.Read.{Parsed, bad, got, strip}
use Rattle.text.specs.Access.{seek, to_occurrence}
use Rattle.text.proofs.Tests.{T_and}
use Rattle.text.proofs.Trees.{join_width, Tree, node, Trees, end, byte, bracket, put_tree, texts, Clean, Below, tree_term, tree_atom, tree_literal, put_term_lem, put_literal_lem, clean_literal, within_literal}
use Rattle.filling.specs.Filled.{Filler, fill_item}
use Rattle.filling.proofs.Filling.{given_entry, trees}
use Rattle.filling.proofs.Holes.{Found, past as passed, found as spotted, map_found, find_trees, on_found, seek_inside, Good, hole_tree, stack}
use Rattle.filling.proofs.Finding.{All, Alike, gone, there, alike_literal, in_bracket, sign_plain}

-- The place, or nothing if there are fewer occurrences.
unfoldable ended : {X : Type 0} → List ℕ → Found X → Parsed (Unit {0})
ended rest (passed j) = bad
ended rest (spotted t w x) = got tt (put_tree t (w rest))

ended_found : (rest : List ℕ) (x : Found Trees) → on_found 0 (41 ∷ rest) x ≡ ended rest (map_found node (λ r. 41 ∷ r) x)
unfolding on_found ended map_found seek
ended_found rest (passed j) = refl
ended_found rest (spotted t w x) = refl

module _ (σ : ℕ → Tree) (u : Tree) where
  occurrence_in : (ts : Trees) → Clean (node ts) → (k : ℕ) (rest : List ℕ) → to_occurrence k (put_tree (node ts) rest) ≡ ended rest (map_found node (λ r. 41 ∷ r) (find_trees σ u ts k))
  unfolding to_occurrence put_tree strip
  occurrence_in ts c k rest = seek_inside σ u ts k 0 c.1 (41 ∷ rest) ∙ ended_found rest (find_trees σ u ts k)

-- A formed term with its variables below w, and the terms in it.
abbrev pub Small : ℕ → ℕ → Term → Type 0
Small w d t = T (formed_term d t) × (term_width t ≤ w)

all_small : (w d : ℕ) (ts : Terms) → T (formed_terms d ts) → terms_width ts ≤ w → All (Small w d) ts
unfolding All formed_terms formed_term depth_ofs numbereds terms_width
all_small w d nil f h = tt
all_small w d (cons t ts) f h =
    let (m, n) = simp T_and at f in
    ((simp T_and (omega (arith, leb→le, le→leb), n.0), omega arith), all_small w d ts (simp T_and (omega (arith, leb→le, le→leb), n.1)) (omega arith))

small_parts : (w d n : ℕ) (ts : Terms) → Small w d (app n ts) → All (Small w d) ts
unfolding formed_term formed_terms depth_of numbered term_width
small_parts w d n ts (f, h) = let (m, i) = simp T_and at f in all_small w d ts (simp T_and (omega (arith, leb→le, le→leb), i.1)) h

all_of_join : (P : Term → Type 0) (ts us : Terms) → All P ts → All P us → All P (join ts us)
unfolding All join
all_of_join P nil us h k = k
all_of_join P (cons t ts) us h k = (h.0, all_of_join P ts us h.1 k)

small_part : (w d : ℕ) (p : Part) → T (formed_part d p) → terms_width (part_terms p) ≤ w → All (Small w d) (part_terms p)
unfolding All formed_part formed_result part_terms result_terms terms_width
small_part w d (part a m ts r) f h =
    let ((g, k), i) = simp T_and at f in
    let j = join_width ts (result_terms r) in
    ((g, omega arith), all_of_join (Small w d) ts (result_terms r) (all_small w d ts k (omega arith)) (result r i (omega arith)))
  where
    result : (r : Result) → T (formed_result d a r) → terms_width (result_terms r) ≤ w → All (Small w d) (result_terms r)
    result (value t) f h = ((f, omega arith), tt)
    result none f h = tt

small_parted : (w d : ℕ) (ps : Parts) → T (formed_parts d ps) → terms_width (parts_terms ps) ≤ w → All (Small w d) (parts_terms ps)
unfolding formed_parts parts_terms
small_parted w d (only p) f h = small_part w d p f h
small_parted w d (also p ps) f h =
    let (g, k) = simp T_and at f in
    let j = join_width (part_terms p) (parts_terms ps) in
    all_of_join (Small w d) (part_terms p) (parts_terms ps) (small_part w d p g (omega arith)) (small_parted w d ps k (omega arith))

small_atom : (w d : ℕ) (x : Atom) → T (formed_atom d x) → terms_width (terms_of x) ≤ w → All (Small w d) (terms_of x)
unfolding All formed_atom terms_of terms_width
small_atom w d (link l t u) f h = let (a, b) = simp T_and at f in ((a, omega arith), ((b, omega arith), tt))
small_atom w d (obj t) f h = ((f, omega arith), tt)
small_atom w d (arrows o ps) f h = let (a, b) = simp T_and at f in ((a, omega arith), small_parted w d ps b (omega arith))

-- What the search for occurrence k says of the bytes of a literal that is followed by `rest`, and of filling with the hole there.
pub data Occurs (f : Filler) (σ : Substitution) (w d depth k : ℕ) (l : Literal) (rest : List ℕ) : Search Literal → Type 0 where
  nowhere : (j : ℕ) → to_occurrence k (put_literal l rest) ≡ bad → Occurs f σ w d depth k l rest (past j)
  somewhere : {s : Term} {l' : Literal} (t : Term) (left : List ℕ) → s ≡ fill σ t → Small w d t → to_occurrence k (put_literal l rest) ≡ got tt (put_term t left) → (f.hole ≡ length (put_term t left) → fill_item f depth (put_literal l rest) ≡ got (put_literal l' []) rest) → Occurs f σ w d depth k l rest (found s l')

module _ (f : Filler) (σ : Substitution) (w d D : ℕ) (entry : (n : ℕ) → n < w → f.entry n ≡ put_term (σ n) []) (u : Term) (new : (e : ℕ) → D ≤ e → (r : List ℕ) × (f.new e ≡ got (put_term u []) r)) where
  given_new : (e : ℕ) → D ≤ e → (r : List ℕ) × (f.new e ≡ got (put_tree (tree_term u) []) r)
  given_new e h = ((new e h).0, (new e h).1 ∙ ap (λ b. got b (new e h).0) (put_term_lem u []))

  occurs_as : (k : ℕ) (l : Literal) (rest : List ℕ) {s : Search Literal} {g : Found Tree} → to_occurrence k (put_literal l rest) ≡ ended rest g → Good f (stack D (suc (suc (suc (suc d))))) (tree_literal l) g → Alike σ (Small w d) (λ _. Unit {0}) tree_literal s g → Occurs f σ w d (stack D (suc (suc (suc (suc d))))) k l rest s
  unfolding ended
  occurs_as k l rest p h (gone j) = nowhere j p
  occurs_as k l rest p h (there {x} t v e i _ y) =
      somewhere {l' = x} t (v rest) e i (p ∙ ap (got tt) (sym (put_term_lem t (v rest))))
      (λ o. rw (put_literal_lem l rest, put_literal_lem x [], ← y) ((h rest).filled (o ∙ ap length (put_term_lem t (v rest)))))

  pub occurs : (g : Sign) (x : Atom) → T (formed_atom d x) → terms_width (terms_of x) ≤ w → (k : ℕ) (rest : List ℕ) → Occurs f σ w d (stack D (suc (suc (suc (suc d))))) k (lit g x) rest (find_literal σ u (lit g x) k)
  unfolding tree_literal
  occurs g x fx wx k rest =
      let ts = texts (bytes (sign_word g)) (byte 32 (bracket (tree_atom x) end)) in
      occurs_as k (lit g x) rest
      (rw (put_literal_lem (lit g x) rest, in_bracket σ u ts (sign_plain g (bracket (tree_atom x) end)) k) (occurrence_in (trees σ) (tree_term u) ts (clean_literal (lit g x)) k rest))
      (hole_tree f (trees σ) (Below w) (λ n b. b.0) (given_entry f σ w d entry) (tree_term u) D given_new (tree_literal (lit g x)) k (suc (suc (suc (suc d)))) (clean_literal (lit g x)) (within_literal w d g x fx wx))
      (alike_literal σ u (Small w d) (small_parts w d) g x (small_atom w d x fx wx) k)
