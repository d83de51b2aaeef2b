-- The occurrence that `find_literal` finds is the one that the search in the literal's tree finds.
use Prim.Native.Nat.{ℕ, zero, suc, ◌+◌}
use mathlib.Core.Bool.{false}
use mathlib.Core.Path.{◌≡◌, refl, sym, ◌∙◌, ap, ap₂}
use mathlib.Core.List.{List, [], ◌∷◌}
use native.Mathlib.Omega.{arith}
use Rattle.logic.proofs.Filling.{count_fill, part_terms_lem, part_frame, part_own, parts_terms_lem, parts_frame, parts_own}
use Rattle.logic.specs.declared.Sign.{Sign}
use Rattle.logic.specs.declared.Sign.TheVariants.{Positive, Negative}
use Rattle.logic.specs.declared.Link.{Link}
use Rattle.logic.specs.declared.Link.TheVariants.{Eq, Mem, Sub}
use Rattle.logic.specs.declared.Arrow.{Arrow}
use Rattle.logic.specs.declared.Arrow.TheVariants.{Sv, Si, Mv, Mi, St, Mt}
use Rattle.logic.specs.Syntax.{Term, var as variable, app, Terms, nil, cons, Result, value, none, Part, part, arrow_of, Parts, only, also, Atom, link, obj, arrows, lit}
use Rattle.logic.specs.Terms.{count, join, part_terms, parts_terms, terms_of, result_terms, entry_or, nth, front, rest, with_result, with_part_terms, with_parts_terms, with_terms}
use Rattle.logic.specs.Fill.{Substitution, fill, fills, fill_result, fill_part, fill_parts}
use Rattle.logic.specs.Occurrence.{Search, past, found, map_search, in_turn, find_term, find_terms, find_atom, find_literal}
use Rattle.text.specs.Words.{bytes, sign_word, link_word, arrow_word}
use Rattle.text.specs.Write.{Writer}
use Rattle.text.proofs.Trees.{Tree, node, Trees, end, byte, bracket, put_inside, texts, number_bytes, tree_term, tree_terms, tree_arguments, tree_result, tree_part, tree_bracketed, tree_parts, tree_atom, tree_literal}
use Rattle.filling.proofs.Filling.{fill_tree, fill_trees, trees, tree_term_lem, tree_terms_lem, tree_arguments_lem, tree_result_lem, tree_bracketed_lem, tree_parts_lem}
use Rattle.filling.proofs.Holes.{Found, past as passed, found as spotted, map_found, turn, applied, find_tree, find_trees}

-- Both searches pass alike, or find the same occurrence, with P of it and Q of what they give.
pub data Alike {X Y : Type 0} (σ : Substitution) (P : Term → Type 0) (Q : X → Type 0) (tree : X → Y) : Search X → Found Y → Type 0 where
  gone : (k : ℕ) → Alike σ P Q tree (past k) (passed k)
  there : {s : Term} {x : X} {y : Y} (t : Term) (w : Writer) → s ≡ fill σ t → P t → Q x → y ≡ tree x → Alike σ P Q tree (found s x) (spotted (tree_term t) w y)

-- P of each of the terms.
unfoldable pub All : (Term → Type 0) → Terms → Type 0
All P nil = Unit {0}
All P (cons t ts) = P t × All P ts

all_join : (P : Term → Type 0) (ts us : Terms) → All P (join ts us) → All P ts × All P us
unfolding All join
all_join P nil us h = (tt, h)
all_join P (cons t ts) us h = let j = all_join P ts us h.1 in ((h.0, j.0), j.1)

abbrev Any : {X : Type 0} → X → Type 0
Any x = Unit {0}

-- A piece of the tree around what was searched.
alike_tree : {X Y Z : Type 0} {σ : Substitution} {P : Term → Type 0} {Q : X → Type 0} {tree : X → Y} {s : Search X} {g : Found Y} (h : Y → Z) (w : Writer) → Alike σ P Q tree s g → Alike σ P Q (λ x. h (tree x)) s (map_found h w g)
unfolding map_found
alike_tree h w (gone k) = gone k
alike_tree h w (there t v e p q y) = there t (λ r. v (w r)) e p q (ap h y)

-- The same with the tree written otherwise.
alike_as : {X Y : Type 0} {σ : Substitution} {P : Term → Type 0} {Q : X → Type 0} {tree : X → Y} {s : Search X} {g : Found Y} (other : X → Y) → ((x : X) → Q x → tree x ≡ other x) → Alike σ P Q tree s g → Alike σ P Q other s g
alike_as other h (gone k) = gone k
alike_as other h (there {x} t v e p q y) = there t v e p q (y ∙ h x q)

-- A term, a space and what the terms behind it give.
unfoldable ahead : (Terms → Trees) → Terms → Trees
ahead tail nil = end
ahead tail (cons a b) = bracket (tree_term a) (byte 32 (tail b))

-- A form around the terms that were searched.
alike_form : {X Y Z : Type 0} {σ : Substitution} {P : Term → Type 0} {Q : X → Type 0} {R : Y → Type 0} {tree : X → Z} {form : Y → Z} {s : Search X} {g : Found Z} (f : X → Y) → ((x : X) → Q x → (tree x ≡ form (f x)) × R (f x)) → Alike σ P Q tree s g → Alike σ P R form (map_search f s) g
unfolding map_search
alike_form f h (gone k) = gone k
alike_form f h (there {x} t w e p q y) = there t w e p (h x q).1 (y ∙ (h x q).0)

-- One after the other.
alike_turn : {X Y Z X' Y' Z' : Type 0} {σ : Substitution} {P : Term → Type 0} {Q : X → Type 0} {R : Y → Type 0} {S : Z → Type 0} {tx : X → X'} {ty : Y → Y'} {tz : Z → Z'} {s : Search X} {g : Found X'} {second : ℕ → Search Y} {second' : ℕ → Found Y'} (x : X) (y : Y) {x' : X'} {y' : Y'} (w : Writer) (f : X → Y → Z) (f' : X' → Y' → Z') →
    Q x → R y → x' ≡ tx x → y' ≡ ty y → ((a : X) (b : Y) → Q a → R b → (f' (tx a) (ty b) ≡ tz (f a b)) × S (f a b)) →
    Alike σ P Q tx s g → ((k : ℕ) → Alike σ P R ty (second k) (second' k)) →
    Alike σ P S tz (in_turn s x second y f) (turn g x' second' y' w f')
unfolding in_turn turn map_found map_search
alike_turn {tx} {ty} {tz} x y {x'} w f f' qx ry ex ey h (gone k) l = alike_form (f x) (λ b r. (ap (λ z. f' z (ty b)) ex ∙ (h x b qx r).0, (h x b qx r).1)) (alike_tree (f' x') (λ r. r) (l k))
alike_turn x y w f f' qx ry ex ey h (there {x = a} t v e p q z) l = there t (λ r. v (w r)) e p (h a y q ry).1 (ap₂ f' z ey ∙ (h a y q ry).0)

-- Brackets that are no terms.
link_plain : (l : Link) (ts : Trees) → applied (texts (bytes (link_word l)) ts) ≡ false
unfolding texts
link_plain l ts = elim l as (λ k. applied (texts (bytes (link_word k)) ts) ≡ false) [ Eq ↦ refl | Mem ↦ refl | Sub ↦ refl ]

arrow_plain : (a : Arrow) (ts : Trees) → applied (texts (bytes (arrow_word a)) ts) ≡ false
unfolding texts
arrow_plain a ts = elim a as (λ k. applied (texts (bytes (arrow_word k)) ts) ≡ false) [ Sv ↦ refl | Si ↦ refl | Mv ↦ refl | Mi ↦ refl | St ↦ refl | Mt ↦ refl ]

pub sign_plain : (g : Sign) (ts : Trees) → applied (texts (bytes (sign_word g)) (byte 32 ts)) ≡ false
unfolding texts
sign_plain g ts = elim g as (λ k. applied (texts (bytes (sign_word k)) (byte 32 ts)) ≡ false) [ Positive ↦ refl | Negative ↦ refl ]

module _ (σ : Substitution) (u : Term) where
  pub in_bracket : (ts : Trees) → applied ts ≡ false → (k : ℕ) → find_tree (trees σ) (tree_term u) (node ts) k ≡ map_found node (λ r. 41 ∷ r) (find_trees (trees σ) (tree_term u) ts k)
  unfolding find_tree
  in_bracket ts e zero = rw e
  in_bracket ts e (suc k) = rw e

module _ (σ : Substitution) (u : Term) (P : Term → Type 0) (parts : (n : ℕ) (ts : Terms) → P (app n ts) → All P ts) where
  abbrev τ : ℕ → Tree
  τ = trees σ

  alike_texts : {X : Type 0} {Q : X → Type 0} {tree : X → Trees} {s : ℕ → Search X} (bs : List ℕ) (ts : Trees) → ((k : ℕ) → Alike σ P Q tree (s k) (find_trees τ (tree_term u) ts k)) → (k : ℕ) → Alike σ P Q (λ x. texts bs (tree x)) (s k) (find_trees τ (tree_term u) (texts bs ts) k)
  unfolding texts find_trees
  alike_texts [] ts h k = h k
  alike_texts (b ∷ bs) ts h k = alike_tree (byte b) (λ r. r) (alike_texts bs ts h k)

  -- Terms with no space in front of the first.
  unfoldable first : Terms → Trees
  first nil = end
  first (cons t ts) = bracket (tree_term t) (tree_terms ts)

  spaced : (n : ℕ) (us : Terms) → count us ≡ suc n → byte 32 (first us) ≡ tree_terms us
  unfolding first tree_terms count
  spaced n nil q = absurd (let z : ◌≡◌ {A = ℕ} 0 (suc n) = q in omega arith)
  spaced n (cons a b) q = refl

  mutual
    unfolding find_term find_tree tree_term fill texts first count All

    alike_term : (t : Term) → P t → (k : ℕ) → Alike σ P Any tree_term (find_term σ u t k) (find_tree τ (tree_term u) (tree_term t) k)
    alike_term (variable n) h zero = there (variable n) (λ r. r) refl h tt refl
    alike_term (variable n) h (suc k) = gone k
    alike_term (app n ts) h zero = there (app n ts) (λ r. r) refl h tt refl
    alike_term (app n ts) h (suc k) = alike_form (app n) (λ us q. (refl, tt)) (alike_tree node (λ r. 41 ∷ r) (alike_texts (102 ∷ 32 ∷ number_bytes n) (tree_terms ts) (λ j. alike_terms ts (parts n ts h) j) k))

    alike_terms : (ts : Terms) → All P ts → (k : ℕ) → Alike σ P (λ us. count us ≡ count ts) tree_terms (find_terms σ u ts k) (find_trees τ (tree_term u) (tree_terms ts) k)
    alike_terms nil h k = gone k
    alike_terms (cons t ts) h k = alike_as tree_terms (λ us q. spaced (count ts) us q) (alike_tree (byte 32) (λ r. r) (alike_turn {tz = first} (fill σ t) (fills σ ts) (put_inside (tree_terms ts)) cons bracket tt (count_fill σ ts) (tree_term_lem σ t) (tree_terms_lem σ ts) (λ a b q r. (refl, ap suc r)) (alike_term t h.0 k) (λ j. alike_terms ts h.1 j)))

  alike_first : (ts : Terms) → All P ts → (k : ℕ) → Alike σ P (λ us. count us ≡ count ts) first (find_terms σ u ts k) (find_trees τ (tree_term u) (first ts) k)
  unfolding find_terms find_trees first fills count All
  alike_first nil h k = gone k
  alike_first (cons t ts) h k = alike_turn (fill σ t) (fills σ ts) (put_inside (tree_terms ts)) cons bracket tt (count_fill σ ts) (tree_term_lem σ t) (tree_terms_lem σ ts) (λ a b q r. (refl, ap suc r)) (alike_term t h.0 k) (λ j. alike_terms ts h.1 j)

  arguments_first : (ts : Terms) → node (first ts) ≡ tree_arguments ts
  unfolding first tree_arguments
  arguments_first nil = refl
  arguments_first (cons t ts) = refl

  alike_arguments : (ts : Terms) → All P ts → (k : ℕ) → Alike σ P (λ us. count us ≡ count ts) tree_arguments (find_terms σ u ts k) (find_tree τ (tree_term u) (tree_arguments ts) k)
  unfolding find_tree tree_arguments first
  alike_arguments nil h zero = alike_as tree_arguments (λ us q. arguments_first us) (alike_tree node (λ r. 41 ∷ r) (alike_first nil h zero))
  alike_arguments nil h (suc k) = alike_as tree_arguments (λ us q. arguments_first us) (alike_tree node (λ r. 41 ∷ r) (alike_first nil h (suc k)))
  alike_arguments (cons t ts) h zero = alike_as tree_arguments (λ us q. arguments_first us) (alike_tree node (λ r. 41 ∷ r) (alike_first (cons t ts) h zero))
  alike_arguments (cons t ts) h (suc k) = alike_as tree_arguments (λ us q. arguments_first us) (alike_tree node (λ r. 41 ∷ r) (alike_first (cons t ts) h (suc k)))

  one_term : (t : Term) (us : Terms) → count us ≡ count (cons t nil) → first us ≡ tree_result (with_result (value t) us)
  unfolding first tree_result with_result nth entry_or count tree_terms
  one_term t nil q = absurd (let z : ◌≡◌ {A = ℕ} 0 1 = q in omega arith)
  one_term t (cons a nil) q = refl
  one_term t (cons a (cons b us)) q = absurd (let z : ◌≡◌ {A = ℕ} (suc (suc (count us))) 1 = q in omega arith)

  alike_result : (r : Result) → All P (result_terms r) → (k : ℕ) → Alike σ P (λ us. count us ≡ count (result_terms r)) (λ us. tree_result (with_result r us)) (find_terms σ u (result_terms r) k) (find_trees τ (tree_term u) (tree_result r) k)
  unfolding result_terms tree_result first find_terms find_trees texts map_found tree_terms
  alike_result (value t) h k = alike_as (λ us. tree_result (with_result (value t) us)) (one_term t) (alike_first (cons t nil) h k)
  alike_result none h k = gone k

  -- The terms of two lists.
  map_nothing : (s : Search Terms) → s ≡ map_search (join nil) s
  unfolding map_search join
  map_nothing (past k) = refl
  map_nothing (found t x) = refl

  fills_join : (ts us : Terms) → fills σ (join ts us) ≡ join (fills σ ts) (fills σ us)
  unfolding fills join
  fills_join nil us = refl
  fills_join (cons t ts) us = rw (fills_join ts us)

  turn_twice : (a : Term) (b c : Terms) (s : Search Terms) (next : ℕ → Search Terms) → map_search (cons a) (in_turn s b next c join) ≡ in_turn (map_search (cons a) s) (cons a b) next c join
  unfolding map_search in_turn join
  turn_twice a b c (past k) next = go (next k)
    where
      go : (x : Search Terms) → map_search (cons a) (map_search (join b) x) ≡ map_search (join (cons a b)) x
      go (past j) = refl
      go (found t y) = refl
  turn_twice a b c (found t y) next = refl

  find_join : (ts us : Terms) (k : ℕ) → find_terms σ u (join ts us) k ≡ in_turn (find_terms σ u ts k) (fills σ ts) (find_terms σ u us) (fills σ us) join
  unfolding find_terms fills join in_turn
  find_join nil us k = map_nothing (find_terms σ u us k)
  find_join (cons t ts) us k = go (find_term σ u t k) (λ j. find_join ts us j)
    where
      go : (x : Search Term) → ((j : ℕ) → find_terms σ u (join ts us) j ≡ in_turn (find_terms σ u ts j) (fills σ ts) (find_terms σ u us) (fills σ us) join) → in_turn x (fill σ t) (find_terms σ u (join ts us)) (fills σ (join ts us)) cons ≡ in_turn (in_turn x (fill σ t) (find_terms σ u ts) (fills σ ts) cons) (cons (fill σ t) (fills σ ts)) (find_terms σ u us) (fills σ us) join
      go (past j) h = ap (map_search (cons (fill σ t))) (h j) ∙ turn_twice (fill σ t) (fills σ ts) (fills σ us) (find_terms σ u ts j) (find_terms σ u us)
      go (found s x) h = rw (fills_join ts us)

  front_join : (a b : Terms) (n : ℕ) → count a ≡ n → (front n (join a b) ≡ a) × (rest n (join a b) ≡ b)
  unfolding front rest join count
  front_join nil b zero q = (refl, refl)
  front_join nil b (suc n) q = absurd (let z : ◌≡◌ {A = ℕ} 0 (suc n) = q in omega arith)
  front_join (cons t a) b zero q = absurd (let z : ◌≡◌ {A = ℕ} (suc (count a)) 0 = q in omega arith)
  front_join (cons t a) b (suc n) q = let h = front_join a b n (omega arith) in (rw h.0, h.1)

  own_result : (r : Result) → with_result r (fills σ (result_terms r)) ≡ fill_result σ r
  unfolding with_result result_terms fills fill_result nth entry_or
  own_result (value t) = refl
  own_result none = refl

  -- Arguments and result, from their terms.
  unfoldable closing : Terms → Result → Terms → Trees
  closing ts r us = bracket (tree_arguments (front (count ts) us)) (byte 32 (tree_result (with_result r (rest (count ts) us))))

  count_join : (a b : Terms) → count (join a b) ≡ count a + count b
  unfolding count join
  count_join nil b = omega arith
  count_join (cons t a) b = omega (arith, count_join a b)

  alike_closing : (ts : Terms) (r : Result) → All P (join ts (result_terms r)) → (k : ℕ) → Alike σ P (λ us. count us ≡ count (join ts (result_terms r))) (closing ts r) (find_terms σ u (join ts (result_terms r)) k) (find_trees τ (tree_term u) (bracket (tree_arguments ts) (byte 32 (tree_result r))) k)
  unfolding find_trees closing fill_trees
  alike_closing ts r h k =
      let i = all_join P ts (result_terms r) h in
      rw (find_join ts (result_terms r) k) (alike_turn {tz = closing ts r} (fills σ ts) (fills σ (result_terms r)) (put_inside (byte 32 (tree_result r))) join bracket (count_fill σ ts) (count_fill σ (result_terms r)) (tree_arguments_lem σ ts) (ap (byte 32) (tree_result_lem σ r ∙ ap tree_result (sym (own_result r))))
      (λ a b q s. (let h = front_join a b (count ts) q in rw (h.0, h.1), omega (arith, count_join a b, count_join ts (result_terms r)))) (alike_arguments ts i.0 k) (λ j. alike_tree (byte 32) (λ x. x) (alike_result r i.1 j)))

  -- A term in front of more terms.
  alike_then : (t : Term) → P t → (ts : Terms) (tail : Terms → Trees) (after own : Trees) → fill_trees τ after ≡ byte 32 own → own ≡ tail (fills σ ts) → ((k : ℕ) → Alike σ P (λ us. count us ≡ count ts) (λ us. byte 32 (tail us)) (find_terms σ u ts k) (find_trees τ (tree_term u) after k)) → (k : ℕ) → Alike σ P (λ us. count us ≡ suc (count ts)) (ahead tail) (find_terms σ u (cons t ts) k) (find_trees τ (tree_term u) (bracket (tree_term t) after) k)
  unfolding find_terms find_trees ahead fills count
  alike_then t i ts tail after own e h l k = alike_turn {tz = ahead tail} (fill σ t) (fills σ ts) (put_inside after) cons bracket tt (count_fill σ ts) (tree_term_lem σ t) (e ∙ ap (byte 32) h) (λ a b _ q. (refl, ap suc q)) (alike_term t i k) l

  alike_bracket : {X : Type 0} {Q : X → Type 0} {tree : X → Trees} {s : Search X} (ts : Trees) → applied ts ≡ false → (k : ℕ) → Alike σ P Q tree s (find_trees τ (tree_term u) ts k) → Alike σ P Q (λ x. node (tree x)) s (find_tree τ (tree_term u) (node ts) k)
  alike_bracket ts e k h = rw (in_bracket σ u ts e k) (alike_tree node (λ r. 41 ∷ r) h)

  two_terms : (l : Link) (t v : Term) (us : Terms) → count us ≡ suc (count (cons v nil)) → node (texts (bytes (link_word l)) (byte 32 (ahead first us))) ≡ tree_atom (with_terms (link l t v) us)
  unfolding ahead first tree_atom with_terms nth entry_or count tree_terms
  two_terms l t v nil q = absurd (let z : ◌≡◌ {A = ℕ} 0 2 = q in omega arith)
  two_terms l t v (cons a nil) q = absurd (let z : ◌≡◌ {A = ℕ} 1 2 = q in omega arith)
  two_terms l t v (cons a (cons b nil)) q = refl
  two_terms l t v (cons a (cons b (cons c us))) q = absurd (let z : ◌≡◌ {A = ℕ} (suc (suc (suc (count us)))) 2 = q in omega arith)

  an_object : (t : Term) (us : Terms) → count us ≡ count (cons t nil) → node (texts (bytes "obj ") (first us)) ≡ tree_atom (with_terms (obj t) us)
  unfolding first tree_atom with_terms nth entry_or count tree_terms
  an_object t nil q = absurd (let z : ◌≡◌ {A = ℕ} 0 1 = q in omega arith)
  an_object t (cons a nil) q = refl
  an_object t (cons a (cons b us)) q = absurd (let z : ◌≡◌ {A = ℕ} (suc (suc (count us))) 1 = q in omega arith)

  -- A part, from its terms.
  abbrev parted : Part → Terms → Trees
  parted p us = tree_part (with_part_terms p us)

  a_part : (a : Arrow) (m : Term) (ts : Terms) (r : Result) (us : Terms) → count us ≡ suc (count (join ts (result_terms r))) → ahead (closing ts r) us ≡ parted (part a m ts r) us
  unfolding ahead closing tree_part with_part_terms nth entry_or count rest
  a_part a m ts r nil q = absurd (let z : ◌≡◌ {A = ℕ} 0 (suc (count (join ts (result_terms r)))) = q in omega arith)
  a_part a m ts r (cons x us) q = refl

  an_arrow : (o : Term) (p : Part) (us : Terms) → count us ≡ suc (count (part_terms p)) → node (texts (bytes (arrow_word (arrow_of p))) (byte 32 (ahead (parted p) us))) ≡ tree_atom (with_terms (arrows o (only p)) us)
  unfolding ahead tree_atom with_terms with_parts_terms with_part_terms nth entry_or count rest
  an_arrow o p nil q = absurd (let z : ◌≡◌ {A = ℕ} 0 (suc (count (part_terms p))) = q in omega arith)
  an_arrow o (part a m ts r) (cons x us) q = refl

  filled_last : (v : Term) → fill_trees τ (byte 32 (bracket (tree_term v) end)) ≡ byte 32 (first (fills σ (cons v nil)))
  unfolding fill_trees first fills tree_terms
  filled_last v = rw (tree_term_lem σ v)

  filled_closing : (ts : Terms) (r : Result) → fill_trees τ (bracket (tree_arguments ts) (byte 32 (tree_result r))) ≡ closing ts r (fills σ (join ts (result_terms r)))
  unfolding fill_trees closing
  filled_closing ts r =
      let h = front_join (fills σ ts) (fills σ (result_terms r)) (count ts) (count_fill σ ts) in
      rw (fills_join ts (result_terms r), h.0, h.1, own_result r, tree_arguments_lem σ ts, tree_result_lem σ r)

  filled_part : (p : Part) → fill_trees τ (byte 32 (tree_part p)) ≡ byte 32 (parted p (fills σ (part_terms p)))
  unfolding fill_trees closing tree_part part_terms with_part_terms fills nth entry_or rest
  filled_part (part a m ts r) = rw (tree_term_lem σ m, filled_closing ts r)

  alike_part : (p : Part) → All P (part_terms p) → (k : ℕ) → Alike σ P (λ us. count us ≡ count (part_terms p)) (parted p) (find_terms σ u (part_terms p) k) (find_trees τ (tree_term u) (tree_part p) k)
  unfolding part_terms tree_part count All find_trees fill_trees map_found
  alike_part (part a m ts r) h k =
      let us = join ts (result_terms r) in
      alike_as (parted (part a m ts r)) (a_part a m ts r) (alike_then m h.0 us (closing ts r) (byte 32 (bracket (tree_arguments ts) (byte 32 (tree_result r)))) (closing ts r (fills σ us)) (ap (byte 32) (filled_closing ts r)) refl (λ n. alike_tree (byte 32) (λ r. r) (alike_closing ts r h.1 n)) k)

  alone : {X : Type 0} {Q : X → Type 0} {tree : X → Tree} {s : Search X} (t : Tree) {g : Found Tree} → Alike σ P Q tree s g → Alike σ P Q (λ x. bracket (tree x) end) s (turn g (fill_tree τ t) (find_trees τ (tree_term u) end) (fill_trees τ end) (put_inside end) bracket)
  unfolding turn find_trees fill_trees map_found
  alone t (gone k) = gone k
  alone t (there o w e p q y) = there o (λ r. w (put_inside end r)) e p q (ap (λ z. bracket z end) y)

  -- A part in brackets, and parts after a space each, from their terms.
  alike_bracketed : (p : Part) → All P (part_terms p) → (k : ℕ) → Alike σ P (λ us. count us ≡ count (part_terms p)) (λ us. tree_bracketed (with_part_terms p us)) (find_terms σ u (part_terms p) k) (find_tree τ (tree_term u) (tree_bracketed p) k)
  unfolding tree_bracketed with_part_terms find_trees map_found
  alike_bracketed (part a m ts r) h k =
      let vs = byte 32 (tree_part (part a m ts r)) in
      alike_bracket (texts (bytes (arrow_word a)) vs) (arrow_plain a vs) k
      (alike_texts {s = find_terms σ u (part_terms (part a m ts r))} (bytes (arrow_word a)) vs (λ j. alike_tree (byte 32) (λ x. x) (alike_part (part a m ts r) h j)) k)

  filled_bracketed : (p : Part) → fill_tree τ (tree_bracketed p) ≡ tree_bracketed (with_part_terms p (fills σ (part_terms p)))
  filled_bracketed p =
      tree_bracketed_lem σ p
      ∙ ap tree_bracketed (sym (part_own (fill_part σ p)) ∙ (part_frame σ p (part_terms (fill_part σ p)) ∙ ap (with_part_terms p) (sym (part_terms_lem σ p))))

  abbrev all_parted : Parts → Terms → Trees
  all_parted ps us = tree_parts (with_parts_terms ps us)

  filled_parts : (ps : Parts) → fill_trees τ (tree_parts ps) ≡ all_parted ps (fills σ (parts_terms ps))
  filled_parts ps =
      tree_parts_lem σ ps
      ∙ ap tree_parts (sym (parts_own (fill_parts σ ps)) ∙ (parts_frame σ ps (parts_terms (fill_parts σ ps)) ∙ ap (with_parts_terms ps) (sym (parts_terms_lem σ ps))))

  abbrev two_parted : Part → Parts → Terms → Trees
  two_parted p ps us =
      let n = count (part_terms p) in bracket (tree_bracketed (with_part_terms p (front n us))) (all_parted ps (rest n us))

  alike_parts : (ps : Parts) → All P (parts_terms ps) → (k : ℕ) → Alike σ P (λ us. count us ≡ count (parts_terms ps)) (all_parted ps) (find_terms σ u (parts_terms ps) k) (find_trees τ (tree_term u) (tree_parts ps) k)
  unfolding parts_terms tree_parts with_parts_terms find_trees fill_trees
  alike_parts (only p) h k = alike_tree (byte 32) (λ r. r) (alone (tree_bracketed p) (alike_bracketed p h k))
  alike_parts (also p ps) h k =
      let i = all_join P (part_terms p) (parts_terms ps) h in
      rw (find_join (part_terms p) (parts_terms ps) k)
      (alike_tree (byte 32) (λ r. r)
      (alike_turn {tz = two_parted p ps} (fills σ (part_terms p)) (fills σ (parts_terms ps)) (put_inside (tree_parts ps)) join bracket (count_fill σ (part_terms p)) (count_fill σ (parts_terms ps)) (filled_bracketed p) (filled_parts ps)
      (λ a b q s. (let h = front_join a b (count (part_terms p)) q in rw (h.0, h.1), omega (arith, count_join a b, count_join (part_terms p) (parts_terms ps)))) (alike_bracketed p i.0 k) (λ j. alike_parts ps i.1 j)))

  -- The object of a molecule in front of its parts.
  unfoldable headed : (Terms → Trees) → Terms → Trees
  headed tail nil = end
  headed tail (cons a b) = bracket (tree_term a) (tail b)

  a_molecule : (o : Term) (p : Part) (ps : Parts) (us : Terms) → count us ≡ suc (count (parts_terms (also p ps))) → node (texts (bytes "mol ") (headed (all_parted (also p ps)) us)) ≡ tree_atom (with_terms (arrows o (also p ps)) us)
  unfolding headed tree_atom with_terms with_parts_terms nth entry_or count rest
  a_molecule o p ps nil q = absurd (let z : ◌≡◌ {A = ℕ} 0 (suc (count (parts_terms (also p ps)))) = q in omega arith)
  a_molecule o p ps (cons x us) q = refl

  alike_molecule : (o : Term) (p : Part) (ps : Parts) → P o → All P (parts_terms (also p ps)) → (k : ℕ) → Alike σ P Any tree_atom (find_atom σ u (arrows o (also p ps)) k) (find_tree τ (tree_term u) (tree_atom (arrows o (also p ps))) k)
  unfolding find_atom terms_of tree_atom find_terms find_trees headed fills count texts
  alike_molecule o p ps h i k =
      let qs = also p ps in
      let ts = bracket (tree_term o) (tree_parts qs) in
      alike_form (with_terms (arrows o qs)) (λ us q. (a_molecule o p ps us q, tt))
      (alike_bracket (texts (bytes "mol ") ts) refl k (alike_texts {s = find_terms σ u (cons o (parts_terms qs))} (bytes "mol ") ts
      (λ j. alike_turn {tz = headed (all_parted qs)} (fill σ o) (fills σ (parts_terms qs)) (put_inside (tree_parts qs)) cons bracket tt (count_fill σ (parts_terms qs)) (tree_term_lem σ o) (filled_parts qs) (λ a b _ q. (refl, ap suc q)) (alike_term o h j) (λ n. alike_parts qs i n)) k))

  alike_atom : (x : Atom) → All P (terms_of x) → (k : ℕ) → Alike σ P Any tree_atom (find_atom σ u x k) (find_tree τ (tree_term u) (tree_atom x) k)
  unfolding find_atom terms_of parts_terms tree_atom find_trees first tree_terms texts count All
  alike_atom (link l t v) h k =
      let ts = byte 32 (bracket (tree_term t) (byte 32 (bracket (tree_term v) end))) in
      alike_form (with_terms (link l t v)) (λ us q. (two_terms l t v us q, tt)) (alike_bracket (texts (bytes (link_word l)) ts) (link_plain l ts) k (alike_texts {s = find_terms σ u (cons t (cons v nil))} (bytes (link_word l)) ts (λ j. alike_tree (byte 32) (λ r. r)
      (alike_then t h.0 (cons v nil) first (byte 32 (bracket (tree_term v) end)) (first (fills σ (cons v nil))) (filled_last v) refl (λ i. alike_tree (byte 32) (λ r. r) (alike_first (cons v nil) h.1 i)) j)) k))
  alike_atom (obj t) h k = alike_form (with_terms (obj t)) (λ us q. (an_object t us q, tt)) (alike_bracket (texts (bytes "obj ") (first (cons t nil))) refl k (alike_texts {s = find_terms σ u (cons t nil)} (bytes "obj ") (first (cons t nil)) (alike_first (cons t nil) h) k))
  alike_atom (arrows o (also p ps)) h k = alike_molecule o p ps h.0 h.1 k
  alike_atom (arrows o (only p)) h k =
      let a = arrow_of p in
      let vs = byte 32 (bracket (tree_term o) (byte 32 (tree_part p))) in
      alike_form (with_terms (arrows o (only p))) (λ us q. (an_arrow o p us q, tt)) (alike_bracket (texts (bytes (arrow_word a)) vs) (arrow_plain a vs) k (alike_texts {s = find_terms σ u (cons o (part_terms p))} (bytes (arrow_word a)) vs (λ j. alike_tree (byte 32) (λ r. r)
      (alike_then o h.0 (part_terms p) (parted p) (byte 32 (tree_part p)) (parted p (fills σ (part_terms p))) (filled_part p) refl (λ i. alike_tree (byte 32) (λ r. r) (alike_part p h.1 i)) j)) k))

  -- Both searches of a literal.
  pub alike_literal : (g : Sign) (x : Atom) → All P (terms_of x) → (k : ℕ) → Alike σ P Any tree_literal (find_literal σ u (lit g x) k) (find_tree τ (tree_term u) (tree_literal (lit g x)) k)
  unfolding find_literal tree_literal find_trees
  alike_literal g x h k =
      let ts = bracket (tree_atom x) end in
      alike_form (lit g) (λ y q. (refl, tt)) (alike_bracket (texts (bytes (sign_word g)) (byte 32 ts)) (sign_plain g ts) k (alike_texts {s = find_atom σ u x} (bytes (sign_word g)) (byte 32 ts) (λ j. alike_tree (byte 32) (λ r. r) (alone (tree_atom x) (alike_atom x h j))) k))
