-- A term occurrence of a written literal: where it stands in the bytes, and filling with another term in its place.
use Prim.Native.Nat.{ℕ, zero, suc, ◌+◌, ◌-◌, ◌≤◌, ◌<◌}
use mathlib.Core.Path.{◌≡◌, refl, sym, ◌∙◌}
use mathlib.Core.Bool.{Bool, true, false, cond, ◌&&◌}
use mathlib.Core.List.{List, [], ◌∷◌, ◌++◌}
use native.Mathlib.Omega.{arith}
use lib.Dec.{T, eqb}
use lib.ListN.{length}
use borrow.Author.Tests.{ne_eqb, eqb-false}
use Rattle.text.specs.Write.{Writer}
use Rattle.text.specs.Form.{formed_number}
use Rattle.text.specs.Read.{Parsed, bad, got, strip}
use Rattle.text.specs.Access.{stood, begins_term, seek}
use Rattle.text.proofs.Tests.{on_test}
use Rattle.text.proofs.Plain.{number_plain, in_front}
use Rattle.text.proofs.Trees.{Tree, var, node, Trees, end, byte, bracket, put_tree, put_inside, Inner, inner, Clean, CleanIn, Within, WithinIn, number_bytes, number_inner}
use Rattle.text.proofs.Nesting.{inner_tests, skip_tree}
use Rattle.filling.specs.Filled.{Filler, prefixed, inside_up_to, inside, instead, fill_item}
use Rattle.filling.proofs.Filling.{fill_tree, fill_trees, tree_front, tree_longer, inside_grows, inside_part, not_variable, after_it, before_it, fill_tree_lem, fill_inside}
use Rattle.filling.proofs.Walk.{fill_hole, fill_bracket, inside_on}
use Rattle.filling.proofs.Alike.{no_variable}

-- A search in a tree: passed, with so many terms still to count; or found, with what stands behind it and the filled whole with another tree in its place.
pub data Found (X : Type 0) : Type 0 where
  past : ℕ → Found X
  found : Tree → Writer → X → Found X

unfoldable pub map_found : {X Y : Type 0} → (X → Y) → Writer → Found X → Found Y
map_found f w (past k) = past k
map_found f w (found t v x) = found t (λ rest. v (w rest)) (f x)

unfoldable pub turn : {X Y Z : Type 0} → Found X → X → (ℕ → Found Y) → Y → Writer → (X → Y → Z) → Found Z
turn (past k) x second y w join = map_found (join x) (λ rest. rest) (second k)
turn (found t v x') x second y w join = found t (λ rest. v (w rest)) (join x' y)

-- A term begins "(f " if it is no variable.
abbrev pub applied : Trees → Bool
applied end = false
applied (byte b end) = false
applied (byte b (byte x ts)) = eqb 102 b && eqb 32 x
applied (byte b (bracket t ts)) = false
applied (bracket t ts) = false

unfoldable mutual
  pub find_tree : (ℕ → Tree) → Tree → Tree → ℕ → Found Tree
  find_tree σ u (var n) zero = found (var n) (λ rest. rest) u
  find_tree σ u (var n) (suc k) = past k
  find_tree σ u (node ts) zero = cond (applied ts) (found (node ts) (λ rest. rest) u) (map_found node (λ rest. 41 ∷ rest) (find_trees σ u ts zero))
  find_tree σ u (node ts) (suc k) = map_found node (λ rest. 41 ∷ rest) (cond (applied ts) (find_trees σ u ts k) (find_trees σ u ts (suc k)))

  pub find_trees : (ℕ → Tree) → Tree → Trees → ℕ → Found Trees
  find_trees σ u end k = past k
  find_trees σ u (byte b ts) k = map_found (byte b) (λ rest. rest) (find_trees σ u ts k)
  find_trees σ u (bracket t ts) k = turn (find_tree σ u t k) (fill_tree σ t) (find_trees σ u ts) (fill_trees σ ts) (put_inside ts) bracket

-- Where the search ends in the bytes.
unfoldable pub on_found : {X : Type 0} → ℕ → List ℕ → Found X → Parsed (Unit {0})
on_found n rest (past j) = seek j n rest
on_found n rest (found t w x) = got tt (put_tree t (w rest))

seek_bytes : (ws : List ℕ) → Inner ws → (k n : ℕ) (rest : List ℕ) → seek k n (ws ++ rest) ≡ seek k n rest
unfolding seek
seek_bytes [] h k n rest = refl
seek_bytes (b ∷ ws) h k n rest = let (i, j) = inner_tests b h.0 in rw (i, j, seek_bytes ws h.1 k n rest)

seek_close : (k n : ℕ) (rest : List ℕ) → seek k (n + 1) (41 ∷ rest) ≡ seek k n rest
unfolding seek
seek_close k n rest =
    let z : eqb (n + 1) 0 ≡ false = ne_eqb (n + 1) 0 (omega arith) in
    let e : n + 1 - 1 ≡ n = omega arith in
    rw (z, e)

-- A term is seen by its first bytes.
begins_node : (ts : Trees) → Clean (node ts) → (rest : List ℕ) → begins_term (put_tree (node ts) rest) ≡ applied ts
unfolding begins_term stood put_tree strip
begins_node ts c rest = rw (not_variable ts c.0 rest) (go ts)
  where
    go : (ts : Trees) → stood (strip (102 ∷ 32 ∷ []) (put_inside ts (41 ∷ rest))) ≡ applied ts
    go end = refl
    go (byte b end) = elim (eqb 102 b) as (λ y. stood (cond y bad bad) ≡ false) [ true ↦ refl | false ↦ refl ]
    go (byte b (byte x ts)) = both (eqb 102 b) (eqb 32 x)
      where
        both : (y z : Bool) → stood (cond y (cond z (got tt (put_inside ts (41 ∷ rest))) bad) bad) ≡ (y && z)
        both true true = refl
        both true false = refl
        both false z = refl
    go (byte b (bracket (var n) ts)) = elim (eqb 102 b) as (λ y. stood (cond y bad bad) ≡ false) [ true ↦ refl | false ↦ refl ]
    go (byte b (bracket (node us) ts)) = elim (eqb 102 b) as (λ y. stood (cond y bad bad) ≡ false) [ true ↦ refl | false ↦ refl ]
    go (bracket (var n) ts) = refl
    go (bracket (node us) ts) = refl

begins_var : (n : ℕ) (rest : List ℕ) → begins_term (put_tree (var n) rest) ≡ true
unfolding begins_term stood put_tree strip
begins_var n rest = refl

-- One bracket of a walk, in terms of what stands in it.
module _ (k n : ℕ) (bs : List ℕ) where
  seek_first : begins_term (40 ∷ bs) ≡ true → k ≡ 0 → seek k n (40 ∷ bs) ≡ got tt (40 ∷ bs)
  unfolding seek
  seek_first t z = rw (t, z)

  seek_later : begins_term (40 ∷ bs) ≡ true → (k ≡ 0 → ⊥) → seek k n (40 ∷ bs) ≡ seek (k - 1) (n + 1) bs
  unfolding seek
  seek_later t z = rw (t, ne_eqb k 0 z)

  seek_inner : begins_term (40 ∷ bs) ≡ false → seek k n (40 ∷ bs) ≡ seek k (n + 1) bs
  unfolding seek
  seek_inner t = rw t

close_found : {X Y : Type 0} (f : X → Y) (n : ℕ) (rest : List ℕ) (x : Found X) → on_found (n + 1) (41 ∷ rest) x ≡ on_found n rest (map_found f (λ r. 41 ∷ r) x)
unfolding on_found map_found
close_found f n rest (past j) = seek_close j n rest
close_found f n rest (found t w x) = refl

map_found_lem : {X Y : Type 0} (f : X → Y) (n : ℕ) (rest : List ℕ) (x : Found X) → on_found n rest x ≡ on_found n rest (map_found f (λ r. r) x)
unfolding on_found map_found
map_found_lem f n rest (past j) = refl
map_found_lem f n rest (found t w x) = refl

-- The walk over the bytes finds what the search in the tree finds.
module _ (σ : ℕ → Tree) (u : Tree) where
  seek_turn : (n : ℕ) (rest : List ℕ) (ts : Trees) (t : Tree) (x : Found Tree) → ((k : ℕ) → seek k n (put_inside ts rest) ≡ on_found n rest (find_trees σ u ts k)) → on_found n (put_inside ts rest) x ≡ on_found n rest (turn x (fill_tree σ t) (find_trees σ u ts) (fill_trees σ ts) (put_inside ts) bracket)
  unfolding on_found turn
  seek_turn n rest ts t (past j) h = h j ∙ map_found_lem (bracket (fill_tree σ t)) n rest (find_trees σ u ts j)
  seek_turn n rest ts t (found s w x) h = refl

  seek_node : (ts : Trees) → Clean (node ts) → (k n : ℕ) (rest : List ℕ) → ((j : ℕ) → seek j (n + 1) (put_inside ts (41 ∷ rest)) ≡ on_found (n + 1) (41 ∷ rest) (find_trees σ u ts j)) → (b : Bool) → applied ts ≡ b → seek k n (put_tree (node ts) rest) ≡ on_found n rest (find_tree σ u (node ts) k)
  unfolding put_tree find_tree on_found
  seek_node ts c zero n rest h true e = seek_first 0 n _ (begins_node ts c rest ∙ e) refl ∙ rw e
  seek_node ts c zero n rest h false e = seek_inner 0 n _ (begins_node ts c rest ∙ e) ∙ h 0 ∙ close_found node n rest (find_trees σ u ts 0) ∙ rw e
  seek_node ts c (suc k) n rest h true e =
      let p : suc k - 1 ≡ k = omega arith in
      seek_later (suc k) n _ (begins_node ts c rest ∙ e) (omega arith) ∙ rw p (h k ∙ close_found node n rest (find_trees σ u ts k) ∙ rw e)
  seek_node ts c (suc k) n rest h false e = seek_inner (suc k) n _ (begins_node ts c rest ∙ e) ∙ h (suc k) ∙ close_found node n rest (find_trees σ u ts (suc k)) ∙ rw e

  mutual
    unfolding find_tree on_found put_tree

    pub seek_tree : (t : Tree) (k n : ℕ) → Clean t → (rest : List ℕ) → seek k n (put_tree t rest) ≡ on_found n rest (find_tree σ u t k)
    seek_tree (var m) zero n c rest = seek_first 0 n _ (begins_var m rest) refl
    seek_tree (var m) (suc k) n c rest =
        let p : suc k - 1 ≡ k = omega arith in
        seek_later (suc k) n _ (begins_var m rest) (omega arith)
        ∙ rw (p, in_front (number_plain m) (41 ∷ rest)) (seek_bytes (118 ∷ 32 ∷ number_bytes m) (tt, (tt, number_inner m)) k (n + 1) (41 ∷ rest) ∙ seek_close k n rest)
    seek_tree (node ts) k n c rest = seek_node ts c k n rest (λ j. seek_inside ts j (n + 1) c.1 (41 ∷ rest)) (applied ts) refl

    pub seek_inside : (ts : Trees) (k n : ℕ) → CleanIn ts → (rest : List ℕ) → seek k n (put_inside ts rest) ≡ on_found n rest (find_trees σ u ts k)
    seek_inside end k n c rest = refl
    seek_inside (byte b ts) k n c rest = seek_bytes (b ∷ []) (c.0, tt) k n (put_inside ts rest) ∙ seek_inside ts k n c.1 rest ∙ map_found_lem (byte b) n rest (find_trees σ u ts k)
    seek_inside (bracket t ts) k n c rest = seek_tree t k n c.0 (put_inside ts rest) ∙ seek_turn n rest ts t (find_tree σ u t k) (λ j. seek_inside ts j n c.1 rest)

-- Filling with the tree u in place of what was found, where the depth allows D brackets more.
unfoldable pub stack : ℕ → ℕ → ℕ
stack D zero = D
stack D (suc d) = suc (stack D d)

stack_least : (D d : ℕ) → D ≤ stack D d
unfolding stack
stack_least D zero = omega arith
stack_least D (suc d) = omega (arith, stack_least D d)

mutual
  unfolding stack

  pub within_stack : (P : ℕ → Type 0) (D : ℕ) (t : Tree) (d : ℕ) → Within P t d → Within P t (stack D d)
  within_stack P D (var n) zero w = absurd w
  within_stack P D (var n) (suc d) w = w
  within_stack P D (node ts) zero w = absurd w
  within_stack P D (node ts) (suc d) w = within_in_stack P D ts d w

  pub within_in_stack : (P : ℕ → Type 0) (D : ℕ) (ts : Trees) (d : ℕ) → WithinIn P ts d → WithinIn P ts (stack D d)
  within_in_stack P D end d w = tt
  within_in_stack P D (byte b ts) d w = within_in_stack P D ts d w
  within_in_stack P D (bracket t ts) d w = (within_stack P D t d w.0, within_in_stack P D ts d w.1)

-- What is found in a tree, and in what stands in a bracket.
pub record Held (f : Filler) (d : ℕ) (t s x : Tree) (w : Writer) (rest : List ℕ) : Type 0 where
  pub longer : length rest < length (put_tree s (w rest))
  pub inside : length (put_tree s (w rest)) ≤ length (put_tree t rest)
  pub filled : f.hole ≡ length (put_tree s (w rest)) → fill_item f d (put_tree t rest) ≡ got (put_tree x []) rest

pub record HeldIn (f : Filler) (d : ℕ) (ts x : Trees) (s : Tree) (w : Writer) (rest : List ℕ) : Type 0 where
  pub longer : length rest < length (put_tree s (w rest))
  pub inside : length (put_tree s (w rest)) ≤ length (put_inside ts rest)
  pub filled : (m : ℕ) (more : List ℕ) → rest ≡ 41 ∷ more → length (put_inside ts rest) ≤ m → f.hole ≡ length (put_tree s (w rest)) → inside_up_to (fill_item f d) m (put_inside ts rest) ≡ got (put_inside x (41 ∷ [])) more

abbrev pub Good : Filler → ℕ → Tree → Found Tree → Type 0
Good f d t (past k) = Unit {0}
Good f d t (found s w x) = (rest : List ℕ) → Held f d t s x w rest

abbrev pub GoodIn : Filler → ℕ → Trees → Found Trees → Type 0
GoodIn f d ts (past k) = Unit {0}
GoodIn f d ts (found s w x) = (rest : List ℕ) → HeldIn f d ts x s w rest

module _ (f : Filler) (σ : ℕ → Tree) (P : ℕ → Type 0) (formed : (n : ℕ) → P n → T (formed_number n)) (entry : (n : ℕ) → P n → f.entry n ≡ put_tree (σ n) []) (u : Tree) (D : ℕ) (new : (e : ℕ) → D ≤ e → (r : List ℕ) × (f.new e ≡ got (put_tree u []) r)) where
  -- The item itself is in the hole.
  whole_hole : (t : Tree) → Clean t → (d : ℕ) (rest : List ℕ) → f.hole ≡ length (put_tree t rest) → fill_item f (suc (stack D d)) (put_tree t rest) ≡ got (put_tree u []) rest
  unfolding instead
  whole_hole t c d rest e =
      let k : suc (stack D d) - 1 ≡ stack D d = omega arith in
      fill_hole f (suc (stack D d)) (put_tree t rest) (omega arith) (sym e) ∙ rw (k, skip_tree t c rest, (new (stack D d) (stack_least D d)).1)

  pub whole_held : (t : Tree) → Clean t → (d : ℕ) (rest : List ℕ) → Held f (suc (stack D d)) t t u (λ r. r) rest
  whole_held t c d rest = record { longer = tree_longer t rest; inside = omega arith; filled = whole_hole t c d rest }

  -- A bracket with the hole inside.
  pub node_held : (ts : Trees) → Clean (node ts) → (d : ℕ) (x : Found Trees) → GoodIn f (stack D d) ts x → Good f (suc (stack D d)) (node ts) (map_found node (λ r. 41 ∷ r) x)
  unfolding map_found put_tree strip inside prefixed
  node_held ts c d (past j) g = tt
  node_held ts c d (found s w x) g = λ rest.
      let h = g (41 ∷ rest) in
      let k : suc (stack D d) - 1 ≡ stack D d = omega arith in
      record {
        longer = omega (arith, h.longer);
        inside = omega (arith, h.inside);
        filled = λ e. fill_bracket f (40 ∷ put_inside ts (41 ∷ rest)) (λ o. omega (arith, h.inside)) (suc (stack D d)) (omega arith) (no_variable ts c rest) refl ∙ rw (k, h.filled (length (put_inside ts (41 ∷ rest))) rest refl (omega arith) e);
      }

  pub byte_held : (b : ℕ) (ts : Trees) → T (inner b) → (d : ℕ) (x : Found Trees) → GoodIn f d ts x → GoodIn f d (byte b ts) (map_found (byte b) (λ r. r) x)
  unfolding map_found put_inside prefixed
  byte_held b ts h d (past j) g = tt
  byte_held b ts h d (found s w x) g = λ rest. record { longer = (g rest).longer; inside = omega (arith, (g rest).inside); filled = go rest }
    where
      go : (rest : List ℕ) (m : ℕ) (more : List ℕ) → rest ≡ 41 ∷ more → suc (length (put_inside ts rest)) ≤ m → f.hole ≡ length (put_tree s (w rest)) → inside_up_to (fill_item f d) m (b ∷ put_inside ts rest) ≡ got (b ∷ put_inside x (41 ∷ [])) more
      go rest zero more e l o = absurd (omega arith)
      go rest (suc m) more e l o =
          let (i, j) = inner_tests b h in
          inside_on (fill_item f d) m b (put_inside ts rest) (eqb-false b 40 i) (eqb-false b 41 j) ∙ rw ((g rest).filled m more e (omega arith) o)

  module _ (t : Tree) (ts : Trees) (ct : Clean t) (cs : CleanIn ts) (d : ℕ) (wt : Within P t (stack D d)) (ws : WithinIn P ts (stack D d)) where
    -- found behind the first item
    pub later_held : (y : Found Trees) → GoodIn f (stack D d) ts y → GoodIn f (stack D d) (bracket t ts) (map_found (bracket (fill_tree σ t)) (λ r. r) y)
    unfolding map_found put_inside prefixed
    later_held (past j) g = tt
    later_held (found s w x) g = λ rest. record { longer = (g rest).longer; inside = omega (arith, (g rest).inside, tree_longer t (put_inside ts rest)); filled = go rest }
      where
        go : (rest : List ℕ) (m : ℕ) (more : List ℕ) → rest ≡ 41 ∷ more → length (put_tree t (put_inside ts rest)) ≤ m → f.hole ≡ length (put_tree s (w rest)) → inside_up_to (fill_item f (stack D d)) m (put_tree t (put_inside ts rest)) ≡ got (put_tree (fill_tree σ t) (put_inside x (41 ∷ []))) more
        go rest zero more e l o = absurd (omega (arith, tree_longer t (put_inside ts rest)))
        go rest (suc m) more e l o =
            inside_part (fill_item f (stack D d)) m t (put_inside ts rest)
            ∙ rw (fill_tree_lem f σ P formed entry t (stack D d) ct wt (put_inside ts rest) (after_it (omega (arith, (g rest).inside))), (g rest).filled m more e (omega (arith, tree_longer t (put_inside ts rest))) o, tree_front (fill_tree σ t) (put_inside x (41 ∷ [])))

    pub part_held : (x : Found Tree) → Good f (stack D d) t x → ((j : ℕ) → GoodIn f (stack D d) ts (find_trees σ u ts j)) → GoodIn f (stack D d) (bracket t ts) (turn x (fill_tree σ t) (find_trees σ u ts) (fill_trees σ ts) (put_inside ts) bracket)
    unfolding turn put_inside prefixed
    part_held (past j) g h = later_held (find_trees σ u ts j) (h j)
    part_held (found s w x) g h = λ rest. record { longer = omega (arith, inside_grows ts rest, (g (put_inside ts rest)).longer); inside = (g (put_inside ts rest)).inside; filled = go rest }
      where
        go : (rest : List ℕ) (m : ℕ) (more : List ℕ) → rest ≡ 41 ∷ more → length (put_tree t (put_inside ts rest)) ≤ m → f.hole ≡ length (put_tree s (w (put_inside ts rest))) → inside_up_to (fill_item f (stack D d)) m (put_tree t (put_inside ts rest)) ≡ got (put_tree x (put_inside (fill_trees σ ts) (41 ∷ []))) more
        go rest zero more e l o = absurd (omega (arith, tree_longer t (put_inside ts rest)))
        go rest (suc m) more e l o =
            let n = tree_longer t (put_inside ts rest) in
            inside_part (fill_item f (stack D d)) m t (put_inside ts rest)
            ∙ rw ((g (put_inside ts rest)).filled o) (rw (plainly rest m more e (omega arith) (omega (arith, (g (put_inside ts rest)).longer)), tree_front x (put_inside (fill_trees σ ts) (41 ∷ []))))
          where
            plainly : (rest : List ℕ) (m : ℕ) (more : List ℕ) → rest ≡ 41 ∷ more → length (put_inside ts rest) ≤ m → length (put_inside ts rest) < f.hole → inside_up_to (fill_item f (stack D d)) m (put_inside ts rest) ≡ got (put_inside (fill_trees σ ts) (41 ∷ [])) more
            plainly rest m more e l o = rw e (fill_inside f σ P formed entry ts (stack D d) cs ws m more (rw e at l) (before_it (rw e at o)))

  mutual
    unfolding find_tree stack

    pub hole_tree : (t : Tree) (k d : ℕ) → Clean t → Within P t d → Good f (stack D d) t (find_tree σ u t k)
    hole_tree (var n) k zero c w = absurd w
    hole_tree (var n) zero (suc d) c w = whole_held (var n) c d
    hole_tree (var n) (suc k) (suc d) c w = tt
    hole_tree (node ts) k zero c w = absurd w
    hole_tree (node ts) zero (suc d) c w = on_test (Good f (suc (stack D d)) (node ts)) (applied ts) (λ _. whole_held (node ts) c d) (λ _. node_held ts c d (find_trees σ u ts zero) (hole_inside ts zero d c.1 w))
    hole_tree (node ts) (suc k) (suc d) c w = node_held ts c d _ (on_test (GoodIn f (stack D d) ts) (applied ts) (λ _. hole_inside ts k d c.1 w) (λ _. hole_inside ts (suc k) d c.1 w))

    pub hole_inside : (ts : Trees) (k d : ℕ) → CleanIn ts → WithinIn P ts d → GoodIn f (stack D d) ts (find_trees σ u ts k)
    hole_inside end k d c w = tt
    hole_inside (byte b ts) k d c w = byte_held b ts c.0 (stack D d) (find_trees σ u ts k) (hole_inside ts k d c.1 w)
    hole_inside (bracket t ts) k d c w = part_held t ts c.0 c.1 d (within_stack P D t d w.0) (within_in_stack P D ts d w.1) (find_tree σ u t k) (hole_tree t k d c.0 w.0) (λ j. hole_inside ts j d c.1 w.1)
