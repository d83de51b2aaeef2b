-- The hole at a given item of a written literal: its object, one of its arguments, its result, or a term of a link.
use Prim.Native.Nat.{ℕ, zero, suc, ◌≤◌}
use mathlib.Core.Path.{◌≡◌, refl}
use mathlib.Core.List.{List, [], ◌∷◌}
use lib.Dec.{T}
use Rattle.logic.specs.declared.Sign.{Sign}
use Rattle.text.specs.Words.{bytes, sign_word}
use Rattle.text.specs.Write.{Writer}
use Rattle.text.specs.Form.{formed_number}
use Rattle.text.specs.Read.{got}
use Rattle.text.proofs.Trees.{Tree, var, node, Trees, end, byte, bracket, put_tree, put_inside, texts, Clean, CleanIn, Within, WithinIn}
use Rattle.filling.specs.Filled.{Filler}
use Rattle.filling.proofs.Filling.{fill_tree, fill_trees}
use Rattle.filling.proofs.Holes.{Found, past, found, map_found, turn, find_trees, Good, GoodIn, hole_inside, whole_held, node_held, byte_held, later_held, part_held, stack, within_stack, within_in_stack}

-- A spot in a tree, and in what stands in a bracket.
mutual
  pub data Spot : Tree → Type 0 where
    here : {t : Tree} → Spot t
    within : {ts : Trees} → SpotIn ts → Spot (node ts)

  pub data SpotIn : Trees → Type 0 where
    skip : {b : ℕ} {ts : Trees} → SpotIn ts → SpotIn (byte b ts)
    now : {t : Tree} {ts : Trees} → Spot t → SpotIn (bracket t ts)
    later : {t : Tree} {ts : Trees} → SpotIn ts → SpotIn (bracket t ts)

-- What stands there, what follows it, and the filled whole with u there.
unfoldable mutual
  pub spot : (ℕ → Tree) → Tree → {t : Tree} → Spot t → Found Tree
  spot σ u {t} here = found t (λ rest. rest) u
  spot σ u (within p) = map_found node (λ rest. 41 ∷ rest) (spot_in σ u p)

  pub spot_in : (ℕ → Tree) → Tree → {ts : Trees} → SpotIn ts → Found Trees
  spot_in σ u (skip {b} p) = map_found (byte b) (λ rest. rest) (spot_in σ u p)
  spot_in σ u (now {t} {ts} p) = turn (spot σ u p) (fill_tree σ t) (find_trees σ u ts) (fill_trees σ ts) (put_inside ts) bracket
  spot_in σ u (later {t} p) = map_found (bracket (fill_tree σ t)) (λ rest. rest) (spot_in σ u p)

-- The tree with the hole at a spot.
module _ (f : Filler) (σ : ℕ → Tree) (P : ℕ → Type 0) (formed : (n : ℕ) → P n → T (formed_number n)) (entry : (n : ℕ) → P n → f.entry n ≡ put_tree (σ n) []) (u : Tree) (D : ℕ) (new : (e : ℕ) → D ≤ e → (r : List ℕ) × (f.new e ≡ got (put_tree u []) r)) where
  at_here : (t : Tree) (d : ℕ) → Clean t → Within P t d → Good f (stack D d) t (found t (λ rest. rest) u)
  unfolding stack
  at_here (var n) zero c w = absurd w
  at_here (var n) (suc d) c w = whole_held f σ P formed entry u D new (var n) c d
  at_here (node ts) zero c w = absurd w
  at_here (node ts) (suc d) c w = whole_held f σ P formed entry u D new (node ts) c d

  mutual
    unfolding spot stack

    pub spot_held : {t : Tree} (p : Spot t) (d : ℕ) → Clean t → Within P t d → Good f (stack D d) t (spot σ u p)
    spot_held {t} here d c w = at_here t d c w
    spot_held (within {ts} p) zero c w = absurd w
    spot_held (within {ts} p) (suc d) c w = node_held f σ P formed entry u D new ts c d (spot_in σ u p) (spot_held_in p d c.1 w)

    spot_held_in : {ts : Trees} (p : SpotIn ts) (d : ℕ) → CleanIn ts → WithinIn P ts d → GoodIn f (stack D d) ts (spot_in σ u p)
    spot_held_in (skip {b} {ts} p) d c w = byte_held f σ P formed entry u D new b ts c.0 (stack D d) (spot_in σ u p) (spot_held_in p d c.1 w)
    spot_held_in (now {t} {ts} p) d c w = part_held f σ P formed entry u D new t ts c.0 c.1 d (within_stack P D t d w.0) (within_in_stack P D ts d w.1) (spot σ u p) (spot_held p d c.0 w.0) (λ j. hole_inside f σ P formed entry u D new ts j d c.1 w.1)
    spot_held_in (later {t} {ts} p) d c w = later_held f σ P formed entry u D new t ts c.0 c.1 d (within_stack P D t d w.0) (within_in_stack P D ts d w.1) (spot_in σ u p) (spot_held_in p d c.1 w.1)

-- Past bytes.
skips : (bs : List ℕ) {ts : Trees} → SpotIn ts → SpotIn (texts bs ts)
unfolding texts
skips [] p = p
skips (b ∷ bs) p = skip (skips bs p)

twice : {X Y Z : Type 0} (f : X → Y) (g : Y → Z) (x : Found X) → map_found g (λ r. r) (map_found f (λ r. r) x) ≡ map_found (λ a. g (f a)) (λ r. r) x
unfolding map_found
twice f g (past k) = refl
twice f g (found t w x) = refl

once : {X : Type 0} (x : Found X) → x ≡ map_found (λ a. a) (λ r. r) x
unfolding map_found
once (past k) = refl
once (found t w x) = refl

module _ (σ : ℕ → Tree) (u : Tree) where
  spot_skips : (bs : List ℕ) {ts : Trees} (p : SpotIn ts) → spot_in σ u (skips bs p) ≡ map_found (texts bs) (λ r. r) (spot_in σ u p)
  unfolding skips spot_in texts
  spot_skips [] p = once (spot_in σ u p)
  spot_skips (b ∷ bs) p = rw (spot_skips bs p) (twice (texts bs) (byte b) (spot_in σ u p))

-- Spots of a literal's atom, from those of what stands in the atom behind its word.
pub atom_spot : (g : Sign) (word : List ℕ) {ts : Trees} → SpotIn ts → Spot (node (texts (bytes (sign_word g)) (byte 32 (bracket (node (texts word ts)) end))))
atom_spot g word p = within (skips (bytes (sign_word g)) (skip (now (within (skips word p)))))

module _ (σ : ℕ → Tree) (u : Tree) where
  pub spot_atom : (g : Sign) (word : List ℕ) {ts : Trees} (p : SpotIn ts) {t : Tree} {w : Writer} {x : Trees} → spot_in σ u p ≡ found t w x → spot σ u (atom_spot g word p) ≡ found t (λ rest. w (41 ∷ 41 ∷ rest)) (node (texts (bytes (sign_word g)) (byte 32 (bracket (node (texts word x)) end))))
  unfolding atom_spot spot map_found turn fill_trees put_inside
  spot_atom g word p e = rw (spot_skips σ u (bytes (sign_word g)) (skip (now (within (skips word p)))), spot_skips σ u word p, e)
