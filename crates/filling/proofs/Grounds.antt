-- Items of written forms, filled by a list of the line; without places, an item is its own filled form.
use Prim.Native.Nat.{ℕ, zero, suc, ◌+◌, ◌-◌, ◌<◌}
use mathlib.Core.Bool.{Bool, true, false, cond}
use mathlib.Core.List.{List, [], ◌∷◌, ◌++◌}
use mathlib.Core.Path.{◌≡◌, refl, sym, ap, ap₂, subst, ◌∙◌}
use native.Mathlib.Omega.{arith}
use borrow.Author.Tests.{le-leb, lt-leb, eqb-true}
use lib.Dec.{T}
use lib.ListN.{length, take, length-append}
use lib.Seq.{take_at}
use Rattle.logic.specs.Fill.{Substitution}
use Rattle.text.specs.Write.{put_term}
use Rattle.text.specs.Read.{Parsed, bad, got, and_then, strip}
use Rattle.text.specs.Access.{skip_item}
use Rattle.text.proofs.Places.{entry_of}
use Rattle.text.proofs.Gives.{Gives, nothing, gives, strip_gives}
use Rattle.text.proofs.Heads.{strip_same}
use Rattle.text.proofs.Nesting.{skip_tree}
use Rattle.text.proofs.Trees.{Tree, var, node, Trees, end, byte, bracket, put_tree, Clean, Within, WithinIn, Below, tree_term, put_term_lem}
use Rattle.filling.specs.Filled.{fill_item, matches, item_depth}
use Rattle.clauses.specs.Entries.{itself}
use Rattle.filling.proofs.Places.{plain, ground, filled_by, ends_of}
use Rattle.filling.proofs.Agree.{stands_at}
use Rattle.filling.proofs.Filling.{fill_tree, fill_trees, tree_front, tree_longer, after_it, fill_tree_lem, trees}
use Rattle.filling.proofs.Walk.{fill_empty}
use Rattle.clauses.proofs.Places.{within}
use Rattle.clauses.proofs.Placing.{Stands}

-- A list whose entries are the written images of the variables below w.
abbrev pub Entries : List ℕ → List ℕ → Substitution → ℕ → Type 0
Entries line starts σ w = (v : ℕ) → v < w → entry_of line starts v ≡ put_term (σ v) []

-- Without places there are none.
pub no_width : (line starts : List ℕ) (σ : Substitution) (w : ℕ) → Entries line starts σ w → ground starts ≡ true → w ≡ 0
unfolding entry_of
no_width line [] σ zero e g = refl
no_width line [] σ (suc w) e g = absurd (omega (arith, ap length (e 0 (omega arith) ∙ put_term_lem (σ 0) []), tree_longer (tree_term (σ 0)) []))
no_width line (n ∷ ns) σ w e g = absurd (omega (arith, eqb-true (length (n ∷ ns)) 0 g))

-- Without variables a form is as it was.
mutual
  unfolding fill_tree

  pub ground_tree : (σ : ℕ → Tree) {w : ℕ} → w ≡ 0 → (t : Tree) (d : ℕ) → Within (Below w) t d → fill_tree σ t ≡ t
  ground_tree σ z (var n) zero h = absurd h
  ground_tree σ z (var n) (suc d) h = absurd (omega (arith, h.1))
  ground_tree σ z (node ts) zero h = absurd h
  ground_tree σ z (node ts) (suc d) h = ap node (ground_trees σ z ts d h)

  ground_trees : (σ : ℕ → Tree) {w : ℕ} → w ≡ 0 → (ts : Trees) (d : ℕ) → WithinIn (Below w) ts d → fill_trees σ ts ≡ ts
  ground_trees σ z end d h = refl
  ground_trees σ z (byte b ts) d h = ap (byte b) (ground_trees σ z ts d h)
  ground_trees σ z (bracket t ts) d h = ap₂ bracket (ground_tree σ z t d h.0) (ground_trees σ z ts d h.1)

itself_tree : (t : Tree) → Clean t → (rest : List ℕ) → itself (put_tree t rest) ≡ got (put_tree t []) rest
unfolding itself
itself_tree t c rest =
    let n : length (put_tree t []) ≡ length (put_tree t rest) - length rest = omega (arith, ap length (tree_front t rest) ∙ length-append (put_tree t []) rest) in
    rw (skip_tree t c rest) (ap (λ w. got w rest) (ap (take (length (put_tree t rest) - length rest)) (tree_front t rest) ∙ take_at (put_tree t []) rest (length (put_tree t rest) - length rest) n))

-- The filled bytes of a form, by either way.
pub filled_by_lem : (line starts : List ℕ) (σ : Substitution) (w : ℕ) → Entries line starts σ w → (t : Tree) (d : ℕ) → Clean t → Within (Below w) t d → (rest : List ℕ) →
    filled_by line starts d (put_tree t rest) ≡ got (put_tree (fill_tree (trees σ) t) []) rest
unfolding filled_by plain
filled_by_lem line starts σ w e t d c h rest = go (ground starts) refl
  where
    go : (g : Bool) → ground starts ≡ g → filled_by line starts d (put_tree t rest) ≡ got (put_tree (fill_tree (trees σ) t) []) rest
    go true g = rw (g, ground_tree (trees σ) (no_width line starts σ w e g) t d h) (itself_tree t c rest)
    go false g = rw g (fill_tree_lem (plain line starts) (trees σ) (Below w) (λ n p. p.0) (λ n p. e n p.1 ∙ put_term_lem (σ n) []) t d c h rest (after_it (omega arith)))

-- From past the end, nothing.
pub empty_by : (line starts : List ℕ) (d : ℕ) → filled_by line starts d [] ≡ bad
unfolding filled_by itself skip_item strip
empty_by line starts d = elim (ground starts) as (λ g. cond g bad (fill_item (plain line starts) d []) ≡ bad) [ true ↦ refl | false ↦ fill_empty (plain line starts) d ]

-- A filled form that is expected in bytes stands there exactly if they begin with it.
module _ (p q : List ℕ) (t u : Tree) (r s : List ℕ) where
  abbrev found : Parsed (Unit {0}) → ℕ
  found x = (ends_of p q (and_then x (λ _ left. got left r))).pos

  there : t ≡ u → T (within q (ends_of p q (matches (got (put_tree t []) r) (put_tree u s))).pos)
  unfolding matches ends_of within
  there e = rw (e, tree_front u s, strip_same (put_tree u []) s, le-leb (length q - length s) (length q) (omega arith)) tt

  only : T (within q (ends_of p q (matches (got (put_tree t []) r) (put_tree u s))).pos) → (l : List ℕ) × (put_tree t l ≡ put_tree u s)
  unfolding matches ends_of within
  only h = go (strip_gives (put_tree t []) (put_tree u s)) h
    where
      go : {x : Parsed (Unit {0})} → Gives (λ _ left. put_tree u s ≡ put_tree t [] ++ left) x → T (within q (found x)) → (l : List ℕ) × (put_tree t l ≡ put_tree u s)
      go nothing h = absurd (rw (lt-leb (length q + 1) (length q) (omega arith)) at h)
      go (gives {rest = left} e) h = (left, tree_front t left ∙ sym e)

module _ (depth : ℕ) (line starts : List ℕ) (σ : Substitution) (w : ℕ) (entry : Entries line starts σ w) {p q : List ℕ} {x y : ℕ} (t u : Tree) (r s : List ℕ) (a : Stands p x (put_tree t r)) (b : Stands q y (put_tree u s))
    (c : Clean t) (h : Within (Below w) t (item_depth depth)) where
  stood : stands_at depth p x line starts q y ≡ within q (ends_of p q (matches (got (put_tree (fill_tree (trees σ) t) []) r) (put_tree u s))).pos
  unfolding stands_at
  stood = rw (a.bytes_there, b.bytes_there, filled_by_lem line starts σ w entry t (item_depth depth) c h r)

  pub stands_there : fill_tree (trees σ) t ≡ u → T (stands_at depth p x line starts q y)
  stands_there e = subst T (sym stood) (there p q (fill_tree (trees σ) t) u r s e)

  pub stands_only : T (stands_at depth p x line starts q y) → (l : List ℕ) × (put_tree (fill_tree (trees σ) t) l ≡ put_tree u s)
  stands_only e = only p q (fill_tree (trees σ) t) u r s (subst T stood e)
