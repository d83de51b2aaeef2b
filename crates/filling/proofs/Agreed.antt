-- When items of two written literals agree: exactly when what stands there is equal, filled.
use Prim.Native.Nat.{ℕ, suc, ◌+◌, ◌-◌, ◌≤◌}
use mathlib.Core.Bool.{Bool, true, false}
use mathlib.Core.List.{List, []}
use mathlib.Core.Logic.{◌↔◌}
use mathlib.Core.Path.{◌≡◌, refl, sym, ap, ◌∙◌}
use native.Mathlib.Omega.{arith}
use borrow.Author.Tests.{le-leb, lt-leb}
use lib.Dec.{T}
use lib.ListN.{length, drop}
use Rattle.logic.specs.Syntax.{Term, Terms, Part, only, Atom, arrows}
use Rattle.logic.specs.Terms.{part_terms, terms_of}
use Rattle.logic.specs.Each.{atom_over, term_width, terms_width}
use Rattle.logic.specs.Fill.{Substitution, fill, fills, fill_part, fill_atom}
use Rattle.text.specs.Write.{put_term, put_arguments, put_bracketed, put_atom}
use Rattle.text.specs.Form.{formed_number, numbered, numbereds, formed_term, formed_terms, formed_part, formed_atom}
use Rattle.text.specs.Read.{Parsed, bad, got}
use Rattle.text.proofs.Unique.{term_unique, arguments_unique}
use Rattle.text.proofs.Deep.{formed_symbol}
use Rattle.text.proofs.Trees.{Tree, put_tree, Clean, Within, Below, tree_term, tree_arguments, tree_bracketed, tree_atom, put_term_lem, put_arguments_lem, put_bracketed_lem, put_atom_lem, clean_term, clean_arguments, clean_bracketed, clean_atom, within_term, within_arguments, within_bracketed, within_atom}
use Rattle.filling.specs.Filled.{same_item, item_depth}
use Rattle.filling.proofs.Places.{plain, ground, ends_of}
use Rattle.filling.proofs.Agree.{agree_at}
use Rattle.filling.proofs.Alike.{Fills, term_fills, same_tree, same_only}
use Rattle.filling.proofs.Filling.{fill_tree, trees, tree_term_lem, tree_arguments_lem, tree_bracketed_lem, tree_atom_lem}
use Rattle.filling.proofs.Grounds.{Entries, no_width, ground_tree, stands_there, stands_only}
use Rattle.filling.proofs.NumberedFill.{bracketed_bytes, atom_bytes}
use Rattle.clauses.proofs.Places.{within}
use Rattle.clauses.proofs.Placing.{Stands}

-- The place past what agrees is a place exactly where something was read.
found_within : (p q : List ℕ) (w : Parsed (List ℕ)) → T (within p (ends_of p q w).at) → (other : List ℕ) × (rest : List ℕ) × (w ≡ got other rest)
unfolding within ends_of
found_within p q bad h = absurd (rw (lt-leb (length p + 1) (length p) (omega arith)) at h)
found_within p q (got other rest) h = (other, rest, refl)

within_found : (p q other rest : List ℕ) → T (within p (ends_of p q (got other rest)).at)
unfolding within ends_of
within_found p q other rest = rw (le-leb (length p - length rest) (length p) (omega arith)) tt

-- Two forms agree exactly if their filled bytes are the same.
module _ (depth : ℕ) (line starts others : List ℕ) (σ τ : Substitution) (v w : ℕ) (entry : Entries line starts σ v) (entry' : Entries line others τ w) {p q : List ℕ} {x y : ℕ} (t u : Tree) (r s : List ℕ)
    (a : Stands p x (put_tree t r)) (b : Stands q y (put_tree u s)) (ct : Clean t) (cu : Clean u) (wt : Within (Below v) t (item_depth depth)) (wu : Within (Below w) u (item_depth depth)) where
  first_fills : Fills (plain line starts) (trees σ) (Below v)
  unfolding plain
  first_fills = term_fills (plain line starts) σ v refl entry

  second_fills : Fills (plain line others) (trees τ) (Below w)
  unfolding plain
  second_fills = term_fills (plain line others) τ w refl entry'

  both_sides : same_item (plain line starts) (plain line others) (item_depth depth) (drop x p) (drop y q) ≡ same_item (plain line starts) (plain line others) (item_depth depth) (put_tree t r) (put_tree u s)
  both_sides = rw (a.bytes_there, b.bytes_there)

  agree_to : fill_tree (trees σ) t ≡ fill_tree (trees τ) u → T (agree_at depth p x line starts q y others)
  unfolding agree_at
  agree_to e = go (ground others) refl (ground starts) refl
    where
      go : (g : Bool) → ground others ≡ g → (h : Bool) → ground starts ≡ h → T (agree_at depth p x line starts q y others)
      go true g f h = rw g (stands_there depth line starts σ v entry t u r s a b ct wt (e ∙ ground_tree (trees τ) (no_width line others τ w entry' g) u (item_depth depth) wu))
      go false g true h = rw (g, h) (stands_there depth line others τ w entry' u t s r b a cu wu (sym e ∙ ground_tree (trees σ) (no_width line starts σ v entry h) t (item_depth depth) wt))
      go false g false h = rw (g, h, both_sides, same_tree first_fills second_fills t u (item_depth depth) ct cu wt wu e r s) (within_found p q s r)

  agree_from : T (agree_at depth p x line starts q y others) → (l : List ℕ) × (m : List ℕ) × (put_tree (fill_tree (trees σ) t) l ≡ put_tree (fill_tree (trees τ) u) m)
  unfolding agree_at
  agree_from = go (ground others) refl (ground starts) refl
    where
      go : (g : Bool) → ground others ≡ g → (h : Bool) → ground starts ≡ h → T (agree_at depth p x line starts q y others) →
          (l : List ℕ) × (m : List ℕ) × (put_tree (fill_tree (trees σ) t) l ≡ put_tree (fill_tree (trees τ) u) m)
      go true g f h i =
          let k = stands_only depth line starts σ v entry t u r s a b ct wt (rw g at i) in
          (k.0, s, k.1 ∙ ap (λ z. put_tree z s) (sym (ground_tree (trees τ) (no_width line others τ w entry' g) u (item_depth depth) wu)))
      go false g true h i =
          let k = stands_only depth line others τ w entry' u t s r b a cu wu (rw (g, h) at i) in
          (r, k.0, ap (λ z. put_tree z r) (ground_tree (trees σ) (no_width line starts σ v entry h) t (item_depth depth) wt) ∙ sym k.1)
      go false g false h i =
          let k = found_within p q _ (rw (g, h) at i) in
          ([], [], same_only first_fills second_fills t u (item_depth depth) ct cu wt wu r s (sym both_sides ∙ k.2))

module _ (depth : ℕ) (p q line starts others : List ℕ) (σ τ : Substitution) (v w : ℕ) (entry : Entries line starts σ v) (entry' : Entries line others τ w) where
  -- Two terms, two lists of arguments, two parts of molecules, two atoms.
  pub terms_agree : {x y : ℕ} (t u : Term) (r s : List ℕ) → Stands p x (put_term t r) → Stands q y (put_term u s) → T (formed_term (item_depth depth) t) → T (formed_term (item_depth depth) u) → term_width t ≤ v → term_width u ≤ w →
      T (numbered (fill σ t)) → T (numbered (fill τ u)) → T (agree_at depth p x line starts q y others) ↔ (fill σ t ≡ fill τ u)
  terms_agree {x} {y} t u r s a b ft fu ht hu nt nu =
      let i : Stands p x (put_tree (tree_term t) r) = rw put_term_lem at a in
      let j : Stands q y (put_tree (tree_term u) s) = rw put_term_lem at b in
      let cu = clean_term u in
      let wt = within_term v t (item_depth depth) ft ht in
      let wu = within_term w u (item_depth depth) fu hu in (
        λ h. let k = agree_from depth line starts others σ τ v w entry entry' (tree_term t) (tree_term u) r s i j (clean_term t) cu wt wu h in
            (term_unique (fill σ t) (fill τ u) k.0 k.1 nt nu (rw (put_term_lem (fill σ t) _, put_term_lem (fill τ u) _, ← tree_term_lem σ t, ← tree_term_lem τ u) k.2)).0,
        λ e. agree_to depth line starts others σ τ v w entry entry' (tree_term t) (tree_term u) r s i j (clean_term t) cu wt wu (tree_term_lem σ t ∙ ap tree_term e ∙ sym (tree_term_lem τ u)),
      )

  pub arguments_agree : {x y : ℕ} (ts us : Terms) (r s : List ℕ) → Stands p x (put_arguments ts r) → Stands q y (put_arguments us s) → T (formed_terms (suc (suc (suc depth))) ts) → T (formed_terms (suc (suc (suc depth))) us) → terms_width ts ≤ v → terms_width us ≤ w →
      T (numbereds (fills σ ts)) → T (numbereds (fills τ us)) → T (agree_at depth p x line starts q y others) ↔ (fills σ ts ≡ fills τ us)
  arguments_agree {x} {y} t u r s a b ft fu ht hu nt nu =
      let i : Stands p x (put_tree (tree_arguments t) r) = rw put_arguments_lem at a in
      let j : Stands q y (put_tree (tree_arguments u) s) = rw put_arguments_lem at b in
      let cu = clean_arguments u in
      let wt = within_arguments v (suc (suc (suc depth))) t ft ht in
      let wu = within_arguments w (suc (suc (suc depth))) u fu hu in (
        λ h. let k = agree_from depth line starts others σ τ v w entry entry' (tree_arguments t) (tree_arguments u) r s i j (clean_arguments t) cu wt wu h in
            (arguments_unique (fills σ t) (fills τ u) k.0 k.1 nt nu (rw (put_arguments_lem (fills σ t) _, put_arguments_lem (fills τ u) _, ← tree_arguments_lem σ t, ← tree_arguments_lem τ u) k.2)).0,
        λ e. agree_to depth line starts others σ τ v w entry entry' (tree_arguments t) (tree_arguments u) r s i j (clean_arguments t) cu wt wu (tree_arguments_lem σ t ∙ ap tree_arguments e ∙ sym (tree_arguments_lem τ u)),
      )

  pub bracketed_agree : {x y : ℕ} (o o' : Term) (a b : Part) (r s : List ℕ) → Stands p x (put_bracketed a r) → Stands q y (put_bracketed b s) → T (formed_part (suc (suc depth)) a) → T (formed_part (suc (suc depth)) b) → terms_width (part_terms a) ≤ v → terms_width (part_terms b) ≤ w →
      T (atom_over formed_number formed_symbol (arrows o (only (fill_part σ a)))) → T (atom_over formed_number formed_symbol (arrows o' (only (fill_part τ b)))) → T (agree_at depth p x line starts q y others) ↔ (fill_part σ a ≡ fill_part τ b)
  bracketed_agree {x} {y} o o' t u r s a b ft fu ht hu nt nu =
      let i : Stands p x (put_tree (tree_bracketed t) r) = rw put_bracketed_lem at a in
      let j : Stands q y (put_tree (tree_bracketed u) s) = rw put_bracketed_lem at b in
      let cu = clean_bracketed u in
      let wt = within_bracketed v (suc (suc depth)) t ft ht in
      let wu = within_bracketed w (suc (suc depth)) u fu hu in (
        λ h. let k = agree_from depth line starts others σ τ v w entry entry' (tree_bracketed t) (tree_bracketed u) r s i j (clean_bracketed t) cu wt wu h in
            bracketed_bytes o o' (fill_part σ t) (fill_part τ u) k.0 k.1 nt nu (rw (put_bracketed_lem (fill_part σ t) _, put_bracketed_lem (fill_part τ u) _, ← tree_bracketed_lem σ t, ← tree_bracketed_lem τ u) k.2),
        λ e. agree_to depth line starts others σ τ v w entry entry' (tree_bracketed t) (tree_bracketed u) r s i j (clean_bracketed t) cu wt wu (tree_bracketed_lem σ t ∙ ap tree_bracketed e ∙ sym (tree_bracketed_lem τ u)),
      )

  pub atoms_agree : {x y : ℕ} (a b : Atom) (r s : List ℕ) → Stands p x (put_atom a r) → Stands q y (put_atom b s) → T (formed_atom (suc depth) a) → T (formed_atom (suc depth) b) → terms_width (terms_of a) ≤ v → terms_width (terms_of b) ≤ w →
      T (atom_over formed_number formed_symbol (fill_atom σ a)) → T (atom_over formed_number formed_symbol (fill_atom τ b)) → T (agree_at depth p x line starts q y others) ↔ (fill_atom σ a ≡ fill_atom τ b)
  atoms_agree {x} {y} t u r s a b ft fu ht hu nt nu =
      let i : Stands p x (put_tree (tree_atom t) r) = rw put_atom_lem at a in
      let j : Stands q y (put_tree (tree_atom u) s) = rw put_atom_lem at b in
      let cu = clean_atom u in
      let wt = within_atom v (suc depth) t ft ht in
      let wu = within_atom w (suc depth) u fu hu in (
        λ h. let k = agree_from depth line starts others σ τ v w entry entry' (tree_atom t) (tree_atom u) r s i j (clean_atom t) cu wt wu h in
            atom_bytes (fill_atom σ t) (fill_atom τ u) k.0 k.1 nt nu (rw (put_atom_lem (fill_atom σ t) _, put_atom_lem (fill_atom τ u) _, ← tree_atom_lem σ t, ← tree_atom_lem τ u) k.2),
        λ e. agree_to depth line starts others σ τ v w entry entry' (tree_atom t) (tree_atom u) r s i j (clean_atom t) cu wt wu (tree_atom_lem σ t ∙ ap tree_atom e ∙ sym (tree_atom_lem τ u)),
      )
