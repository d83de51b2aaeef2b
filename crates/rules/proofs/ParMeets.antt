-- The rule par in bytes says what the rule table says.
use Prim.Native.Nat.{ℕ, ◌+◌, ◌-◌}
use mathlib.Core.Bool.{true}
use mathlib.Core.List.{List, [], ◌∷◌}
use mathlib.Core.Logic.{inl, inr}
use mathlib.Core.Path.{refl, sym, subst}
use native.Mathlib.Omega.{arith}
use lib.Dec.{eqb}
use lib.ListN.{length, drop}
use Rattle.logic.specs.declared.Link.TheVariants.{Eq}
use Rattle.logic.specs.declared.Rule.TheVariants.{Par}
use Rattle.logic.specs.Syntax.{Term, Literal, lit}
use Rattle.logic.specs.Each.{width}
use Rattle.logic.specs.Fill.{Substitution, fill, fill_literal}
use Rattle.logic.specs.Occurrence.{Search}
use Rattle.logic.specs.Rules.{equal, one}
use Rattle.logic.specs.Judge.{concludes, on_found, conclude_par}
use Rattle.text.specs.Words.{bytes}
use Rattle.text.specs.Form.{formed_literal}
use Rattle.text.proofs.Places.{end_of}
use Rattle.text.specs.Access.{begins_term, seek, to_occurrence}
use Rattle.text.proofs.Gives.{Gives, nothing, gives, weaken}
use Rattle.text.proofs.Positions.{Tail, End, end_refl, end_cons, strip_tail, and_tail}
use Rattle.text.proofs.Tests.{on_test}
use Rattle.filling.specs.Filled.{item_depth, hole_depth}
use Rattle.filling.proofs.Places.{replacing}
use Rattle.clauses.proofs.Places.{next_at, first_at}
use Rattle.logic.specs.Occurrence.{find_literal}
use Rattle.filling.proofs.LineLists.{stack_sum}
use Rattle.filling.proofs.Occurring.{Occurs, nowhere, somewhere, occurs}
use Rattle.clauses.proofs.Placing.{walk_stands, walk_past}
use Rattle.rules.proofs.TermsMeet.{TermAt}
use Rattle.rules.proofs.RowsMeet.{LinkView, no_link, a_link, on_link_of, link_view}
use Rattle.rules.proofs.Rewrites.{rewrite_at, rewrite_new_at, Rewritten, not_rewritten, filler_entry, side_new, filler_hole, rewritten}
use Rattle.rules.proofs.Meets.{Images, LiteralAt, Meets}
use Rattle.rules.proofs.RowPlaces.{row_at, found_by, replaced, agrees_by, target_place}
use Rattle.rules.proofs.ClaimPlaces.{new_at, new_by}

-- The way to an occurrence ends within the bytes.
seek_tail : (k n : ℕ) → Tail (seek k n)
unfolding seek
seek_tail k n = record { tail = λ bs. go bs k n }
  where
    go : (bs : List ℕ) (k n : ℕ) → Gives (λ _ rest. End bs rest) (seek k n bs)
    go [] k n = nothing
    go (b ∷ bs) k n =
        let on : (k n : ℕ) → Gives (λ _ rest. End (b ∷ bs) rest) (seek k n bs) = λ k n. weaken (go bs k n) (λ _ rest e. end_cons b e) in
        on_test (Gives _) (eqb b 40)
        (λ _. on_test (Gives _) (begins_term (b ∷ bs)) (λ _. on_test (Gives _) (eqb k 0) (λ _. gives (end_refl (b ∷ bs))) (λ _. on (k - 1) (n + 1))) (λ _. on k (n + 1)))
        (λ _. on_test (Gives _) (eqb b 41) (λ _. on_test (Gives _) (eqb n 0) (λ _. nothing) (λ _. on k (n - 1))) (λ _. on k n))

pub occurrence_tail : (k : ℕ) → Tail (to_occurrence k)
unfolding to_occurrence
occurrence_tail k = and_tail (strip_tail (bytes "(")) (seek_tail k 0)

module _ (depth : ℕ) where
  module _ (p line starts q others : List ℕ) (σ τ : Substitution) (v w : ℕ) (images : Images line starts σ v) (images' : Images line others τ w) where
    -- What the search finds, and the link.
    searched : (i y k : ℕ) (l : Literal) (a : LiteralAt depth p i v l) (b c : Term) → TermAt depth q y w b → TermAt depth q (next_at q y) w c → {s : Search Literal} →
        Occurs (replacing line starts (length p - end_of p (to_occurrence k (drop i p))) q (next_at q y) others) σ v depth (hole_depth depth) k l a.rest s →
        Rewritten depth p i (end_of p (to_occurrence k (drop i p))) line starts q y true others (on_found s (λ s l'. concludes (equal (one s) (one (fill τ b))) (l' ∷ [])))
    unfolding on_found
    searched i y k l a b c at_b at_c (nowhere j e) =
        let x = end_of p (to_occurrence k (drop i p)) in
        not_rewritten depth p i x line starts q y true others (inl (walk_past p i (to_occurrence k) a.stands e)) refl
    searched i y k l a b c at_b at_c (somewhere {l'} t left e small o h) =
        let stands = walk_stands p i (occurrence_tail k) a.stands o in
        rw e (rewritten depth p line starts q others σ τ v w images images' true t b c l l' a.rest (record { rest = left; stands = stands; formed = small.0; narrow = small.1 }) at_b at_c a.stands
        (h (filler_hole depth p line starts q others σ τ v w images images' (next_at q y) stands)))

    by_eq : (i y k : ℕ) (l m : Literal) → LiteralAt depth p i v l → LinkView depth q y τ w (on_link_of τ Eq m) → Rewritten depth p i (end_of p (to_occurrence k (drop i p))) line starts q y true others (conclude_par σ k l (fill_literal τ m))
    unfolding conclude_par formed_literal width
    by_eq i y k l m a (no_link e d) = not_rewritten depth p i (end_of p (to_occurrence k (drop i p))) line starts q y true others (inr e) (d _)
    by_eq i y k (lit g z) m a (a_link b c at_b at_c d) =
        let x = end_of p (to_occurrence k (drop i p)) in
        let f = replacing line starts (length p - x) q (next_at q y) others in
        subst (Rewritten depth p i x line starts q y true others) (sym (d _)) (searched i y k (lit g z) a b c at_b at_c
        (subst (λ (n : ℕ). Occurs f σ v depth n k (lit g z) a.rest (find_literal σ (fill τ c) (lit g z) k)) (stack_sum depth (item_depth depth)) (occurs f σ v depth depth (filler_entry depth p line starts q others σ τ v w images images' x (next_at q y)) (fill τ c) (side_new depth p line starts q others σ τ v w images images' true x b c at_b at_c) g z a.formed (omega (arith, a.narrow)) k a.rest)))

    pub par_meets : (i j k : ℕ) (l m : Literal) → LiteralAt depth p i v l → LiteralAt depth q j w m → Meets depth Par k p i line starts q j others (conclude_par σ k l (fill_literal τ m))
    unfolding row_at found_by replaced agrees_by target_place new_at new_by rewrite_at rewrite_new_at
    par_meets i j k l m a b = let r = by_eq i (first_at q (bytes "(eq ") j) k l m a (link_view depth q j w τ Eq m b) in record { judged = r.judged; claimed = r.claimed }
