-- The other literals of a written clause, expected in the line.
use Prim.Native.Nat.{ℕ, zero, suc, ◌+◌, ◌-◌, ◌≤◌}
use mathlib.Core.Bool.{Bool, true, false, cond}
use mathlib.Core.List.{List, [], ◌∷◌, ◌++◌}
use mathlib.Core.Logic.{◌⊎◌, inl, inr}
use mathlib.Core.Path.{◌≡◌, refl, sym, ap, ◌∙◌}
use native.Mathlib.Omega.{arith}
use lib.Dec.{T, eqb}
use lib.ListN.{length, drop, drop_of_length-le}
use Rattle.logic.specs.Syntax.{Literal, lit, Clause}
use Rattle.logic.specs.Each.{width}
use Rattle.logic.specs.Fill.{Substitution, fill_literal, fill_clause}
use Rattle.logic.proofs.Both.{left, right}
use Rattle.text.specs.Words.{bytes}
use Rattle.text.specs.Write.{word, put_literal, put_literals}
use Rattle.text.specs.Form.{formed_literal, formed_clause}
use Rattle.text.specs.Read.{Parsed, bad, got, and_then, strip}
use Rattle.text.proofs.Places.{end_of}
use Rattle.text.specs.Access.{skip_item}
use Rattle.text.proofs.Positions.{strip_tail, then_end}
use Rattle.text.proofs.Plain.{in_front, literal_plain}
use Rattle.text.proofs.Nesting.{skip_literal}
use Rattle.text.proofs.Heads.{strip_same}
use Rattle.filling.proofs.Places.{Ends}
use Rattle.filling.specs.Filled.{matches, item_depth}
use Rattle.filling.proofs.Places.{filled_by, ends_of}
use Rattle.clauses.proofs.Places.{strip_at, skip_at}
use Rattle.filling.proofs.Claims.{kept_at, once_at, others_from}
use Rattle.filling.proofs.Filling.{tree_literal_lem}
use Rattle.filling.proofs.Walk.{strip_append}
use Rattle.filling.proofs.Grounds.{Entries, filled_by_lem, empty_by}
use Rattle.text.proofs.Trees.{tree_literal, put_literal_lem, clean_literal, within_literal}
use Rattle.clauses.proofs.Placing.{Stands, strip_stands, skip_stands, past_strip, none_past}

pub strip_chain : (line v : List ℕ) (b : ℕ) (w : List ℕ) (pos : ℕ) → strip_at line (v ++ (b ∷ w)) pos ≡ strip_at line (b ∷ w) (strip_at line v pos)
unfolding strip_at strip
strip_chain line v b w pos = ap (end_of line) (strip_append v (b ∷ w) (drop pos line)) ∙ then_end line pos (strip_tail v) (strip (b ∷ w)) refl

-- The place past what matches.
pub match_place : (p line ws rest bs : List ℕ) → (ends_of p line (matches (got ws rest) bs)).pos ≡ end_of line (strip ws bs)
unfolding ends_of matches end_of
match_place p line ws rest bs = go (strip ws bs)
  where
    go : (q : Parsed (Unit {0})) → (ends_of p line (and_then q (λ _ more. got more rest))).pos ≡ end_of line q
    go bad = refl
    go (got u more) = refl

module _ (depth : ℕ) (p line starts : List ℕ) (σ : Substitution) (w : ℕ) (entry : Entries line starts σ w) where
  filled_literal : {at : ℕ} (l : Literal) (rest : List ℕ) → Stands p at (put_literal l rest) → T (formed_literal depth l) → width (l ∷ []) ≤ w →
      filled_by line starts (item_depth depth) (drop at p) ≡ got (put_literal (fill_literal σ l) []) rest
  unfolding formed_literal width
  filled_literal (lit g x) rest s f h =
      rw (s.bytes_there, put_literal_lem (lit g x) rest, put_literal_lem (fill_literal σ (lit g x)) [], ← tree_literal_lem σ (lit g x))
      (filled_by_lem line starts σ w entry (tree_literal (lit g x)) (item_depth depth) (clean_literal (lit g x)) (within_literal w depth g x f (omega arith)) rest)

-- A clause's literals from literal n on, without literal d.
unfoldable pub without_from : ℕ → ℕ → Clause → Clause
without_from n d [] = []
without_from n d (l ∷ c) = cond (eqb n d) (without_from (n + 1) d c) (l ∷ without_from (n + 1) d c)

-- A literal is written from an open bracket on.
literal_opens : (l : Literal) (rest : List ℕ) → (more : List ℕ) × (put_literal l rest ≡ 40 ∷ more)
unfolding put_literal
literal_opens (lit g x) rest = (_, refl)

-- A literal after a space, and what follows it.
pub spaced_literal : (line : List ℕ) (l : Literal) (pos b : ℕ) (x : List ℕ) → strip_at line (32 ∷ put_literal l (b ∷ x)) pos ≡ strip_at line (b ∷ x) (strip_at line (put_literal l []) (strip_at line (bytes " ") pos))
spaced_literal line l pos b x =
    let o = literal_opens l [] in
    ap (λ ws. strip_at line (32 ∷ ws) pos) (in_front (literal_plain l) (b ∷ x))
    ∙ (strip_chain line (32 ∷ put_literal l []) b x pos
    ∙ ap (strip_at line (b ∷ x)) (ap (λ ws. strip_at line (32 ∷ ws) pos) o.1 ∙ (strip_chain line (32 ∷ []) 40 o.0 pos ∙ ap (λ ws. strip_at line ws (strip_at line (32 ∷ []) pos)) (sym o.1))))

pub literals_open : (c : Clause) (b : ℕ) (x : List ℕ) → (d : ℕ) × (y : List ℕ) × (put_literals c (b ∷ x) ≡ d ∷ y)
unfolding put_literals
literals_open [] b x = (b, x, refl)
literals_open (l ∷ c) b x = (_, _, refl)

width_parts : (l : Literal) (c : Clause) (w : ℕ) → width (l ∷ c) ≤ w → (width (l ∷ []) ≤ w) × (width c ≤ w)
unfolding width
width_parts (lit g x) c w h = (omega arith, omega arith)

module _ (depth : ℕ) (p line starts target : List ℕ) (σ : Substitution) (w : ℕ) (entry : Entries line starts σ w) where
  -- From past the ends, nothing is found.
  lost_kept : kept_at depth p (length p + 1) line starts target (length target + 1) ≡ record { at = length p + 1; pos = length target + 1 }
  unfolding kept_at ends_of matches
  lost_kept = rw (drop_of_length-le p {i = length p + 1} (omega arith), empty_by line starts (item_depth depth))

  lost_others : (dropped k n : ℕ) → others_from depth p dropped line starts target k n (length p + 1) (length target + 1) ≡ length target + 1
  unfolding others_from once_at skip_at skip_item strip
  lost_others dropped zero n = refl
  lost_others dropped (suc k) n = rw (past_strip p 32 []) (go (eqb n dropped) (lost_others dropped k (n + 1)))
    where
      go : (e : Bool) → others_from depth p dropped line starts target k (n + 1) (length p + 1) (length target + 1) ≡ length target + 1 →
          others_from depth p dropped line starts target k (n + 1) (once_at depth p (length p + 1) e line starts target (length target + 1)).at (once_at depth p (length p + 1) e line starts target (length target + 1)).pos ≡ length target + 1
      go true h = rw (none_past p skip_item refl) h
      go false h = rw lost_kept h

  -- A literal kept: past it in the line, and, if it stands there, past it in p.
  module _ {at : ℕ} (l : Literal) (rest : List ℕ) (pos : ℕ) (s : Stands p at (put_literal l rest)) (f : T (formed_literal depth l)) (h : width (l ∷ []) ≤ w) where
    kept_ends : kept_at depth p at line starts target pos ≡ ends_of p target (matches (got (put_literal (fill_literal σ l) []) rest) (drop (strip_at target (bytes " ") pos) target))
    unfolding kept_at
    kept_ends = ap (λ q. ends_of p target (matches q (drop (strip_at target (bytes " ") pos) target))) (filled_literal depth p line starts σ w entry l rest s f h)

    kept_place : (kept_at depth p at line starts target pos).pos ≡ strip_at target (put_literal (fill_literal σ l) []) (strip_at target (bytes " ") pos)
    unfolding strip_at
    kept_place = ap (λ (e : Ends). e.pos) kept_ends ∙ match_place p target (put_literal (fill_literal σ l) []) rest (drop (strip_at target (bytes " ") pos) target)

    past_it : Stands p (length p - length rest) rest
    unfolding skip_at end_of
    past_it = let t = skip_stands p s (skip_literal l rest) in rw (s.bytes_there, skip_literal l rest) at t

    kept_on : Stands p (kept_at depth p at line starts target pos).at rest ⊎ (kept_at depth p at line starts target pos ≡ record { at = length p + 1; pos = length target + 1 })
    unfolding matches ends_of
    kept_on = rw kept_ends (go (strip (put_literal (fill_literal σ l) []) (drop (strip_at target (bytes " ") pos) target)))
      where
        go : (q : Parsed (Unit {0})) → Stands p (ends_of p target (and_then q (λ _ left. got left rest))).at rest ⊎ (ends_of p target (and_then q (λ _ left. got left rest)) ≡ record { at = length p + 1; pos = length target + 1 })
        go bad = inr refl
        go (got u left) = inl past_it

  -- What follows a literal, from a place in p where it stands, or from past the ends.
  module _ (dropped n : ℕ) (c : Clause) (rest : List ℕ) (b : ℕ) (x : List ℕ)
      (others : (at pos : ℕ) → Stands p at (put_literals c (word ")" rest)) → strip_at target (put_literals (fill_clause σ (without_from n dropped c)) (b ∷ x)) pos ≡ strip_at target (b ∷ x) (others_from depth p dropped line starts target (length c) n at pos)) where
    on : (e : Ends) → Stands p e.at (put_literals c (word ")" rest)) ⊎ (e ≡ record { at = length p + 1; pos = length target + 1 }) →
        strip_at target (put_literals (fill_clause σ (without_from n dropped c)) (b ∷ x)) e.pos ≡ strip_at target (b ∷ x) (others_from depth p dropped line starts target (length c) n e.at e.pos)
    on e (inl t) = others e.at e.pos t
    on e (inr z) =
        let o = literals_open (fill_clause σ (without_from n dropped c)) b x in
        rw (z, o.2, lost_others dropped (length c) n, past_strip target o.0 o.1, past_strip target b x)

    -- One literal, dropped or kept, and those after it.
    one_more : {begin : ℕ} (l : Literal) (pos : ℕ) → Stands p begin (put_literal l (put_literals c (word ")" rest))) → T (formed_literal depth l) → width (l ∷ []) ≤ w → (e : Bool) →
        strip_at target (put_literals (fill_clause σ (cond e (without_from n dropped c) (l ∷ without_from n dropped c))) (b ∷ x)) pos ≡
        strip_at target (b ∷ x) (others_from depth p dropped line starts target (length c) n (once_at depth p begin e line starts target pos).at (once_at depth p begin e line starts target pos).pos)
    unfolding put_literals fill_clause once_at
    one_more l pos s f h true = others _ pos (skip_stands p s (skip_literal l (put_literals c (word ")" rest))))
    one_more {begin} l pos s f h false =
        let o = literals_open (fill_clause σ (without_from n dropped c)) b x in
        ap (λ z. strip_at target (32 ∷ put_literal (fill_literal σ l) z) pos) o.2
        ∙ (spaced_literal target (fill_literal σ l) pos o.0 o.1
        ∙ (ap (strip_at target (o.0 ∷ o.1)) (sym (kept_place l (put_literals c (word ")" rest)) pos s f h))
        ∙ (ap (λ z. strip_at target z (kept_at depth p begin line starts target pos).pos) (sym o.2) ∙ on (kept_at depth p begin line starts target pos) (kept_on l (put_literals c (word ")" rest)) pos s f h))))

  pub others_claimed : (dropped : ℕ) {at : ℕ} (n : ℕ) (c : Clause) (rest : List ℕ) (pos b : ℕ) (x : List ℕ) → Stands p at (put_literals c (word ")" rest)) → T (formed_clause depth c) → width c ≤ w →
      strip_at target (put_literals (fill_clause σ (without_from n dropped c)) (b ∷ x)) pos ≡ strip_at target (b ∷ x) (others_from depth p dropped line starts target (length c) n at pos)
  unfolding put_literals fill_clause without_from others_from formed_clause width
  others_claimed dropped n [] rest pos b x s f h = refl
  others_claimed dropped n (l ∷ c) rest pos b x s f h =
      let f₂ = right (formed_literal depth l) (formed_clause depth c) f in
      one_more dropped (n + 1) c rest b x (λ at pos t. others_claimed dropped (n + 1) c rest pos b x t f₂ (width_parts l c w h).1)
      l pos (strip_stands p (bytes " ") s (strip_same (bytes " ") (put_literal l (put_literals c (word ")" rest))))) (left (formed_literal depth l) (formed_clause depth c) f) (width_parts l c w h).0 (eqb n dropped)
