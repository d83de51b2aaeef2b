-- The literals of a parent: where they stand, and what the rule table takes of them.
use Prim.Native.Nat.{ℕ, zero, suc, ◌+◌, ◌-◌, ◌≤◌}
use mathlib.Core.Bool.{Bool, true, false, cond, true≢false}
use mathlib.Core.List.{List, [], ◌∷◌}
use mathlib.Core.Path.{◌≡◌, refl, sym, ap, subst, ◌∙◌}
use native.Mathlib.Omega.{arith}
use borrow.Author.Tests.{ne_eqb, eq-eqb}
use lib.Dec.{T, eqb, eqb→eq}
use lib.ListN.{length, drop, length-drop}
use Rattle.logic.specs.Syntax.{Literal, lit, Clause}
use Rattle.logic.specs.Each.{width}
use Rattle.logic.specs.Fill.{Substitution, fill_literal, fill_clause}
use Rattle.logic.specs.Judge.{Conclusion, misshapen, on_at}
use Rattle.logic.proofs.Both.{left, right, both}
use Rattle.text.specs.Words.{bytes}
use Rattle.text.specs.Write.{word, put_literal, put_literals, put_clause}
use Rattle.text.specs.Figures.{few_parts, few_parts_all}
use Rattle.text.specs.Form.{formed_literal, formed_clause}
use Rattle.text.specs.Read.{Parsed, bad, got}
use Rattle.text.specs.Access.{to_item, skip_item}
use Rattle.text.proofs.Heads.{strip_same}
use Rattle.text.proofs.Nesting.{put_each, from_item, clause_item, skip_literal, how_many, how_many_lem}
use Rattle.text.proofs.Positions.{item_tail}
use Rattle.clauses.proofs.Places.{strip_at}
use Rattle.filling.proofs.Claims.{others_at}
use Rattle.clauses.proofs.Placing.{Stands, walk_stands, walk_past, strip_stands}
use Rattle.filling.proofs.Claimed.{without_from, others_claimed}
use Rattle.rules.proofs.Meets.{Images, LiteralAt}
use Rattle.clauses.proofs.Places.{place_at}

module _ (depth : ℕ) where
  -- A part of the text that begins with a clause, formed, its molecules with few parts.
  pub record PartOf (p : List ℕ) (c : Clause) : Type 0 where
    pub rest : List ℕ
    pub written : p ≡ put_clause c rest
    pub formed : T (formed_clause depth c)
    pub few : T (few_parts_all c)

-- The literal at a position has few parts.
few_at : (n : ℕ) (c : Clause) {l : Literal} {cs : Clause} → drop n c ≡ l ∷ cs → T (few_parts_all c) → T (few_parts_all (l ∷ []))
unfolding few_parts_all
few_at zero [] e h = cc
few_at (suc n) [] e h = cc
few_at zero (lit g x ∷ c) e h = subst first_few e (both (few_parts x) true (left (few_parts x) (few_parts_all c) h) tt)
  where
    first_few : Clause → Type 0
    first_few [] = Unit
    first_few (l ∷ cs) = T (few_parts_all (l ∷ []))
few_at (suc n) (lit g x ∷ c) e h = few_at n c e (right (few_parts x) (few_parts_all c) h)

-- Without literal n: what "the other literals" are.
abbrev pub without : ℕ → Clause → Clause
without n c = without_from 0 n c

-- Counting from one further on is the same.
eqb_suc : (n d : ℕ) → eqb (suc n) (suc d) ≡ eqb n d
eqb_suc n d = go (eqb n d) refl
  where
    go : (b : Bool) → eqb n d ≡ b → eqb (suc n) (suc d) ≡ b
    go true e = eq-eqb (suc n) (suc d) (ap suc (eqb→eq n d (rw e tt)))
    go false e = ne_eqb (suc n) (suc d) (λ h. true≢false (sym (eq-eqb n d (omega arith)) ∙ e))

without_shift : (n d : ℕ) (c : Clause) → without_from (suc n) (suc d) c ≡ without_from n d c
unfolding without_from
without_shift n d [] = refl
without_shift n d (l ∷ c) =
    let e : suc n + 1 ≡ suc (n + 1) = omega arith in
    rw (e, eqb_suc n d, without_shift (n + 1) d c)

without_past : (n : ℕ) (c : Clause) → without_from (suc n) 0 c ≡ c
unfolding without_from
without_past n [] = refl
without_past n (l ∷ c) =
    let e : suc n + 1 ≡ suc (n + 1) = omega arith in
    rw (ne_eqb (suc n) 0 (omega arith), e, without_past (n + 1) c)

-- What the rule table takes at a position: the literal there and the others, or nothing.
pub at_here : (i : ℕ) (c : Clause) (f : Literal → Clause → Conclusion) {l : Literal} {cs : Clause} → drop i c ≡ l ∷ cs → on_at i c f ≡ f l (without i c)
unfolding on_at without_from
at_here zero [] f e = cc
at_here (suc i) [] f e = cc
at_here zero (m ∷ c) f e = rw (without_past 0 c) (ap (λ x. f (first_or m x) c) e)
  where
    first_or : Literal → Clause → Literal
    first_or d [] = d
    first_or d (k ∷ ks) = k
at_here (suc i) (m ∷ c) f e = rw (ne_eqb 0 (suc i) (omega arith), without_shift 0 i c) (at_here i c (λ l r. f l (m ∷ r)) e)

pub at_none : (i : ℕ) (c : Clause) (f : Literal → Clause → Conclusion) → drop i c ≡ [] → on_at i c f ≡ misshapen
unfolding on_at
at_none zero [] f e = refl
at_none (suc i) [] f e = refl
at_none zero (m ∷ c) f e = cc
at_none (suc i) (m ∷ c) f e = at_none i c (λ l r. f l (m ∷ r)) e

-- The same in a clause that is filled.
drop_filled : (σ : Substitution) (i : ℕ) (c : Clause) → drop i (fill_clause σ c) ≡ fill_clause σ (drop i c)
unfolding fill_clause
drop_filled σ zero c = refl
drop_filled σ (suc i) [] = refl
drop_filled σ (suc i) (l ∷ c) = drop_filled σ i c

without_filled : (σ : Substitution) (n d : ℕ) (c : Clause) → without_from n d (fill_clause σ c) ≡ fill_clause σ (without_from n d c)
unfolding fill_clause without_from
without_filled σ n d [] = refl
without_filled σ n d (l ∷ c) = go (eqb n d) (without_filled σ (n + 1) d c)
  where
    go : (b : Bool) → without_from (n + 1) d (fill_clause σ c) ≡ fill_clause σ (without_from (n + 1) d c) → cond b (without_from (n + 1) d (fill_clause σ c)) (fill_literal σ l ∷ without_from (n + 1) d (fill_clause σ c)) ≡ fill_clause σ (cond b (without_from (n + 1) d c) (l ∷ without_from (n + 1) d c))
    go true h = h
    go false h = ap (λ x. fill_literal σ l ∷ x) h

pub at_filled : (σ : Substitution) (i : ℕ) (c : Clause) (f : Literal → Clause → Conclusion) {l : Literal} {cs : Clause} → drop i c ≡ l ∷ cs → on_at i (fill_clause σ c) f ≡ f (fill_literal σ l) (fill_clause σ (without i c))
unfolding fill_clause
at_filled σ i c f {l} e = at_here i (fill_clause σ c) f (drop_filled σ i c ∙ ap (fill_clause σ) e) ∙ ap (f (fill_literal σ l)) (without_filled σ 0 i c)

pub at_none_filled : (σ : Substitution) (i : ℕ) (c : Clause) (f : Literal → Clause → Conclusion) → drop i c ≡ [] → on_at i (fill_clause σ c) f ≡ misshapen
unfolding fill_clause
at_none_filled σ i c f e = at_none i (fill_clause σ c) f (drop_filled σ i c ∙ ap (fill_clause σ) e)

module _ (depth : ℕ) where
  -- Each literal is formed and no wider than the clause.
  unfoldable FirstFits : ℕ → Clause → Type 0
  FirstFits w [] = Unit
  FirstFits w (l ∷ c) = T (formed_literal depth l) × (width (l ∷ []) ≤ w)

  each_fits : (w n : ℕ) (c : Clause) → T (formed_clause depth c) → width c ≤ w → FirstFits w (drop n c)
  unfolding FirstFits formed_clause width
  each_fits w zero [] f h = tt
  each_fits w (suc n) [] f h = tt
  each_fits w zero (lit g x ∷ c) f h = (left (formed_literal depth (lit g x)) (formed_clause depth c) f, omega arith)
  each_fits w (suc n) (lit g x ∷ c) f h = each_fits w n c (right (formed_literal depth (lit g x)) (formed_clause depth c) f) (omega arith)

  literal_fits : (n : ℕ) (c : Clause) {l : Literal} {cs : Clause} → drop n c ≡ l ∷ cs → T (formed_clause depth c) → T (formed_literal depth l) × (width (l ∷ []) ≤ width c)
  unfolding FirstFits
  literal_fits n c e f = subst (FirstFits (width c)) e (each_fits (width c) n c f (omega arith))

  -- The literals of a clause, from the place behind "(or".
  module _ {p : List ℕ} where
    literals_stand : (c : Clause) (rest : List ℕ) → p ≡ put_clause c rest → Stands p (strip_at p (bytes "(or") 0) (put_literals c (word ")" rest))
    unfolding put_clause
    literals_stand c rest e = strip_stands p (bytes "(or") {at = 0} (record { within = omega arith; bytes_there = e }) (strip_same (bytes "(or") (put_literals c (word ")" rest)))

    item_stands : (c : Clause) (rest : List ℕ) → p ≡ put_clause c rest → (n : ℕ) {l : Literal} {cs : Clause} → drop n c ≡ l ∷ cs → Stands p (place_at p n) (put_literal l (put_each put_literal cs (word ")" rest)))
    unfolding place_at from_item
    item_stands c rest e n d = walk_stands p (strip_at p (bytes "(or") 0) (item_tail n) (literals_stand c rest e) (clause_item c n rest ∙ ap (λ ls. from_item put_literal ls (word ")" rest)) d)

    -- The place of literal n.
    pub place_here : {c : Clause} → PartOf depth p c → (n : ℕ) {l : Literal} {cs : Clause} → drop n c ≡ l ∷ cs → LiteralAt depth p (place_at p n) (width c) l
    place_here {c} P n {l} {cs} d =
        let w = literal_fits n c d P.formed in
        record {
          rest = put_each put_literal cs (word ")" P.rest);
          stands = item_stands c P.rest P.written n d;
          formed = w.0;
          narrow = w.1;
          few = few_at n c d P.few;
        }

    pub place_past : {c : Clause} → PartOf depth p c → (n : ℕ) → drop n c ≡ [] → place_at p n ≡ length p + 1
    unfolding place_at from_item
    place_past {c} P n d = walk_past p (strip_at p (bytes "(or") 0) (to_item n) (literals_stand c P.rest P.written) (clause_item c n P.rest ∙ ap (λ ls. from_item put_literal ls (word ")" P.rest)) d)

    -- All its literals but one, expected.
    pub part_others : {c : Clause} → PartOf depth p c → {line starts : List ℕ} {σ : Substitution} → Images line starts σ (width c) → (dropped : ℕ) (target : List ℕ) (pos b : ℕ) (x : List ℕ) →
        strip_at target (put_literals (fill_clause σ (without dropped c)) (b ∷ x)) pos ≡ strip_at target (b ∷ x) (others_at depth p (length c) dropped line starts target pos)
    unfolding others_at
    part_others {c} P {line} {starts} {σ} g dropped target pos b x =
        others_claimed depth p line starts target σ (width c) g.entry dropped 0 c P.rest pos b x (literals_stand c P.rest P.written) P.formed (omega arith)

-- Two literals stand at one place exactly if they are one literal: so many literals follow.
unfoldable followed : ℕ → Parsed (Unit {0}) → ℕ
followed most bad = 0
followed most (got u rest) = how_many most rest

module _ (depth : ℕ) where
  following : {p : List ℕ} {c : Clause} → PartOf depth p c → (n most : ℕ) {l : Literal} {cs : Clause} → drop n c ≡ l ∷ cs → length cs ≤ most → followed most (skip_item (drop (place_at p n) p)) ≡ length cs
  unfolding followed
  following {p} {c} P n most {l} {cs} d h =
      let w = item_stands depth c P.rest P.written n d in
      rw (w.bytes_there, skip_literal l (put_each put_literal cs (word ")" P.rest))) (how_many_lem put_literal skip_literal cs most P.rest h)

  pub same_place : {p : List ℕ} {c : Clause} → PartOf depth p c → (i j : ℕ) {l m : Literal} {cs ds : Clause} → drop i c ≡ l ∷ cs → drop j c ≡ m ∷ ds → eqb i j ≡ eqb (place_at p i) (place_at p j)
  same_place {p} {c} P i j {l} {m} {cs} {ds} d e = go (eqb i j) refl
    where
      -- as many literals follow the one as the other
      one_place : place_at p i ≡ place_at p j → i ≡ j
      one_place h =
          let a : length (drop i c) ≡ length c - i = length-drop i c in
          let b : length (drop j c) ≡ length c - j = length-drop j c in
          let f : length (drop i c) ≡ suc (length cs) = ap length d in
          let g : length (drop j c) ≡ suc (length ds) = ap length e in
          let s : length cs ≡ length ds = sym (following P i (length c) d (omega arith)) ∙ (ap (λ z. followed (length c) (skip_item (drop z p))) h ∙ following P j (length c) e (omega arith)) in
          omega arith

      go : (b : Bool) → eqb i j ≡ b → b ≡ eqb (place_at p i) (place_at p j)
      go true h = sym (eq-eqb _ _ (ap (place_at p) (eqb→eq i j (rw h tt))))
      go false h = sym (ne_eqb _ _ (λ q. true≢false (sym (eq-eqb i j (one_place q)) ∙ h)))
