-- Filling twice is filling once, and filling commutes with what the rules do.
use Prim.Native.Nat.{ℕ, zero, suc, ◌+◌}
use mathlib.Core.Bool.{Bool, true, false}
use mathlib.Core.List.{[], ◌∷◌, ◌++◌}
use mathlib.Core.Path.{◌≡◌, refl, ap, ap₂, ◌∙◌}
use native.Mathlib.Omega.{arith}
use Rattle.logic.specs.Syntax.{Term, var, app, Terms, nil, cons, Result, value, none, may_be_none}
use Rattle.logic.specs.Syntax.{Part, part, arrow_of, Parts, only, also, Atom, link, obj, arrows, Literal, lit, Clause}
use Rattle.logic.specs.Terms.{count, nth, entry_or, join, result_terms, part_terms, parts_terms, terms_of, front, rest}
use Rattle.logic.specs.Terms.{with_result, with_part_terms, with_parts_terms, with_terms}
use Rattle.logic.specs.Fill.{Substitution, fill, fills, fill_result, fill_part, fill_parts, fill_atom, fill_literal, fill_clause}
use Rattle.logic.specs.Rules.{bare_result, bare_part, bare}

-- First σ, then γ.
unfoldable pub compose : Substitution → Substitution → Substitution
compose γ σ n = fill γ (σ n)

module _ (γ σ : Substitution) where
  mutual
    unfolding fill compose

    pub fill_fill : (t : Term) → fill γ (fill σ t) ≡ fill (compose γ σ) t
    fill_fill (var n) = refl
    fill_fill (app f ts) = ap (app f) (fills_fills ts)

    pub fills_fills : (ts : Terms) → fills γ (fills σ ts) ≡ fills (compose γ σ) ts
    fills_fills nil = refl
    fills_fills (cons t ts) = ap₂ cons (fill_fill t) (fills_fills ts)

  result_fill : (r : Result) → fill_result γ (fill_result σ r) ≡ fill_result (compose γ σ) r
  unfolding fill_result
  result_fill (value t) = ap value (fill_fill t)
  result_fill none = refl

  part_fill : (p : Part) → fill_part γ (fill_part σ p) ≡ fill_part (compose γ σ) p
  unfolding fill_part
  part_fill (part a m ts r) = rw (fill_fill m, fills_fills ts, result_fill r)

  parts_fill : (ps : Parts) → fill_parts γ (fill_parts σ ps) ≡ fill_parts (compose γ σ) ps
  unfolding fill_parts
  parts_fill (only p) = ap only (part_fill p)
  parts_fill (also p ps) = ap₂ also (part_fill p) (parts_fill ps)

  pub atom_fill : (x : Atom) → fill_atom γ (fill_atom σ x) ≡ fill_atom (compose γ σ) x
  unfolding fill_atom
  atom_fill (link l t u) = ap₂ (link l) (fill_fill t) (fill_fill u)
  atom_fill (obj t) = ap obj (fill_fill t)
  atom_fill (arrows o ps) = ap₂ arrows (fill_fill o) (parts_fill ps)

  literal_fill : (l : Literal) → fill_literal γ (fill_literal σ l) ≡ fill_literal (compose γ σ) l
  unfolding fill_literal
  literal_fill (lit g x) = ap (lit g) (atom_fill x)

  pub clause_fill : (c : Clause) → fill_clause γ (fill_clause σ c) ≡ fill_clause (compose γ σ) c
  unfolding fill_clause
  clause_fill [] = refl
  clause_fill (l ∷ c) = ap₂ ◌∷◌ (literal_fill l) (clause_fill c)

module _ (γ : Substitution) where
  pub clause_append : (c d : Clause) → fill_clause γ (c ++ d) ≡ fill_clause γ c ++ fill_clause γ d
  unfolding fill_clause
  clause_append [] d = refl
  clause_append (l ∷ c) d = ap (λ e. fill_literal γ l ∷ e) (clause_append c d)

  pub count_fill : (ts : Terms) → count (fills γ ts) ≡ count ts
  unfolding count fill
  count_fill nil = refl
  count_fill (cons t ts) = ap suc (count_fill ts)

  join_fill : (ts us : Terms) → fills γ (join ts us) ≡ join (fills γ ts) (fills γ us)
  unfolding join fill
  join_fill nil us = refl
  join_fill (cons t ts) us = ap (cons (fill γ t)) (join_fill ts us)

  result_terms_lem : (r : Result) → fills γ (result_terms r) ≡ result_terms (fill_result γ r)
  unfolding result_terms fill_result fill
  result_terms_lem (value t) = refl
  result_terms_lem none = refl

  pub arrow_fill : (p : Part) → arrow_of (fill_part γ p) ≡ arrow_of p
  unfolding fill_part
  arrow_fill (part a m ts r) = refl

  pub part_terms_lem : (p : Part) → fills γ (part_terms p) ≡ part_terms (fill_part γ p)
  unfolding part_terms fill_part fill
  part_terms_lem (part a m ts r) = ap (cons (fill γ m)) (join_fill ts (result_terms r) ∙ ap (join (fills γ ts)) (result_terms_lem r))

  pub parts_terms_lem : (ps : Parts) → fills γ (parts_terms ps) ≡ parts_terms (fill_parts γ ps)
  unfolding parts_terms fill_parts
  parts_terms_lem (only p) = part_terms_lem p
  parts_terms_lem (also p ps) = join_fill (part_terms p) (parts_terms ps) ∙ ap₂ join (part_terms_lem p) (parts_terms_lem ps)

  part_count : (p : Part) → count (part_terms (fill_part γ p)) ≡ count (part_terms p)
  part_count p = rw (← part_terms_lem p) (count_fill (part_terms p))

  pub terms_fill : (x : Atom) → fills γ (terms_of x) ≡ terms_of (fill_atom γ x)
  unfolding terms_of fill_atom fill
  terms_fill (link l t u) = refl
  terms_fill (obj t) = refl
  terms_fill (arrows o ps) = ap (cons (fill γ o)) (parts_terms_lem ps)

  nth_fill : (ts : Terms) (n : ℕ) → fill γ (nth ts n) ≡ nth (fills γ ts) n
  unfolding nth entry_or fill
  nth_fill nil n = refl
  nth_fill (cons t ts) zero = refl
  nth_fill (cons t ts) (suc n) = nth_fill ts n

  pub front_fill : (n : ℕ) (ts : Terms) → fills γ (front n ts) ≡ front n (fills γ ts)
  unfolding front fill
  front_fill zero ts = refl
  front_fill (suc n) nil = refl
  front_fill (suc n) (cons t ts) = ap (cons (fill γ t)) (front_fill n ts)

  rest_fill : (n : ℕ) (ts : Terms) → fills γ (rest n ts) ≡ rest n (fills γ ts)
  unfolding rest fill
  rest_fill zero ts = refl
  rest_fill (suc n) nil = refl
  rest_fill (suc n) (cons t ts) = rest_fill n ts

  with_result_fill : (r : Result) (us : Terms) → fill_result γ (with_result r us) ≡ with_result (fill_result γ r) (fills γ us)
  unfolding with_result fill_result
  with_result_fill (value t) us = ap value (nth_fill us 0)
  with_result_fill none us = refl

  -- Filling a part, an atom with other terms in place.
  with_part_fill : (p : Part) (us : Terms) → fill_part γ (with_part_terms p us) ≡ with_part_terms (fill_part γ p) (fills γ us)
  unfolding with_part_terms fill_part
  with_part_fill (part a m ts r) us = simp (nth_fill, front_fill, rest_fill, with_result_fill, count_fill)

  with_parts_fill : (ps : Parts) (us : Terms) → fill_parts γ (with_parts_terms ps us) ≡ with_parts_terms (fill_parts γ ps) (fills γ us)
  unfolding with_parts_terms fill_parts
  with_parts_fill (only p) us = ap only (with_part_fill p us)
  with_parts_fill (also p ps) us = simp (with_part_fill, with_parts_fill ps, part_count, front_fill, rest_fill)

  pub with_fill : (x : Atom) (us : Terms) → fill_atom γ (with_terms x us) ≡ with_terms (fill_atom γ x) (fills γ us)
  unfolding with_terms fill_atom
  with_fill (link l t u) us = ap₂ (link l) (nth_fill us 0) (nth_fill us 1)
  with_fill (obj t) us = ap obj (nth_fill us 0)
  with_fill (arrows o ps) us = simp (nth_fill, rest_fill, with_parts_fill)

  bare_result_fill : (b : Bool) (r : Result) → fill_result γ (bare_result b r) ≡ bare_result b (fill_result γ r)
  unfolding bare_result fill_result
  bare_result_fill true r = refl
  bare_result_fill false r = refl

  pub bare_part_fill : (p : Part) → fill_part γ (bare_part p) ≡ bare_part (fill_part γ p)
  unfolding bare_part fill_part
  bare_part_fill (part a m ts r) = ap (part a (fill γ m) (fills γ ts)) (bare_result_fill (may_be_none a) r)

  pub bare_fill : (x : Atom) → fill_atom γ (bare x) ≡ bare (fill_atom γ x)
  unfolding bare fill_atom fill_parts
  bare_fill (link l t u) = refl
  bare_fill (obj t) = refl
  bare_fill (arrows o (only p)) = ap (λ q. arrows (fill γ o) (only q)) (bare_part_fill p)
  bare_fill (arrows o (also p ps)) = refl

-- Of the atom itself, only its word and its numbers of terms matter to what other terms in place make of it.
module _ (σ : Substitution) where
  result_frame : (r : Result) (us : Terms) → with_result (fill_result σ r) us ≡ with_result r us
  unfolding with_result fill_result
  result_frame (value t) us = refl
  result_frame none us = refl

  pub part_frame : (p : Part) (us : Terms) → with_part_terms (fill_part σ p) us ≡ with_part_terms p us
  unfolding with_part_terms fill_part
  part_frame (part a m ts r) us = simp (count_fill, result_frame)

  pub parts_frame : (ps : Parts) (us : Terms) → with_parts_terms (fill_parts σ ps) us ≡ with_parts_terms ps us
  unfolding with_parts_terms fill_parts
  parts_frame (only p) us = ap only (part_frame p us)
  parts_frame (also p ps) us = simp (part_count σ, part_frame, parts_frame ps)

  pub with_frame : (x : Atom) (us : Terms) → with_terms (fill_atom σ x) us ≡ with_terms x us
  unfolding with_terms fill_atom
  with_frame (link l t u) us = refl
  with_frame (obj t) us = refl
  with_frame (arrows o ps) us = ap (arrows (nth us 0)) (parts_frame ps (rest 1 us))

-- An atom with its own terms in place is itself; an atom with other terms in place has those terms.
pub front_join : (ts us : Terms) → front (count ts) (join ts us) ≡ ts
unfolding front join count
front_join nil us = refl
front_join (cons t ts) us = ap (cons t) (front_join ts us)

pub rest_join : (ts us : Terms) → rest (count ts) (join ts us) ≡ us
unfolding rest join count
rest_join nil us = refl
rest_join (cons t ts) us = rest_join ts us

result_own : (r : Result) → with_result r (result_terms r) ≡ r
unfolding with_result result_terms nth entry_or
result_own (value t) = refl
result_own none = refl

pub part_own : (p : Part) → with_part_terms p (part_terms p) ≡ p
unfolding with_part_terms part_terms nth entry_or rest
part_own (part a m ts r) = rw (front_join ts (result_terms r), rest_join ts (result_terms r), result_own r)

pub parts_own : (ps : Parts) → with_parts_terms ps (parts_terms ps) ≡ ps
unfolding with_parts_terms parts_terms
parts_own (only p) = ap only (part_own p)
parts_own (also p ps) =
    rw (front_join (part_terms p) (parts_terms ps), rest_join (part_terms p) (parts_terms ps), part_own p, parts_own ps)

pub with_own : (x : Atom) → with_terms x (terms_of x) ≡ x
unfolding with_terms terms_of nth entry_or rest
with_own (link l t u) = refl
with_own (obj t) = refl
with_own (arrows o ps) = ap (arrows o) (parts_own ps)

-- As many terms as the atom has.
abbrev pub Fits : Atom → Terms → Type 0
Fits x us = count us ≡ count (terms_of x)

result_has : (r : Result) (us : Terms) → count us ≡ count (result_terms r) → result_terms (with_result r us) ≡ us
unfolding result_terms with_result count nth entry_or
result_has (value t) nil e = absurd (omega arith)
result_has (value t) (cons u nil) e = refl
result_has (value t) (cons u (cons v us)) e = absurd (omega arith)
result_has none nil e = refl
result_has none (cons u us) e = absurd (omega arith)

arguments_have : (ts : Terms) (r : Result) (us : Terms) → count us ≡ count (join ts (result_terms r)) →
    join (front (count ts) us) (result_terms (with_result r (rest (count ts) us))) ≡ us
unfolding join front rest count
arguments_have nil r us e = result_has r us e
arguments_have (cons t ts) r nil e = absurd (omega arith)
arguments_have (cons t ts) r (cons u us) e = ap (cons u) (arguments_have ts r us (omega arith))

part_has : (p : Part) (us : Terms) → count us ≡ count (part_terms p) → part_terms (with_part_terms p us) ≡ us
unfolding part_terms with_part_terms count nth entry_or rest
part_has (part a m ts r) nil e = absurd (omega arith)
part_has (part a m ts r) (cons v us) e = ap (cons v) (arguments_have ts r us (omega arith))

-- A list split at one place.
pub join_split : (n : ℕ) (us : Terms) → join (front n us) (rest n us) ≡ us
unfolding join front rest
join_split zero us = refl
join_split (suc n) nil = refl
join_split (suc n) (cons u us) = ap (cons u) (join_split n us)

pub count_join : (ts us : Terms) → count (join ts us) ≡ count ts + count us
unfolding join count
count_join nil us = omega arith
count_join (cons t ts) us = omega (arith, count_join ts us)

pub front_count : (n m : ℕ) (us : Terms) → count us ≡ n + m → count (front n us) ≡ n
unfolding front count
front_count zero m us e = refl
front_count (suc n) m nil e = absurd (omega arith)
front_count (suc n) m (cons u us) e = ap suc (front_count n m us (omega arith))

pub rest_count : (n m : ℕ) (us : Terms) → count us ≡ n + m → count (rest n us) ≡ m
unfolding rest count
rest_count zero m us e = omega arith
rest_count (suc n) m nil e = absurd (omega arith)
rest_count (suc n) m (cons u us) e = rest_count n m us (omega arith)

parts_have : (ps : Parts) (us : Terms) → count us ≡ count (parts_terms ps) → parts_terms (with_parts_terms ps us) ≡ us
unfolding parts_terms with_parts_terms
parts_have (only p) us e = part_has p us e
parts_have (also p ps) us e =
    let n : ℕ = count (part_terms p) in
    let h : count us ≡ n + count (parts_terms ps) = e ∙ count_join (part_terms p) (parts_terms ps) in
    let f : part_terms (with_part_terms p (front n us)) ≡ front n us = part_has p (front n us) (front_count n _ us h) in
    let g : parts_terms (with_parts_terms ps (rest n us)) ≡ rest n us = parts_have ps (rest n us) (rest_count n _ us h) in
    ap₂ join f g ∙ join_split n us

pub with_has : (x : Atom) (us : Terms) → Fits x us → terms_of (with_terms x us) ≡ us
unfolding terms_of with_terms count nth entry_or rest
with_has (link l t u) nil e = absurd (omega arith)
with_has (link l t u) (cons v nil) e = absurd (omega arith)
with_has (link l t u) (cons v (cons w nil)) e = refl
with_has (link l t u) (cons v (cons w (cons z us))) e = absurd (omega arith)
with_has (obj t) nil e = absurd (omega arith)
with_has (obj t) (cons v nil) e = refl
with_has (obj t) (cons v (cons w us)) e = absurd (omega arith)
with_has (arrows o ps) nil e = absurd (omega arith)
with_has (arrows o ps) (cons v us) e = ap (cons v) (parts_have ps us (omega arith))

count_front : (ts : Terms) (r : Result) (us : Terms) → count us ≡ count (join ts (result_terms r)) → count (front (count ts) us) ≡ count ts
unfolding join front count
count_front nil r us e = refl
count_front (cons t ts) r nil e = absurd (omega arith)
count_front (cons t ts) r (cons u us) e = ap suc (count_front ts r us (omega arith))

result_twice : (r : Result) (us vs : Terms) → with_result (with_result r us) vs ≡ with_result r vs
unfolding with_result
result_twice (value t) us vs = refl
result_twice none us vs = refl

-- The terms put in last count.
part_twice : (p : Part) (us vs : Terms) → count us ≡ count (part_terms p) → with_part_terms (with_part_terms p us) vs ≡ with_part_terms p vs
unfolding with_part_terms part_terms count rest
part_twice (part a m ts r) nil vs e = absurd (omega arith)
part_twice (part a m ts r) (cons v us) vs e =
    let h : count (front (count ts) us) ≡ count ts = count_front ts r us (omega arith) in
    rw (h, result_twice r (rest (count ts) us) (rest (count ts) (rest 1 vs)))

parts_twice : (ps : Parts) (us vs : Terms) → count us ≡ count (parts_terms ps) →
    with_parts_terms (with_parts_terms ps us) vs ≡ with_parts_terms ps vs
unfolding with_parts_terms parts_terms
parts_twice (only p) us vs e = ap only (part_twice p us vs e)
parts_twice (also p ps) us vs e =
    let n : ℕ = count (part_terms p) in
    let h : count us ≡ n + count (parts_terms ps) = e ∙ count_join (part_terms p) (parts_terms ps) in
    let d : count (front n us) ≡ n = front_count n _ us h in
    let f : count (part_terms (with_part_terms p (front n us))) ≡ n = ap count (part_has p (front n us) d) ∙ d in
    rw f (ap₂ also (part_twice p (front n us) (front n vs) d) (parts_twice ps (rest n us) (rest n vs) (rest_count n _ us h)))

pub with_twice : (x : Atom) (us vs : Terms) → Fits x us → with_terms (with_terms x us) vs ≡ with_terms x vs
unfolding with_terms terms_of count rest
with_twice (link l t u) us vs e = refl
with_twice (obj t) us vs e = refl
with_twice (arrows o ps) nil vs e = absurd (omega arith)
with_twice (arrows o ps) (cons v us) vs e = ap (arrows (nth vs 0)) (parts_twice ps us (rest 1 vs) (omega arith))
