-- What holds of each variable and symbol, carried along a filling; ground instances.
use Prim.Native.Nat.{ℕ, zero, suc}
use mathlib.Core.Bool.{Bool, true}
use mathlib.Core.List.{List, [], ◌∷◌}
use lib.Dec.{T}
use Rattle.logic.specs.Syntax.{Term, var, app, Terms, nil, cons, Atom, Literal, lit, Clause}
use Rattle.logic.specs.Terms.{count, entry_or, terms_of}
use Rattle.logic.specs.Each.{each_term, each_terms, each_atom, each_clause, declares, any, never, over_term, ground_term}
use Rattle.logic.specs.Fill.{Substitution, entries, fill, fills, fill_atom, fill_literal, fill_clause}
use Rattle.logic.specs.Rules.{At}
use Rattle.logic.specs.Structure.{Grounds}
use Rattle.logic.proofs.Both.{left, right, both}
use Rattle.logic.proofs.Filling.{compose, count_fill, terms_fill}

-- If each variable that meets p is filled by a term whose variables meet q, a term over p is filled to a term over q.
module _ (p q : ℕ → Bool) (s : ℕ → ℕ → Bool) (γ : Substitution) (h : (n : ℕ) → T (p n) → T (each_term q s (γ n))) where
  mutual
    unfolding each_term fill

    pub each_fill : (t : Term) → T (each_term p s t) → T (each_term q s (fill γ t))
    each_fill (var n) w = h n w
    each_fill (app f ts) w =
        both (s f (count (fills γ ts))) (each_terms q s (fills γ ts)) (rw (count_fill γ ts) (left (s f (count ts)) (each_terms p s ts) w))
        (eachs_fill ts (right (s f (count ts)) (each_terms p s ts) w))

    pub eachs_fill : (ts : Terms) → T (each_terms p s ts) → T (each_terms q s (fills γ ts))
    eachs_fill nil w = tt
    eachs_fill (cons t ts) w =
        both (each_term q s (fill γ t)) (each_terms q s (fills γ ts)) (each_fill t (left (each_term p s t) (each_terms p s ts) w))
        (eachs_fill ts (right (each_term p s t) (each_terms p s ts) w))

  pub atom_each_fill : (x : Atom) → T (each_atom p s x) → T (each_atom q s (fill_atom γ x))
  unfolding each_atom
  atom_each_fill x w = rw (← terms_fill γ x) (eachs_fill (terms_of x) w)

  pub clause_each_fill : (c : Clause) → T (each_clause p s c) → T (each_clause q s (fill_clause γ c))
  unfolding each_clause fill_clause fill_literal
  clause_each_fill [] w = tt
  clause_each_fill (lit g x ∷ c) w =
      both (each_atom q s (fill_atom γ x)) (each_clause q s (fill_clause γ c)) (atom_each_fill x (left (each_atom p s x) (each_clause p s c) w))
      (clause_each_fill c (right (each_atom p s x) (each_clause p s c) w))

-- The literal at a position.
pub at_each : (p : ℕ → Bool) (s : ℕ → ℕ → Bool) {i : ℕ} {l : Literal} {c r : Clause} → At i l c r → T (each_clause p s c) → T (each_clause p s (l ∷ []))
unfolding each_clause
at_each p s (At.here {l = lit g x} {c = c}) w = both (each_atom p s x) true (left (each_atom p s x) (each_clause p s c) w) tt
at_each p s (At.there {m = lit g x} {c = c} h) w = at_each p s h (right (each_atom p s x) (each_clause p s c) w)

pub entry_each : (p : ℕ → Bool) (s : ℕ → ℕ → Bool) (d : Term) (ts : Terms) (n : ℕ) → T (each_term p s d) → T (each_terms p s ts) → T (each_term p s (entry_or d ts n))
unfolding entry_or each_term
entry_each p s d nil n w v = w
entry_each p s d (cons t ts) zero w v = left (each_term p s t) (each_terms p s ts) v
entry_each p s d (cons t ts) (suc n) w v = entry_each p s d ts n w (right (each_term p s t) (each_terms p s ts) v)

-- The entries of a list over the table, filled by ground terms, are ground, and so is what stands past its end.
module _ (table : List ℕ) (γ : Substitution) (g : Grounds table γ) where
  pub ground_fill : (t : Term) → T (over_term table t) → T (ground_term table (fill γ t))
  unfolding over_term ground_term Grounds
  ground_fill t = each_fill any never (declares table) γ (λ n w. g n) t

  pub entries_ground : (ts : Terms) → T (each_terms any (declares table) ts) → Grounds table (compose γ (entries ts))
  unfolding Grounds compose entries over_term each_term
  entries_ground ts w n = ground_fill (entry_or (var n) ts n) (entry_each any (declares table) (var n) ts n tt w)

  pub clause_ground : (c : Clause) → T (each_clause any (declares table) c) → T (each_clause never (declares table) (fill_clause γ c))
  unfolding Grounds ground_term
  clause_ground c = clause_each_fill any never (declares table) γ (λ n w. g n) c
