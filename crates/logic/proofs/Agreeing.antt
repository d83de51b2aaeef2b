-- Two substitutions that agree on the variables of a clause fill it alike, and give the same inferences.
use Prim.Native.Nat.{ℕ, zero, suc, ◌<◌}
use mathlib.Core.Bool.{Bool, true, false, not, ◌&&◌, ◌||◌}
use mathlib.Core.List.{[], ◌∷◌}
use mathlib.Core.Path.{◌≡◌, refl, sym, ap, ap₂, ◌∙◌, fun_ext}
use native.Mathlib.Omega.{arith}
use lib.Dec.{T, eqb, eqb→eq, eqb_refl}
use Rattle.logic.specs.declared.Rule.{Rule}
use Rattle.logic.specs.Syntax.{Term, var, app, Terms, nil, cons, Atom, Literal, lit, Clause}
use Rattle.logic.specs.Terms.{terms_of, with_terms}
use Rattle.logic.specs.Each.{each_term, each_terms, each_atom, each_clause, occurs_in, term_width, terms_width, width}
use Rattle.logic.specs.Fill.{Substitution, fill, fills, fill_atom, fill_literal, fill_clause}
use Rattle.logic.specs.Occurrence.{Search, found, map_search, in_turn, find_term, find_terms, find_atom, find_literal}
use Rattle.logic.specs.Rules.{uses, Agreement, Parent, filled, At, Infers}
use Rattle.logic.proofs.Filling.{terms_fill, with_frame, with_own}

-- Variable n stands in a term, in a clause: found from part to part.
unfoldable mutual
  occurs_term : ℕ → Term → Bool
  occurs_term n (var m) = eqb m n
  occurs_term n (app f ts) = occurs_terms n ts

  occurs_terms : ℕ → Terms → Bool
  occurs_terms n nil = false
  occurs_terms n (cons t ts) = occurs_term n t || occurs_terms n ts

unfoldable occurs_clause : ℕ → Clause → Bool
occurs_clause n [] = false
occurs_clause n (lit g x ∷ c) = occurs_terms n (terms_of x) || occurs_clause n c

module _ (n : ℕ) where
  abbrev other : ℕ → Bool
  other m = not (eqb m n)

  abbrev every : ℕ → ℕ → Bool
  every f k = true

  not_and : (a b : Bool) → not (a && b) ≡ not a || not b
  not_and true b = refl
  not_and false b = refl

  not_not : (b : Bool) → not (not b) ≡ b
  not_not true = refl
  not_not false = refl

  mutual
    unfolding each_term occurs_term

    term_occurs : (t : Term) → not (each_term other every t) ≡ occurs_term n t
    term_occurs (var m) = not_not (eqb m n)
    term_occurs (app f ts) = terms_occur ts

    terms_occur : (ts : Terms) → not (each_terms other every ts) ≡ occurs_terms n ts
    terms_occur nil = refl
    terms_occur (cons t ts) = not_and (each_term other every t) (each_terms other every ts) ∙ ap₂ ◌||◌ (term_occurs t) (terms_occur ts)

  occurs_in_lem : (c : Clause) → occurs_in n c ≡ occurs_clause n c
  unfolding occurs_in occurs_clause each_clause each_atom
  occurs_in_lem [] = refl
  occurs_in_lem (lit g x ∷ c) =
      not_and (each_terms other every (terms_of x)) (each_clause other every c) ∙ ap₂ ◌||◌ (terms_occur (terms_of x)) (occurs_in_lem c)

-- One of two tests.
or_left : (a b : Bool) → T a → T (a || b)
or_left true b h = tt
or_left false b h = absurd h

or_right : (a b : Bool) → T b → T (a || b)
or_right true b h = tt
or_right false b h = h

or_case : {P : Type 0} (a b : Bool) → T (a || b) → (T a → P) → (T b → P) → P
or_case true b h f g = f tt
or_case false b h f g = g h

-- Agreement on the variables of a term, of a clause.
abbrev AgreeTerms : Substitution → Substitution → Terms → Type 0
AgreeTerms σ τ ts = (v : ℕ) → T (occurs_terms v ts) → σ v ≡ τ v

abbrev AgreeClause : Substitution → Substitution → Clause → Type 0
AgreeClause σ τ c = (v : ℕ) → T (occurs_clause v c) → σ v ≡ τ v

abbrev pub Agree : Substitution → Substitution → Clause → Type 0
Agree σ τ c = (v : ℕ) → T (occurs_in v c) → σ v ≡ τ v

module _ (σ τ : Substitution) where
  mutual
    unfolding fill occurs_term

    fill_agree : (t : Term) → ((v : ℕ) → T (occurs_term v t) → σ v ≡ τ v) → fill σ t ≡ fill τ t
    fill_agree (var n) h = h n (eqb_refl n)
    fill_agree (app f ts) h = ap (app f) (fills_agree ts h)

    fills_agree : (ts : Terms) → AgreeTerms σ τ ts → fills σ ts ≡ fills τ ts
    fills_agree nil h = refl
    fills_agree (cons t ts) h =
        ap₂ cons (fill_agree t (λ v w. h v (or_left (occurs_term v t) (occurs_terms v ts) w))) (fills_agree ts (λ v w. h v (or_right (occurs_term v t) (occurs_terms v ts) w)))

  fill_with : (x : Atom) → fill_atom σ x ≡ with_terms x (fills σ (terms_of x))
  fill_with x = sym (with_own (fill_atom σ x)) ∙ (with_frame σ x (terms_of (fill_atom σ x)) ∙ ap (with_terms x) (sym (terms_fill σ x)))

module _ (σ τ : Substitution) where
  atom_agree : (x : Atom) → AgreeTerms σ τ (terms_of x) → fill_atom σ x ≡ fill_atom τ x
  atom_agree x h = fill_with σ τ x ∙ (ap (with_terms x) (fills_agree σ τ (terms_of x) h) ∙ sym (fill_with τ σ x))

  clause_agree : (c : Clause) → AgreeClause σ τ c → fill_clause σ c ≡ fill_clause τ c
  unfolding fill_clause fill_literal occurs_clause
  clause_agree [] h = refl
  clause_agree (lit g x ∷ c) h =
      ap₂ (λ y d. lit g y ∷ d) (atom_agree x (λ v w. h v (or_left (occurs_terms v (terms_of x)) (occurs_clause v c) w)))
      (clause_agree c (λ v w. h v (or_right (occurs_terms v (terms_of x)) (occurs_clause v c) w)))

  module _ (u : Term) where
    mutual
      unfolding find_term occurs_term

      find_agree : (t : Term) (k : ℕ) → ((v : ℕ) → T (occurs_term v t) → σ v ≡ τ v) → find_term σ u t k ≡ find_term τ u t k
      find_agree (var n) zero h = ap (λ s. found s u) (h n (eqb_refl n))
      find_agree (var n) (suc k) h = refl
      find_agree (app f ts) zero h = ap (λ us. found (app f us) u) (fills_agree σ τ ts h)
      find_agree (app f ts) (suc k) h = ap (map_search (app f)) (finds_agree ts k h)

      finds_agree : (ts : Terms) (k : ℕ) → AgreeTerms σ τ ts → find_terms σ u ts k ≡ find_terms τ u ts k
      finds_agree nil k h = refl
      finds_agree (cons t ts) k h =
          let first : (v : ℕ) → T (occurs_term v t) → σ v ≡ τ v = λ v w. h v (or_left (occurs_term v t) (occurs_terms v ts) w) in
          let others : AgreeTerms σ τ ts = λ v w. h v (or_right (occurs_term v t) (occurs_terms v ts) w) in
          rw (find_agree t k first, fill_agree σ τ t first, fills_agree σ τ ts others)
          (ap (λ (second : ℕ → Search Terms). in_turn (find_term τ u t k) (fill τ t) second (fills τ ts) cons) (fun_ext (λ n. finds_agree ts n others)))

    literal_find_agree : (l : Literal) (k : ℕ) → AgreeClause σ τ (l ∷ []) → find_literal σ u l k ≡ find_literal τ u l k
    unfolding find_literal find_atom occurs_clause
    literal_find_agree (lit g x) k h =
        ap (λ w. map_search (lit g) (map_search (with_terms x) w)) (finds_agree (terms_of x) k (λ v w. h v (or_left (occurs_terms v (terms_of x)) false w)))

-- The variables at a position and of the others are the clause's.
at_variables : {i : ℕ} {l : Literal} {c r : Clause} (v : ℕ) → At i l c r → (T (occurs_clause v (l ∷ [])) → T (occurs_clause v c)) × (T (occurs_clause v r) → T (occurs_clause v c))
unfolding occurs_clause
at_variables v (At.here {l = lit g x} {c = c}) =
    let a = occurs_terms v (terms_of x) in
    (λ w. or_case a false w (or_left a (occurs_clause v c)) (λ z. absurd z), λ w. or_right a (occurs_clause v c) w)
at_variables v (At.there {l = l} {m = lit g x} {c = c} {r = r} p) =
    let a = occurs_terms v (terms_of x) in
    let h = at_variables v p in
    (λ w. or_right a (occurs_clause v c) (h.0 w), λ w. or_case a (occurs_clause v r) w (or_left a (occurs_clause v c)) (λ z. or_right a (occurs_clause v c) (h.1 z)))

abbrev pub with : Clause → Substitution → Parent
with c σ = record { clause = c; image = σ }

at_agree : (c : Clause) (σ τ : Substitution) → AgreeClause σ τ c → {i : ℕ} {l : Literal} {r : Clause} → At i l (filled (with c σ)) r → At i l (filled (with c τ)) r
unfolding filled
at_agree c σ τ h p = rw (clause_agree σ τ c h) at p

-- Where they agree on the variables of the clause.
agree_in : (c : Clause) (σ τ : Substitution) → Agree σ τ c → AgreeClause σ τ c
agree_in c σ τ h v w = h v (rw (occurs_in_lem v c) w)

module _ (a b : Clause) (σ σ' τ τ' : Substitution) (p : AgreeClause σ σ' a) (q : AgreeClause τ τ' b) where
  infers_same : {i j k : ℕ} {rule : Rule} {g : Agreement} {c : Clause} → (T (not (uses rule).a) → σ 0 ≡ σ' 0) →
      Infers (with a σ) (with b τ) i j k rule g c → Infers (with a σ') (with b τ') i j k rule g c
  unfolding uses
  infers_same e Infers.refl = rw (e tt) Infers.refl
  infers_same e (Infers.fac⁺ h h' n) = Infers.fac⁺ (at_agree a σ σ' p h) (at_agree a σ σ' p h') n
  infers_same e (Infers.fac⁻ h h' n) = Infers.fac⁻ (at_agree a σ σ' p h) (at_agree a σ σ' p h') n
  infers_same {k = k} e (Infers.par {l = l} {u = u} {r = r} h h' w) =
      rw (clause_agree σ σ' r (λ v o. p v ((at_variables v h).1 o)))
      (Infers.par h (at_agree b τ τ' q h') (sym (literal_find_agree σ σ' u l k (λ v o. p v ((at_variables v h).0 o))) ∙ w))
  infers_same e (Infers.eli h) = Infers.eli (at_agree a σ σ' p h)
  infers_same e (Infers.pro h w) = Infers.pro (at_agree a σ σ' p h) w
  infers_same e (Infers.two h h' w) = Infers.two (at_agree a σ σ' p h) (at_agree b τ τ' q h') w

pub infers_agree : (a b : Clause) (σ σ' τ τ' : Substitution) → Agree σ σ' a → Agree τ τ' b →
    {i j k : ℕ} {rule : Rule} {g : Agreement} {c : Clause} → (T (not (uses rule).a) → σ 0 ≡ σ' 0) →
    Infers (with a σ) (with b τ) i j k rule g c → Infers (with a σ') (with b τ') i j k rule g c
infers_agree a b σ σ' τ τ' p q = infers_same a b σ σ' τ τ' (agree_in a σ σ' p) (agree_in b τ τ' q)

-- A variable of a clause is below its width.
mutual
  unfolding occurs_term term_width

  term_below : (v : ℕ) (t : Term) → T (occurs_term v t) → v < term_width t
  term_below v (var n) h = let e = eqb→eq n v h in omega arith
  term_below v (app f ts) h = terms_below v ts h

  terms_below : (v : ℕ) (ts : Terms) → T (occurs_terms v ts) → v < terms_width ts
  terms_below v nil h = absurd h
  terms_below v (cons t ts) h =
      or_case (occurs_term v t) (occurs_terms v ts) h (λ w. let z = term_below v t w in omega arith) (λ w. let z = terms_below v ts w in omega arith)

clause_below : (v : ℕ) (c : Clause) → T (occurs_clause v c) → v < width c
unfolding occurs_clause width
clause_below v [] h = absurd h
clause_below v (lit g x ∷ c) h =
    or_case (occurs_terms v (terms_of x)) (occurs_clause v c) h (λ w. let z = terms_below v (terms_of x) w in omega arith) (λ w. let z = clause_below v c w in omega arith)

pub variable_below : (v : ℕ) (c : Clause) → T (occurs_in v c) → v < width c
variable_below v c h = clause_below v c (rw (occurs_in_lem v c) at h)
