-- Occurrences: what the search finds is one occurrence replaced, and it finds the same after a further filling.
use Prim.Native.Nat.{ℕ, zero, suc}
use mathlib.Core.Path.{◌≡◌, refl, sym, ap, ◌∙◌}
use native.Mathlib.Omega.{arith}
use Rattle.logic.specs.Syntax.{Term, var, app, Terms, nil, cons, Atom, Literal, lit}
use Rattle.logic.specs.Terms.{count, terms_of, with_terms}
use Rattle.logic.specs.Fill.{Substitution, fill, fills, fill_atom, fill_literal}
use Rattle.logic.specs.Occurrence.{Search, past, found, map_search, in_turn, find_term, find_terms, find_atom, find_literal, Replaced, ReplacedAtom}
use Rattle.logic.proofs.Filling.{compose, fill_fill, fills_fills, terms_fill, with_fill, with_frame, with_own, with_has, with_twice, Fits}

not_past : {X : Type 0} {k : ℕ} {s : Term} {x : X} {P : Type 0} → past k ≡ found s x → P
not_past e = let z : ◌≡◌ {A = ℕ} 0 1 = cc in absurd (omega arith)

pub found_map : {X Y P : Type 0} {s : Term} {y : Y} (f : X → Y) (w : Search X) → map_search f w ≡ found s y → ((x : X) → w ≡ found s x → f x ≡ y → P) → P
unfolding map_search
found_map f (past k) e k' = not_past e
found_map {s} f (found t x) e k = k x (cc) (cc)

-- Found in the first part or in the second.
found_turn : {X Y Z P : Type 0} {s : Term} {z : Z} (w : Search X) (x : X) (second : ℕ → Search Y) (y : Y) (join : X → Y → Z) →
    in_turn w x second y join ≡ found s z →
    ((x' : X) → w ≡ found s x' → join x' y ≡ z → P) →
    ((k : ℕ) (y' : Y) → second k ≡ found s y' → join x y' ≡ z → P) → P
unfolding in_turn
found_turn (past k) x second y join e now later = found_map (join x) (second k) e (later k)
found_turn (found t x') x second y join e now later = now x' (cc) (cc)

-- "occurrence = S", replaced by u.
at_once : {s t u v : Term} {ts : Terms} → found t u ≡ found s v → Replaced s u (cons t ts) (cons v ts)
at_once {s} {t} {u} {v} e =
    let h : t ≡ s = cc in
    let h' : v ≡ u = cc in
    rw (h, h') Replaced.here

module _ (σ : Substitution) (u : Term) where
  mutual
    unfolding find_term fill

    found_replaced : {s v : Term} {rest : Terms} (t : Term) (k : ℕ) → find_term σ u t k ≡ found s v → Replaced s u (cons (fill σ t) rest) (cons v rest)
    found_replaced (var n) zero e = at_once e
    found_replaced (var n) (suc k) e = not_past e
    found_replaced (app f ts) zero e = at_once e
    found_replaced (app f ts) (suc k) e = found_map _ (find_terms σ u ts k) e (λ us e₁ e₂. rw (← e₂) (Replaced.inside (founds_replaced ts k e₁)))

    founds_replaced : {s : Term} {us : Terms} (ts : Terms) (k : ℕ) → find_terms σ u ts k ≡ found s us → Replaced s u (fills σ ts) us
    founds_replaced nil k e = not_past e
    founds_replaced (cons t ts) k e =
        found_turn (find_term σ u t k) (fill σ t) (find_terms σ u ts) (fills σ ts) cons e
        (λ v e₁ e₂. rw (← e₂) (found_replaced t k e₁))
        (λ n us e₁ e₂. rw (← e₂) (Replaced.later (founds_replaced ts n e₁)))

-- One occurrence replaced keeps the number of terms, and can be put back.
module _ {a b : Term} where
  pub replaced_count : {ts us : Terms} → Replaced a b ts us → count us ≡ count ts
  unfolding count
  replaced_count Replaced.here = refl
  replaced_count (Replaced.inside p) = refl
  replaced_count (Replaced.later p) = ap suc (replaced_count p)

  replaced_back : {ts us : Terms} → Replaced a b ts us → Replaced b a us ts
  replaced_back Replaced.here = Replaced.here
  replaced_back (Replaced.inside p) = Replaced.inside (replaced_back p)
  replaced_back (Replaced.later p) = Replaced.later (replaced_back p)

pub atom_back : (a b : Term) (x y : Atom) → ReplacedAtom a b x y → ReplacedAtom b a y x
unfolding ReplacedAtom
atom_back a b x y w =
    let us : Terms = w.0 in
    let f : Fits x us = replaced_count w.1 in
    (terms_of x, rw (w.2, with_has x us f) (replaced_back w.1), sym (rw w.2 (with_twice x us (terms_of x) f ∙ with_own x)))

-- "occurrence K" of an atom, found and replaced.
pub atom_replaced : (σ : Substitution) (u : Term) {s : Term} {y : Atom} (x : Atom) (k : ℕ) → find_atom σ u x k ≡ found s y → ReplacedAtom s u (fill_atom σ x) y
unfolding find_atom ReplacedAtom
atom_replaced σ u x k e =
    found_map (with_terms x) (find_terms σ u (terms_of x) k) e (λ us e₁ e₂.
    (us, rw (← terms_fill σ x) (founds_replaced σ u (terms_of x) k e₁), rw (with_frame σ x us) (sym e₂)))

-- What is found, filled further.
unfoldable pub fill_search : {X : Type 0} → Substitution → (X → X) → Search X → Search X
fill_search γ f (past k) = past k
fill_search γ f (found s x) = found (fill γ s) (f x)

module _ (γ : Substitution) where
  map_search_lem : {X Y : Type 0} (f f' : X → Y) (g : X → X) (h : Y → Y) → ((x : X) → f' (g x) ≡ h (f x)) → (w : Search X) →
      map_search f' (fill_search γ g w) ≡ fill_search γ h (map_search f w)
  unfolding map_search fill_search
  map_search_lem f f' g h e (past k) = refl
  map_search_lem f f' g h e (found s x) = ap (found (fill γ s)) (e x)

  turn_search : (w : Search Term) (t : Term) (second second' : ℕ → Search Terms) (ts : Terms) →
      ((k : ℕ) → second' k ≡ fill_search γ (fills γ) (second k)) →
      in_turn (fill_search γ (fill γ) w) (fill γ t) second' (fills γ ts) cons ≡ fill_search γ (fills γ) (in_turn w t second ts cons)
  unfolding in_turn fill_search fill
  turn_search (past k) t second second' ts e = ap (map_search (cons (fill γ t))) (e k) ∙ map_search_lem (cons t) (cons (fill γ t)) (fills γ) (fills γ) (λ us. refl) (second k)
  turn_search (found s v) t second second' ts e = refl

module _ (γ σ : Substitution) (u : Term) where
  mutual
    unfolding find_term fill fill_search compose

    find_fill : (t : Term) (k : ℕ) → find_term (compose γ σ) (fill γ u) t k ≡ fill_search γ (fill γ) (find_term σ u t k)
    find_fill (var n) zero = refl
    find_fill (var n) (suc k) = refl
    find_fill (app f ts) zero = ap (λ us. found (app f us) (fill γ u)) (sym (fills_fills γ σ ts))
    find_fill (app f ts) (suc k) = ap (map_search _) (finds_fill ts k) ∙ map_search_lem γ _ _ (fills γ) (fill γ) (λ us. refl) (find_terms σ u ts k)

    finds_fill : (ts : Terms) (k : ℕ) → find_terms (compose γ σ) (fill γ u) ts k ≡ fill_search γ (fills γ) (find_terms σ u ts k)
    finds_fill nil k = refl
    finds_fill (cons t ts) k =
        rw (find_fill t k, ← fill_fill γ σ t, ← fills_fills γ σ ts)
        (turn_search γ (find_term σ u t k) (fill σ t) (find_terms σ u ts) (find_terms (compose γ σ) (fill γ u) ts) (fills σ ts) (λ n. finds_fill ts n))

pub literal_find_fill : (γ σ : Substitution) (u : Term) (l : Literal) (k : ℕ) →
    find_literal (compose γ σ) (fill γ u) l k ≡ fill_search γ (fill_literal γ) (find_literal σ u l k)
unfolding find_literal find_atom fill_literal
literal_find_fill γ σ u (lit g x) k =
    ap (λ w. map_search (lit g) (map_search (with_terms x) w)) (finds_fill γ σ u (terms_of x) k)
    ∙ (ap (map_search (lit g)) (map_search_lem γ (with_terms x) (with_terms x) (fills γ) (fill_atom γ) (λ us. sym (with_fill γ x us ∙ with_frame γ x (fills γ us))) (find_terms σ u (terms_of x) k))
    ∙ map_search_lem γ (lit g) (lit g) (fill_atom γ) (fill_literal γ) (λ y. refl) (find_atom σ u x k))
