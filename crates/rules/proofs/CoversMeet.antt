-- An atom covers another in bytes exactly if it does, both filled.
use Prim.Native.Nat.{ℕ, ◌+◌, ◌≤◌, ◌<◌, suc}
use mathlib.Core.Bool.{Bool, true, false, ◌||◌, true≢false, ◌&&◌}
use mathlib.Core.List.{List, [], ◌++◌}
use mathlib.Core.Logic.{◌⊎◌, inl, inr, ⊎_elim, ◌↔◌}
use mathlib.Core.Path.{◌≡◌, refl, sym, ap, ◌∙◌}
use native.Mathlib.Omega.{arith}
use lib.Dec.{T}
use lib.ListN.{length, take}
use Rattle.logic.specs.declared.Link.TheVariants.{Eq, Mem, Sub}
use Rattle.logic.specs.declared.Arrow.{Arrow}
use Rattle.logic.specs.declared.Arrow.TheVariants.{Sv, Si, Mv, Mi, St, Mt}
use Rattle.logic.specs.Syntax.{Term, var, app, Terms, Result, value, none, may_be_none, part, only, also, Atom, link, obj, arrows, method}
use Rattle.logic.specs.Terms.{terms_of}
use Rattle.logic.specs.Equality.{arrow?, nth_arrow, arrow_number, arrow_back}
use Rattle.logic.specs.Each.{terms_width}
use Rattle.logic.specs.Fill.{Substitution, fill_result, fill_part, fill_parts, fill_atom}
use Rattle.logic.specs.Rules.{bare_result, bare_part, bare, Covers}
use Rattle.logic.proofs.Filling.{arrow_fill}
use Rattle.text.specs.Words.{bytes}
use Rattle.text.specs.Write.{word, put_term, put_result, put_part, put_atom}
use Rattle.text.specs.Read.{bad, got, strip}
use Rattle.text.specs.Access.{skip_item}
use Rattle.text.specs.Form.{formed_result, formed_part, formed_parts, formed_atom}
use Rattle.text.specs.Figures.{few_parts}
use Rattle.text.specs.Heads.{arrow_kind, kind_number, head}
use Rattle.text.proofs.Heads.{after_head, strip_same}
use Rattle.text.proofs.Nesting.{skip_term}
use Rattle.text.proofs.Tests.{T_and, holds}
use Rattle.clauses.proofs.Places.{strip_at, skip_at, next_at, result_at}
use Rattle.clauses.proofs.Placing.{Stands, walk_past, strip_stands, strip_past, past_strip, skip_stands, next_term, past_next, head_stands, head_past, result_stands}
use Rattle.rules.proofs.Targets.{link_arrow}
use Rattle.filling.proofs.Agreed.{atoms_agree}
use Rattle.rules.proofs.Answered.{within_here, within_past}
use Rattle.filling.proofs.NumberedFill.{fill_atom_over, atom_deeper}
use Rattle.rules.proofs.Meets.{Images}
use Rattle.rules.proofs.TermsMeet.{call_stands, calls_meet}
use Rattle.filling.proofs.Agree.{agree_at, calls_at}
use Rattle.clauses.proofs.Places.{within}
use Rattle.filling.proofs.Covers.{head_at, bare_at, covers_at}

module _ (depth : ℕ) where
  -- An atom that stands at a place of p, formed, with few parts, its variables below w.
  pub record AtomAt (p : List ℕ) (at : ℕ) (w : ℕ) (x : Atom) : Type 0 where
    pub rest : List ℕ
    pub stands : Stands p at (put_atom x rest)
    pub formed : T (formed_atom depth x)
    pub narrow : terms_width (terms_of x) ≤ w
    pub few : T (few_parts x)

-- An arrow's kind tells the arrow.
kind_arrow : (a b : Arrow) → arrow_kind a ≡ arrow_kind b → a ≡ b
unfolding arrow_number
kind_arrow a b e = sym (arrow_back a) ∙ (ap nth_arrow (omega (arith, e, shift a, shift b)) ∙ arrow_back b)
  where
    shift : (a : Arrow) → arrow_kind a ≡ arrow_number a + 4
    shift = elim [ Sv ↦ refl | Si ↦ refl | Mv ↦ refl | Mi ↦ refl | St ↦ refl | Mt ↦ refl ]

-- The first four bytes of an arrow atom are its head.
arrow_head : (a : Arrow) (o m : Term) (ts : Terms) (r : Result) (rest : List ℕ) → take 4 (put_atom (method a o m ts r) rest) ≡ head (arrow_kind a)
unfolding put_atom
arrow_head a o m ts r rest = (elim a as (λ a. take 4 (put_atom (method a o m ts r) rest) ≡ head (arrow_kind a)) [ Sv ↦ refl | Si ↦ refl | Mv ↦ refl | Mi ↦ refl | St ↦ refl | Mt ↦ refl ])

module _ (p : List ℕ) where
  -- No item, and none after this one.
  next_none : {at : ℕ} {bs : List ℕ} → Stands p at bs → skip_item bs ≡ bad → next_at p at ≡ length p + 1
  unfolding next_at skip_at
  next_none {at} s e = rw (walk_past p at skip_item s e) (past_strip p 32 [])

  next_last : {at : ℕ} {bs rest : List ℕ} → Stands p at bs → skip_item bs ≡ got tt (word ")" rest) → next_at p at ≡ length p + 1
  unfolding next_at strip
  next_last s e = strip_past p (bytes " ") (skip_stands p s e) refl

no_term_none : (t : Term) (rest : List ℕ) → strip (bytes "none") (put_term t rest) ≡ bad
unfolding strip put_term
no_term_none (var n) rest = refl
no_term_none (app n ts) rest = refl

-- An arrow atom with none.
unfoldable empty : Atom → Bool
empty (link l t u) = false
empty (obj t) = false
empty (arrows o (only (part a m ts (value r)))) = false
empty (arrows o (only (part a m ts none))) = true
empty (arrows o (also p ps)) = false

-- What is bare but not with none is as it was.
bare_full : (x y : Atom) → empty y ≡ false → bare x ≡ y → x ≡ y
unfolding empty bare bare_part bare_result
bare_full (link l t u) y h e = e
bare_full (obj t) y h e = e
bare_full (arrows o (also p ps)) y h e = e
bare_full (arrows o (only (part a m ts r))) y h e = go (may_be_none a) e
  where
    go : (b : Bool) → method a o m ts (bare_result b r) ≡ y → method a o m ts r ≡ y
    go true e = absurd (true≢false (ap empty e ∙ h))
    go false e = e

module _ (p : List ℕ) where
  -- Where none would stand, were the atom at x an arrow atom with none.
  abbrev none_from : ℕ → ℕ
  none_from x = strip_at p (bytes "none") (result_at p (strip_at p (head_at p x) x))

  past_none : (at : ℕ) → next_at p (next_at p at) ≡ length p + 1 → strip_at p (bytes "none") (result_at p at) ≡ length p + 1
  unfolding result_at
  past_none at e = rw (e, past_next p) (past_strip p 110 _)

  -- After four bytes a space stands, and no item.
  spaced_past : {at : ℕ} (w rest : List ℕ) → Stands p at (w ++ word " " rest) → strip_at p (bytes "none") (result_at p (strip_at p w at)) ≡ length p + 1
  unfolding skip_item strip
  spaced_past w rest s = past_none _ (ap (next_at p) (next_none p (strip_stands p w s (strip_same w (word " " rest))) refl) ∙ past_next p)

  full_past : {at : ℕ} (x : Atom) (rest : List ℕ) → empty x ≡ false → Stands p at (put_atom x rest) → none_from at ≡ length p + 1
  unfolding empty head_at put_atom after_head kind_number put_result
  full_past (link Eq t u) rest h s =
      let first = head_stands p (link Eq t u) rest s in
      rw (ap (take 4) s.bytes_there) (past_none _ (next_last p (next_term p t first) (skip_term u (word ")" rest))))
  full_past (link Mem t u) rest h s = rw (ap (take 4) s.bytes_there) (spaced_past (bytes "(mem") _ s)
  full_past (link Sub t u) rest h s = rw (ap (take 4) s.bytes_there) (spaced_past (bytes "(sub") _ s)
  full_past (obj t) rest h s = rw (ap (take 4) s.bytes_there) (spaced_past (bytes "(obj") _ s)
  full_past (arrows o (also p ps)) rest h s = rw (ap (take 4) s.bytes_there) (spaced_past (bytes "(mol") _ s)
  full_past (arrows o (only (part a m ts (value r)))) rest h s =
      rw (ap (take 4) s.bytes_there, arrow_head a o m ts (value r) rest)
      (strip_past p (bytes "none") (result_stands p o a m ts (value r) rest (head_stands p (method a o m ts (value r)) rest s)) (no_term_none r (word ")" rest)))
  full_past (arrows o (only (part a m ts none))) rest h s = absurd (true≢false h)

pub T_or : (a b : Bool) → T (a || b) ↔ (T a ⊎ T b)
T_or true b = (λ t. inl tt, λ t. tt)
T_or false b = (λ t. inr t, λ t. ⊎_elim (λ f. absurd f) (λ u. u) t)

-- Filling and baring keep the kind.
fill_kind : (σ : Substitution) (x : Atom) → kind_number (fill_atom σ x) ≡ kind_number x
unfolding kind_number fill_atom fill_parts
fill_kind σ (link l t u) = refl
fill_kind σ (obj t) = refl
fill_kind σ (arrows o (only p)) = ap arrow_kind (arrow_fill σ p)
fill_kind σ (arrows o (also p ps)) = refl

bare_kind : (x : Atom) → kind_number (bare x) ≡ kind_number x
unfolding kind_number bare bare_part
bare_kind (link l t u) = refl
bare_kind (obj t) = refl
bare_kind (arrows o (only (part a m ts r))) = refl
bare_kind (arrows o (also p ps)) = refl

pub arrow_range : (a : Arrow) → (3 < arrow_kind a) × (arrow_kind a < 10)
arrow_range = elim [
  | Sv ↦ (omega arith, omega arith)
  | Si ↦ (omega arith, omega arith)
  | Mv ↦ (omega arith, omega arith)
  | Mi ↦ (omega arith, omega arith)
  | St ↦ (omega arith, omega arith)
  | Mt ↦ (omega arith, omega arith)
]

empty_fill : (σ : Substitution) (x : Atom) → empty (fill_atom σ x) ≡ empty x
unfolding empty fill_atom fill_parts fill_part fill_result
empty_fill σ (link l t u) = refl
empty_fill σ (obj t) = refl
empty_fill σ (arrows o (only (part a m ts (value r)))) = refl
empty_fill σ (arrows o (only (part a m ts none))) = refl
empty_fill σ (arrows o (also p ps)) = refl

module _ (depth : ℕ) where
  module _ {line starts others : List ℕ} {σ τ : Substitution} {v w : ℕ} (g : Images line starts σ v) (h : Images line others τ w) (p q : List ℕ) where
    pub atoms_meet : {x y : ℕ} (a b : Atom) → AtomAt depth p x v a → AtomAt depth q y w b → T (agree_at depth p x line starts q y others) ↔ (fill_atom σ a ≡ fill_atom τ b)
    atoms_meet a b i j =
        atoms_agree depth p q line starts others σ τ v w g.entry h.entry a b i.rest j.rest i.stands j.stands (atom_deeper depth (suc depth) a (omega arith) i.formed) (atom_deeper depth (suc depth) b (omega arith) j.formed) i.narrow j.narrow
        (fill_atom_over σ v g.numbers depth a i.formed i.narrow) (fill_atom_over τ w h.numbers depth b j.formed j.narrow)

    full_bare : (x y : ℕ) (a : Atom) → empty a ≡ false → AtomAt depth p x v a → bare_at depth p x line starts q y others ≡ false
    unfolding bare_at
    full_bare x y a e i = rw (within_past p _ (full_past p a i.rest e i.stands))

    -- The atom at x has none.
    module _ (x y : ℕ) (c : Arrow) (o m : Term) (ts : Terms) (i : AtomAt depth p x v (method c o m ts none)) where
      here : Stands p (strip_at p (head (arrow_kind c)) x) (put_term o (word " " (put_part (part c m ts none) i.rest)))
      unfolding kind_number after_head
      here = head_stands p (method c o m ts none) i.rest i.stands

      none_bytes : bare_at depth p x line starts q y others ≡ within q (strip_at q (head (arrow_kind c)) y) && calls_at depth p (strip_at p (head (arrow_kind c)) x) line starts q (strip_at q (head (arrow_kind c)) y) others
      unfolding bare_at head_at put_result strip
      none_bytes =
          let e : head_at p x ≡ head (arrow_kind c) = ap (take 4) i.stands.bytes_there ∙ arrow_head c o m ts none i.rest in
          rw (e, within_here p _ (strip_stands p (bytes "none") (result_stands p o c m ts none i.rest here) refl).within)

      other_bare : (b : Atom) → AtomAt depth q y w b → (arrow_kind c ≡ kind_number b → ⊥) → T (bare_at depth p x line starts q y others) ↔ (bare (fill_atom τ b) ≡ fill_atom σ (method c o m ts none))
      unfolding calls_at kind_number
      other_bare b j n = rw (none_bytes, within_past q _ (head_past q (arrow_kind c) b j.rest (omega (arith, (arrow_range c).1)) n j.stands)) (λ t. absurd t, λ e. absurd (n (sym (fill_kind σ (method c o m ts none)) ∙ (ap kind_number (sym e) ∙ (bare_kind (fill_atom τ b) ∙ fill_kind τ b)))))

      same_bare : (o' m' : Term) (ts' : Terms) (r' : Result) → AtomAt depth q y w (method c o' m' ts' r') → T (bare_at depth p x line starts q y others) ↔ (bare (fill_atom τ (method c o' m' ts' r')) ≡ fill_atom σ (method c o m ts none))
      unfolding bare bare_part bare_result fill_atom fill_parts fill_part fill_result kind_number after_head formed_atom formed_parts formed_part formed_result
      same_bare o' m' ts' r' j =
          let s = head_stands q (method c o' m' ts' r') j.rest j.stands in
          let d = calls_meet depth g h (call_stands depth c o m ts none i.rest here i.formed i.narrow) (call_stands depth c o' m' ts' r' j.rest s j.formed j.narrow) in
          let z : within q (strip_at q (head (arrow_kind c)) y) ≡ true = within_here q _ s.within in
          let (_, (_, f)) = simp T_and at i.formed in
          let e : bare_result (may_be_none c) (fill_result τ r') ≡ none = ap (λ b. bare_result b (fill_result τ r')) (holds (may_be_none c) f) in
          rw (none_bytes, e, z) (
            λ t. let k = d.0 t in let k₁ = k.0 in let k₂ = k.1 in let k₃ = k.2 in cc,
            λ t. d.1 (cc, cc, cc),
          )

      none_bare : (b : Atom) → AtomAt depth q y w b → T (bare_at depth p x line starts q y others) ↔ (bare (fill_atom τ b) ≡ fill_atom σ (method c o m ts none))
      unfolding kind_number
      none_bare (link l t u) j = other_bare (link l t u) j (λ e. link_arrow l c (sym e))
      none_bare (obj t) j = other_bare (obj t) j (λ e. omega (arith, (arrow_range c).0))
      none_bare (arrows o' (also q' qs')) j = other_bare (arrows o' (also q' qs')) j (λ e. omega (arith, (arrow_range c).1))
      none_bare (arrows o' (only (part c' m' ts' r'))) j = go (arrow? c' c)
        where
          go : Dec (c' ≡ c) → T (bare_at depth p x line starts q y others) ↔ (bare (fill_atom τ (method c' o' m' ts' r')) ≡ fill_atom σ (method c o m ts none))
          go (yes e) = rw e (same_bare o' m' ts' r' (rw e at j))
          go (no n) = other_bare (method c' o' m' ts' r') j (λ e. n (kind_arrow c' c (sym e)))

    module _ (x y : ℕ) (b : Atom) (j : AtomAt depth q y w b) where
      -- "X covers Y if they are equal, or Y is X with none in place of a term result"
      covers_full : (a : Atom) → empty a ≡ false → AtomAt depth p x v a → T (covers_at depth p x line starts q y others) ↔ Covers (fill_atom τ b) (fill_atom σ a)
      unfolding covers_at Covers
      covers_full a e i =
          let same = atoms_meet a b i j in
          let one = T_or (agree_at depth p x line starts q y others) (bare_at depth p x line starts q y others) in
          let k = full_bare x y a e i in (
            λ t. ⊎_elim (λ z. inl (sym (same.0 z))) (λ z. absurd (rw k at z)) (one.0 t),
            λ t. one.1 (inl (same.1 (sym (⊎_elim (λ z. z) (λ z. bare_full (fill_atom τ b) (fill_atom σ a) (empty_fill σ a ∙ e) z) t)))),
          )

      covers_none : (c : Arrow) (o m : Term) (ts : Terms) → AtomAt depth p x v (method c o m ts none) → T (covers_at depth p x line starts q y others) ↔ Covers (fill_atom τ b) (fill_atom σ (method c o m ts none))
      unfolding covers_at Covers
      covers_none c o m ts i =
          let same = atoms_meet (method c o m ts none) b i j in
          let one = T_or (agree_at depth p x line starts q y others) (bare_at depth p x line starts q y others) in
          let none = none_bare x y c o m ts i b j in (
            λ t. ⊎_elim (λ z. inl (sym (same.0 z))) (λ z. inr (none.0 z)) (one.0 t),
            λ t. one.1 (⊎_elim (λ z. inl (same.1 (sym z))) (λ z. inr (none.1 z)) t),
          )

      pub covers_meet : (a : Atom) → AtomAt depth p x v a → T (covers_at depth p x line starts q y others) ↔ Covers (fill_atom τ b) (fill_atom σ a)
      unfolding empty
      covers_meet (link l t u) i = covers_full (link l t u) refl i
      covers_meet (obj t) i = covers_full (obj t) refl i
      covers_meet (arrows o (only (part a m ts (value r)))) i = covers_full (method a o m ts (value r)) refl i
      covers_meet (arrows o (only (part a m ts none))) i = covers_none a o m ts i
      covers_meet (arrows o (also p' ps)) i = covers_full (arrows o (also p' ps)) refl i
