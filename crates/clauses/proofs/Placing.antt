-- Where the terms of a written literal stand.
use Prim.Native.Nat.{ℕ, ◌+◌, ◌≤◌, ◌<◌}
use mathlib.Core.List.{List, [], ◌∷◌}
use mathlib.Core.Logic.{◌⊎◌, inl, inr}
use mathlib.Core.Path.{◌≡◌, refl, ap, ◌∙◌}
use native.Mathlib.Decide.{ℕ_discrete}
use native.Mathlib.Omega.{arith}
use borrow.Author.Tests.{le-leb, lt-leb}
use lib.ListN.{length, drop, drop_of_length-le}
use Rattle.logic.specs.declared.Sign.TheVariants.{Positive, Negative}
use Rattle.logic.specs.declared.Arrow.{Arrow}
use Rattle.logic.specs.Syntax.{Term, var, app, Terms, Result, value, none, part, Atom, lit}
use Rattle.text.specs.Words.{bytes}
use Rattle.text.specs.Write.{word, put_term, put_arguments, put_result, put_part, put_atom, put_literal}
use Rattle.text.specs.Read.{bad, got, Reader, strip}
use Rattle.text.proofs.Places.{end_of}
use Rattle.text.specs.Access.{skip_item}
use Rattle.text.specs.Heads.{kind_number, head}
use Rattle.text.proofs.Positions.{Tail, strip_tail, skip_tail, landed}
use Rattle.text.proofs.Nesting.{skip_term, skip_arguments}
use Rattle.text.proofs.Heads.{after_head, head_of, head_other, plus_of, plus_other}
use Rattle.clauses.proofs.Places.{strip_at, skip_at, next_at, positive_at, or_place, if_place, result_at, value_at}

-- Within p, and from there on these bytes.
pub record Stands (p : List ℕ) (at : ℕ) (bs : List ℕ) : Type 0 where
  pub within : at ≤ length p
  pub bytes_there : drop at p ≡ bs

-- A walk from a place where it succeeds, and where it fails.
pub walk_stands : {A : Type 0} (p : List ℕ) (at : ℕ) {read : Reader A} {a : A} {bs rest : List ℕ} → Tail read → Stands p at bs → read bs ≡ got a rest → Stands p (end_of p (read (drop at p))) rest
walk_stands p at {read} t s e = let w = landed p at t (ap read s.bytes_there ∙ e) in record { within = w.0; bytes_there = w.1 }

pub walk_past : {A : Type 0} (p : List ℕ) (at : ℕ) (read : Reader A) {bs : List ℕ} → Stands p at bs → read bs ≡ bad → end_of p (read (drop at p)) ≡ length p + 1
unfolding end_of
walk_past p at read s e = rw (s.bytes_there, e)

pub none_past : {A : Type 0} (p : List ℕ) (read : Reader A) → read [] ≡ bad → end_of p (read (drop (length p + 1) p)) ≡ length p + 1
unfolding end_of
none_past p read e = rw (drop_of_length-le p {i = length p + 1} (omega arith), e)

module _ (p : List ℕ) where
  pub strip_stands : (w : List ℕ) {at : ℕ} {bs rest : List ℕ} → Stands p at bs → strip w bs ≡ got tt rest → Stands p (strip_at p w at) rest
  unfolding strip_at
  strip_stands w {at} s e = walk_stands p at (strip_tail w) s e

  pub strip_past : (w : List ℕ) {at : ℕ} {bs : List ℕ} → Stands p at bs → strip w bs ≡ bad → strip_at p w at ≡ length p + 1
  unfolding strip_at
  strip_past w {at} s e = walk_past p at (strip w) s e

  pub past_strip : (b : ℕ) (w : List ℕ) → strip_at p (b ∷ w) (length p + 1) ≡ length p + 1
  unfolding strip_at strip
  past_strip b w = none_past p (strip (b ∷ w)) refl

  pub skip_stands : {at : ℕ} {bs rest : List ℕ} → Stands p at bs → skip_item bs ≡ got tt rest → Stands p (skip_at p at) rest
  unfolding skip_at
  skip_stands {at} s e = walk_stands p at skip_tail s e

  -- The item after a term, and after arguments.
  next_of : {at : ℕ} {bs rest : List ℕ} → Stands p at bs → skip_item bs ≡ got tt (word " " rest) → Stands p (next_at p at) rest
  unfolding next_at skip_at strip
  next_of {at} s e = strip_stands (bytes " ") (walk_stands p at skip_tail s e) refl

  pub next_term : {at : ℕ} (t : Term) {rest : List ℕ} → Stands p at (put_term t (word " " rest)) → Stands p (next_at p at) rest
  next_term t {rest} s = next_of s (skip_term t (word " " rest))

  pub next_arguments : {at : ℕ} (ts : Terms) {rest : List ℕ} → Stands p at (put_arguments ts (word " " rest)) → Stands p (next_at p at) rest
  next_arguments ts {rest} s = next_of s (skip_arguments ts (word " " rest))

  pub past_next : next_at p (length p + 1) ≡ length p + 1
  unfolding next_at skip_at skip_item strip
  past_next = rw (none_past p skip_item refl) (past_strip 32 [])

  -- The atom of a positive literal.
  pub positive_stands : {at : ℕ} (x : Atom) (rest : List ℕ) → Stands p at (put_literal (lit Positive x) rest) → Stands p (positive_at p at) (put_atom x (word ")" rest))
  unfolding positive_at
  positive_stands x rest s = strip_stands (bytes "(+ ") s (plus_of x rest)

  pub negative_past : {at : ℕ} (x : Atom) (rest : List ℕ) → Stands p at (put_literal (lit Negative x) rest) → positive_at p at ≡ length p + 1
  unfolding positive_at
  negative_past x rest s = strip_past (bytes "(+ ") s (plus_other x rest)

  -- What stands after the head of an atom.
  pub head_stands : {at : ℕ} (x : Atom) (rest : List ℕ) → Stands p at (put_atom x rest) → Stands p (strip_at p (head (kind_number x)) at) (after_head x rest)
  head_stands x rest s = strip_stands (head (kind_number x)) s (head_of x rest)

  pub head_past : {at : ℕ} (n : ℕ) (x : Atom) (rest : List ℕ) → n < 11 → (n ≡ kind_number x → ⊥) → Stands p at (put_atom x rest) → strip_at p (head n) at ≡ length p + 1
  head_past n x rest h e s = strip_past (head n) s (head_other n x rest h e)

  -- A place that is one, and one that is not.
  pub or_else_here : {x : ℕ} (y : ℕ) → x ≤ length p → or_place p x y ≡ x
  unfolding or_place
  or_else_here {x} y h = rw (le-leb x (length p) h)

  pub or_else_past : (x y : ℕ) → x ≡ length p + 1 → or_place p x y ≡ y
  unfolding or_place
  or_else_past x y e = rw (lt-leb x (length p) (omega arith))

  pub if_place_here : (x y : ℕ) → x ≤ length p → if_place p x y ≡ y
  unfolding if_place
  if_place_here x y h = rw (le-leb x (length p) h)

  pub if_place_past : (x y : ℕ) → x ≡ length p + 1 → if_place p x y ≡ length p + 1
  unfolding if_place
  if_place_past x y e = rw (lt-leb x (length p) (omega arith))

  -- The result of an arrow atom, from its object on.
  pub result_stands : {o : ℕ} (t : Term) (a : Arrow) (m : Term) (ts : Terms) (r : Result) (rest : List ℕ) → Stands p o (put_term t (word " " (put_part (part a m ts r) rest))) → Stands p (result_at p o) (put_result r (word ")" rest))
  unfolding result_at put_part
  result_stands t a m ts r rest s = next_arguments ts (next_term m (next_term t s))

  pub past_result : result_at p (length p + 1) ≡ length p + 1
  unfolding result_at
  past_result = rw (past_next, past_next, past_next)

  term_opens : (t : Term) (rest : List ℕ) → (more : List ℕ) × (strip (bytes "(") (put_term t rest) ≡ got tt more)
  unfolding put_term strip
  term_opens (var n) rest = (_, refl)
  term_opens (app n ts) rest = (_, refl)

  -- An atom with one of two heads.
  abbrev pub inner : ℕ → ℕ → ℕ → ℕ
  inner n m at = or_place p (strip_at p (head n) at) (strip_at p (head m) at)

  pub either_stands : {at : ℕ} (n m : ℕ) (x : Atom) (rest : List ℕ) → n < 11 → (n ≡ kind_number x) ⊎ (m ≡ kind_number x) → Stands p at (put_atom x rest) → Stands p (inner n m at) (after_head x rest)
  either_stands {at} n m x rest h (inl e) s =
      let w = head_stands x rest s in
      rw (e, or_else_here (strip_at p (head m) at) w.within) w
  either_stands {at} n m x rest h (inr e) s = go (ℕ_discrete n (kind_number x))
    where
      w : Stands p (strip_at p (head (kind_number x)) at) (after_head x rest)
      w = head_stands x rest s

      go : Dec (n ≡ kind_number x) → Stands p (inner n m at) (after_head x rest)
      go (yes d) = rw (d, e, or_else_here (strip_at p (head (kind_number x)) at) w.within) w
      go (no d) = rw (e, or_else_past (strip_at p (head n) at) (strip_at p (head (kind_number x)) at) (head_past n x rest h d s)) w

  pub either_past : {at : ℕ} (n m : ℕ) (x : Atom) (rest : List ℕ) → n < 11 → m < 11 → (n ≡ kind_number x → ⊥) → (m ≡ kind_number x → ⊥) → Stands p at (put_atom x rest) → inner n m at ≡ length p + 1
  either_past {at} n m x rest hn hm en em s =
      or_else_past (strip_at p (head n) at) (strip_at p (head m) at) (head_past n x rest hn en s) ∙ head_past m x rest hm em s

  pub past_inner : (n m b c : ℕ) (v w : List ℕ) → head n ≡ b ∷ v → head m ≡ c ∷ w → inner n m (length p + 1) ≡ length p + 1
  past_inner n m b c v w e f =
      rw (e, f) (or_else_past (strip_at p (b ∷ v) (length p + 1)) (strip_at p (c ∷ w) (length p + 1)) (past_strip b v) ∙ past_strip c w)

  -- The result of an arrow atom where it is a term, and where it is none.
  pub value_of : {o : ℕ} (t : Term) (a : Arrow) (m : Term) (ts : Terms) (r : Term) (rest : List ℕ) → Stands p o (put_term t (word " " (put_part (part a m ts (value r)) rest))) → value_at p o ≡ result_at p o
  unfolding value_at put_result
  value_of {o} t a m ts r rest s =
      let w = term_opens r (word ")" rest) in
      if_place_here (strip_at p (bytes "(") (result_at p o)) (result_at p o) (strip_stands (bytes "(") (result_stands t a m ts (value r) rest s) w.1).within

  pub value_none : {o : ℕ} (t : Term) (a : Arrow) (m : Term) (ts : Terms) (rest : List ℕ) → Stands p o (put_term t (word " " (put_part (part a m ts none) rest))) → value_at p o ≡ length p + 1
  unfolding value_at put_result strip
  value_none {o} t a m ts rest s = if_place_past (strip_at p (bytes "(") (result_at p o)) (result_at p o) (strip_past (bytes "(") (result_stands t a m ts none rest s) refl)

  pub past_value : value_at p (length p + 1) ≡ length p + 1
  unfolding value_at
  past_value = if_place_past (strip_at p (bytes "(") (result_at p (length p + 1))) (result_at p (length p + 1)) (rw past_result (past_strip 40 []))
