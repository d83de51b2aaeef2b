-- An atom begins with the head of its kind and with no other.
use Prim.Native.Nat.{ℕ, ◌<◌}
use mathlib.Core.Bool.{Bool, true, false, not, cond, ◌||◌}
use mathlib.Core.List.{List, [], ◌∷◌, ◌++◌}
use mathlib.Core.Path.{◌≡◌, refl}
use native.Mathlib.Omega.{arith}
use lib.Dec.{T, eqb, eqb→eq, eqb_refl}
use Rattle.logic.specs.declared.Sign.TheVariants.{Positive, Negative}
use Rattle.logic.specs.declared.Link.TheVariants.{Eq, Mem, Sub}
use Rattle.logic.specs.declared.Arrow.TheVariants.{Sv, Si, Mv, Mi, St, Mt}
use Rattle.logic.specs.Syntax.{Part, part, arrow_of, only, also, Atom, link, obj, arrows, method, lit}
use Rattle.text.specs.Words.{bytes}
use Rattle.text.specs.Write.{Writer, ◌∘◌, word, put_term, put_part, put_bracketed, put_parts, put_atom, put_literal}
use Rattle.text.specs.Read.{bad, got, strip}
use Rattle.text.specs.Heads.{link_kind, arrow_kind, kind_number, head}
use Rattle.text.proofs.Tests.{holds}
use Rattle.text.proofs.Table.{at, every}

-- Two words of which neither goes on the other: at some place they differ.
abbrev pub differ : List ℕ → List ℕ → Bool
differ [] ws = false
differ (a ∷ v) [] = false
differ (a ∷ v) (b ∷ bs) = not (eqb a b) || differ v bs

strip_differ : (vs ws rest : List ℕ) → T (differ vs ws) → strip vs (ws ++ rest) ≡ bad
unfolding strip
strip_differ [] ws rest h = absurd h
strip_differ (a ∷ v) [] rest h = absurd h
strip_differ (a ∷ v) (b ∷ bs) rest h = go (eqb a b) h (λ w. strip_differ v bs rest w)
  where
    go : (e : Bool) → T (not e || differ v bs) → (T (differ v bs) → strip v (bs ++ rest) ≡ bad) → cond e (strip v (bs ++ rest)) bad ≡ bad
    go true h k = k h
    go false h k = refl

pub strip_same : (ws rest : List ℕ) → strip ws (ws ++ rest) ≡ got tt rest
unfolding strip
strip_same [] rest = refl
strip_same (a ∷ v) rest = rw (holds (eqb a a) (eqb_refl a)) (strip_same v rest)

-- What stands after an atom's head.
unfoldable pub after_head : Atom → Writer
after_head (link l t u) = put_term t ∘ word " " ∘ put_term u ∘ word ")"
after_head (obj t) = put_term t ∘ word ")"
after_head (arrows o (only p)) = put_term o ∘ word " " ∘ put_part p
after_head (arrows o (also p ps)) = put_term o ∘ put_parts (also p ps) ∘ word ")"

pub atom_head : (x : Atom) (rest : List ℕ) → put_atom x rest ≡ head (kind_number x) ++ after_head x rest
unfolding put_atom after_head kind_number
atom_head (link l t u) rest = (elim l as (λ l. put_atom (link l t u) rest ≡ head (link_kind l) ++ after_head (link l t u) rest) [ Eq ↦ refl | Mem ↦ refl | Sub ↦ refl ])
atom_head (obj t) rest = refl
atom_head (arrows o (also p ps)) rest = refl
atom_head (arrows o (only (part a m ts r))) rest =
    (elim a as (λ a. put_atom (method a o m ts r) rest ≡ head (arrow_kind a) ++ after_head (method a o m ts r) rest) [ Sv ↦ refl | Si ↦ refl | Mv ↦ refl | Mi ↦ refl | St ↦ refl | Mt ↦ refl ])

-- So does a part of a molecule, with an arrow's head.
pub bracketed_head : (p : Part) (rest : List ℕ) → put_bracketed p rest ≡ head (arrow_kind (arrow_of p)) ++ put_part p rest
unfolding put_bracketed
bracketed_head (part a m ts r) rest =
    (elim a as (λ a. put_bracketed (part a m ts r) rest ≡ head (arrow_kind a) ++ put_part (part a m ts r) rest) [ Sv ↦ refl | Si ↦ refl | Mv ↦ refl | Mi ↦ refl | St ↦ refl | Mt ↦ refl ])

-- Heads of different kinds differ: one test over all pairs.
abbrev kinds : List ℕ
kinds = 0 ∷ 1 ∷ 2 ∷ 3 ∷ 4 ∷ 5 ∷ 6 ∷ 7 ∷ 8 ∷ 9 ∷ 10 ∷ []

abbrev apart : ℕ → ℕ → ℕ → Bool
apart n m x = eqb n m || differ (head n) (head m)

heads_differ : (n m : ℕ) → n < 11 → m < 11 → (n ≡ m → ⊥) → T (differ (head n) (head m))
heads_differ n m h k e = go (eqb n m) (λ w. e (eqb→eq n m w)) (at (apart n) kinds (at (λ n x. every (apart n) 0 kinds) kinds tt n h) m k)
  where
    go : (b : Bool) → (T b → ⊥) → T (b || differ (head n) (head m)) → T (differ (head n) (head m))
    go true f w = absurd (f tt)
    go false f w = w

kind_below : (x : Atom) → kind_number x < 11
unfolding kind_number
kind_below (link l t u) = (elim l as (λ l. link_kind l < 11) [ Eq ↦ omega arith | Mem ↦ omega arith | Sub ↦ omega arith ])
kind_below (obj t) = omega arith
kind_below (arrows o (also p ps)) = omega arith
kind_below (arrows o (only p)) =
    (elim (arrow_of p) as (λ a. arrow_kind a < 11) [ Sv ↦ omega arith | Si ↦ omega arith | Mv ↦ omega arith | Mi ↦ omega arith | St ↦ omega arith | Mt ↦ omega arith ])

-- Stripping a head off an atom.
pub head_of : (x : Atom) (rest : List ℕ) → strip (head (kind_number x)) (put_atom x rest) ≡ got tt (after_head x rest)
head_of x rest = rw (atom_head x rest) (strip_same (head (kind_number x)) (after_head x rest))

pub head_other : (n : ℕ) (x : Atom) (rest : List ℕ) → n < 11 → (n ≡ kind_number x → ⊥) → strip (head n) (put_atom x rest) ≡ bad
head_other n x rest h e = rw (atom_head x rest) (strip_differ (head n) (head (kind_number x)) (after_head x rest) (heads_differ n (kind_number x) h (kind_below x) e))

-- Stripping a sign off a literal.
pub plus_of : (x : Atom) (rest : List ℕ) → strip (bytes "(+ ") (put_literal (lit Positive x) rest) ≡ got tt (put_atom x (word ")" rest))
unfolding put_literal strip
plus_of x rest = refl

pub plus_other : (x : Atom) (rest : List ℕ) → strip (bytes "(+ ") (put_literal (lit Negative x) rest) ≡ bad
unfolding put_literal strip
plus_other x rest = refl

pub minus_of : (x : Atom) (rest : List ℕ) → strip (bytes "(- ") (put_literal (lit Negative x) rest) ≡ got tt (put_atom x (word ")" rest))
unfolding put_literal strip
minus_of x rest = refl

pub minus_other : (x : Atom) (rest : List ℕ) → strip (bytes "(- ") (put_literal (lit Positive x) rest) ≡ bad
unfolding put_literal strip
minus_other x rest = refl
