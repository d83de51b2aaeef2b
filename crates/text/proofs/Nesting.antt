-- What the walks over bytes of specs/Access.antt give on written forms.
use Prim.Native.Nat.{ℕ, zero, suc, ◌+◌, ◌-◌, ◌≤◌, ◌<◌}
use mathlib.Core.Path.{◌≡◌, refl, sym, ◌∙◌, ap}
use mathlib.Core.Bool.{Bool, true, false, not}
use mathlib.Core.List.{List, [], ◌∷◌, ◌++◌}
use native.Mathlib.Omega.{arith}
use lib.Dec.{T, eqb}
use lib.ListN.{length, take, drop, get_or, length-append, length-drop}
use lib.Seq.{drop-drop, take_at}
use native.Mathlib.Numerals.{add-one}
use borrow.Author.Tests.{ne_eqb, lt-ltb, le-leb}
use Rattle.logic.specs.Syntax.{Term, var as variable, app, Terms, nil, cons, Part, Parts, only, also, Literal, Clause}
use Rattle.logic.specs.Terms.{count, entry_or}
use Rattle.text.specs.Write.{Writer, word, put_term, put_terms, put_arguments, put_bracketed, put_parts, put_literal, put_literals}
use Rattle.text.specs.Read.{Parsed, bad, got, strip}
use Rattle.text.proofs.Places.{end_of, places, entry_of}
use Rattle.text.specs.Access.{closing, skip_item, pass_item, to_item, opening, to_argument}
use Rattle.text.proofs.Tests.{T_and}
use Rattle.text.proofs.Positions.{pass_tail, landed}
use Rattle.text.proofs.Plain.{Plain, number_plain, term_plain, in_front}
use Rattle.text.proofs.Trees.{Tree, var, node, Trees, end, byte, bracket, put_tree, put_inside, inner, Inner, Clean, CleanIn, number_bytes, number_inner, put_term_lem, put_arguments_lem, put_bracketed_lem, put_literal_lem, clean_term, clean_arguments, clean_bracketed, clean_literal}

-- A byte that is no bracket.
pub inner_tests : (b : ℕ) → T (inner b) → (eqb b 40 ≡ false) × (eqb b 41 ≡ false)
inner_tests b h = let (i, j) = simp T_and at h in (fails (eqb b 40) i, fails (eqb b 41) j)
  where
    fails : (t : Bool) → T (not t) → t ≡ false
    fails true x = absurd x
    fails false x = refl

closing_bytes : (ws : List ℕ) → Inner ws → (n : ℕ) (rest : List ℕ) → closing n (ws ++ rest) ≡ closing n rest
unfolding closing
closing_bytes [] h n rest = refl
closing_bytes (b ∷ ws) h n rest = let (i, j) = inner_tests b h.0 in rw (i, j, closing_bytes ws h.1 n rest)

closing_out : (n : ℕ) (rest : List ℕ) → closing (n + 1) (41 ∷ rest) ≡ closing n rest
unfolding closing
closing_out n rest =
    let z : eqb (n + 1) 0 ≡ false = ne_eqb (n + 1) 0 (omega arith) in
    let e : n + 1 - 1 ≡ n = omega arith in
    rw (z, e)

-- A whole item leaves the count of open brackets as it was.
mutual
  unfolding closing put_tree

  pub closing_tree : (t : Tree) → Clean t → (n : ℕ) (rest : List ℕ) → closing n (put_tree t rest) ≡ closing n rest
  closing_tree (var m) h n rest = rw (in_front (number_plain m) (41 ∷ rest), closing_bytes (number_bytes m) (number_inner m) (n + 1) (41 ∷ rest)) (closing_out n rest)
  closing_tree (node ts) h n rest = closing_inside ts h.1 (n + 1) (41 ∷ rest) ∙ closing_out n rest

  closing_inside : (ts : Trees) → CleanIn ts → (n : ℕ) (rest : List ℕ) → closing n (put_inside ts rest) ≡ closing n rest
  closing_inside end h n rest = refl
  closing_inside (byte b ts) h n rest = let (i, j) = inner_tests b h.0 in rw (i, j, closing_inside ts h.1 n rest)
  closing_inside (bracket t ts) h n rest = closing_tree t h.0 n (put_inside ts rest) ∙ closing_inside ts h.1 n rest

pub skip_tree : (t : Tree) → Clean t → (rest : List ℕ) → skip_item (put_tree t rest) ≡ got tt rest
unfolding skip_item put_tree strip closing
skip_tree (var m) h rest = rw (in_front (number_plain m) (41 ∷ rest), closing_bytes (number_bytes m) (number_inner m) 0 (41 ∷ rest))
skip_tree (node ts) h rest = rw (closing_inside ts h.1 0 (41 ∷ rest))

pub skip_term : (t : Term) (rest : List ℕ) → skip_item (put_term t rest) ≡ got tt rest
skip_term t rest = rw (put_term_lem t rest) (skip_tree _ (clean_term t) rest)

pub skip_arguments : (ts : Terms) (rest : List ℕ) → skip_item (put_arguments ts rest) ≡ got tt rest
skip_arguments ts rest = rw (put_arguments_lem ts rest) (skip_tree _ (clean_arguments ts) rest)

pub skip_bracketed : (p : Part) (rest : List ℕ) → skip_item (put_bracketed p rest) ≡ got tt rest
skip_bracketed p rest = rw (put_bracketed_lem p rest) (skip_tree _ (clean_bracketed p) rest)

pub skip_literal : (l : Literal) (rest : List ℕ) → skip_item (put_literal l rest) ≡ got tt rest
skip_literal l rest = rw (put_literal_lem l rest) (skip_tree _ (clean_literal l) rest)

-- The bytes between two places, the first of them at a space.
between : (s w more : List ℕ) (p q : ℕ) → p ≤ length s → q ≤ length s → drop p s ≡ 32 ∷ (w ++ more) → drop q s ≡ more → (p < q) × (take (q - (p + 1)) (drop (p + 1) s) ≡ w)
between s w more p q pl ql pd qd =
    let a : length s - p ≡ length (32 ∷ (w ++ more)) = sym (length-drop p s) ∙ ap length pd in
    let b : length s - q ≡ length more = sym (length-drop q s) ∙ ap length qd in
    let c : length (w ++ more) ≡ length w + length more = length-append w more in
    (omega arith, rw (← drop-drop 1 p s, pd) (take_at w more (q - (p + 1)) (omega arith)))

-- Items after one space each: written in a row, and the bytes from item n on.
unfoldable pub put_each : {A : Type 0} → (A → Writer) → List A → Writer
put_each put [] rest = rest
put_each put (a ∷ xs) rest = word " " (put a (put_each put xs rest))

-- The items from n on, where item n is wanted: nothing, or item n and those after it.
unfoldable pub from_item : {A : Type 0} → (A → Writer) → List A → List ℕ → Parsed (Unit {0})
from_item put [] rest = bad
from_item put (a ∷ xs) rest = got tt (put a (put_each put xs rest))

unfoldable pub listed : Terms → List Term
listed nil = []
listed (cons t ts) = t ∷ listed ts

pub listed_length : (ts : Terms) → length (listed ts) ≡ count ts
unfolding listed count
listed_length nil = refl
listed_length (cons t ts) = ap suc (listed_length ts)

pub listed_at : (d : Term) (ts : Terms) (v : ℕ) → v < count ts → (ys : List Term) × (drop v (listed ts) ≡ entry_or d ts v ∷ ys)
unfolding listed count entry_or
listed_at d nil v h = absurd (omega arith)
listed_at d (cons t ts) zero h = (listed ts, refl)
listed_at d (cons t ts) (suc v) h = listed_at d ts v (omega arith)

term_opens : (t : Term) (rest : List ℕ) → opening (put_term t rest) ≡ got tt (put_term t rest)
unfolding opening put_term
term_opens (variable n) rest = refl
term_opens (app n ts) rest = refl

pub literals_each : (c : Clause) (rest : List ℕ) → put_literals c rest ≡ put_each put_literal c rest
unfolding put_literals put_each
literals_each [] rest = refl
literals_each (l ∷ c) rest = rw (literals_each c rest)

pub terms_each : (ts : Terms) (rest : List ℕ) → put_terms ts rest ≡ put_each put_term (listed ts) rest
unfolding put_terms put_each listed
terms_each nil rest = refl
terms_each (cons t ts) rest = rw (terms_each ts rest)

-- The parts of a molecule as a list.
unfoldable pub list_of_parts : Parts → List Part
list_of_parts (only p) = p ∷ []
list_of_parts (also p ps) = p ∷ list_of_parts ps

pub parts_each : (ps : Parts) (rest : List ℕ) → put_parts ps rest ≡ put_each put_bracketed (list_of_parts ps) rest
unfolding put_parts put_each list_of_parts
parts_each (only p) rest = refl
parts_each (also p ps) rest = rw (parts_each ps rest)

after_item : {A : Type 0} (v : ℕ) (xs : List A) {x : A} {ys : List A} → drop v xs ≡ x ∷ ys → drop (suc v) xs ≡ ys
after_item zero [] d = cc
after_item zero (a ∷ xs) d = cc
after_item (suc v) [] d = cc
after_item (suc v) (a ∷ xs) d = after_item v xs d

-- How many items follow, at most so many.
unfoldable pub more : Parsed (Unit {0}) → (List ℕ → ℕ) → ℕ
more bad f = 0
more (got u rest) f = suc (f rest)

unfoldable pub how_many : ℕ → List ℕ → ℕ
how_many zero bs = 0
how_many (suc most) bs = more (pass_item bs) (how_many most)

module _ {A : Type 0} (put : A → Writer) (skips : (a : A) (rest : List ℕ) → skip_item (put a rest) ≡ got tt rest) where
  pub to_item_lem : (xs : List A) (n : ℕ) (rest : List ℕ) → to_item n (put_each put xs (41 ∷ rest)) ≡ from_item put (drop n xs) (41 ∷ rest)
  unfolding to_item pass_item strip put_each from_item
  to_item_lem [] zero rest = refl
  to_item_lem [] (suc n) rest = refl
  to_item_lem (a ∷ xs) zero rest = refl
  to_item_lem (a ∷ xs) (suc n) rest = rw (skips a _) (to_item_lem xs n rest)

  pub how_many_lem : (xs : List A) (most : ℕ) (rest : List ℕ) → length xs ≤ most → how_many most (put_each put xs (41 ∷ rest)) ≡ length xs
  unfolding how_many more pass_item strip put_each
  how_many_lem [] zero rest h = refl
  how_many_lem [] (suc most) rest h = refl
  how_many_lem (a ∷ xs) zero rest h = absurd (omega arith)
  how_many_lem (a ∷ xs) (suc most) rest h = rw (skips a _) (ap suc (how_many_lem xs most rest (omega arith)))

  -- The places past the items, and the bytes between two of them.
  pub places_each : (s : List ℕ) (xs : List A) (k v at : ℕ) (rest : List ℕ) → v < k → v ≤ length xs → at ≤ length s → drop at s ≡ put_each put xs (41 ∷ rest) → (get_or (places s k at) v 0 ≤ length s) × (drop (get_or (places s k at) v 0) s ≡ put_each put (drop v xs) (41 ∷ rest))
  unfolding places pass_item strip put_each
  places_each s xs zero v at rest h l f e = absurd (omega arith)
  places_each s xs (suc k) zero at rest h l f e = (f, e)
  places_each s [] (suc k) (suc v) at rest h l f e = absurd (omega arith)
  places_each s (a ∷ xs) (suc k) (suc v) at rest h l f e =
      let p = passed in places_each s xs k v (end_of s (pass_item (drop at s))) rest (omega arith) (omega arith) p.0 p.1
    where
      passed : (end_of s (pass_item (drop at s)) ≤ length s) × (drop (end_of s (pass_item (drop at s))) s ≡ put_each put xs (41 ∷ rest))
      passed = landed s at pass_tail (rw (e, skips a _))

  -- Entry v, between its places.
  pub entry_each : ((a : A) → Plain (put a)) → (s : List ℕ) (xs : List A) (v at : ℕ) (rest : List ℕ) {x : A} {ys : List A} → drop v xs ≡ x ∷ ys → v < 32 → at ≤ length s → drop at s ≡ put_each put xs (41 ∷ rest) → entry_of s (places s 33 at) v ≡ put x []
  unfolding entry_of put_each
  entry_each plain s xs v at rest {x} {ys} d h f e =
      let l : length (drop v xs) ≡ length xs - v = length-drop v xs in
      let k : length (drop v xs) ≡ suc (length ys) = ap length d in
      let i : drop (suc v) xs ≡ ys = after_item v xs d in
      let p = places_each s xs 33 v at rest (omega arith) (omega arith) f e in
      let q = places_each s xs 33 (suc v) at rest (omega arith) (omega arith) f e in
      let m = between s (put x []) (put_each put ys (41 ∷ rest)) (get_or (places s 33 at) v 0) (get_or (places s 33 at) (suc v) 0) p.0 q.0 (p.1 ∙ rw (d, in_front (plain x))) (q.1 ∙ rw i) in
      rw (add-one v, lt-ltb _ _ m.0, le-leb _ _ q.0) m.1

-- Literal n of a clause: item(p, 3, n) for the clause p.
pub clause_item : (c : Clause) (n : ℕ) (rest : List ℕ) → to_item n (put_literals c (word ")" rest)) ≡ from_item put_literal (drop n c) (word ")" rest)
clause_item c n rest = rw (literals_each c (41 ∷ rest)) (to_item_lem put_literal skip_literal c n rest)

-- Part n of a molecule, behind its object.
pub part_item : (ps : Parts) (n : ℕ) (rest : List ℕ) → to_item n (put_parts ps (word ")" rest)) ≡ from_item put_bracketed (drop n (list_of_parts ps)) (word ")" rest)
part_item ps n rest = rw (parts_each ps (41 ∷ rest)) (to_item_lem put_bracketed skip_bracketed (list_of_parts ps) n rest)

-- Entry n of a list: item(l, 4, n) for the list l.
pub let_item : (ts : Terms) (n : ℕ) (rest : List ℕ) → to_item n (put_terms ts (word ")" rest)) ≡ from_item put_term (drop n (listed ts)) (word ")" rest)
let_item ts n rest = rw (terms_each ts (41 ∷ rest)) (to_item_lem put_term skip_term (listed ts) n rest)

-- The bytes of entry v of a list of terms.
pub let_entry : (s : List ℕ) (ts : Terms) (v at : ℕ) (rest : List ℕ) (d : Term) → v < count ts → v < 32 → at ≤ length s → drop at s ≡ put_terms ts (word ")" rest) → entry_of s (places s 33 at) v ≡ put_term (entry_or d ts v) []
let_entry s ts v at rest d l h f e = entry_each put_term skip_term term_plain s (listed ts) v at rest (listed_at d ts v l).1 h f (e ∙ terms_each ts (41 ∷ rest))

skip_close : (rest : List ℕ) → skip_item (41 ∷ rest) ≡ bad
unfolding skip_item strip
skip_close rest = refl

-- Argument n of a method: argument(s, at, n).
pub argument_item : (ts : Terms) (n : ℕ) (rest : List ℕ) → to_argument n (put_arguments ts rest) ≡ from_item put_term (drop n (listed ts)) (word ")" rest)
unfolding to_argument opening put_arguments strip listed from_item
argument_item nil zero rest = refl
argument_item nil (suc n) rest = rw (skip_close rest)
argument_item (cons t ts) zero rest = rw (term_opens t _, terms_each ts (41 ∷ rest))
argument_item (cons t ts) (suc n) rest = rw (skip_term t (put_terms ts (41 ∷ rest))) (let_item ts n rest)
