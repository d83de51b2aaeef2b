-- Written forms as trees of brackets. What walks over the bytes of a form is judged once, on trees.
use Prim.Native.Nat.{ℕ, zero, suc, ◌/◌, ◌%◌, ◌≤◌, ◌<◌, max}
use mathlib.Core.Path.{◌≡◌, refl}
use mathlib.Core.Bool.{Bool, true, false, not, ◌&&◌, cond}
use mathlib.Core.List.{List, [], ◌∷◌, ◌++◌}
use native.Mathlib.Omega.{arith}
use lib.Dec.{T, eqb, ltb, not_T, eqb→eq}
use Rattle.logic.specs.declared.Sign.{Sign}
use Rattle.logic.specs.declared.Sign.TheVariants.{Positive, Negative}
use Rattle.logic.specs.declared.Link.TheVariants.{Eq, Mem, Sub}
use Rattle.logic.specs.declared.Arrow.{Arrow}
use Rattle.logic.specs.declared.Arrow.TheVariants.{Sv, Si, Mv, Mi, St, Mt}
use Rattle.logic.specs.Syntax.{Term, var as variable, app, Terms, nil, cons, Result, value, none, Part, part, arrow_of, Parts, only, also, Atom, link, obj, arrows, Literal, lit, Clause}
use Rattle.logic.specs.Terms.{join, part_terms, parts_terms, terms_of, result_terms}
use Rattle.logic.specs.Each.{term_width, terms_width}
use Rattle.text.specs.Words.{bytes, sign_word, link_word, arrow_word}
use Rattle.text.specs.Write.{Writer, word, digit_byte, put_digits, put_number, put_term, put_terms, put_arguments, put_result, put_part, put_bracketed, put_parts, put_atom, put_literal, put_literals, put_clause, put_let}
use Rattle.text.specs.Form.{formed_number, formed_term, formed_terms, formed_result, formed_part, formed_parts, formed_atom}
use Rattle.text.proofs.Tests.{T_and}
use Rattle.text.proofs.Formed.{var_formed, app_formed, no_depth, terms_formed}
use Rattle.text.proofs.Plain.{number_plain, in_front}

-- A bracket is a variable, or holds bytes and brackets in a row.
mutual
  pub data Tree : Type 0 where
    var : ℕ → Tree
    node : Trees → Tree

  pub data Trees : Type 0 where
    end : Trees
    byte : ℕ → Trees → Trees
    bracket : Tree → Trees → Trees

unfoldable mutual
  pub put_tree : Tree → Writer
  put_tree (var n) rest = word "(v " (put_number n (word ")" rest))
  put_tree (node ts) rest = 40 ∷ put_inside ts (41 ∷ rest)

  pub put_inside : Trees → Writer
  put_inside end rest = rest
  put_inside (byte b ts) rest = b ∷ put_inside ts rest
  put_inside (bracket t ts) rest = put_tree t (put_inside ts rest)

-- A byte that is no bracket.
abbrev pub inner : ℕ → Bool
inner b = not (eqb b 40) && not (eqb b 41)

-- What does not begin as a variable does.
abbrev pub opens : Trees → Bool
opens end = true
opens (byte b ts) = not (eqb b 118)
opens (bracket t ts) = true

abbrev mutual
  pub Clean : Tree → Type 0
  Clean (var n) = Unit {0}
  Clean (node ts) = T (opens ts) × CleanIn ts

  pub CleanIn : Trees → Type 0
  CleanIn end = Unit {0}
  CleanIn (byte b ts) = T (inner b) × CleanIn ts
  CleanIn (bracket t ts) = Clean t × CleanIn ts

-- At most d brackets deep, and P of each variable.
abbrev mutual
  pub Within : (ℕ → Type 0) → Tree → ℕ → Type 0
  Within P (var n) zero = ⊥
  Within P (var n) (suc d) = P n
  Within P (node ts) zero = ⊥
  Within P (node ts) (suc d) = WithinIn P ts d

  pub WithinIn : (ℕ → Type 0) → Trees → ℕ → Type 0
  WithinIn P end d = Unit {0}
  WithinIn P (byte b ts) d = WithinIn P ts d
  WithinIn P (bracket t ts) d = Within P t d × WithinIn P ts d

-- Bytes in front.
unfoldable pub texts : List ℕ → Trees → Trees
texts [] ts = ts
texts (b ∷ bs) ts = byte b (texts bs ts)

pub put_texts : (bs : List ℕ) (ts : Trees) (rest : List ℕ) → put_inside (texts bs ts) rest ≡ bs ++ put_inside ts rest
unfolding texts put_inside
put_texts [] ts rest = refl
put_texts (b ∷ bs) ts rest = rw (put_texts bs ts rest)

abbrev pub Inner : List ℕ → Type 0
Inner [] = Unit {0}
Inner (b ∷ bs) = T (inner b) × Inner bs

clean_texts : (bs : List ℕ) (ts : Trees) → Inner bs → CleanIn ts → CleanIn (texts bs ts)
unfolding texts
clean_texts [] ts h c = c
clean_texts (b ∷ bs) ts h c = (h.0, clean_texts bs ts h.1 c)

within_texts : (P : ℕ → Type 0) (bs : List ℕ) (ts : Trees) (d : ℕ) → WithinIn P ts d → WithinIn P (texts bs ts) d
unfolding texts
within_texts P [] ts d h = h
within_texts P (b ∷ bs) ts d h = within_texts P bs ts d h

-- A number's bytes are no brackets.
digit_inner : (d : ℕ) → T (inner (digit_byte d))
digit_inner d = simp T_and (not_T (eqb (digit_byte d) 40) (λ t. omega (arith, eqb→eq)), not_T (eqb (digit_byte d) 41) (λ t. omega (arith, eqb→eq)))

digits_inner : (k n : ℕ) (rest : List ℕ) → Inner rest → Inner (put_digits k n rest)
unfolding put_digits
digits_inner zero n rest h = (digit_inner n, h)
digits_inner (suc k) n rest h = either (ltb n 10) _ _ (digit_inner n, h) (digits_inner k (n / 10) _ (digit_inner (n % 10), h))
  where
    either : (b : Bool) (x y : List ℕ) → Inner x → Inner y → Inner (cond b x y)
    either true x y p q = p
    either false x y p q = q

abbrev pub number_bytes : ℕ → List ℕ
number_bytes n = put_number n []

pub number_inner : (n : ℕ) → Inner (number_bytes n)
unfolding put_number
number_inner n = digits_inner n n [] tt

-- Each form as a tree.
unfoldable mutual
  pub tree_term : Term → Tree
  tree_term (variable n) = var n
  tree_term (app n ts) = node (byte 102 (byte 32 (texts (number_bytes n) (tree_terms ts))))

  pub tree_terms : Terms → Trees
  tree_terms nil = end
  tree_terms (cons t ts) = byte 32 (bracket (tree_term t) (tree_terms ts))

unfoldable pub tree_arguments : Terms → Tree
tree_arguments nil = node end
tree_arguments (cons t ts) = node (bracket (tree_term t) (tree_terms ts))

unfoldable pub tree_result : Result → Trees
tree_result (value t) = bracket (tree_term t) end
tree_result none = texts (bytes "none") end

unfoldable pub tree_part : Part → Trees
tree_part (part a m ts r) = bracket (tree_term m) (byte 32 (bracket (tree_arguments ts) (byte 32 (tree_result r))))

unfoldable pub tree_bracketed : Part → Tree
tree_bracketed p = node (texts (bytes (arrow_word (arrow_of p))) (byte 32 (tree_part p)))

unfoldable pub tree_parts : Parts → Trees
tree_parts (only p) = byte 32 (bracket (tree_bracketed p) end)
tree_parts (also p ps) = byte 32 (bracket (tree_bracketed p) (tree_parts ps))

unfoldable pub tree_atom : Atom → Tree
tree_atom (link l t u) = node (texts (bytes (link_word l)) (byte 32 (bracket (tree_term t) (byte 32 (bracket (tree_term u) end)))))
tree_atom (obj t) = node (texts (bytes "obj ") (bracket (tree_term t) end))
tree_atom (arrows o (only p)) = node (texts (bytes (arrow_word (arrow_of p))) (byte 32 (bracket (tree_term o) (byte 32 (tree_part p)))))
tree_atom (arrows o (also p ps)) = node (texts (bytes "mol ") (bracket (tree_term o) (tree_parts (also p ps))))

unfoldable pub tree_literal : Literal → Tree
tree_literal (lit s a) = node (texts (bytes (sign_word s)) (byte 32 (bracket (tree_atom a) end)))

unfoldable pub tree_literals : Clause → Trees
tree_literals [] = end
tree_literals (l ∷ c) = byte 32 (bracket (tree_literal l) (tree_literals c))

unfoldable pub tree_clause : Clause → Tree
tree_clause c = node (byte 111 (byte 114 (tree_literals c)))

unfoldable pub tree_let : Terms → Tree
tree_let ts = node (byte 108 (byte 101 (byte 116 (tree_terms ts))))

-- The same bytes.
mutual
  unfolding put_term put_tree tree_term

  pub put_term_lem : (t : Term) (rest : List ℕ) → put_term t rest ≡ put_tree (tree_term t) rest
  put_term_lem (variable n) rest = refl
  put_term_lem (app n ts) rest = rw (put_texts (number_bytes n) (tree_terms ts) (41 ∷ rest), ← put_terms_lem ts (41 ∷ rest), ← in_front (number_plain n) (put_terms ts (41 ∷ rest)))

  pub put_terms_lem : (ts : Terms) (rest : List ℕ) → put_terms ts rest ≡ put_inside (tree_terms ts) rest
  put_terms_lem nil rest = refl
  put_terms_lem (cons t ts) rest = rw (put_terms_lem ts rest, put_term_lem t (put_inside (tree_terms ts) rest))

pub put_arguments_lem : (ts : Terms) (rest : List ℕ) → put_arguments ts rest ≡ put_tree (tree_arguments ts) rest
unfolding put_arguments tree_arguments put_tree
put_arguments_lem nil rest = refl
put_arguments_lem (cons t ts) rest = rw (put_terms_lem ts (41 ∷ rest), put_term_lem t _)

pub put_result_lem : (r : Result) (rest : List ℕ) → put_result r rest ≡ put_inside (tree_result r) rest
unfolding put_result tree_result put_inside texts
put_result_lem (value t) rest = put_term_lem t rest
put_result_lem none rest = refl

pub put_part_lem : (p : Part) (rest : List ℕ) → put_part p rest ≡ put_inside (tree_part p) (41 ∷ rest)
unfolding put_part tree_part put_tree
put_part_lem (part a m ts r) rest = rw (put_result_lem r _, put_arguments_lem ts _, put_term_lem m _)

pub put_bracketed_lem : (p : Part) (rest : List ℕ) → put_bracketed p rest ≡ put_tree (tree_bracketed p) rest
unfolding put_bracketed tree_bracketed put_tree
put_bracketed_lem p rest = rw (put_texts, put_part_lem p rest)

pub put_parts_lem : (ps : Parts) (rest : List ℕ) → put_parts ps rest ≡ put_inside (tree_parts ps) rest
unfolding put_parts tree_parts put_tree
put_parts_lem (only p) rest = rw (put_bracketed_lem p rest)
put_parts_lem (also p ps) rest = rw (put_parts_lem ps rest, put_bracketed_lem p _)

pub put_atom_lem : (a : Atom) (rest : List ℕ) → put_atom a rest ≡ put_tree (tree_atom a) rest
unfolding put_atom tree_atom put_tree
put_atom_lem (link l t u) rest = rw (put_texts, put_term_lem u _, put_term_lem t _)
put_atom_lem (obj t) rest = rw (put_texts, put_term_lem t _)
put_atom_lem (arrows o (only p)) rest = rw (put_texts, put_part_lem p rest, put_term_lem o _)
put_atom_lem (arrows o (also p ps)) rest = rw (put_texts, put_parts_lem (also p ps) (41 ∷ rest), put_term_lem o _)

pub put_literal_lem : (l : Literal) (rest : List ℕ) → put_literal l rest ≡ put_tree (tree_literal l) rest
unfolding put_literal tree_literal put_tree
put_literal_lem (lit s a) rest = rw (put_texts, put_atom_lem a _)

pub put_literals_lem : (c : Clause) (rest : List ℕ) → put_literals c rest ≡ put_inside (tree_literals c) rest
unfolding put_literals tree_literals put_tree
put_literals_lem [] rest = refl
put_literals_lem (l ∷ c) rest = rw (put_literals_lem c rest, put_literal_lem l _)

pub put_clause_lem : (c : Clause) (rest : List ℕ) → put_clause c rest ≡ put_tree (tree_clause c) rest
unfolding put_clause tree_clause put_tree
put_clause_lem c rest = rw (put_literals_lem c _)

pub put_let_lem : (ts : Terms) (rest : List ℕ) → put_let ts rest ≡ put_tree (tree_let ts) rest
unfolding put_let tree_let put_tree
put_let_lem ts rest = rw (put_terms_lem ts _)

-- Clean, whatever is written.
mutual
  unfolding tree_term

  pub clean_term : (t : Term) → Clean (tree_term t)
  clean_term (variable n) = tt
  clean_term (app n ts) = (tt, (tt, (tt, clean_texts (number_bytes n) (tree_terms ts) (number_inner n) (clean_terms ts))))

  pub clean_terms : (ts : Terms) → CleanIn (tree_terms ts)
  clean_terms nil = tt
  clean_terms (cons t ts) = (tt, (clean_term t, clean_terms ts))

pub clean_arguments : (ts : Terms) → Clean (tree_arguments ts)
unfolding tree_arguments
clean_arguments nil = (tt, tt)
clean_arguments (cons t ts) = (tt, (clean_term t, clean_terms ts))

pub clean_result : (r : Result) → CleanIn (tree_result r)
unfolding tree_result texts
clean_result (value t) = (clean_term t, tt)
clean_result none = (tt, (tt, (tt, (tt, tt))))

pub clean_part : (p : Part) → CleanIn (tree_part p)
unfolding tree_part
clean_part (part a m ts r) = (clean_term m, (tt, (clean_arguments ts, (tt, clean_result r))))

pub clean_bracketed : (p : Part) → Clean (tree_bracketed p)
unfolding tree_bracketed texts
clean_bracketed p = elim (arrow_of p) as (λ a. Clean (node (texts (bytes (arrow_word a)) (byte 32 (tree_part p))))) [ Sv ↦ (tt, (tt, (tt, c))) | Si ↦ (tt, (tt, (tt, c))) | Mv ↦ (tt, (tt, (tt, c))) | Mi ↦ (tt, (tt, (tt, c))) | St ↦ (tt, (tt, (tt, c))) | Mt ↦ (tt, (tt, (tt, c))) ]
  where
    c : CleanIn (byte 32 (tree_part p))
    c = (tt, clean_part p)

pub clean_parts : (ps : Parts) → CleanIn (tree_parts ps)
unfolding tree_parts
clean_parts (only p) = (tt, (clean_bracketed p, tt))
clean_parts (also p ps) = (tt, (clean_bracketed p, clean_parts ps))

pub clean_atom : (a : Atom) → Clean (tree_atom a)
unfolding tree_atom texts
clean_atom (link l t u) = elim l as (λ l. Clean (node (texts (bytes (link_word l)) (byte 32 (bracket (tree_term t) (byte 32 (bracket (tree_term u) end))))))) [ Eq ↦ (tt, (tt, (tt, c))) | Mem ↦ (tt, (tt, (tt, (tt, c)))) | Sub ↦ (tt, (tt, (tt, (tt, c)))) ]
  where
    c : CleanIn (byte 32 (bracket (tree_term t) (byte 32 (bracket (tree_term u) end))))
    c = (tt, (clean_term t, (tt, (clean_term u, tt))))
clean_atom (obj t) = (tt, (tt, (tt, (tt, (tt, (clean_term t, tt))))))
clean_atom (arrows o (also p ps)) = (tt, (tt, (tt, (tt, (tt, (clean_term o, clean_parts (also p ps)))))))
clean_atom (arrows o (only p)) = elim (arrow_of p) as (λ a. Clean (node (texts (bytes (arrow_word a)) (byte 32 (bracket (tree_term o) (byte 32 (tree_part p))))))) [ Sv ↦ (tt, (tt, (tt, c))) | Si ↦ (tt, (tt, (tt, c))) | Mv ↦ (tt, (tt, (tt, c))) | Mi ↦ (tt, (tt, (tt, c))) | St ↦ (tt, (tt, (tt, c))) | Mt ↦ (tt, (tt, (tt, c))) ]
  where
    c : CleanIn (byte 32 (bracket (tree_term o) (byte 32 (tree_part p))))
    c = (tt, (clean_term o, (tt, clean_part p)))

pub clean_literal : (l : Literal) → Clean (tree_literal l)
unfolding tree_literal texts
clean_literal (lit s a) = elim s as (λ k. Clean (tree_literal (lit k a))) [ Positive ↦ (tt, (tt, (tt, (clean_atom a, tt)))) | Negative ↦ (tt, (tt, (tt, (clean_atom a, tt)))) ]

pub clean_literals : (c : Clause) → CleanIn (tree_literals c)
unfolding tree_literals
clean_literals [] = tt
clean_literals (l ∷ c) = (tt, (clean_literal l, clean_literals c))

pub clean_clause : (c : Clause) → Clean (tree_clause c)
unfolding tree_clause
clean_clause c = (tt, (tt, (tt, clean_literals c)))

pub clean_let : (ts : Terms) → Clean (tree_let ts)
unfolding tree_let
clean_let ts = (tt, (tt, (tt, (tt, clean_terms ts))))

-- Within the depth of a formed term, with variables below its width.
abbrev pub Below : ℕ → ℕ → Type 0
Below w n = T (formed_number n) × (n < w)

mutual
  unfolding tree_term term_width

  pub within_term : (w : ℕ) (t : Term) (d : ℕ) → T (formed_term d t) → term_width t ≤ w → Within (Below w) (tree_term t) d
  within_term w (variable n) zero f h = absurd (no_depth (variable n) f)
  within_term w (variable n) (suc d) f h = ((var_formed d n).1 f, h)
  within_term w (app n ts) zero f h = absurd (no_depth (app n ts) f)
  within_term w (app n ts) (suc d) f h = within_texts (Below w) (number_bytes n) (tree_terms ts) d (within_terms w ts d ((app_formed d n ts).1 f).1 h)

  pub within_terms : (w : ℕ) (ts : Terms) (d : ℕ) → T (formed_terms d ts) → terms_width ts ≤ w → WithinIn (Below w) (tree_terms ts) d
  within_terms w nil d f h = tt
  within_terms w (cons t ts) d f h = let (g, k) = (terms_formed d t ts).0 f in (within_term w t d g (omega arith), within_terms w ts d k (omega arith))

pub join_width : (ts us : Terms) → terms_width (join ts us) ≡ max (terms_width ts) (terms_width us)
unfolding terms_width join
join_width nil us = omega arith
join_width (cons t ts) us = omega (arith, join_width ts us)

pub within_arguments : (w d : ℕ) (ts : Terms) → T (formed_terms d ts) → terms_width ts ≤ w → Within (Below w) (tree_arguments ts) (suc d)
unfolding tree_arguments terms_width
within_arguments w d nil f h = tt
within_arguments w d (cons t ts) f h = let (g, k) = (terms_formed d t ts).0 f in (within_term w t d g (omega arith), within_terms w ts d k (omega arith))

-- A bound may be larger.
mutual
  pub within_more : (P : ℕ → Type 0) (t : Tree) (d : ℕ) → Within P t d → Within P t (suc d)
  within_more P (var n) zero h = absurd h
  within_more P (var n) (suc d) h = h
  within_more P (node ts) zero h = absurd h
  within_more P (node ts) (suc d) h = within_in_more P ts d h

  pub within_in_more : (P : ℕ → Type 0) (ts : Trees) (d : ℕ) → WithinIn P ts d → WithinIn P ts (suc d)
  within_in_more P end d h = tt
  within_in_more P (byte b ts) d h = within_in_more P ts d h
  within_in_more P (bracket t ts) d h = (within_more P t d h.0, within_in_more P ts d h.1)

within_result : (w d : ℕ) (a : Arrow) (r : Result) → T (formed_result d a r) → terms_width (result_terms r) ≤ w → WithinIn (Below w) (tree_result r) (suc d)
unfolding tree_result formed_result result_terms terms_width
within_result w d a (value t) f h = (within_more _ (tree_term t) d (within_term w t d f (omega arith)), tt)
within_result w d a none f h = within_texts _ (bytes "none") end (suc d) tt

within_up : (w d : ℕ) (t : Term) → T (formed_term d t) → term_width t ≤ w → Within (Below w) (tree_term t) (suc d)
within_up w d t f h = within_more _ (tree_term t) d (within_term w t d f h)

within_part : (w d : ℕ) (p : Part) → T (formed_part d p) → terms_width (part_terms p) ≤ w → WithinIn (Below w) (tree_part p) (suc d)
unfolding tree_part formed_part part_terms terms_width
within_part w d (part a m ts r) f h =
    let ((g, k), i) = simp T_and at f in
    let j = join_width ts (result_terms r) in
    (within_up w d m g (omega arith), (within_arguments w d ts k (omega arith), within_result w d a r i (omega arith)))

pub within_bracketed : (w d : ℕ) (p : Part) → T (formed_part d p) → terms_width (part_terms p) ≤ w → Within (Below w) (tree_bracketed p) (suc (suc d))
unfolding tree_bracketed
within_bracketed w d p f h = within_texts _ (bytes (arrow_word (arrow_of p))) _ (suc d) (within_part w d p f h)

pub within_parts : (w d : ℕ) (ps : Parts) → T (formed_parts d ps) → terms_width (parts_terms ps) ≤ w → WithinIn (Below w) (tree_parts ps) (suc (suc d))
unfolding tree_parts formed_parts parts_terms
within_parts w d (only p) f h = (within_bracketed w d p f h, tt)
within_parts w d (also p ps) f h =
    let (g, k) = simp T_and at f in
    let j = join_width (part_terms p) (parts_terms ps) in
    (within_bracketed w d p g (omega arith), within_parts w d ps k (omega arith))

within_two : (w d : ℕ) (t : Term) → T (formed_term d t) → term_width t ≤ w → Within (Below w) (tree_term t) (suc (suc d))
within_two w d t f h = within_more _ (tree_term t) (suc d) (within_up w d t f h)

-- A part of a molecule is one bracket deeper than an atom.
pub within_atom : (w d : ℕ) (x : Atom) → T (formed_atom d x) → terms_width (terms_of x) ≤ w → Within (Below w) (tree_atom x) (suc (suc (suc d)))
unfolding tree_atom formed_atom formed_parts terms_of parts_terms terms_width
within_atom w d (link l t u) f h =
    let (g, k) = simp T_and at f in
    within_texts _ (bytes (link_word l)) _ (suc (suc d)) (within_two w d t g (omega arith), (within_two w d u k (omega arith), tt))
within_atom w d (obj t) f h = within_texts _ (bytes "obj ") _ (suc (suc d)) (within_two w d t f (omega arith), tt)
within_atom w d (arrows o (only p)) f h =
    let (g, k) = simp T_and at f in
    within_texts _ (bytes (arrow_word (arrow_of p))) _ (suc (suc d))
    (within_two w d o g (omega arith), within_in_more _ (tree_part p) (suc d) (within_part w d p k (omega arith)))
within_atom w d (arrows o (also p ps)) f h =
    let (g, k) = simp T_and at f in
    within_texts _ (bytes "mol ") _ (suc (suc d)) (within_two w d o g (omega arith), within_parts w d (also p ps) (simp T_and k) (omega arith))

pub within_literal : (w d : ℕ) (g : Sign) (x : Atom) → T (formed_atom d x) → terms_width (terms_of x) ≤ w → Within (Below w) (tree_literal (lit g x)) (suc (suc (suc (suc d))))
unfolding tree_literal
within_literal w d g x f h = within_texts _ (bytes (sign_word g)) _ (suc (suc (suc d))) (within_atom w d x f h, tt)
