-- What holds of each variable and each applied symbol of a term, an atom, a clause (T7, T18, V16); ground terms (H1); the highest
-- variable (R3).
use Rattle.std.specs.Prelude.{ℕ, zero, suc, max, Bool, true, false, ◌&&◌, not, List, [], ◌∷◌, eqb}
use Rattle.logic.specs.Syntax.{Term, var, app, Terms, nil, cons, Result, value, none, may_be_none}
use Rattle.logic.specs.Syntax.{Part, part, Parts, only, also, Atom, link, obj, arrows, lit, Clause}
use Rattle.logic.specs.Terms.{count, terms_of}

-- T11: every variable N meets `p N`, and every applied symbol N with n terms meets `s N n`. T13, T16: so in an atom, in a clause.
unfoldable mutual
  pub each_term : (ℕ → Bool) → (ℕ → ℕ → Bool) → Term → Bool
  each_term p s (var n) = p n
  each_term p s (app f ts) = s f (count ts) && each_terms p s ts

  pub each_terms : (ℕ → Bool) → (ℕ → ℕ → Bool) → Terms → Bool
  each_terms p s nil = true
  each_terms p s (cons t ts) = each_term p s t && each_terms p s ts

unfoldable pub each_atom : (ℕ → Bool) → (ℕ → ℕ → Bool) → Atom → Bool
each_atom p s x = each_terms p s (terms_of x)

unfoldable pub each_clause : (ℕ → Bool) → (ℕ → ℕ → Bool) → Clause → Bool
each_clause p s [] = true
each_clause p s (lit g x ∷ c) = each_atom p s x && each_clause p s c

-- T7: "`(sym K)` declares the next symbol of the symbol table, counted from 0. It takes K terms.": symbol f is in the table and takes
-- n terms.
unfoldable pub declares : List ℕ → ℕ → ℕ → Bool
declares [] f n = false
declares (k ∷ table) zero n = eqb k n
declares (k ∷ table) (suc f) n = declares table f n

-- D1: variables are allowed. H1: none is.
abbrev pub any : ℕ → Bool
any n = true

abbrev pub never : ℕ → Bool
never n = false

-- D1, H1: terms over a symbol table, and ground terms over it. "Ground means: without variables."
unfoldable pub over_term : List ℕ → Term → Bool
over_term table t = each_term any (declares table) t

unfoldable pub ground_term : List ℕ → Term → Bool
ground_term table t = each_term never (declares table) t

-- T15: "With mv, mi, st and mt it may be the word `none` instead": no other atom has it.
unfoldable pub allowed_result : Bool → Result → Bool
allowed_result b (value t) = true
allowed_result b none = b

unfoldable pub allowed_part : Part → Bool
allowed_part (part a m ts r) = allowed_result (may_be_none a) r

unfoldable pub allowed_parts : Parts → Bool
allowed_parts (only p) = allowed_part p
allowed_parts (also p ps) = allowed_part p && allowed_parts ps

unfoldable pub allowed : Atom → Bool
allowed (link l t u) = true
allowed (obj t) = true
allowed (arrows o ps) = allowed_parts ps

unfoldable pub allowed_clause : Clause → Bool
allowed_clause [] = true
allowed_clause (lit g x ∷ c) = allowed x && allowed_clause c

-- H1: "a set of ground atoms over the symbol table". D1: clauses "over the symbol table".
unfoldable pub atom_over : (ℕ → Bool) → (ℕ → ℕ → Bool) → Atom → Bool
atom_over p s x = allowed x && each_atom p s x

-- H11: "A set holds no molecule."
unfoldable pub one_part : Parts → Bool
one_part (only p) = true
one_part (also p ps) = false

unfoldable pub no_molecule : Atom → Bool
no_molecule (link l t u) = true
no_molecule (obj t) = true
no_molecule (arrows o ps) = one_part ps

unfoldable pub ground_atom : List ℕ → Atom → Bool
ground_atom table x = no_molecule x && atom_over never (declares table) x

unfoldable pub over_clause : List ℕ → Clause → Bool
over_clause table c = allowed_clause c && each_clause any (declares table) c

-- R3: "the parent's highest variable plus 1, and 0 where it has no variable".
unfoldable mutual
  pub term_width : Term → ℕ
  term_width (var n) = suc n
  term_width (app f ts) = terms_width ts

  pub terms_width : Terms → ℕ
  terms_width nil = zero
  terms_width (cons t ts) = max (term_width t) (terms_width ts)

unfoldable pub width : Clause → ℕ
width [] = zero
width (lit g x ∷ c) = max (terms_width (terms_of x)) (width c)

-- D2, D4: variable n stands in a clause: not every variable of it is another.
unfoldable pub occurs_in : ℕ → Clause → Bool
occurs_in n c = not (each_clause (λ m. not (eqb m n)) (λ f k. true) c)
