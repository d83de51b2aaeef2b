-- Nothing here is to be believed: it mirrors code on bytes; `line_sees` (crates/state/proofs/Held) says what it gives of a line.
-- What reading a part in one pass tells of it: a measure of the value read.
use Rattle.std.specs.Prelude.{ℕ, suc, ◌+◌, ◌/◌, max, Bool, cond, List, [], ◌∷◌, length}
use Rattle.logic.specs.Syntax.{Term, var, app, Terms, nil, cons, Result, Part, part, Parts, only, also}
use Rattle.logic.specs.Syntax.{Atom, link, obj, arrows, Literal, lit, Clause}
use Rattle.logic.specs.Terms.{count, result_terms}
use Rattle.logic.specs.Each.{declares}
use Rattle.reader.specs.declared.measures.Bounds.{Bounds}
use Rattle.reader.specs.declared.measures.Measure.{Measure}
use Rattle.text.specs.Figures.{count_parts}

-- What is taken of the parts of a text: of none, of two from left to right, of variable n, of symbol f applied to n terms, of a method with
-- n arguments, and of a molecule with n parts.
pub record Taken (M : Type 0) : Type 0 where
  pub nothing : M
  pub join : M → M → M
  pub variable : ℕ → M
  pub symbol : ℕ → ℕ → M
  pub arity : ℕ → M
  pub molecule : ℕ → M

-- So of a term, an atom and a clause, in the order of the text.
unfoldable mutual
  pub of_term : {M : Type 0} → Taken M → Term → M
  of_term T (var n) = T.variable n
  of_term T (app f ts) = T.join (T.symbol f (count ts)) (of_terms T ts)

  pub of_terms : {M : Type 0} → Taken M → Terms → M
  of_terms T nil = T.nothing
  of_terms T (cons t ts) = T.join (of_term T t) (of_terms T ts)

abbrev pub of_result : {M : Type 0} → Taken M → Result → M
of_result T r = of_terms T (result_terms r)

unfoldable pub of_part : {M : Type 0} → Taken M → Part → M
of_part T (part a m ts r) = T.join (T.arity (count ts)) (T.join (of_term T m) (T.join (of_terms T ts) (of_terms T (result_terms r))))

-- Of the parts of a molecule, in a list, and of those of an atom.
unfoldable pub of_part_list : {M : Type 0} → Taken M → List Part → M
of_part_list T [] = T.nothing
of_part_list T (p ∷ ps) = T.join (of_part T p) (of_part_list T ps)

unfoldable pub of_parts : {M : Type 0} → Taken M → Parts → M
of_parts T (only p) = of_part T p
of_parts T (also p ps) = T.join (of_part T p) (of_parts T ps)

-- An arrow atom's one part is not counted.
unfoldable pub of_atom : {M : Type 0} → Taken M → Atom → M
of_atom T (link l t u) = T.join (of_term T t) (of_term T u)
of_atom T (obj t) = of_term T t
of_atom T (arrows o (only p)) = T.join (of_term T o) (of_part T p)
of_atom T (arrows o (also p ps)) = T.join (T.molecule (count_parts (also p ps))) (T.join (of_term T o) (of_parts T (also p ps)))

unfoldable pub of_literal : {M : Type 0} → Taken M → Literal → M
of_literal T (lit g x) = of_atom T x

unfoldable pub of_clause : {M : Type 0} → Taken M → Clause → M
of_clause T [] = T.nothing
of_clause T (l ∷ c) = T.join (of_literal T l) (of_clause T c)

-- The bounds that the reader takes: of these fields; of no part, of the variable next below w, of symbol f, known or not, of a
-- method with n arguments, of a molecule with n parts, of two parts from left to right; and so over a table of argument counts.
abbrev pub bounds_of : ℕ → ℕ → ℕ → Bounds
bounds_of w n u = record { width = w; arguments = n; unknown = u }

abbrev pub no_bounds : Bounds
no_bounds = bounds_of 0 0 0

abbrev pub below_bounds : ℕ → Bounds
below_bounds w = bounds_of w 0 0

abbrev pub symbol_bounds : ℕ → Bool → Bounds
symbol_bounds f known = bounds_of 0 0 (cond known 0 (f + 1))

abbrev pub arity_bounds : ℕ → Bounds
arity_bounds n = bounds_of 0 n 0

-- A molecule counts as a method with half as many arguments, rounded up: they are at most 8 exactly if its parts are at most 16 (T18).
abbrev pub molecule_bounds : ℕ → Bounds
molecule_bounds n = arity_bounds ((n + 1) / 2)

unfoldable pub joined : Bounds → Bounds → Bounds
joined a b = bounds_of (max a.width b.width) (max a.arguments b.arguments) (max a.unknown b.unknown)

abbrev pub bounds : List ℕ → Taken Bounds
bounds table = record {
  nothing = no_bounds;
  join = joined;
  variable = λ n. below_bounds (suc n);
  symbol = λ f n. symbol_bounds f (declares table f n);
  arity = arity_bounds;
  molecule = molecule_bounds;
}

-- How many parts, and their bounds; no parts.
abbrev pub measured : ℕ → Bounds → Measure
measured n b = record { count = n; bounds = b }

abbrev pub empty : Measure
empty = measured 0 no_bounds

abbrev pub terms_measure : List ℕ → Terms → Measure
terms_measure table ts = measured (count ts) (of_terms (bounds table) ts)

abbrev pub parts_measure : List ℕ → List Part → Measure
parts_measure table ps = measured (length ps) (of_part_list (bounds table) ps)

abbrev pub clause_measure : List ℕ → Clause → Measure
clause_measure table c = measured (length c) (of_clause (bounds table) c)
