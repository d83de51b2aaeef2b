-- Filling (R2, D2, H10): a term stands in for each variable.
use Rattle.std.specs.Prelude.{ℕ, map}
use Rattle.logic.specs.Syntax.{Term, var, app, Terms, nil, cons, Result, value, none}
use Rattle.logic.specs.Syntax.{Part, part, Parts, only, also, Atom, link, obj, arrows, Literal, lit, Clause}
use Rattle.logic.specs.Terms.{entry_or}

-- D2, "one substitution": it gives the term for each variable.
abbrev pub Substitution : Type 0
Substitution = ℕ → Term

-- R2: "variable N of A becomes term N of the first list". Past the list's end, which check 8 (V18) rules out, it stays.
unfoldable pub entries : Terms → Substitution
entries ts n = entry_or (var n) ts n

-- R2, H10: a term, an atom, a literal, a clause with each variable replaced. The word none (T15) has no variable.
unfoldable mutual
  pub fill : Substitution → Term → Term
  fill σ (var n) = σ n
  fill σ (app f ts) = app f (fills σ ts)

  pub fills : Substitution → Terms → Terms
  fills σ nil = nil
  fills σ (cons t ts) = cons (fill σ t) (fills σ ts)

unfoldable pub fill_result : Substitution → Result → Result
fill_result σ (value t) = value (fill σ t)
fill_result σ none = none

unfoldable pub fill_part : Substitution → Part → Part
fill_part σ (part a m ts r) = part a (fill σ m) (fills σ ts) (fill_result σ r)

unfoldable pub fill_parts : Substitution → Parts → Parts
fill_parts σ (only p) = only (fill_part σ p)
fill_parts σ (also p ps) = also (fill_part σ p) (fill_parts σ ps)

unfoldable pub fill_atom : Substitution → Atom → Atom
fill_atom σ (link l t u) = link l (fill σ t) (fill σ u)
fill_atom σ (obj t) = obj (fill σ t)
fill_atom σ (arrows o ps) = arrows (fill σ o) (fill_parts σ ps)

unfoldable pub fill_literal : Substitution → Literal → Literal
fill_literal σ (lit g x) = lit g (fill_atom σ x)

unfoldable pub fill_clause : Substitution → Clause → Clause
fill_clause σ c = map (fill_literal σ) c
