-- The bounds that belong to the form itself (T4, T12, T15). The other limits (T18) are checks 1 and 5 and not here.
use Rattle.std.specs.Prelude.{ℕ, suc, max, Bool, true, ◌&&◌, List, [], ◌∷◌, leb}
use Rattle.logic.specs.declared.Arrow.{Arrow}
use Rattle.logic.specs.Syntax.{Term, var, app, Terms, nil, cons, Result, value, none, may_be_none}
use Rattle.logic.specs.Syntax.{Part, part, Parts, only, also, Atom, link, obj, arrows, Literal, lit, Clause}
use Rattle.logic.specs.Syntax.{Step, Line, sym, input, by}

-- T4: "A number N is decimal, 0 to 65,535".
abbrev pub max_number : ℕ
max_number = 65_535

abbrev pub formed_number : ℕ → Bool
formed_number n = leb n max_number

-- T12: "Terms nest .. deep, the outermost counting as 1."
unfoldable mutual
  pub depth_of : Term → ℕ
  depth_of (var n) = 1
  depth_of (app n ts) = suc (depth_ofs ts)

  pub depth_ofs : Terms → ℕ
  depth_ofs nil = 0
  depth_ofs (cons t ts) = max (depth_of t) (depth_ofs ts)

-- T4, T11: every number of a term is a number N.
unfoldable mutual
  pub numbered : Term → Bool
  numbered (var n) = formed_number n
  numbered (app n ts) = formed_number n && numbereds ts

  pub numbereds : Terms → Bool
  numbereds nil = true
  numbereds (cons t ts) = numbered t && numbereds ts

-- T12: "Terms nest at most 16 terms deep .. A line with a deeper term isn't a form." The depth is a figure of its own.
unfoldable pub formed_term : ℕ → Term → Bool
formed_term depth t = leb (depth_of t) depth && numbered t

unfoldable pub formed_terms : ℕ → Terms → Bool
formed_terms depth ts = leb (depth_ofs ts) depth && numbereds ts

-- T15: "The result R is a term. With mv, mi, st and mt it may be the word `none` instead".
unfoldable pub formed_result : ℕ → Arrow → Result → Bool
formed_result depth a (value t) = formed_term depth t
formed_result depth a none = may_be_none a

-- T13, T16, T21: every term of a part, of parts, an atom, a literal, a clause is formed.
unfoldable pub formed_part : ℕ → Part → Bool
formed_part depth (part a m ts r) = formed_term depth m && formed_terms depth ts && formed_result depth a r

unfoldable pub formed_parts : ℕ → Parts → Bool
formed_parts depth (only p) = formed_part depth p
formed_parts depth (also p ps) = formed_part depth p && formed_parts depth ps

unfoldable pub formed_atom : ℕ → Atom → Bool
formed_atom depth (link l t u) = formed_term depth t && formed_term depth u
formed_atom depth (obj t) = formed_term depth t
formed_atom depth (arrows o ps) = formed_term depth o && formed_parts depth ps

unfoldable pub formed_literal : ℕ → Literal → Bool
formed_literal depth (lit s a) = formed_atom depth a

unfoldable pub formed_clause : ℕ → Clause → Bool
formed_clause depth [] = true
formed_clause depth (l ∷ ls) = formed_literal depth l && formed_clause depth ls

-- T6: A, I, B, J, K are numbers N. T9: the two lists and the claim.
unfoldable pub formed_step : ℕ → Step → Bool
formed_step depth s =
    formed_number s.a && formed_number s.i && formed_number s.b && formed_number s.j && formed_number s.k
    && formed_terms depth s.first && formed_terms depth s.second && formed_clause depth s.claim

-- T1, T7 to T9: a line is a form exactly if it is written so and is formed.
unfoldable pub formed_line : ℕ → Line → Bool
formed_line depth (sym k) = formed_number k
formed_line depth (input c) = formed_clause depth c
formed_line depth (by s) = formed_step depth s

unfoldable pub formed_lines : ℕ → List Line → Bool
formed_lines depth [] = true
formed_lines depth (l ∷ ls) = formed_line depth l && formed_lines depth ls

-- V12: what a line of a text is: a form or not (`raw_exactly`: it is the form l exactly if it is ended, l is written so, and l is formed).
pub data Reading : Type 0 where
  form : Line → Reading
  no_form : Reading
