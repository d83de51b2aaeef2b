-- Each writer puts bytes before what follows, none of them a line end.
use Prim.Native.Nat.{ℕ, zero, suc, ◌/◌, ◌%◌, ◌≤◌}
use Prim.Native.String.{String}
use mathlib.Core.Path.{◌≡◌, refl, sym, ◌∙◌, ap}
use mathlib.Core.Bool.{Bool, true, false, not, ◌&&◌, cond}
use mathlib.Core.List.{List, [], ◌∷◌, ◌++◌, append_assoc, append-nil}
use native.Mathlib.Omega.{arith}
use lib.Dec.{T, eqb, ltb, not_T, eqb→eq}
use lib.ListN.{length, length-append}
use Rattle.logic.specs.declared.Sign.{Sign}
use Rattle.logic.specs.declared.Sign.TheVariants.{Positive, Negative}
use Rattle.logic.specs.declared.Link.{Link}
use Rattle.logic.specs.declared.Link.TheVariants.{Eq, Mem, Sub}
use Rattle.logic.specs.declared.Arrow.{Arrow}
use Rattle.logic.specs.declared.Arrow.TheVariants.{Sv, Si, Mv, Mi, St, Mt}
use Rattle.logic.specs.declared.Rule.{Rule}
use Rattle.logic.specs.declared.Rule.TheVariants.{Refl, Res, Fac, Par, Acy, Tra, Inc, Inh, Inp, Out, Sca, Eli, Mer, Pro}
use Rattle.logic.specs.Syntax.{Term, var, app, Terms, nil, cons, Result, value, none, Part, part, arrow_of, Parts, only, also, Atom, link, obj, arrows, Literal, lit, Clause, Step, Line, input, by}
use Rattle.text.specs.Words.{bytes, line_end, sign_word, link_word, arrow_word, rule_word}
use Rattle.text.specs.Write.{Writer, ◌∘◌, word, digit_byte, put_digits, put_number, put_term, put_terms, put_arguments, put_result, put_part, put_bracketed, put_parts, put_atom, put_literal, put_literals, put_clause, put_let, put_step, put_line}
use Rattle.text.proofs.Tests.{T_and}

-- No byte is a line end.
abbrev pub unbroken : List ℕ → Bool
unbroken [] = true
unbroken (b ∷ bs) = not (eqb b line_end) && unbroken bs

pub record Plain (put : Writer) : Type 0 where
  pub front : List ℕ
  pub one_line : T (unbroken front)
  pub puts : (rest : List ℕ) → put rest ≡ front ++ rest

unbroken_append : (a b : List ℕ) → T (unbroken a) → T (unbroken b) → T (unbroken (a ++ b))
unbroken_append [] b s t = t
unbroken_append (x ∷ a) b s t = let (p, q) = simp T_and at s in simp T_and (p, unbroken_append a b q t)

infixr 60 ◌⨾◌
pub ◌⨾◌ : {f g : Writer} → Plain f → Plain g → Plain (f ∘ g)
◌⨾◌ p q = record { front = p.front ++ q.front; one_line = unbroken_append p.front q.front p.one_line q.one_line; puts = λ rest. p.puts _ ∙ rw (q.puts rest, append_assoc) }

pub plain : (w : String) → T (unbroken (bytes w)) → Plain (word w)
plain w t = record { front = bytes w; one_line = t; puts = λ _. refl }

either : (b : Bool) {f g : Writer} → Plain f → Plain g → Plain (λ rest. cond b (f rest) (g rest))
either true p q = p
either false p q = q

digit_plain : (d : ℕ) → Plain (λ rest. digit_byte d ∷ rest)
digit_plain d = record { front = digit_byte d ∷ []; one_line = simp T_and (not_T (eqb (digit_byte d) line_end) (λ t. omega (arith, eqb→eq)), tt); puts = λ _. refl }

digits_plain : (k n : ℕ) → Plain (put_digits k n)
unfolding put_digits
digits_plain zero n = digit_plain n
digits_plain (suc k) n = either (ltb n 10) (digit_plain n) (digits_plain k (n / 10) ⨾ digit_plain (n % 10))

pub number_plain : (n : ℕ) → Plain (put_number n)
unfolding put_number
number_plain n = digits_plain n n

pub sign_plain : (s : Sign) → Plain (word (sign_word s))
sign_plain s = plain (sign_word s) (elim s as (λ k. T (unbroken (bytes (sign_word k)))) [ Positive ↦ tt | Negative ↦ tt ])

pub link_plain : (l : Link) → Plain (word (link_word l))
link_plain l = plain (link_word l) (elim l as (λ k. T (unbroken (bytes (link_word k)))) [ Eq ↦ tt | Mem ↦ tt | Sub ↦ tt ])

pub arrow_plain : (a : Arrow) → Plain (word (arrow_word a))
arrow_plain a = plain (arrow_word a) (elim a as (λ k. T (unbroken (bytes (arrow_word k)))) [ Sv ↦ tt | Si ↦ tt | Mv ↦ tt | Mi ↦ tt | St ↦ tt | Mt ↦ tt ])

pub rule_plain : (r : Rule) → Plain (word (rule_word r))
rule_plain r = plain (rule_word r) (elim r as (λ k. T (unbroken (bytes (rule_word k)))) [ Refl ↦ tt | Res ↦ tt | Fac ↦ tt | Par ↦ tt | Acy ↦ tt | Tra ↦ tt | Inc ↦ tt | Inh ↦ tt | Inp ↦ tt | Out ↦ tt | Sca ↦ tt | Eli ↦ tt | Mer ↦ tt | Pro ↦ tt ])

space : Plain (word " ")
space = plain " " tt

pub close : Plain (word ")")
close = plain ")" tt

mutual
  unfolding put_term

  pub term_plain : (t : Term) → Plain (put_term t)
  term_plain (var n) = plain "(v " tt ⨾ number_plain n ⨾ close
  term_plain (app n ts) = plain "(f " tt ⨾ number_plain n ⨾ terms_plain ts ⨾ close

  pub terms_plain : (ts : Terms) → Plain (put_terms ts)
  terms_plain nil = plain "" tt
  terms_plain (cons t ts) = space ⨾ term_plain t ⨾ terms_plain ts

pub arguments_plain : (ts : Terms) → Plain (put_arguments ts)
unfolding put_arguments
arguments_plain nil = plain "()" tt
arguments_plain (cons t ts) = plain "(" tt ⨾ term_plain t ⨾ terms_plain ts ⨾ close

pub result_plain : (r : Result) → Plain (put_result r)
unfolding put_result
result_plain (value t) = term_plain t
result_plain none = plain "none" tt

pub part_plain : (p : Part) → Plain (put_part p)
unfolding put_part
part_plain (part a m ts r) = term_plain m ⨾ space ⨾ arguments_plain ts ⨾ space ⨾ result_plain r ⨾ close

pub bracketed_plain : (p : Part) → Plain (put_bracketed p)
unfolding put_bracketed
bracketed_plain p = plain "(" tt ⨾ arrow_plain (arrow_of p) ⨾ space ⨾ part_plain p

parts_plain : (ps : Parts) → Plain (put_parts ps)
unfolding put_parts
parts_plain (only p) = space ⨾ bracketed_plain p
parts_plain (also p ps) = space ⨾ bracketed_plain p ⨾ parts_plain ps

pub atom_plain : (a : Atom) → Plain (put_atom a)
unfolding put_atom
atom_plain (link l t u) = plain "(" tt ⨾ link_plain l ⨾ space ⨾ term_plain t ⨾ space ⨾ term_plain u ⨾ close
atom_plain (obj t) = plain "(obj " tt ⨾ term_plain t ⨾ close
atom_plain (arrows o (only p)) = plain "(" tt ⨾ arrow_plain (arrow_of p) ⨾ space ⨾ term_plain o ⨾ space ⨾ part_plain p
atom_plain (arrows o (also p ps)) = plain "(mol " tt ⨾ term_plain o ⨾ parts_plain (also p ps) ⨾ close

pub literal_plain : (l : Literal) → Plain (put_literal l)
unfolding put_literal
literal_plain (lit s a) = plain "(" tt ⨾ sign_plain s ⨾ space ⨾ atom_plain a ⨾ close

pub literals_plain : (c : Clause) → Plain (put_literals c)
unfolding put_literals
literals_plain [] = plain "" tt
literals_plain (l ∷ ls) = space ⨾ literal_plain l ⨾ literals_plain ls

pub clause_plain : (c : Clause) → Plain (put_clause c)
unfolding put_clause
clause_plain c = plain "(or" tt ⨾ literals_plain c ⨾ close

pub let_plain : (ts : Terms) → Plain (put_let ts)
unfolding put_let
let_plain ts = plain "(let" tt ⨾ terms_plain ts ⨾ close

step_plain : (s : Step) → Plain (put_step s)
unfolding put_step
step_plain s =
    plain "(by " tt ⨾ rule_plain s.rule ⨾ space
    ⨾ number_plain s.a ⨾ space ⨾ number_plain s.i ⨾ space ⨾ number_plain s.b ⨾ space ⨾ number_plain s.j ⨾ space ⨾ number_plain s.k
    ⨾ space ⨾ let_plain s.first ⨾ space ⨾ let_plain s.second ⨾ space ⨾ clause_plain s.claim ⨾ close

pub line_plain : (l : Line) → Plain (put_line l)
unfolding put_line
line_plain (Line.sym k) = plain "(sym " tt ⨾ number_plain k ⨾ close
line_plain (input c) = plain "(in " tt ⨾ clause_plain c ⨾ close
line_plain (by s) = step_plain s

-- So the bytes alone, then what follows.
pub in_front : {put : Writer} → Plain put → (rest : List ℕ) → put rest ≡ put [] ++ rest
in_front p rest = p.puts rest ∙ ap (λ w. w ++ rest) (sym (p.puts [] ∙ append-nil p.front))

pub unbroken_put : {put : Writer} → Plain put → T (unbroken (put []))
unbroken_put p = rw (p.puts [], append-nil) p.one_line

pub put_grows : {put : Writer} → Plain put → (rest : List ℕ) → length rest ≤ length (put rest)
put_grows p rest = rw (p.puts rest, length-append) (omega arith)
