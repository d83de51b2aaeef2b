-- The writer, the grammar of T6: each part of a line as the bytes that it puts before the bytes that follow.
-- T1: "Every line ends with byte 10 and is one form, of nested brackets." T3: "One space stands between two items, and none inside the
-- ends of a bracket."
use Rattle.std.specs.Prelude.{ℕ, zero, suc, ◌+◌, ◌/◌, ◌%◌, cond, List, [], ◌∷◌, ◌++◌, ltb}
use Prim.Native.String.{String}
use Rattle.logic.specs.Syntax.{Term, var, app, Terms, nil, cons, Result, value, none}
use Rattle.logic.specs.Syntax.{Part, part, arrow_of, Parts, only, also, Atom, link, obj, arrows, Literal, lit, Clause}
use Rattle.logic.specs.Syntax.{Step, Line, sym, input, by}
use Rattle.text.specs.Words.{bytes, line_end, sign_word, link_word, arrow_word, rule_word}

-- T6: what puts bytes before the bytes that follow.
abbrev pub Writer : Type 0
Writer = List ℕ → List ℕ

infixr 60 ◌∘◌
-- T6: one part after the other.
abbrev pub ◌∘◌ : Writer → Writer → Writer
◌∘◌ f g rest = f (g rest)

-- T6: "the bytes themselves".
abbrev pub word : String → Writer
word w rest = bytes w ++ rest

-- T4, "decimal": the byte of a digit, 0 to 9.
abbrev pub digit_byte : ℕ → ℕ
digit_byte d = 48 + d

-- T4: "A number N is decimal, .. without leading zeros": one digit, or the number without its last digit and then that digit.
-- The first argument bounds the digits; n itself is enough.
unfoldable pub put_digits : ℕ → ℕ → Writer
put_digits zero n rest = digit_byte n ∷ rest
put_digits (suc k) n rest =
    let front = put_digits k (n / 10) (digit_byte (n % 10) ∷ rest) in
    cond (ltb n 10) (digit_byte n ∷ rest) front

unfoldable pub put_number : ℕ → Writer
put_number n = put_digits n n

-- T11: "`(v N)` is variable N. `(f N TERM ...)` is symbol N applied to the terms."
unfoldable mutual
  pub put_term : Term → Writer
  put_term (var n) = word "(v " ∘ put_number n ∘ word ")"
  put_term (app n ts) = word "(f " ∘ put_number n ∘ put_terms ts ∘ word ")"

  -- T3: each term after one space
  pub put_terms : Terms → Writer
  put_terms nil = word ""
  put_terms (cons t ts) = word " " ∘ put_term t ∘ put_terms ts

-- T13: "the arguments T ..., perhaps none at all".
unfoldable pub put_arguments : Terms → Writer
put_arguments nil = word "()"
put_arguments (cons t ts) = word "(" ∘ put_term t ∘ put_terms ts ∘ word ")"

-- T15: "The result R is a term. With mv, mi, st and mt it may be the word `none` instead".
unfoldable pub put_result : Result → Writer
put_result (value t) = put_term t
put_result none = word "none"

-- T13: `M (T ...) R)`, a part from its method on.
unfoldable pub put_part : Part → Writer
put_part (part a m ts r) = put_term m ∘ word " " ∘ put_arguments ts ∘ word " " ∘ put_result r ∘ word ")"

-- T21: a PART, `(ARROW M (T ...) R)`. T3: each after one space.
unfoldable pub put_bracketed : Part → Writer
put_bracketed p = word "(" ∘ word (arrow_word (arrow_of p)) ∘ word " " ∘ put_part p

unfoldable pub put_parts : Parts → Writer
put_parts (only p) = word " " ∘ put_bracketed p
put_parts (also p ps) = word " " ∘ put_bracketed p ∘ put_parts ps

-- T13: `(eq T U)`, `(mem T U)`, `(sub T U)`, `(obj T)`, `(ARROW O M (T ...) R)`. T21: `(mol T PART PART ...)`.
unfoldable pub put_atom : Atom → Writer
put_atom (link l t u) = word "(" ∘ word (link_word l) ∘ word " " ∘ put_term t ∘ word " " ∘ put_term u ∘ word ")"
put_atom (obj t) = word "(obj " ∘ put_term t ∘ word ")"
put_atom (arrows o (only p)) = word "(" ∘ word (arrow_word (arrow_of p)) ∘ word " " ∘ put_term o ∘ word " " ∘ put_part p
put_atom (arrows o (also p ps)) = word "(mol " ∘ put_term o ∘ put_parts (also p ps) ∘ word ")"

-- T16: `(+ ATOM)`, `(- ATOM)`.
unfoldable pub put_literal : Literal → Writer
put_literal (lit s a) = word "(" ∘ word (sign_word s) ∘ word " " ∘ put_atom a ∘ word ")"

-- T3: each literal after one space.
unfoldable pub put_literals : List Literal → Writer
put_literals [] = word ""
put_literals (l ∷ ls) = word " " ∘ put_literal l ∘ put_literals ls

-- T16: "`(or LIT ...)` is the clause of these literals, `(or)` the empty one."
unfoldable pub put_clause : Clause → Writer
put_clause c = word "(or" ∘ put_literals c ∘ word ")"

-- T6, T9: a list, `(let TERM ...)`, perhaps `(let)`.
unfoldable pub put_let : Terms → Writer
put_let ts = word "(let" ∘ put_terms ts ∘ word ")"

-- T9: "`(by RULE A I B J K LET LET CLAUSE)` is a step."
unfoldable pub put_step : Step → Writer
put_step s =
    word "(by " ∘ word (rule_word s.rule) ∘ word " "
    ∘ put_number s.a ∘ word " " ∘ put_number s.i ∘ word " " ∘ put_number s.b ∘ word " " ∘ put_number s.j
    ∘ word " " ∘ put_number s.k
    ∘ word " " ∘ put_let s.first ∘ word " " ∘ put_let s.second ∘ word " " ∘ put_clause s.claim ∘ word ")"

-- T7, T8, T9: `(sym K)`, `(in CLAUSE)`, `(by ...)`.
unfoldable pub put_line : Line → Writer
put_line (sym k) = word "(sym " ∘ put_number k ∘ word ")"
put_line (input c) = word "(in " ∘ put_clause c ∘ word ")"
put_line (by s) = put_step s

-- T1, T6: a line without its line end.
unfoldable pub write_line : Line → List ℕ
write_line l = put_line l []

-- T1, a text: "Every line ends with byte 10".
unfoldable pub write_lines : List Line → List ℕ
write_lines [] = []
write_lines (l ∷ ls) = put_line l (line_end ∷ write_lines ls)
