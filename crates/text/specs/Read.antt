-- Nothing in this file has to be believed: the form is what the writer (Write) puts, and `raw_exactly` (proofs/Lines) says that a line is
-- read as a form exactly if it is written so. The list reader: from the bytes that are left, a value and the bytes after it, or nothing.
use Rattle.std.specs.Prelude.{ℕ, zero, suc, ◌+◌, ◌*◌, ◌-◌, Bool, ◌&&◌, cond, List, [], ◌∷◌, ◌++◌, map, leb, eqb, length}
use Prim.Native.String.{String}
use Rattle.logic.specs.declared.Sign.{Sign}
use Rattle.logic.specs.declared.Sign.TheVariants.{Positive, Negative}
use Rattle.logic.specs.declared.Link.{Link}
use Rattle.logic.specs.declared.Link.TheVariants.{Eq, Mem, Sub}
use Rattle.logic.specs.declared.Arrow.{Arrow}
use Rattle.logic.specs.declared.Arrow.TheVariants.{Sv, Si, Mv, Mi, St, Mt}
use Rattle.logic.specs.declared.Rule.{Rule}
use Rattle.logic.specs.declared.Rule.TheVariants.{Refl, Res, Fac, Par, Acy, Tra, Inc, Inh, Inp, Out, Sca, Eli, Mer, Pro}
use Rattle.logic.specs.Syntax.{Term, var, app, Terms, nil, cons, Result, value, none, may_be_none}
use Rattle.logic.specs.Syntax.{Part, part, Parts, only, also, Atom, link, obj, arrows, Literal, lit, Clause}
use Rattle.logic.specs.Syntax.{Line, sym, input, by}
use Rattle.text.specs.Words.{bytes, sign_word, link_word, arrow_word, rule_word}
use Rattle.text.specs.Form.{max_number, Reading, form, no_form}
use Rattle.text.specs.Split.{Raw, ended, unended}

-- Nothing, or a value and the bytes after it.
pub data Parsed (A : Type 0) : Type 0 where
  bad : Parsed A
  got : A → List ℕ → Parsed A

abbrev pub Reader : Type 0 → Type 0
Reader A = List ℕ → Parsed A

-- What follows a value, on the bytes after it.
abbrev pub and_then : {A B : Type 0} → Parsed A → (A → Reader B) → Parsed B
and_then bad f = bad
and_then (got a rest) f = f a rest

infixl 20 ◌>>=◌ ◌>>◌
abbrev pub ◌>>=◌ : {A B : Type 0} → Reader A → (A → Reader B) → Reader B
◌>>=◌ r f bs = and_then (r bs) f

abbrev pub ◌>>◌ : {A B : Type 0} → Reader A → Reader B → Reader B
◌>>◌ r q bs = and_then (r bs) (λ _. q)

abbrev pub return : {A : Type 0} → A → Reader A
return a bs = got a bs

abbrev pub fail : {A : Type 0} → Reader A
fail bs = bad

-- Exactly these bytes.
unfoldable pub strip : List ℕ → Reader (Unit {0})
strip [] bs = got tt bs
strip (w ∷ ws) [] = bad
strip (w ∷ ws) (b ∷ bs) =
    let onward = strip ws bs in
    cond (eqb w b) onward bad

abbrev pub skip : String → Reader (Unit {0})
skip w = strip (bytes w)

-- One of several words, and what is read after it.
infix 30 ◌⇒◌
pub data Branch (A : Type 0) : Type 0 where
  ◌⇒◌ : String → Reader A → Branch A

abbrev pub or_else : {A : Type 0} → Parsed (Unit {0}) → Reader A → Reader A → Reader A
or_else bad r q bs = q bs
or_else (got u rest) r q bs = r rest

-- The first word of the list that stands there decides.
unfoldable pub one_of : {A : Type 0} → List (Branch A) → Reader A
one_of [] bs = bad
one_of ((w ⇒ r) ∷ others) bs = or_else (skip w bs) r (one_of others) bs

-- The tables of words.
abbrev pub signs : List Sign
signs = Positive ∷ Negative ∷ []

abbrev pub links : List Link
links = Eq ∷ Mem ∷ Sub ∷ []

abbrev pub arrow_table : List Arrow
arrow_table = Sv ∷ Si ∷ Mv ∷ Mi ∷ St ∷ Mt ∷ []

abbrev pub rules : List Rule
rules = Refl ∷ Res ∷ Fac ∷ Par ∷ Acy ∷ Tra ∷ Inc ∷ Inh ∷ Inp ∷ Out ∷ Sca ∷ Eli ∷ Mer ∷ Pro ∷ []

-- A branch for each entry of a table of words.
abbrev pub each : {A B : Type 0} → (A → String) → (A → Reader B) → List A → List (Branch B)
each w r = map (λ a. w a ⇒ r a)

-- The bytes 0 to 9.
unfoldable pub digit : ℕ → Bool
digit b = leb 48 b && leb b 57

-- T4: "0 to 65,535, without leading zeros": another digit may follow n and make it `further`.
unfoldable pub goes_on : ℕ → ℕ → Bool
goes_on n further = leb 1 n && leb further max_number

-- The digits after those read, whose value is n.
unfoldable pub read_digits : ℕ → Reader ℕ
read_digits n [] = got n []
read_digits n (b ∷ bs) =
    let further = n * 10 + (b - 48) in
    let onward = read_digits further bs in
    let checked = cond (goes_on n further) onward bad in
    cond (digit b) checked (got n (b ∷ bs))

-- T4: "A number N is decimal, 0 to 65,535, without leading zeros."
unfoldable pub read_number : Reader ℕ
read_number [] = bad
read_number (b ∷ bs) =
    let onward = read_digits (b - 48) bs in
    cond (digit b) onward bad

-- Items, each after one space: the closing bracket, or one item and the others.
unfoldable pub read_next : {A S : Type 0} → S → (A → S → S) → Reader A → Reader S → Reader S
read_next empty more read others =
    one_of ((")" ⇒ return empty) ∷ (" " ⇒ (do
      a ← read
      s ← others
      return (more a s))) ∷ [])

-- The number bounds the items; the bytes left are enough.
unfoldable pub read_items : {A S : Type 0} → S → (A → S → S) → Reader A → ℕ → Reader S
read_items empty more read zero bs = bad
read_items empty more read (suc k) bs = read_next empty more read (read_items empty more read k) bs

-- All the items up to the closing bracket, and the bracket.
unfoldable pub read_many : {A S : Type 0} → S → (A → S → S) → Reader A → Reader S
read_many empty more read bs = read_items empty more read (length bs) bs

abbrev pub read_terms : Reader Term → Reader Terms
read_terms read = read_many nil cons read

-- T11: "`(v N)` is variable N."
unfoldable pub read_variable : Reader Term
read_variable = do
  n ← read_number
  skip ")"
  return (var n)

-- T11: "`(f N TERM ...)` is symbol N applied to the terms."
unfoldable pub read_applied : Reader Term → Reader Term
read_applied read = do
  n ← read_number
  ts ← read_terms read
  return (app n ts)

-- T12: "Terms nest at most 16 terms deep, the outermost counting as 1. A line with a deeper term isn't a form."
unfoldable pub read_term : ℕ → Reader Term
read_term zero bs = bad
read_term (suc depth) bs = one_of (("(v " ⇒ read_variable) ∷ ("(f " ⇒ read_applied (read_term depth)) ∷ []) bs

-- T13: "the arguments T ..., perhaps none at all".
unfoldable pub read_arguments : ℕ → Reader Terms
read_arguments depth =
    one_of (("()" ⇒ return nil) ∷ ("(" ⇒ (do
      t ← read_term depth
      ts ← read_terms (read_term depth)
      return (cons t ts))) ∷ [])

-- T15: "The result R is a term. With mv, mi, st and mt it may be the word `none` instead".
-- (The empty word: whatever else stands there is read as a term.)
unfoldable pub read_result : ℕ → Arrow → Reader Result
read_result depth a =
    one_of (("none" ⇒ cond (may_be_none a) (return none) fail) ∷ ("" ⇒ (do
      t ← read_term depth
      return (value t))) ∷ [])

-- T13: "T U)" after the word
unfoldable pub read_link : ℕ → Link → Reader Atom
read_link depth l = do
  skip " "
  t ← read_term depth
  skip " "
  u ← read_term depth
  skip ")"
  return (link l t u)

-- T13: "T)" after the word
unfoldable pub read_object : ℕ → Reader Atom
read_object depth = do
  skip " "
  t ← read_term depth
  skip ")"
  return (obj t)

-- T13: "M (T ...) R)", a part from its method on
unfoldable pub read_part : ℕ → Arrow → Reader Part
read_part depth a = do
  m ← read_term depth
  skip " "
  ts ← read_arguments depth
  skip " "
  r ← read_result depth a
  skip ")"
  return (part a m ts r)

-- T13: "O M (T ...) R)" after the word
unfoldable pub read_method : ℕ → Arrow → Reader Atom
read_method depth a = do
  skip " "
  o ← read_term depth
  skip " "
  p ← read_part depth a
  return (arrows o (only p))

-- T21: a PART, `(ARROW M (T ...) R)`.
unfoldable pub read_arrow : Reader Arrow
read_arrow = one_of (each arrow_word return arrow_table)

unfoldable pub read_bracketed : ℕ → Reader Part
read_bracketed depth = do
  skip "("
  a ← read_arrow
  skip " "
  read_part depth a

-- A part and those behind it.
unfoldable pub parts_of : Part → List Part → Parts
parts_of p [] = only p
parts_of p (q ∷ qs) = also p (parts_of q qs)

-- T21: "T PART PART ...)" after the word: two parts, and any number more.
unfoldable pub read_molecule : ℕ → Reader Atom
read_molecule depth = do
  skip " "
  o ← read_term depth
  skip " "
  p ← read_bracketed depth
  skip " "
  q ← read_bracketed depth
  qs ← read_many [] ◌∷◌ (read_bracketed depth)
  return (arrows o (also p (parts_of q qs)))

-- The word of an atom decides what follows it.
unfoldable pub read_kind : ℕ → Reader Atom
read_kind depth =
    one_of (each link_word (read_link depth) links
    ++ ("obj" ⇒ read_object depth) ∷ ("mol" ⇒ read_molecule depth) ∷ each arrow_word (read_method depth) arrow_table)

-- T13: `(eq T U)`, `(mem T U)`, `(sub T U)`, `(obj T)`, `(ARROW O M (T ...) R)`. T21: `(mol T PART PART ...)`.
unfoldable pub read_atom : ℕ → Reader Atom
read_atom depth = do
  skip "("
  read_kind depth

unfoldable pub read_sign : Reader Sign
read_sign = one_of (each sign_word return signs)

-- T16: `(+ ATOM)`, `(- ATOM)`.
unfoldable pub read_literal : ℕ → Reader Literal
read_literal depth = do
  skip "("
  s ← read_sign
  skip " "
  a ← read_atom depth
  skip ")"
  return (lit s a)

-- T16: "`(or LIT ...)` is the clause of these literals, `(or)` the empty one."
unfoldable pub read_clause : ℕ → Reader Clause
read_clause depth = do
  skip "(or"
  read_many [] ◌∷◌ (read_literal depth)

-- T6, T9: a list, `(let TERM ...)`, perhaps `(let)`.
unfoldable pub read_let : ℕ → Reader Terms
read_let depth = do
  skip "(let"
  read_terms (read_term depth)

-- T10: "RULE is one of the fourteen words (R8 to R19, R25, R26). A line with any other isn't a form."
unfoldable pub read_rule : Reader Rule
read_rule = one_of (each rule_word return rules)

-- T7: `(sym K)`.
unfoldable pub read_sym : Reader Line
read_sym = do
  k ← read_number
  skip ")"
  return (sym k)

-- T8: `(in CLAUSE)`.
unfoldable pub read_input : ℕ → Reader Line
read_input depth = do
  c ← read_clause depth
  skip ")"
  return (input c)

-- T9: "`(by RULE A I B J K LET LET CLAUSE)` is a step. Its two lists are followed by the clause that it claims, which begins wherever the
-- second list ends."
unfoldable pub read_step : ℕ → Reader Line
read_step depth = do
  rule ← read_rule
  skip " "
  a ← read_number
  skip " "
  i ← read_number
  skip " "
  b ← read_number
  skip " "
  j ← read_number
  skip " "
  k ← read_number
  skip " "
  first ← read_let depth
  skip " "
  second ← read_let depth
  skip " "
  claim ← read_clause depth
  skip ")"
  return (by (record { rule = rule; a = a; i = i; b = b; j = j; k = k; first = first; second = second; claim = claim }))

-- T1, a line "is one form": a line's form and the bytes after it.
unfoldable pub read_form : ℕ → Reader Line
read_form depth = one_of (("(sym " ⇒ read_sym) ∷ ("(in " ⇒ read_input depth) ∷ ("(by " ⇒ read_step depth) ∷ [])

-- Nothing may follow the form.
unfoldable pub whole : Parsed Line → Reading
whole bad = no_form
whole (got l []) = form l
whole (got l (b ∷ bs)) = no_form

unfoldable pub read_line : ℕ → List ℕ → Reading
read_line depth bs = whole (read_form depth bs)

-- T2: "Bytes after the last line end are one more line, and that line isn't a form."
unfoldable pub read_raw : ℕ → Raw → Reading
read_raw depth (ended bs) = read_line depth bs
read_raw depth (unended bs) = no_form
