-- Nothing here is to be believed: it mirrors code on bytes; `line_sees` (crates/state/proofs/Held) says what it gives of a line.
-- A line as the reader gives it: what it is, its numbers, and of its clause and lists where they begin and what they measure.
use Rattle.std.specs.Prelude.{ℕ, ◌-◌, Bool, false, List, [], ◌∷◌, eqb, length, Option, Some, None}
use Rattle.logic.specs.Syntax.{Clause, Step, sym, input, by}
use Rattle.logic.specs.declared.Rule.{Rule}
use Rattle.rule_numbers.specs.declared.Numbers.{Numbers}
use Rattle.reader.specs.declared.forms.StepAt.{StepAt}
use Rattle.reader.specs.declared.forms.LineAt.{LineAt}
use Rattle.reader.specs.declared.forms.LineAt.TheVariants.{Sym, Input, By}
use Rattle.text.specs.Write.{word, put_clause, put_let}
use Rattle.text.specs.Form.{Reading, form, no_form}
use Rattle.text.specs.Read.{Reader, ◌>>=◌, ◌>>◌, return, skip, read_number, read_rule}
use Rattle.reader.specs.Summary.{terms_measure, clause_measure}

-- A number after one space.
unfoldable pub read_spaced : Reader ℕ
read_spaced = skip " " >> read_number

-- T9, RULE A I B J K.
unfoldable pub read_head : Reader (Rule × Numbers)
read_head = do
  rule ← read_rule
  a ← read_spaced
  i ← read_spaced
  b ← read_spaced
  j ← read_spaced
  k ← read_spaced
  return (rule, record { a = a; i = i; b = b; j = j; k = k })

-- A closing bracket, and nothing after it.
unfoldable pub closed : List ℕ → Bool
closed [] = false
closed (b ∷ []) = eqb 41 b
closed (b ∷ c ∷ bs) = false

-- T8, `(in CLAUSE)`, and T9, `(by RULE A I B J K LET LET CLAUSE)`: the bytes of the line from its clause on, from its second list on, from
-- its first.
unfoldable pub from_clause : Clause → List ℕ
from_clause c = put_clause c (word ")" [])

unfoldable pub from_second : Step → List ℕ
from_second st = put_let st.second (word " " (from_clause st.claim))

unfoldable pub from_first : Step → List ℕ
from_first st = put_let st.first (word " " (from_second st))

-- The place in s where its last bytes begin.
abbrev pub place_of : List ℕ → List ℕ → ℕ
place_of s rest = length s - length rest

-- A step as it was read: its rule and numbers, and of its lists and its claim where they begin and what they measure.
unfoldable pub step_of : List ℕ → List ℕ → Step → StepAt
step_of table s st = record {
  rule = st.rule;
  numbers = record { a = st.a; i = st.i; b = st.b; j = st.j; k = st.k };
  first = record { start = place_of s (from_first st); measure = terms_measure table st.first };
  second = record { start = place_of s (from_second st); measure = terms_measure table st.second };
  claim = record { start = place_of s (from_clause st.claim); measure = clause_measure table st.claim };
}

unfoldable pub line_of : List ℕ → List ℕ → Reading → Option LineAt
line_of table s no_form = None
line_of table s (form (sym k)) = Some (Sym k)
line_of table s (form (input c)) = Some (Input (record { start = place_of s (from_clause c); measure = clause_measure table c }))
line_of table s (form (by st)) = Some (By (step_of table s st))
