-- The reading state (T19), and checks 3 to 6 (V13 to V16): each a test that says that the check is passed.
use Rattle.std.specs.Prelude.{ℕ, Bool, true, false, ◌&&◌, ◌||◌, List, [], ◌∷◌, ◌++◌, map, T, leb, ltb, eqb, length}
use Rattle.logic.specs.Syntax.{Terms, Part, part, Parts, only, also, Atom, link, obj, arrows, lit, Clause, Step, Line, sym, input, by}
use Rattle.logic.specs.Terms.{count}
use Rattle.logic.specs.Each.{each_terms, each_clause, declares, any}
use Rattle.text.specs.Form.{Reading, form, no_form}
use Rattle.text.specs.Figures.{max_symbols, max_parts, max_arguments, max_literals, max_variables, max_entries, few_parts_all}

-- T19: "After each line the reading holds the argument counts of up to 256 symbols, and the place of every clause."
-- The symbol table (T7), the input clauses (T8) and the steps (T9) of the lines that were read.
pub record State : Type 0 where
  pub symbols : List ℕ
  pub inputs : List Clause
  pub steps : List Step

-- T19: the state before the first line.
unfoldable pub fresh : State
fresh = record { symbols = []; inputs = []; steps = [] }

-- T17: "Clauses, of in and by lines together, are numbered from 0": the inputs, then the claims.
abbrev pub claim_of : Step → Clause
claim_of s = s.claim

unfoldable pub clauses : State → List Clause
clauses st = st.inputs ++ map claim_of st.steps

-- T19: the state with one more line.
unfoldable pub advance : State → Line → State
advance st (sym k) = record { symbols = st.symbols ++ (k ∷ []); inputs = st.inputs; steps = st.steps }
advance st (input c) = record { symbols = st.symbols; inputs = st.inputs ++ (c ∷ []); steps = st.steps }
advance st (by s) = record { symbols = st.symbols; inputs = st.inputs; steps = st.steps ++ (s ∷ []) }

-- V13: no such line has come.
unfoldable pub is_empty : {A : Type 0} → List A → Bool
is_empty [] = true
is_empty (x ∷ xs) = false

-- V13, check 3: "a sym line comes after some in or by line, or an in line after some by line".
unfoldable pub ordered : State → Line → Bool
ordered st (sym k) = is_empty st.inputs && is_empty st.steps
ordered st (input c) = is_empty st.steps
ordered st (by s) = true

-- V14, check 4: "an in or by line comes with no symbol of K = 0 declared".
unfoldable pub has_constant : List ℕ → Bool
has_constant [] = false
has_constant (k ∷ table) = eqb k 0 || has_constant table

unfoldable pub constant_ready : State → Line → Bool
constant_ready st (sym k) = true
constant_ready st (input c) = has_constant st.symbols
constant_ready st (by s) = has_constant st.symbols

-- V15, check 5: "another limit is passed" (T18). Each part of an atom has few arguments.
unfoldable pub part_fits : Part → Bool
part_fits (part a m ts r) = leb (count ts) max_arguments

unfoldable pub parts_fit : Parts → Bool
parts_fit (only p) = part_fits p
parts_fit (also p ps) = part_fits p && parts_fit ps

unfoldable pub arguments_fit : Atom → Bool
arguments_fit (link l t u) = true
arguments_fit (obj t) = true
arguments_fit (arrows o ps) = parts_fit ps

unfoldable pub arguments_fit_all : Clause → Bool
arguments_fit_all [] = true
arguments_fit_all (lit g x ∷ c) = arguments_fit x && arguments_fit_all c

abbrev pub any_symbol : ℕ → ℕ → Bool
any_symbol f n = true

-- T18, "parts of a molecule": `few_parts_all` (crates/text/specs/Figures).
unfoldable pub clause_fits : Clause → Bool
clause_fits c =
    leb (length c) max_literals
    && (arguments_fit_all c && (few_parts_all c && each_clause (λ v. ltb v max_variables) any_symbol c))

unfoldable pub list_fits : Terms → Bool
list_fits ts = leb (count ts) max_entries && each_terms (λ v. ltb v max_variables) any_symbol ts

unfoldable pub within_limits : State → Line → Bool
within_limits st (sym k) = leb k max_parts && ltb (length st.symbols) max_symbols
within_limits st (input c) = clause_fits c
within_limits st (by s) = list_fits s.first && (list_fits s.second && clause_fits s.claim)

-- V16, check 6: "an applied symbol isn't declared, or has another number of terms".
unfoldable pub symbols_declared : State → Line → Bool
symbols_declared st (sym k) = true
symbols_declared st (input c) = each_clause any (declares st.symbols) c
symbols_declared st (by s) =
    each_terms any (declares st.symbols) s.first
    && (each_terms any (declares st.symbols) s.second
    && each_clause any (declares st.symbols) s.claim)

-- V13 to V16: checks 3 to 6 of a line, in order.
unfoldable pub line_checks : State → Line → List (Type 0)
line_checks st l = T (ordered st l) ∷ (T (constant_ready st l) ∷ (T (within_limits st l) ∷ (T (symbols_declared st l) ∷ [])))

-- T19: the state after a line; one that isn't a form leaves it as it was.
unfoldable pub after : State → Reading → State
after st (form l) = advance st l
after st no_form = st

-- T19: the state after a list of lines.
unfoldable pub state_after : State → List Reading → State
state_after st [] = st
state_after st (r ∷ rs) = state_after (after st r) rs
