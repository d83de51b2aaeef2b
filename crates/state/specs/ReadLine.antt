-- The code's state and checks 2 to 6 on it, as the code computes them. Nothing here has to be believed: what it gives is said by
-- Represents (`Sees`, `Adds`), in the definitions of State.
use Rattle.std.specs.Prelude.{ℕ, ◌+◌, max, Bool, cond, ◌&&◌, List, leb, ltb, eqb, take, set, replicate, Option, Some, None, Result, Ok, Err}
use Rattle.logic.specs.declared.Check.{Check}
use Rattle.logic.specs.StepChecks.{Checked}
use Rattle.reader.specs.declared.measures.Bounds.{Bounds}
use Rattle.reader.specs.declared.forms.ItemAt.{ItemAt}
use Rattle.reader.specs.declared.forms.StepAt.{StepAt}
use Rattle.reader.specs.declared.forms.LineAt.{LineAt}
use Rattle.reader.specs.declared.forms.LineAt.TheVariants.{Sym, Input, By}
use Rattle.state.specs.declared.HeldState.{HeldState}
use Rattle.state.specs.declared.Added.{Added}
use Rattle.state.specs.declared.Unpassed.{Unpassed}
use Rattle.text.specs.Read.{read_line}
use Rattle.text.specs.Figures.{office, max_symbols, max_parts, max_arguments, max_literals}
use Rattle.reader.specs.Summary.{joined}
use Rattle.reader.specs.LineAt.{line_of}
use Rattle.state.specs.State.{has_constant}

-- T19: the fresh state, with room for 256 symbols and 1,024 clauses.
unfoldable pub fresh_state : HeldState
fresh_state = record {
  counts = replicate max_symbols 0;
  symbols = 0;
  starts = replicate office.lines 0;
  clauses = 0;
  inputs = 0;
}

-- The symbol table that a state holds.
unfoldable pub held_table : HeldState → List ℕ
held_table st = take st.symbols st.counts

-- The limits of a line with a clause, by the most literals or entries of a list; as many variables as each of these. The arguments count
-- the parts of molecules too (`molecule_bounds`).
unfoldable pub line_fits : ℕ → Bounds → Bool
line_fits most b = leb (max most b.width) max_literals && leb b.arguments max_arguments

-- Checks 4 to 6 of a line with a clause.
unfoldable pub clause_failure : Bool → ℕ → Bounds → Checked
clause_failure ready most b =
    cond ready
    (cond (line_fits most b) (cond (eqb b.unknown 0) (Ok tt) (Err Check.Symbol)) (Err Check.Limit)) (Err Check.Constant)

-- Of a step: the most entries or literals, and the bounds of its lists and its claim.
unfoldable pub step_most : StepAt → ℕ
step_most s = max s.first.measure.count (max s.second.measure.count s.claim.measure.count)

unfoldable pub step_bounds : StepAt → Bounds
step_bounds s = joined s.first.measure.bounds (joined s.second.measure.bounds s.claim.measure.bounds)

unfoldable pub step_failure : Bool → StepAt → Checked
step_failure ready s = clause_failure ready (step_most s) (step_bounds s)

-- Checks 3 to 6 of a line, by what a state holds.
unfoldable pub failure_of : HeldState → LineAt → Checked
failure_of held (Sym k) =
    cond (eqb held.clauses 0)
    (cond (ltb held.symbols max_symbols && leb k max_parts) (Ok tt) (Err Check.Limit)) (Err Check.Order)
failure_of held (Input c) =
    cond (eqb held.clauses held.inputs)
    (clause_failure (has_constant (held_table held)) c.measure.count c.measure.bounds) (Err Check.Order)
failure_of held (By s) = step_failure (has_constant (held_table held)) s

-- Checks 2 to 6: a line that passes them, as it was read, or the first that fails, and the line as it was read, if it is a form.
unfoldable pub seen_by : Checked → LineAt → Result LineAt Unpassed
seen_by (Ok u) l = Ok l
seen_by (Err c) l = Err (record { check = c; line = Some l })

unfoldable pub passing : HeldState → Option LineAt → Result LineAt Unpassed
passing held None = Err (record { check = Check.Form; line = None })
passing held (Some l) = seen_by (failure_of held l) l

unfoldable pub seen_at : ℕ → HeldState → List ℕ → Result LineAt Unpassed
seen_at depth held bytes = passing held (line_of (held_table held) bytes (read_line depth bytes))

-- A place of the text, within the office's bytes; a number within 255; one in line more, where there is room.
unfoldable pub placed : ℕ → ℕ → ℕ
placed start at = cond (leb (start + at) office.bytes) (start + at) 0

unfoldable pub byte_of : ℕ → ℕ
byte_of n = cond (leb n 255) n 0

unfoldable pub counted : ℕ → ℕ
counted inputs = cond (ltb inputs office.lines) (inputs + 1) inputs

-- What a line that passes adds: a symbol, or a clause.
unfoldable pub clause_added : ℕ → ℕ → ItemAt → Added
clause_added start inputs c =
    Added.Clause (placed start c.start) (byte_of c.measure.count) (byte_of c.measure.bounds.width) inputs

unfoldable pub added_by : ℕ → ℕ → LineAt → Added
added_by start inputs (Sym k) = Added.Symbol (byte_of k)
added_by start inputs (Input c) = clause_added start (counted inputs) c
added_by start inputs (By s) = clause_added start inputs s.claim

-- One symbol more; one clause more, with the number of in lines.
abbrev pub with_symbol : HeldState → ℕ → HeldState
with_symbol st k = record {
  counts = set st.counts st.symbols k;
  symbols = st.symbols + 1;
  starts = st.starts;
  clauses = st.clauses;
  inputs = st.inputs;
}

abbrev pub with_clause : HeldState → ℕ → ℕ → HeldState
with_clause st at inputs = record {
  counts = st.counts;
  symbols = st.symbols;
  starts = set st.starts st.clauses at;
  clauses = st.clauses + 1;
  inputs = inputs;
}

-- T19: the state that comes back after a line that passes: as it was, where there is no room.
unfoldable pub symbol_held : HeldState → ℕ → HeldState
symbol_held st k = cond (ltb st.symbols max_symbols) (with_symbol st k) st

unfoldable pub clause_held : HeldState → ℕ → ℕ → HeldState
clause_held st at inputs = cond (ltb st.clauses office.lines) (with_clause st at inputs) st

unfoldable pub with_added : HeldState → Added → HeldState
with_added st (Added.Symbol k) = symbol_held st k
with_added st (Added.Clause start literals width inputs) = clause_held st start inputs
