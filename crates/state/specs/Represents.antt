-- Nothing here is to be believed: these are promises of the reader, and `check` promises the verdict of the definitions.
-- The state that the code holds, and the state of the definitions (State): what the one says of the other, over what is read, given as what
-- stands from each place on.
use Rattle.std.specs.Prelude.{ℕ, ◌+◌, ◌≤◌, ◌<◌, ◌≡◌, List, [], ◌++◌, T, length, get_or, drop, set, Option, Some, Result, Ok, Err}
use Rattle.logic.specs.declared.Check.{Check}
use Rattle.logic.specs.StepChecks.{Checked}
use Rattle.logic.specs.Syntax.{Clause}
use Rattle.logic.specs.Each.{width}
use Rattle.reader.specs.declared.forms.LineAt.{LineAt}
use Rattle.reader.specs.LineAt.{line_of}
use Rattle.state.specs.declared.HeldState as code
use Rattle.state.specs.declared.Added.{Added}
use Rattle.state.specs.declared.Unpassed.{Unpassed}
use Rattle.text.specs.Write.{put_clause}
use Rattle.text.specs.Read.{read_line}
use Rattle.text.specs.Figures.{office, max_symbols, few_parts_all}
use Rattle.text.specs.Form.{Reading, formed_clause}
use Rattle.state.specs.State.{State, fresh, clauses, clause_fits, after}
use Rattle.state.specs.Failure.{read_failure}
use Rattle.state.specs.ReadLine.{held_table, with_added}

-- A clause stands at a place, formed and within the limits. One of these, "parts of a molecule" (T18), is also said by itself: what reads
-- a clause again asks for it.
pub record Stands (depth : ℕ) (part : ℕ → List ℕ) (at : ℕ) (c : Clause) : Type 0 where
  pub rest : List ℕ
  pub written : part at ≡ put_clause c rest
  pub formed : T (formed_clause depth c)
  pub fits : T (clause_fits c)
  pub few : T (few_parts_all c)

-- T19, "After each line the reading holds the argument counts of up to 256 symbols, and the place of every clause".
pub record Represents (depth : ℕ) (part : ℕ → List ℕ) (held : code.HeldState) (st : State) : Type 0 where
  pub counts_room : length held.counts ≡ max_symbols
  pub starts_room : length held.starts ≡ office.lines
  pub table : held_table held ≡ st.symbols
  pub symbols : held.symbols ≡ length st.symbols
  pub inputs : held.inputs ≡ length st.inputs
  pub count : held.clauses ≡ length (clauses st)
  pub places : (n : ℕ) → n < length (clauses st) → Stands depth part (get_or held.starts n 0) (get_or (clauses st) n [])

-- Of each clause its number of literals and its width, in two lists by its number.
pub record Sized (st : State) (literals widths : List ℕ) : Type 0 where
  pub literals_room : length literals ≡ office.lines
  pub widths_room : length widths ≡ office.lines
  pub literals_of : (n : ℕ) → n < length (clauses st) → get_or literals n 0 ≡ length (get_or (clauses st) n [])
  pub widths_of : (n : ℕ) → n < length (clauses st) → get_or widths n 0 ≡ width (get_or (clauses st) n [])

-- What `fresh`, `see` and `adds` say of the state of the definitions: the fresh state represents the fresh one; the line is the one that the
-- definitions read, whether it passes or not, and the first check that fails, if one does, is theirs; and where the line passes, its place
-- is known and there is room for a clause more, the state with what the line adds represents the state after the line, and the two lists
-- with what it adds are of its clauses.
unfoldable pub Begins : code.HeldState → Type 0
Begins r = (depth : ℕ) (part : ℕ → List ℕ) → Represents depth part r fresh

-- A line that passes the checks asked of it, as the reader gives it, or the first that fails.
unfoldable pub SeenAs : State → List ℕ → Reading → Checked → Result LineAt Check → Type 0
SeenAs st bytes read asked (Ok l) = (asked ≡ Ok tt) × (line_of st.symbols bytes read ≡ Some l)
SeenAs st bytes read asked (Err c) = asked ≡ Err c

-- The line without what it fails, and the line as it was read, whether it passes or not.
unfoldable pub checked_line : Result LineAt Unpassed → Result LineAt Check
checked_line (Ok l) = Ok l
checked_line (Err u) = Err u.check

unfoldable pub line_read : Result LineAt Unpassed → Option LineAt
line_read (Ok l) = Some l
line_read (Err u) = u.line

unfoldable pub Sees : ℕ → code.HeldState → List ℕ → Result LineAt Unpassed → Type 0
Sees depth held bytes r =
    (part : ℕ → List ℕ) (st : State) → Represents depth part held st →
    SeenAs st bytes (read_line depth bytes) (read_failure st (read_line depth bytes)) (checked_line r)
    × (line_read r ≡ line_of st.symbols bytes (read_line depth bytes))

-- The line's bytes stand at `start`, within the office's bytes, and the state has room.
pub record LineStands (part : ℕ → List ℕ) (start : ℕ) (bytes : List ℕ) (held : code.HeldState) : Type 0 where
  pub small : start + length bytes ≤ office.bytes
  pub rest : List ℕ
  pub stands : (k : ℕ) → k < length bytes → part (start + k) ≡ drop k bytes ++ rest
  pub room : held.clauses < office.lines

-- Of the two lists, one number more for one clause more.
unfoldable pub SizesAdded : State → State → ℕ → Added → Type 0
SizesAdded st st' n (Added.Symbol k) = (literals widths : List ℕ) → Sized st literals widths → Sized st' literals widths
SizesAdded st st' n (Added.Clause start count width inputs) =
    (literals widths : List ℕ) → Sized st literals widths → Sized st' (set literals n count) (set widths n width)

unfoldable pub Adds : ℕ → ℕ → LineAt → Added → Type 0
Adds start inputs l r =
    (depth : ℕ) (part : ℕ → List ℕ) (bytes : List ℕ) (held : code.HeldState) (st : State) → Represents depth part held st →
    LineStands part start bytes held → inputs ≡ held.inputs → line_of st.symbols bytes (read_line depth bytes) ≡ Some l →
    read_failure st (read_line depth bytes) ≡ Ok tt →
    Represents depth part (with_added held r) (after st (read_line depth bytes))
    × SizesAdded st (after st (read_line depth bytes)) held.clauses r
