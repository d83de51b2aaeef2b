-- What an answer means for H-structures (V23, V24, V32) and derivations (V25): "one claim, about every text, broken or not, and about
-- exactly this answer" (V26).
use Rattle.std.specs.Prelude.{ℕ, Bool, true, false, not, List, [], ◌∷◌, ◌++◌, ◌≡◌, T, take, drop}
use Rattle.logic.specs.Syntax.{Atom, Clause, Line}
use Rattle.logic.specs.Structure.{Structure, ModelsAll}
use Rattle.logic.specs.Derivation.{Derivation, WrittenForm}
use Rattle.text.specs.Write.{write_lines}
use Rattle.text.specs.Form.{formed_lines}
use Rattle.text.specs.declared.Figures.{Figures}
use Rattle.state.specs.State.{State, fresh, advance, has_constant, within_limits}
use Rattle.meaning.specs.declared.Verdict.{Verdict}
use Rattle.meaning.specs.declared.Verdict.TheVariants.{Refuted, Open, Refused}
use Rattle.meaning.specs.Checks.{too_large, table_of, inputs_of, clauses_of}

-- V1, V2: refuted and open say that the text is accepted.
unfoldable pub is_accepted : Verdict → Bool
is_accepted (Refuted count first) = true
is_accepted (Open count) = true
is_accepted (Refused check line) = false

-- V25, "it lies within the limits": the text's bytes and lines (T18), each line's numbers (T4) and depth (T12), and check 5 of each line
-- (V15).
unfoldable pub LinesWithin : State → List Line → Type 0
LinesWithin st [] = Unit
LinesWithin st (l ∷ ls) = T (within_limits st l) × LinesWithin (advance st l) ls

pub record Within (F : Figures) (lines : List Line) : Type 0 where
  pub small : T (not (too_large F (write_lines lines)))
  pub formed : T (formed_lines F.depth lines)
  pub limits : LinesWithin fresh lines

-- V25: "the written form of a finite derivation by the rules over a table that has a symbol without arguments".
pub record WrittenText (F : Figures) (text : List ℕ) : Type 0 where
  pub table : List ℕ
  pub constant : T (has_constant table)
  pub derivation : Derivation table
  pub lines : List Line
  pub written : WrittenForm table derivation lines
  pub bytes : text ≡ write_lines lines
  pub within : Within F lines

-- V32: the clauses that have these numbers. A number that no clause has chooses none.
unfoldable pub chosen : List ℕ → List Clause → List Clause
chosen [] cs = []
chosen (n ∷ ns) cs = take 1 (drop n cs) ++ chosen ns cs

-- V23, V24, V32: of one set of atoms H, what the answer to a text says, the numbers of the inputs that it names given.
pub record SoundFor (H : Atom → Type 0) (F : Figures) (text : List ℕ) (v : Verdict) (ns : List ℕ) : Type 0 where
  -- V23: "If a text is refuted, no H-structure over its symbol table satisfies all ground instances of its input clauses."
  pub refuted : (count first : ℕ) → v ≡ Refuted count first →
      Structure (table_of F text) H → ModelsAll (table_of F text) H (inputs_of F text) → ⊥
  -- V24: "If a text is accepted, every H-structure over its symbol table that satisfies all ground instances of its input clauses
  -- satisfies every ground instance of every clause of the text."
  pub entailed : T (is_accepted v) →
      Structure (table_of F text) H → ModelsAll (table_of F text) H (inputs_of F text) → ModelsAll (table_of F text) H (clauses_of F text)
  -- V32: "If a text is refuted, no H-structure over its symbol table satisfies all ground instances of the named inputs alone."
  pub rests : (count first : ℕ) → v ≡ Refuted count first →
      Structure (table_of F text) H → ModelsAll (table_of F text) H (chosen ns (inputs_of F text)) → ⊥

-- V26: the whole claim, "about every text, broken or not", and every set of atoms (`whole_claim`).
pub record WholeClaim (F : Figures) (text : List ℕ) (v : Verdict) (ns : List ℕ) : Type 1 where
  pub sound : (H : Atom → Type 0) → SoundFor H F text v ns
  -- V25: "A text is accepted if it lies within the limits and is the written form of a finite derivation by the rules".
  pub accepts : WrittenText F text → T (is_accepted v)

-- V26: the claim on the call, for the sets that are given by a test: a contract's fact is small, and "every set of atoms" is not.
pub record Guarantee (F : Figures) (text : List ℕ) (v : Verdict) (ns : List ℕ) : Type 0 where
  pub sound : (S : Atom → Bool) → SoundFor (λ x. T (S x)) F text v ns
  pub accepts : WrittenText F text → T (is_accepted v)
