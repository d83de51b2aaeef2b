-- The limits (T12, T18).
use Rattle.std.specs.Prelude.{ℕ, suc, ◌≤◌, Bool, true, ◌&&◌, [], ◌∷◌, leb}
use Rattle.logic.specs.Syntax.{Parts, only, also, Atom, link, obj, arrows, lit, Clause}
use Rattle.text.specs.declared.Figures.{Figures}

-- T12: "Terms nest at most 16 terms deep". T18: bytes of a text 65,535, lines of a text 1,024.
abbrev pub office : Figures
office = record { bytes = 65_535; lines = 1_024; depth = 16 }

-- T18: symbols 256, K of a sym line 8, arguments of a method 8, parts of a molecule 16, literals of a clause 32, a variable's number 31
-- (so 32 variables), terms of a LET 32.
abbrev pub max_symbols : ℕ
max_symbols = 256

abbrev pub max_parts : ℕ
max_parts = 8

abbrev pub max_arguments : ℕ
max_arguments = 8

abbrev pub max_molecule : ℕ
max_molecule = 16

abbrev pub max_literals : ℕ
max_literals = 32

abbrev pub max_variables : ℕ
max_variables = 32

abbrev pub max_entries : ℕ
max_entries = 32

-- T18, "parts of a molecule": how many there are, and that there are no more than that.
unfoldable pub count_parts : Parts → ℕ
count_parts (only p) = 1
count_parts (also p ps) = suc (count_parts ps)

unfoldable pub few_parts : Atom → Bool
few_parts (link l t u) = true
few_parts (obj t) = true
few_parts (arrows o ps) = leb (count_parts ps) max_molecule

unfoldable pub few_parts_all : Clause → Bool
few_parts_all [] = true
few_parts_all (lit g x ∷ c) = few_parts x && few_parts_all c

-- T12, T18: figures up to these.
pub record UpToOffice (F : Figures) : Type 0 where
  pub bytes : F.bytes ≤ office.bytes
  pub lines : F.lines ≤ office.lines
  pub depth : F.depth ≤ office.depth
