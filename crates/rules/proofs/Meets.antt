-- What is asked of a row in bytes: its answer is that of the rule table, and the new literal that it expects is the table's.
use Prim.Native.Nat.{ℕ, ◌≤◌, ◌<◌}
use mathlib.Core.List.{List, [], ◌∷◌}
use mathlib.Core.Path.{◌≡◌}
use lib.Dec.{T}
use Rattle.logic.specs.declared.Rule.{Rule}
use Rattle.logic.specs.Syntax.{Literal, Clause}
use Rattle.logic.specs.Each.{width}
use Rattle.logic.specs.Fill.{Substitution}
use Rattle.logic.specs.Rules.{Agreement}
use Rattle.logic.specs.Judge.{Conclusion, concludes}
use Rattle.text.specs.Write.{put_literal, put_literals}
use Rattle.text.specs.Form.{numbered, formed_literal}
use Rattle.text.specs.Figures.{few_parts_all}
use Rattle.clauses.proofs.Places.{strip_at}
use Rattle.clauses.proofs.Placing.{Stands}
use Rattle.filling.proofs.Grounds.{Entries}
use Rattle.rules.proofs.Answered.{judged_of}
use Rattle.rules.proofs.RowPlaces.{row_at}
use Rattle.rules.proofs.ClaimPlaces.{new_at}

-- A list of the line gives the images of the variables below w, and their numbers are numbers N.
pub record Images (line starts : List ℕ) (σ : Substitution) (w : ℕ) : Type 0 where
  pub entry : Entries line starts σ w
  pub numbers : (v : ℕ) → v < w → T (numbered (σ v))

module _ (depth : ℕ) where
  -- A literal that stands at a place of p, formed, its molecule with few parts, its variables below w.
  pub record LiteralAt (p : List ℕ) (at : ℕ) (w : ℕ) (l : Literal) : Type 0 where
    pub rest : List ℕ
    pub stands : Stands p at (put_literal l rest)
    pub formed : T (formed_literal depth l)
    pub narrow : width (l ∷ []) ≤ w
    pub few : T (few_parts_all (l ∷ []))

  -- Checks 9 and 10 answer what the conclusion says, and where it has a new literal, that is what is expected, in whatever bytes.
  pub record Meets (rule : Rule) (k : ℕ) (p : List ℕ) (i : ℕ) (line starts q : List ℕ) (j : ℕ) (others : List ℕ) (c : Conclusion) : Type 0 where
    pub judged : row_at depth rule k p i line starts q j others ≡ judged_of c
    pub claimed : (g : Agreement) (new : Clause) → c ≡ concludes g new → (target : List ℕ) (pos b : ℕ) (x : List ℕ) →
        strip_at target (put_literals new (b ∷ x)) pos ≡ strip_at target (b ∷ x) (new_at depth rule k p i line starts q j others target pos)
