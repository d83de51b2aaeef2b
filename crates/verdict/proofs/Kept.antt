-- What the loop holds of the clauses beside the state.
use Rattle.std.proofs.Common.{ℕ, ◌≡◌, List, length, sym, ◌∙◌}
use Rattle.std.proofs.lemmas.List.{map-set}
use lib.ListN.{length-map}
use Rattle.descent.specs.declared.Parents.{Parents}
use Rattle.descent.specs.declared.Held.{Held}
use Rattle.descent.specs.Walk.{HeldFrom}
use Rattle.text.specs.Figures.{office}
use Rattle.state.specs.declared.Added.{Added}
use Rattle.state.specs.State.{State}
use Rattle.state.specs.Represents.{SizesAdded}
use Rattle.step.specs.Line.{literals_of, widths_of, SizesOf}
use Rattle.verdict.specs.Running.{held_with}

-- The parents that each step uses, and each clause's number of literals and width.
pub record Keeps (st : State) (held : List Held) : Type 0 where
  pub parents : HeldFrom (length st.inputs) held st.steps
  pub sized : SizesOf st held

pub held_length : (st : State) (held : List Held) → SizesOf st held → length held ≡ office.lines
held_length st held Z = sym (length-map held (λ (c : Held). c.literals)) ∙ Z.literals_room

-- What a line adds is of its clause.
pub sizes_with : (st st' : State) (held : List Held) (n : ℕ) (p : Parents) (a : Added) → SizesAdded st st' n a → SizesOf st held → SizesOf st' (held_with held n p a)
unfolding SizesAdded held_with
sizes_with st st' held n p (Added.Symbol k) S Z = S (literals_of held) (widths_of held) Z
sizes_with st st' held n p (Added.Clause start literals width inputs) S Z =
    let e : Held = record { literals = literals; width = width; parents = p } in
    rw (map-set (λ (c : Held). c.literals) held n e, map-set (λ (c : Held). c.width) held n e) (S (literals_of held) (widths_of held) Z)
