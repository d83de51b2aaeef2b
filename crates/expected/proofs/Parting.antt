-- The parts of a molecule, expected one after the other.
use Rattle.std.proofs.Common.{◌≡◌, ℕ, ◌+◌, ◌<◌, ◌≤◌, List, length, drop, slice_index_or, ◌∙◌}
use Rattle.std.proofs.lemmas.List.{at_drop_more, at_drop_all}
use Rattle.text.specs.Read.{bad, got}
use Rattle.filling.specs.Items.{Item}
use Rattle.clauses.specs.Parts.{shown, all_shown}
use Rattle.clauses.specs.declared.parts.Part.{Part}
use Rattle.expected.specs.Claims.{Expected, part_claimed, parts_claimed}

module _ (claimed : Expected) (x : Item) (ps : List Part) (i : ℕ) (left : List ℕ) where
  -- The next part fails, or the others are expected behind it; behind the last nothing is.
  pub part_fails : (d : Part) → i < length ps → bad ≡ part_claimed claimed x (shown (slice_index_or ps i d)) left →
      parts_claimed claimed x (all_shown (drop i ps)) left ≡ bad
  unfolding parts_claimed
  part_fails d h e = at_drop_more (λ qs. parts_claimed claimed x (all_shown qs) left) ps i d h ∙ rw (← e)

  pub part_stands : (d : Part) {rest : List ℕ} → i < length ps → got tt rest ≡ part_claimed claimed x (shown (slice_index_or ps i d)) left →
      parts_claimed claimed x (all_shown (drop i ps)) left ≡ parts_claimed claimed x (all_shown (drop (i + 1) ps)) rest
  unfolding parts_claimed
  part_stands d h e = at_drop_more (λ qs. parts_claimed claimed x (all_shown qs) left) ps i d h ∙ rw (← e)

  pub no_part : length ps ≤ i → parts_claimed claimed x (all_shown (drop i ps)) left ≡ got tt left
  unfolding parts_claimed
  no_part h = at_drop_all (λ qs. parts_claimed claimed x (all_shown qs) left) ps i h
