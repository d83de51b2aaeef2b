use Rattle.std.proofs.Common.{◌≡◌, ◌≤◌, ◌+◌, length}
use Rattle.text.specs.Access.{seek, to_occurrence}
use Rattle.clauses.proofs.access.occurrence.Given as goal

abbrev pub invariant-loop-b : goal.invariant-loop-b
invariant-loop-b l = (l.level + length l.rest ≤ length l.s) × (to_occurrence l.k l.s ≡ seek l.left l.level l.rest)

abbrev pub decreases-loop-b : goal.decreases-loop-b
decreases-loop-b l = length l.rest
