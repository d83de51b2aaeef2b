use Rattle.std.proofs.Common.{◌≡◌, ◌≤◌, ◌+◌, length}
use Rattle.text.specs.Access.{closing}
use Rattle.clauses.proofs.access.leap.Given as goal

abbrev pub invariant-loop-inner : goal.invariant-loop-inner
invariant-loop-inner l =
    (l.inner + length l.rest ≤ l.level + length l.item) × (length l.rest ≤ length l.item) × (closing l.level l.item ≡ closing l.inner l.rest)

abbrev pub decreases-loop-inner : goal.decreases-loop-inner
decreases-loop-inner l = length l.rest
