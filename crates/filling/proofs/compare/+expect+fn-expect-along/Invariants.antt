-- The measure is the depth left: an item, and the items in it.
use Rattle.std.proofs.Common.{◌+◌, ◌*◌}
use Rattle.filling.proofs.compare.+expect+fn-expect-along.Given as goal

abbrev pub decreases-expect : goal.decreases-expect
decreases-expect l = 2 * l.depth

abbrev pub decreases-along : goal.decreases-along
decreases-along l = 2 * l.inner + 1
