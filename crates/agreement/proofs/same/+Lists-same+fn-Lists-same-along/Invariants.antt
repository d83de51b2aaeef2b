-- The measure is the depth left: an item, and the items in it.
use Rattle.std.proofs.Common.{◌+◌, ◌*◌}
use Rattle.agreement.proofs.same.+Lists-same+fn-Lists-same-along.Given as goal

abbrev pub decreases-Lists::same : goal.decreases-Lists::same
decreases-Lists::same l = 2 * l.depth

abbrev pub decreases-along : goal.decreases-along
decreases-along l = 2 * l.inner + 1
