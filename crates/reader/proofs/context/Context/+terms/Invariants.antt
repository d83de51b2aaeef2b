use Rattle.std.proofs.Common.{◌+◌, ◌*◌}
use Rattle.reader.proofs.context.Context.+terms.Given as goal

-- A term calls for its parts one term deeper, and they for each of their terms.
abbrev pub decreases-applied : goal.decreases-applied
decreases-applied l = 5 * l.self.depth + 4

abbrev pub decreases-compound : goal.decreases-compound
decreases-compound l = 5 * l.self.depth + 3

abbrev pub decreases-terms : goal.decreases-terms
decreases-terms l = 5 * l.self.depth + 2

abbrev pub decreases-term : goal.decreases-term
decreases-term l = 5 * l.self.depth
