use Rattle.std.proofs.Common.{◌≡◌, ◌-◌}
use Rattle.filling.specs.Items.{item_of, beside}
use Rattle.expected.specs.Claims.{others_from}
use Rattle.expected.proofs.claims.others.Given as goal

abbrev pub invariant-loop-n : goal.invariant-loop-n
invariant-loop-n l =
    others_from l.depth l.of.dropped l.of.literals 0 (beside (item_of l.of.clause) l.initial.literals) l.rest ≡ others_from l.depth l.of.dropped (l.of.literals - l.n) l.n (beside (item_of l.of.clause) l.literals) l.left
