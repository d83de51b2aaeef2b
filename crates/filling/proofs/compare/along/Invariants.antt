use Rattle.std.proofs.Common.{◌≡◌, length}
use Rattle.filling.specs.Filled.{along}
use Rattle.filling.specs.Items.{compared}
use Rattle.filling.proofs.Walk.{Pair}
use Rattle.filling.proofs.Loops.{Going}
use Rattle.filling.proofs.compare.along.Given as goal

abbrev pub invariant-loop-byte : goal.invariant-loop-byte
invariant-loop-byte g l = (item : Pair) → ((x y r : _) → goal.F-post g l.nested x y r → compared r ≡ item x.now y.now) → Going item (along item (length l.a) l.a l.b) l.rest l.left

abbrev pub decreases-loop-byte : goal.decreases-loop-byte
decreases-loop-byte g l = length l.rest
