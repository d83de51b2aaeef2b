use Rattle.std.proofs.Common.{◌≡◌, ◌+◌, ◌≤◌, length}
use Rattle.text.specs.Read.{Reader}
use Rattle.text.specs.Answers.{parsed}
use Rattle.reader.specs.declared.measures.Bounds.{Bounds}
use Rattle.reader.specs.declared.measures.Measure.{Measure}
use Rattle.reader.specs.Listed.{Listed}
use Rattle.reader.proofs.Listing.{Going}
use Rattle.reader.proofs.context.Context.many.Given as goal

abbrev pub invariant-loop-next : goal.invariant-loop-next
invariant-loop-next g l =
    (l.parts.count + length l.rest ≤ length l.s)
    × ((one : Reader Bounds) (all : Reader Measure) → Listed one all → ((x r : _) → goal.F-post g l.item l.self x r → parsed r ≡ one x.now)
    → Going all l.s l.rest l.parts)

abbrev pub decreases-loop-next : goal.decreases-loop-next
decreases-loop-next g l = length l.rest
