use Rattle.std.proofs.Common.{false, get_or, ℕ}
use Rattle.logic.specs.Descent.{numbers_below}
use Rattle.writer.specs.Written.{Wrote}
use Rattle.print.specs.Line.{spaced}
use Rattle.print.proofs.put_marked.Given as goal

-- The marked numbers below n are written.
abbrev pub invariant-loop-n : goal.invariant-loop-n
invariant-loop-n l = Wrote (spaced (numbers_below l.n (λ (m : ℕ). get_or l.fn.marks m false))) l.fn.out l.end l.out
