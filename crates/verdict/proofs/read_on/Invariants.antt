use Rattle.std.proofs.Common.{◌+◌, ◌-◌, length}
use Rattle.verdict.proofs.TwoTexts.{Came}
use Rattle.verdict.proofs.read_on.Given as goal

-- The reading came to the place.
abbrev pub invariant-loop-at : goal.invariant-loop-at
invariant-loop-at l = Came l.figures l.texts.base.now l.texts.job.now l.at l.lines l.state l.held

-- The bytes left of both texts.
abbrev pub decreases-loop-at : goal.decreases-loop-at
decreases-loop-at l = length l.texts.base.now + length l.texts.job.now - l.at
