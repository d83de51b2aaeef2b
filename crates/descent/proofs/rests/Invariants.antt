use Rattle.std.proofs.Common.{◌≡◌, ◌+◌, ◌-◌}
use Rattle.descent.specs.Walk.{walked, inputs_from}
use Rattle.descent.proofs.rests.Given as goal

-- What is marked, walked on from here, is the whole walk.
abbrev pub invariant-loop-n : goal.invariant-loop-n
invariant-loop-n l = walked l.held l.inputs (l.n + 1 - l.inputs) l.marks ≡ inputs_from l.held l.inputs l.first
