use Rattle.std.proofs.Common.{◌≡◌, ◌≤◌, count_by, eqb, take}
use Rattle.scan.proofs.counts.in_block.Given as goal

abbrev pub invariant-loop-b : goal.invariant-loop-b
invariant-loop-b l = (l.n ≤ l.b-index) × (l.n ≡ count_by (eqb l.byte) (take l.b-index l.block))
