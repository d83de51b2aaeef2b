use Rattle.std.proofs.Common.{◌≡◌, ◌+◌, ◌*◌, count_by, eqb, drop}
use Rattle.scan.proofs.counts.count.Given as goal

-- What is counted, and what stands behind it, are all.
abbrev pub invariant-loop-block : goal.invariant-loop-block
invariant-loop-block l = count_by (eqb l.byte) l.bytes ≡ l.n + count_by (eqb l.byte) (drop (l.block-index * 128) l.bytes)
