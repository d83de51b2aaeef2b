use Rattle.std.proofs.Common.{length, take, ◌*◌, ◌≤◌}
use Rattle.writer.specs.Written.{Wrote}
use Rattle.print.specs.Line.{spaced}
use Rattle.print.proofs.put_numbers.Given as goal

-- The numbers that are passed are written.
abbrev pub invariant-loop-n : goal.invariant-loop-n
invariant-loop-n l = record {
  written : Wrote (spaced (take l.n-index l.numbers)) l.fn.out l.end l.out;
  at_most : length (spaced (take l.n-index l.numbers)) ≤ 21 * l.n-index;
}
