use Rattle.std.proofs.Common.{drop, length, take, ◌-◌, ◌≤◌, ◌≡◌}
use Rattle.std.specs.Io.KnownBytes.{Consumes}
use Rattle.console.proofs.read_text.Given as goal

-- What was read stands in front, and behind it the buffer is as it was.
abbrev pub invariant-loop-at : goal.invariant-loop-at
invariant-loop-at g l = record {
  in_text : l.at ≤ length l.text;
  same_length : length l.text ≡ length l.fn.text;
  behind : drop l.at l.text ≡ drop l.at l.fn.text;
  bytes : Consumes (g.R.Read.remaining l.fn.from) (g.R.Read.remaining l.from) (take l.at l.text);
}

abbrev pub decreases-loop-at : goal.decreases-loop-at
decreases-loop-at g l = length l.initial.text - l.at
