use Rattle.std.proofs.Common.{◌≡◌, ◌≤◌, length}
use Rattle.text.specs.Form.{max_number}
use Rattle.text.specs.Read.{read_digits}
use Rattle.scan.proofs.numbers.digits.Given as goal

abbrev pub invariant-loop-b : goal.invariant-loop-b
invariant-loop-b l = (l.value ≤ max_number) × (read_digits l.value l.rest ≡ read_digits l.fn.first l.fn.s)

abbrev pub decreases-loop-b : goal.decreases-loop-b
decreases-loop-b l = length l.rest
