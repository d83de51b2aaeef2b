use Rattle.std.proofs.Common.{◌≡◌, ◌-◌, ◌++◌, length, take}
use Rattle.clauses.specs.Entries.{items}
use Rattle.clauses.specs.Parts.{next_part, all_shown}
use Rattle.clauses.proofs.parts.listed.Given as goal

abbrev pub invariant-loop-n : goal.invariant-loop-n
invariant-loop-n l = (length l.place-items ≡ 16) × (take l.n (all_shown l.place-items) ++ items next_part (16 - l.n) l.rest ≡ items next_part 16 l.initial.rest)
