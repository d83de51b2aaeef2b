use Rattle.std.proofs.Common.{◌≡◌, ◌-◌, ◌++◌, length, take}
use Rattle.clauses.specs.Entries.{next_entry, items, texts}
use Rattle.clauses.proofs.items.entries.Given as goal

abbrev pub invariant-loop-n : goal.invariant-loop-n
invariant-loop-n l = (length l.place-items ≡ 32) × (take l.n (texts l.place-items) ++ items next_entry (32 - l.n) l.rest ≡ items next_entry 32 l.initial.rest)
