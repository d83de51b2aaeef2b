use Rattle.std.proofs.Common.{◌≡◌, ◌-◌}
use Rattle.text.specs.Access.{to_item}
use Rattle.clauses.proofs.items.item.Given as goal

abbrev pub invariant-loop : goal.invariant-loop
invariant-loop l = to_item l.n l.s ≡ to_item (l.n - l.counter) l.rest
