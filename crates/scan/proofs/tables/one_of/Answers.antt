use Rattle.std.proofs.Common.{sym, ◌∙◌}
use Rattle.scan.proofs.Tried.{tries, found, onward, none}
use Rattle.scan.proofs.tables.one_of.Goals as goal

pub loop-value-init : goal.loop-value-init
loop-value-init g c = tries _ _ _ _ c.table-value-items.ensures

pub returns-in-Some-clause-value : goal.returns-in-Some-clause-value
returns-in-Some-clause-value g c =
    found _ _ _ _ c.loop-value-test.true c.loop-value-item.is c.in-Some.ensures.value ∙ sym c.loop-value.invariant

pub loop-value-preserved : goal.loop-value-preserved
loop-value-preserved g c = c.loop-value.invariant ∙ onward _ _ _ _ c.loop-value-test.true c.loop-value-item.is c.in_default.ensures.value

pub returns-clause-value : goal.returns-clause-value
returns-clause-value g c = none _ _ _ c.loop-value-test.false ∙ sym c.loop-value.invariant
