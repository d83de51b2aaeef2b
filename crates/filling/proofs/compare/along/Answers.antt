use Rattle.std.proofs.Common.{ap, ◌∙◌}
use Rattle.filling.specs.Items.{compared}
use Rattle.filling.proofs.Loops.{loop_ends, part_bad, part_again, byte_other, byte_closes, byte_again}
use Rattle.filling.proofs.compare.along.Goals as goal

pub returns-in_err-rest-clause-value : goal.returns-in_err-rest-clause-value
returns-in_err-rest-clause-value g c = λ item s.
    ap compared c.from_residual.ensures ∙ part_bad (c.loop-byte.invariant item s) c.in-Some.ensures.cases.0 c.if-byte-eq40.true (s _ _ _ c.in_err-rest.ensures)

pub loop-byte-smaller-then-byte-eq40 : goal.loop-byte-smaller-then-byte-eq40
loop-byte-smaller-then-byte-eq40 g c = c.requires.shorter _ _ _ c.in_ok-rest.ensures

pub loop-byte-preserved-then-byte-eq40 : goal.loop-byte-preserved-then-byte-eq40
loop-byte-preserved-then-byte-eq40 g c = λ item s.
    part_again (c.loop-byte.invariant item s) c.in-Some.ensures.cases.0 c.if-byte-eq40.true (c.requires.shorter _ _ _ c.in_ok-rest.ensures) (s _ _ _ c.in_ok-rest.ensures)

pub returns-in_err-left-clause-value : goal.returns-in_err-left-clause-value
returns-in_err-left-clause-value g c = λ item s.
    ap compared c.from_residual-in_err-left.ensures ∙ byte_other (c.loop-byte.invariant item s) c.in-Some.ensures.cases.0 c.if-byte-eq40.false c.in_err-left.ensures.value

pub returns-then-byte-eq41-clause-value : goal.returns-then-byte-eq41-clause-value
returns-then-byte-eq41-clause-value g c = λ item s.
    byte_closes (c.loop-byte.invariant item s) c.in-Some.ensures.cases.0 c.if-byte-eq40.false c.in_ok-left.ensures.value c.if-byte-eq41.true

pub loop-byte-preserved : goal.loop-byte-preserved
loop-byte-preserved g c = λ item s.
    byte_again (c.loop-byte.invariant item s) c.in-Some.ensures.cases.0 c.if-byte-eq40.false c.in_ok-left.ensures.value c.if-byte-eq41.false

pub returns-clause-value : goal.returns-clause-value
returns-clause-value g c = λ item s. loop_ends (c.loop-byte.invariant item s) c.in_default.ensures.cases
