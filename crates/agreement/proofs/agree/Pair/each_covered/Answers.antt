use Rattle.std.proofs.Common.{sym, ◌∙◌, arith}
use Rattle.agreement.proofs.Covered.{covers_here, covers_later, covers_never, covered_here, uncovered_here, covered_all}
use Rattle.agreement.proofs.agree.Pair.each_covered.Goals as goal

pub loop-other-preserved : goal.loop-other-preserved
loop-other-preserved c =
    let there = c.in-Some.ensures.lookup in
    let r = c.loop-other.invariant in
    (r.0, omega (arith, there.3.0), sym (covers_later _ _ _ _ there.3.0 there.3.1 (sym c.if-part_covered.ensures)) ∙ r.2)

pub parts-preserved : goal.parts-preserved
parts-preserved c =
    let there = c.in-Some.ensures.lookup in
    let r = c.loop-other.invariant in
    let found = covers_here _ _ _ _ there.3.0 there.3.1 (sym c.if-part_covered.ensures) in
    (r.0, sym (covered_here _ _ _ _ _ c.parts-test.true (rw c.whole-whole.ensures at (sym r.2 ∙ found))) ∙ c.parts.invariant.1)

pub returns-after-parts : goal.returns-after-parts
returns-after-parts c = c.parts.invariant.0 ∙ (sym (covered_all _ _ _ _ c.parts-test.false) ∙ c.parts.invariant.1)

pub returns-in_default : goal.returns-in_default
returns-in_default c =
    let never = covers_never _ _ _ c.in_default.ensures.lookup.3 in
    sym (uncovered_here _ _ _ _ _ c.parts-test.true (rw c.whole-whole.ensures at (sym c.loop-other.invariant.2 ∙ never))) ∙ c.parts.invariant.1
