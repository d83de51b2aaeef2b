use Rattle.std.proofs.Common.{ap, sym, ◌∙◌}
use Rattle.text.specs.Answers.{passed}
use Rattle.expected.proofs.Parting.{part_fails, part_stands, no_part}
use Rattle.expected.proofs.claims.all_parts.Goals as goal

pub returns-in_err-left : goal.returns-in_err-left
returns-in_err-left c =
    let fails = part_fails _ _ _ _ _ _ c.loop-shown-test.true c.in_err-left.ensures in
    ap passed c.from_residual.ensures ∙ (sym fails ∙ c.loop-shown.invariant)

pub loop-shown-preserved : goal.loop-shown-preserved
loop-shown-preserved c = sym (part_stands _ _ _ _ _ _ c.loop-shown-test.true c.in_ok-left.ensures) ∙ c.loop-shown.invariant

pub returns : goal.returns
returns c = sym (no_part _ _ _ _ _ c.loop-shown-test.false) ∙ c.loop-shown.invariant
