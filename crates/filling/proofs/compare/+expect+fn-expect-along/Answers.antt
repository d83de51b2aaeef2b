use Rattle.std.proofs.Common.{ap, ◌∙◌, arith}
use Rattle.filling.specs.Filled.{fill_item}
use Rattle.filling.specs.Items.{filler_of, compared}
use Rattle.filling.proofs.Walk.{fill_shrinks, matching, matching_shortens}
use Rattle.filling.proofs.Loops.{fewer}
use Rattle.filling.proofs.Expecting.{too_deep, text_shut, opens}
use Rattle.filling.proofs.compare.+expect+fn-expect-along.Goals as goal

pub returns-in_err-inner-clause-value : goal.returns-in_err-inner-clause-value
returns-in_err-inner-clause-value t c = ap compared c.from_residual.ensures ∙ too_deep _ _ _ _ (omega (arith, c.in_err-inner.ensures))

pub returns-in_err-left-2-clause-value : goal.returns-in_err-left-2-clause-value
returns-in_err-left-2-clause-value t c =
    ap compared c.from_residual-in_err-left-2.ensures ∙ text_shut c.args.filling.now _ _ c.in_ok-inner.ensures c.in_default.ensures c.in_default-word.ensures.value c.in_ok-inside.ensures.value c.in_err-left-2.ensures.value

pub along-requires-clause-shorter : goal.along-requires-clause-shorter
along-requires-clause-shorter t c = λ x y r p. fewer (matching_shortens (fill_shrinks _ _)) r p

pub returns-clause-value : goal.returns-clause-value
returns-clause-value t c =
    c.along.ensures.value (matching (fill_item (filler_of c.args.filling.now) c.in_ok-inner.inner)) (λ x y r p. p)
    ∙ opens c.args.filling.now _ _ c.in_ok-inner.ensures c.in_default.ensures c.in_default-word.ensures.value c.in_ok-inside.ensures.value c.in_ok-left-2.ensures.value
