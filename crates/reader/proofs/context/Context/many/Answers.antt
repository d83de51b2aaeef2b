use Rattle.std.proofs.Common.{ap, ◌∙◌, arith}
use Rattle.text.specs.Answers.{parsed}
use Rattle.reader.proofs.Listing.{one_less, start, lost, turn, unclosed, finish}
use Rattle.reader.proofs.context.Context.many.Goals as goal

pub loop-next-init : goal.loop-next-init
loop-next-init g c = rw c.empty-parts.ensures (omega arith, λ one all l reads. start all c.args.s.now)

pub returns-in_err-part-clause-value : goal.returns-in_err-part-clause-value
returns-in_err-part-clause-value g c = λ one all l reads.
    ap parsed c.from_residual.ensures
    ∙ lost l (c.loop-next.invariant.1 one all l reads) c.in-Some.ensures.value (reads _ _ c.in_err-part.ensures)

pub loop-next-smaller : goal.loop-next-smaller
loop-next-smaller g c = omega (arith, one_less 32 _ c.in-Some.ensures.value, c.requires.no_longer _ _ c.in_ok-part.ensures)

pub loop-next-preserved : goal.loop-next-preserved
loop-next-preserved g c = (
  omega (arith, one_less 32 _ c.in-Some.ensures.value, c.requires.no_longer _ _ c.in_ok-part.ensures, ap (λ m. m.count) c.and-parts.ensures),
  λ one all l reads.
      turn l (c.loop-next.invariant.1 one all l reads) c.in-Some.ensures.value (reads _ _ c.in_ok-part.ensures) c.and-parts.ensures,
)

pub returns-in_err-rest-clause-value : goal.returns-in_err-rest-clause-value
returns-in_err-rest-clause-value g c = λ one all l reads.
    ap parsed c.from_residual-in_err-rest.ensures
    ∙ unclosed l (c.loop-next.invariant.1 one all l reads) c.in_default.ensures.value c.in_err-rest.ensures.value

pub returns-clause-value : goal.returns-clause-value
returns-clause-value g c = λ one all l reads.
    finish l (c.loop-next.invariant.1 one all l reads) c.in_default.ensures.value c.in_ok-rest.ensures.value

pub returns-clause-few : goal.returns-clause-few
returns-clause-few g c = omega (arith, one_less 41 _ c.in_ok-rest.ensures.value)
