use Rattle.std.proofs.Common.{arith, Bool, false, get_or, sym, ◌≡◌, ℕ}
use Rattle.logic.specs.Descent.{numbers_below}
use Rattle.meaning.specs.Means.{named}
use Rattle.writer.proofs.Writing.{over_none, wrote_both}
use Rattle.print.specs.Line.{spaced}
use Rattle.print.proofs.Stores.{more_spaced, none_more}
use Rattle.print.proofs.put_marked.Goals as goal
use Rattle.print.proofs.put_marked.Goals.{then-mark, else-mark}

pub loop-n-init : goal.loop-n-init
unfolding numbers_below spaced
loop-n-init c = record { count = omega arith; buffer = sym (over_none _) }

pub loop-n-preserved : goal.loop-n-preserved
loop-n-preserved c =
    let test : ℕ → Bool = λ m. get_or c.args.marks.now m false in
    elim c.if-mark.branch [
      | then-mark w ↦ rw (w.out-is, w.end-is, more_spaced test c.loop-n.n w.if-mark.true) (wrote_both c.loop-n.invariant w.put_spaced-end.ensures.wrote)
      | else-mark w ↦ rw (w.out-is, w.end-is, none_more test c.loop-n.n w.if-mark.false) c.loop-n.invariant
    ]

pub returns : goal.returns
unfolding named
returns c =
    let all : c.loop-n.n ≡ 1024 = omega (arith, c.loop-n-test.false) in
    rw all at c.loop-n.invariant
