use Rattle.std.proofs.Common.{arith, get_or, sym, take, ◌∷◌, [], length-append}
use Rattle.writer.proofs.Writing.{over_none, wrote_both}
use Rattle.print.specs.Line.{spaced}
use Rattle.print.proofs.Stores.{next_spaced}
use Rattle.print.proofs.put_numbers.Goals as goal

pub loop-n-init : goal.loop-n-init
unfolding spaced
loop-n-init c = record {
  written = record { count = omega arith; buffer = sym (over_none _) };
  at_most = omega arith;
}

pub loop-n-preserved : goal.loop-n-preserved
loop-n-preserved c =
    let h = c.loop-n.invariant in
    let w = c.put_spaced-end.ensures in
    let both = wrote_both h.written w.wrote in
    let e = next_spaced c.args.numbers.now c.loop-n.n-index (omega arith) in
    record {
      written = rw e both;
      at_most = rw e (omega (arith, h.at_most, w.at_most, length-append (spaced (take c.loop-n.n-index c.args.numbers.now)) (spaced (get_or c.args.numbers.now c.loop-n.n-index 0 ∷ []))));
    }
