use Rattle.std.proofs.Common.{arith}
use Rattle.meaning.specs.Means.{named}
use Rattle.print.specs.Line.{written}
use Rattle.print.proofs.Stores.{wrote_all}
use Rattle.print.proofs.lines.Goals as goal

pub returns-clause-out_after : goal.returns-clause-out_after
returns-clause-out_after c =
    let w = c.put_lines.ensures in
    (wrote_all (written c.args.a.verdict (named c.args.a.rests)) c.args.out.now (omega (arith, w.at_most)) w.wrote).1
