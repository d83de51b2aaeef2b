use Rattle.meaning.specs.Means.{named}
use Rattle.writer.proofs.Writing.{wrote_both}
use Rattle.print.proofs.Stores.{second_line}
use Rattle.print.proofs.put_lines.Goals as goal

pub returns-in-Refuted-clause-wrote : goal.returns-in-Refuted-clause-wrote
returns-in-Refuted-clause-wrote c =
    rw (second_line (named c.args.marks.now) c.in-Refuted.is) (wrote_both c.put_verdict-at.ensures.wrote c.put_rests.ensures)
