use Rattle.print.proofs.Stores.{line_wrote}
use Rattle.print.proofs.put_line.Goals as goal

pub returns-clause-wrote : goal.returns-clause-wrote
returns-clause-wrote c =
    line_wrote c.args.word.now c.args.numbers.now c.put-at.ensures.wrote c.put_numbers.ensures.wrote c.put.ensures.wrote
