use Rattle.writer.proofs.Writing.{wrote_both}
use Rattle.print.proofs.Stores.{spaced_one}
use Rattle.print.proofs.put_spaced.Goals as goal

pub returns-clause-wrote : goal.returns-clause-wrote
returns-clause-wrote c = rw spaced_one (wrote_both c.put-at.ensures.wrote c.put_number.ensures.wrote)
