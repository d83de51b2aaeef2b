use Rattle.text.specs.Words.{bytes}
use Rattle.meaning.specs.Means.{named}
use Rattle.print.proofs.Stores.{line_wrote}
use Rattle.print.proofs.put_rests.Goals as goal

pub returns : goal.returns
returns c = line_wrote (bytes "rests") (named c.args.marks.now) c.put-at.ensures.wrote c.put_marked.ensures c.put.ensures.wrote
