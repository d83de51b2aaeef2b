use Rattle.std.proofs.Common.{◌∙◌}
use Rattle.source.proofs.Ends.{ends_counted}
use Rattle.source.proofs.line_ends.Goals as goal

pub returns : goal.returns
returns c = c.count.ensures.value ∙ ends_counted c.args.text.now
