use Rattle.reader.proofs.Results.{none_result}
use Rattle.reader.proofs.context.Context.result.Goals as goal

pub returns : goal.returns
returns c =
    rw (c.then_some.ensures, c.may_be_none.ensures, c.nothing.ensures)
    (none_result c.args.self.table.now c.args.s.now c.args.self.depth c.args.arrow c.in-Some.s c.in-Some.ensures.value)
