use Rattle.reader.proofs.AtomKinds.{a_link}
use Rattle.reader.proofs.context.Context.shape.Goals as goal

pub returns-in-Some : goal.returns-in-Some
returns-in-Some c = rw (a_link _ _ c.in-Some.ensures.value) (c.linked.ensures c.in-Some.field-0-0)
