use Rattle.std.proofs.Common.{refl}
use Rattle.reader.proofs.Lists.{part_no_longer, listed_parts}
use Rattle.reader.proofs.context.Context.parts.Goals as goal

pub many-requires : goal.many-requires
many-requires c κs =
    let here = c.args.self in ((refl, tt), ((λ x. tt), λ x r e. part_no_longer here.depth here.table.now x.now r e.1))

pub returns : goal.returns
returns c = let here = c.args.self in c.many.ensures.value _ _ (listed_parts here.depth here.table.now) (λ x r e. e.1)
