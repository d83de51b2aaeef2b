use Rattle.std.proofs.Common.{refl, arith}
use Rattle.reader.proofs.Lists.{term_no_longer, term_list}
use Rattle.reader.proofs.context.Context.+terms.Goals as goal

pub terms-many-requires : goal.terms-many-requires
terms-many-requires t c κs =
    let here = c.args.self in ((refl, tt), ((λ x. (omega arith, tt)), λ x r e. term_no_longer here.depth here.table.now x.now r e.1))

pub terms-returns-clause-value : goal.terms-returns-clause-value
terms-returns-clause-value t c =
    let here = c.args.self in c.many.ensures.value _ _ (term_list here.depth here.table.now) (λ x r e. e.1)
