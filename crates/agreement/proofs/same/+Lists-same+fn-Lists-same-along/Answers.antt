use Rattle.filling.proofs.Loops.{fewer}
use Rattle.filling.proofs.Sameness.{same_shortens}
use Rattle.agreement.proofs.same.+Lists-same+fn-Lists-same-along.Goals as goal

pub along-requires-clause-shorter : goal.along-requires-clause-shorter
along-requires-clause-shorter t c = λ x y r p. fewer (same_shortens _ _ _) r p
