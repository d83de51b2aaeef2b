use mathlib.Core.Bool.{false}
use mathlib.Core.List.{[]}
use mathlib.Core.Path.{◌≡◌}
use native.Mathlib.Omega.{arith}
use lib.ListN.{replicate}
use Rattle.logic.proofs.Descending.{numbers_none}
use Rattle.text.specs.Figures.{office}
use Rattle.descent.proofs.Marks.{none_marked}
use Rattle.meaning.specs.Means.{named}
use Rattle.verdict.proofs.read_job.Goals as goal

-- `verdict::read_job` meets its contract: the answer of the definitions, and what is held where the reading stopped.
-- At first nothing is marked.
unmarked : named (replicate office.lines false) ≡ []
unfolding named
unmarked = numbers_none office.lines _ (none_marked office.lines)

pub verdict_on-read-requires : goal.verdict_on-read-requires
verdict_on-read-requires c = (record { bytes = omega arith; lines = omega arith; depth = omega arith }, unmarked)
