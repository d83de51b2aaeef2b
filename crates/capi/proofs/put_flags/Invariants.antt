use Rattle.std.proofs.Common.{drop, ◌++◌, ◌≡◌}
use Rattle.meaning.specs.Means.{named}
use Rattle.capi.specs.Numbered.{flags}
use Rattle.capi.proofs.put_flags.Given as goal

-- The bytes before n are written, and the others are as they were.
abbrev pub invariant-loop-n : goal.invariant-loop-n
invariant-loop-n l = l.told ≡ flags l.n (named l.marks) ++ drop l.n l.initial.told
