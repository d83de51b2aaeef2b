use Rattle.std.proofs.Common.{◌≡◌, drop}
use Rattle.text.specs.Read.{one_of, each, return}
use Rattle.scan.proofs.Tried.{tried}
use Rattle.scan.proofs.tables.one_of.Given as goal

abbrev pub invariant-loop-value : goal.invariant-loop-value
invariant-loop-value g l = one_of (each g.T.Named.word_of return g.T.Named.all) l.s ≡ tried (drop l.value-index l.value-items) l.s
