-- Two texts in a row. Nothing here has to be believed: `part_at` is of the two, which travel together in the code.
use Rattle.std.specs.Prelude.{ℕ, List}
use Rattle.text.specs.Size.{part_at}
use Rattle.source.specs.declared.Texts.{Texts}

-- What stands from a place on in the text that holds it.
abbrev pub part_of : Texts → ℕ → List ℕ
part_of texts = part_at texts.base.now texts.job.now
