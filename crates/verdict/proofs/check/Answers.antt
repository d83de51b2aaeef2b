use mathlib.Core.Path.{ap, ◌∙◌}
use Rattle.text.specs.Figures.{office}
use Rattle.meaning.specs.Answer.{verdict, rests}
use Rattle.meaning.proofs.Guaranteed.{answered}
use Rattle.meaning.proofs.Jobs.{jointly_nothing}
use Rattle.verdict.proofs.check.Goals as goal

-- `verdict::check` meets its contract: with no job, the text that is answered is the base.
pub returns : goal.returns
returns c =
    let text = c.args.text.now in
    let e = jointly_nothing office text in
    let w = c.check_job.ensures in
    let a = answered office text _ _ (w.verdict_value ∙ ap (verdict office) e) (w.rests_value ∙ ap (rests office) e) in
    record { verdict_value = a.0; rests_value = a.1.0; means = a.1.1.0; guarantee = a.1.1.1.0; text_unchanged = a.1.1.1.1 }
