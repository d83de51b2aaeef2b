use Rattle.text.specs.Figures.{office}
use Rattle.meaning.proofs.Jobs.{job_answered}
use Rattle.verdict.proofs.check_job.Goals as goal

-- `verdict::check_job` meets its contract: the answer of the definitions, and what it means.
pub returns : goal.returns
returns c =
    let w = c.read_job.ensures in
    let a = job_answered office c.args.base.now c.args.job.now _ _ w.verdict_value w.rests_value in
    record { verdict_value = a.0; rests_value = a.1.0; job_means = a.1.1.0; job_guarantee = a.1.1.1.0; base_unchanged = a.1.1.1.1 }
