use Rattle.std.proofs.Common.{rules}
use Rattle.verdict.proofs.TwoTexts.{large_stopped}
use Rattle.verdict.proofs.verdict_on.Goals as goal

pub returns : goal.returns
returns c =
    let r = large_stopped _ _ c.args.texts.job.now (search rules) c.requires.1 c.fresh.ensures.begins in
    record { answers = r.0; stops_at = r.1 }
