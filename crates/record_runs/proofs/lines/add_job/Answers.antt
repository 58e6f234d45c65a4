use Rattle.std.proofs.Common.{◌∙◌, ℕ, ap}
use Rattle.model_laws.proofs.Keys.{key_inserted}
use Rattle.model.specs.Words.{insert_once}
use Rattle.record_runs.proofs.lines.add_job.Goals as goal

pub returns : goal.returns
returns c =
    c.in_ok-insert.ensures.keys ∙ (key_inserted c.args.jobs.now.keys c.job.inside.0
    ∙ ap (λ (k : ℕ). insert_once k c.args.jobs.now.keys) c.job.view_is)
