use Rattle.std.proofs.Common.{ap, ◌∙◌}
use Rattle.record_script.specs.Plans.{operations}
use Rattle.record_faults.proofs.ReadConditions.{all_told}
use Rattle.record_script.proofs.jobs.read.Goals as goal

pub returns : goal.returns
returns c =
    c.in_ok-cond.ensures.same
    ∙ ap operations (all_told c.args.text.now c.read_cond.result c.read_cond.ensures.read c.read_cond.ensures.bad
    c.read_cond.ensures.too_long c.in_ok-cond.ensures.told)
