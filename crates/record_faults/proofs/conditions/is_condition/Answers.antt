use Rattle.std.proofs.Common.{ap, ◌∙◌}
use Rattle.std.specs.Prelude.{is_ok}
use Rattle.record_faults.proofs.ReadConditions.{all_told}
use Rattle.record_faults.proofs.conditions.is_condition.Goals as goal

pub returns : goal.returns
returns c =
    c.in_ok-is.ensures.same
    ∙ ap is_ok (all_told c.args.text.now c.read_cond.result c.read_cond.ensures.read c.read_cond.ensures.bad
    c.read_cond.ensures.too_long c.in_ok-is.ensures.told)
