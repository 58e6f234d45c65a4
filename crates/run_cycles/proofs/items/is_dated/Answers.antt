use Rattle.std.proofs.Common.{◌∙◌}
use Rattle.run_cycles.specs.Items.{is_dated as dated}
use Rattle.run_cycles.proofs.Clips.{one_day}
use Rattle.run_cycles.proofs.items.is_dated.Goals as goal

pub returns : goal.returns
returns c =
    c.is_dated_within.ensures ∙ one_day (dated c.args.w.now c.args.free.now c.args.on.now) c.args.day
