use Rattle.std.proofs.Common.{◌∙◌, ap, length}
use Rattle.std.proofs.lemmas.Result.{IfOk-weaker}
use Rattle.input_commands.proofs.Tellings.{summary_told}
use Rattle.input_commands.proofs.records.summary.Goals as goal

pub returns : goal.returns
returns c =
    IfOk-weaker c.print_summary.result _ _
    (λ text is x stands. summary_told c.args.world.now x c.net-net.result.now c.node.result.now c.owners.result.now _ _ _ _
    text stands (c.node.ensures.stands x stands) c.net-net.ensures c.owners.ensures c.in_ok-counts.ensures.streams
    c.in_ok-counts.ensures.jobs (c.counted-events.ensures ∙ ap length c.history.ensures)
    (c.counted-starts.ensures ∙ ap length c.starts.ensures) is) c.print_summary.ensures
