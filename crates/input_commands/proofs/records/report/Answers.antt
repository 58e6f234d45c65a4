use Rattle.std.proofs.Common.{◌∙◌}
use Rattle.std.proofs.lemmas.Result.{IfOk-weaker}
use Rattle.input_commands.proofs.Tellings.{report_told}
use Rattle.input_commands.proofs.records.report.Goals as goal

pub returns : goal.returns
returns c =
    IfOk-weaker c.print_report.result _ _
    (λ text is x stands. report_told c.args.world.now x _ _ text (c.net-2.ensures.value ∙ c.net.ensures)
    (c.in_ok-parts.ensures x stands) is) c.print_report.ensures
