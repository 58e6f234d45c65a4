use Rattle.std.proofs.Common.{ap, ◌∙◌}
use Rattle.composer_parser.specs.declared.EntryDef.{EntryDef}
use Rattle.composer_parser.specs.declared.Lined.{Lined}
use Rattle.model.specs.Words.{least}
use Rattle.plan_builder.specs.Limits.{lines_in, lower}
use Rattle.plan_builder.proofs.Lines.{lines_more}
use Rattle.plan_builder.proofs.limits.in_entries.Goals as goal

pub loop-entry-preserved : goal.loop-entry-preserved
loop-entry-preserved c =
    let plan = c.args.plan.now in
    lines_more (λ (e : Lined EntryDef). lines_in plan e.item.clauses) c.args.entries.now c.loop-entry.entry-index
    c.entry-item.result _ c.loop-entry.first c.in_clauses-first.result c.loop-entry-test.true c.entry-item.is
    (c.in_clauses-first.ensures ∙ ap (λ cs. lower c.loop-entry.first (least (lines_in plan cs))) c.as_slice.ensures)
    c.loop-entry.invariant
