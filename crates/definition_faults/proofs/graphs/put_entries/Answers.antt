use Rattle.std.proofs.Common.{◌++◌, ◌∙◌, ◌∷◌, [], ap, true}
use Rattle.definition_faults.specs.Graphs.{entry_object, followed, object}
use Rattle.lemmas.proofs.Lists.{mapped_more}
use Rattle.definition_faults.proofs.graphs.put_entries.Goals as goal

pub loop-entry-preserved : goal.loop-entry-preserved
loop-entry-preserved c =
    mapped_more (entry_object c.args.names.now c.args.n) c.args.entries.now c.loop-entry.entry-index c.entry-item.result _
    c.loop-entry.objects.items c.put_object.new.objects.items c.loop-entry-test.true c.entry-item.is
    (c.in_ok-put_object.ensures
    ∙ ap
    (λ l. c.loop-entry.objects.items ++ object c.entry-item.result.line (followed c.args.names.now c.args.n true l) ∷ [])
    c.as_slice-clauses.ensures)
    c.loop-entry.invariant
