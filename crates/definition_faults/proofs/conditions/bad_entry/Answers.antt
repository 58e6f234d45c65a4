use Rattle.std.proofs.Common.{List, arith, subst}
use Rattle.lemmas.proofs.Lists.{take_whole}
use Rattle.composer_parser.specs.declared.EntryDef.{EntryDef}
use Rattle.composer_parser.specs.declared.Lined.{Lined}
use Rattle.definition_faults.specs.Conditions.{IsLeastBadLineOf, IsNoted}
use Rattle.definition_faults.proofs.Least.{entry_more}
use Rattle.definition_faults.proofs.conditions.bad_entry.Goals as goal

pub loop-entry-preserved : goal.loop-entry-preserved
loop-entry-preserved c =
    entry_more c.args.before c.args.entries.now c.loop-entry.entry-index c.entry-item.result c.loop-entry.least
    c.in_ok-least.least (omega arith) c.entry-item.is c.loop-entry.invariant
    (subst (λ o. IsNoted c.loop-entry.least c.entry-item.result.line o c.in_ok-least.least) c.of_entry.ensures
    c.in_ok-least.ensures)

pub returns : goal.returns
returns c =
    subst (λ (l : List (Lined EntryDef)). IsLeastBadLineOf c.args.before l c.loop-entry.least)
    (take_whole c.args.entries.now c.loop-entry.entry-index c.loop-entry-test.false) c.loop-entry.invariant
