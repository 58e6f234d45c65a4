use Rattle.std.proofs.Common.{List, flat_map, map, refl}
use Rattle.composer_parser.specs.declared.definitions.Lined.{Lined}
use Rattle.composer_parser.specs.declared.schedules.EntryDef.{EntryDef}
use Rattle.composer_print.specs.Normal.{normal_entry}
use Rattle.composer_print.specs.Streams.{items, entry_line}
use Rattle.composer_print.proofs.Lists.{part_more, parts_all}
use Rattle.composer_print.proofs.streams.write_entries.Goals as goal

pub loop-entry-preserved : goal.loop-entry-preserved
loop-entry-preserved c =
    part_more (λ (ys : List (Lined EntryDef)). flat_map entry_line (items (map (normal_entry c.args.jobs.now c.args.home.now) ys)))
    (λ (y : Lined EntryDef). entry_line (normal_entry c.args.jobs.now c.args.home.now y).item) (λ y ys. refl) _ _ _ c.args.entries.now c.loop-entry.entry-index c.entry-item.result
    c.loop-entry-test.true c.entry-item.is c.in_ok-write_entry.ensures c.loop-entry.invariant

pub returns : goal.returns
returns c =
    parts_all (λ (ys : List (Lined EntryDef)). flat_map entry_line (items (map (normal_entry c.args.jobs.now c.args.home.now) ys))) refl
    _ _ c.args.entries.now c.loop-entry.entry-index c.loop-entry-test.false c.loop-entry.invariant
