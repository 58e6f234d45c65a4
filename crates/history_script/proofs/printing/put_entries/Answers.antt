use Rattle.std.proofs.Common.{◌++◌, flat_map}
use Rattle.lemmas.proofs.Lists.{left_further}
use Rattle.model.specs.Ranges.{InRange}
use Rattle.history_script.specs.Printed.{entry_line}
use Rattle.history_script.proofs.Further.{all_further, all_of}
use Rattle.history_script.proofs.printing.put_entries.Goals as goal

pub loop-entry-preserved : goal.loop-entry-preserved
loop-entry-preserved c =
    record {
      added =
          left_further entry_line c.args.entries.now c.loop-entry.entry-index c.entry-item.result
          (c.args.out.now.items ++ flat_map entry_line c.args.entries.now) c.loop-entry.out.items c.put_entry.new.out.items
          c.loop-entry-test.true c.entry-item.is c.loop-entry.invariant.added c.in_ok-put_entry.ensures.added;
      range =
          all_further InRange c.args.entries.now c.loop-entry.entry-index c.entry-item.result c.loop-entry-test.true
          c.entry-item.is c.in_ok-put_entry.ensures.range c.loop-entry.invariant.range;
    }

pub returns-clause-range : goal.returns-clause-range
returns-clause-range c =
    all_of InRange c.args.entries.now c.loop-entry.entry-index c.loop-entry-test.false c.loop-entry.invariant.range
