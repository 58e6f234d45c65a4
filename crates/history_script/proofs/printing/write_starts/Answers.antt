use Rattle.std.proofs.Common.{◌++◌, flat_map}
use Rattle.lemmas.proofs.Lists.{left_further}
use Rattle.history_script.specs.Printed.{IsStartInRange, start_line}
use Rattle.history_script.proofs.Further.{all_further, all_of}
use Rattle.history_script.proofs.printing.write_starts.Goals as goal

pub loop-start-preserved : goal.loop-start-preserved
loop-start-preserved c =
    record {
      added =
          left_further (start_line c.args.net.now) c.args.starts.now c.loop-start.start-index c.start-item.result
          (c.args.out.now.items ++ flat_map (start_line c.args.net.now) c.args.starts.now) c.loop-start.out.items
          c.write_start.new.out.items c.loop-start-test.true c.start-item.is c.loop-start.invariant.added
          c.in_ok-write_start.ensures.added;
      range =
          all_further IsStartInRange c.args.starts.now c.loop-start.start-index c.start-item.result c.loop-start-test.true
          c.start-item.is c.in_ok-write_start.ensures.range c.loop-start.invariant.range;
    }

pub returns-clause-range : goal.returns-clause-range
returns-clause-range c =
    all_of IsStartInRange c.args.starts.now c.loop-start.start-index c.loop-start-test.false
    c.loop-start.invariant.range
