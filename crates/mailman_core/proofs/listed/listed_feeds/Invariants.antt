use Rattle.std.proofs.Common.{◌≡◌, length}
use Rattle.model.specs.History.{view_of}
use Rattle.mailman_core.specs.Listed.{AreListed}
use Rattle.mailman_core.proofs.listed.listed_feeds.Given as goal

abbrev pub invariant-loop-to : goal.invariant-loop-to
invariant-loop-to l =
    record {
      count : length l.rows ≡ l.to;
      listed : AreListed l.net (view_of l.o) l.fn.me l.rows;
    }
