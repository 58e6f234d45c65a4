use Rattle.std.proofs.Common.{false}
use Rattle.counted_facts.specs.Facts.{is_done, stream_told}
use Rattle.counted_facts.proofs.Asking.{nothing_told}
use Rattle.counted_facts.proofs.Unspoken.{nothing_done}
use Rattle.counted_facts.proofs.facts.CountedFacts.new.Goals as goal

pub returns : goal.returns
returns c =
    record {
      jobs = nothing_told is_done c.new.result false c.new.ensures.counts c.new.ensures.changes nothing_done;
      streams = nothing_told stream_told c.new-2.result c.blank.result c.new-2.ensures.counts c.new-2.ensures.changes
          c.blank.ensures;
      master = c.new-3.ensures;
    }
