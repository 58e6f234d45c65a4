use Rattle.std.proofs.Common.{refl}
use Rattle.counted_facts.specs.Places.{brought_at, named_at, planned_at, replied_at}
use Rattle.counted_facts.proofs.Asking.{nothing_told}
use Rattle.counted_facts.proofs.masters.MasterFacts.new.Goals as goal

pub returns : goal.returns
returns c =
    record {
      brought = nothing_told brought_at c.new.result 0 c.new.ensures.counts c.new.ensures.changes (λ n. refl);
      named = nothing_told named_at c.new-2.result 0 c.new-2.ensures.counts c.new-2.ensures.changes (λ n. refl);
      planned = nothing_told planned_at c.new-3.result 0 c.new-3.ensures.counts c.new-3.ensures.changes (λ n. refl);
      replied = nothing_told replied_at c.new-4.result 0 c.new-4.ensures.counts c.new-4.ensures.changes (λ n. refl);
    }
