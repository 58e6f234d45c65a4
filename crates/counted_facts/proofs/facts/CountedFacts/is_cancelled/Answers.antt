use Rattle.std.proofs.Common.{ap}
use Rattle.counted_facts.specs.declared.streams.StreamTold.{StreamTold}
use Rattle.counted_facts.proofs.facts.CountedFacts.is_cancelled.Goals as goal

pub returns : goal.returns
returns c = λ G h less. ap (λ (t : StreamTold). t.cancelled) (c.stream.ensures G h less)
