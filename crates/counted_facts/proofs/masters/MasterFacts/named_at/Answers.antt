use Rattle.counted_facts.specs.Places.{named_at}
use Rattle.counted_facts.proofs.Asking.{asked}
use Rattle.counted_facts.proofs.masters.MasterFacts.named_at.Goals as goal

pub returns : goal.returns
returns c =
    λ G h less. asked named_at G c.args.self.now.named 0 c.args.s c.from.result c.args.count c.at.result c.from.ensures
    c.at.ensures h.named less
