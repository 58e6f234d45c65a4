use Rattle.counted_facts.specs.Places.{brought_at}
use Rattle.counted_facts.proofs.Asking.{asked}
use Rattle.counted_facts.proofs.masters.MasterFacts.brought_at.Goals as goal

pub returns : goal.returns
returns c =
    λ G h less. asked brought_at G c.args.self.now.brought 0 c.args.s c.from.result c.args.count c.at.result c.from.ensures
    c.at.ensures h.brought less
