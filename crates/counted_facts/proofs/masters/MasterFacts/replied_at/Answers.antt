use Rattle.counted_facts.specs.Places.{replied_at}
use Rattle.counted_facts.proofs.Asking.{asked}
use Rattle.counted_facts.proofs.masters.MasterFacts.replied_at.Goals as goal

pub returns : goal.returns
returns c =
    λ G h less. asked replied_at G c.args.self.now.replied 0 c.args.p c.from.result c.args.count c.at.result c.from.ensures
    c.at.ensures h.replied less
