use Rattle.std.proofs.Common.{refl}
use Rattle.counted_facts.specs.Places.{planned_at}
use Rattle.counted_facts.proofs.Asking.{asked}
use Rattle.counted_facts.proofs.masters.MasterFacts.planned_at.Goals as goal

pub returns : goal.returns
returns c =
    λ G h less. asked planned_at G c.args.self.now.planned 0 0 0 c.args.count c.at.result refl c.at.ensures h.planned less
