use Rattle.record_faults.proofs.Chains.{place_put}
use Rattle.record_faults.proofs.hops.put.Goals as goal

pub returns-in-Ok : goal.returns-in-Ok
returns-in-Ok c = place_put c.args.places.now.entries c.insert.new.self.entries c.args.name c.args.place c.in-Ok.ensures.entries
