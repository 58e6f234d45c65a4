use Rattle.std.proofs.Common.{◌≡◌, flat_map, subst}
use Rattle.outside_mem.specs.Begun.{BegunLog}
use Rattle.outside_mem.proofs.Cuts.{whole_again}
use Rattle.outside_mem.proofs.begun.Begun.peers.Goals as goal

pub returns : goal.returns
returns c =
    let s = c.self.inside in
    subst (λ (m : BegunLog). s.peers.rows ≡ flat_map (λ row. row.1) m.calls) c.self.view_is (whole_again 0 s.calls.items s.peers.rows c.self.invariant.0)
