use Rattle.std.proofs.Common.{length, map, subst, sym, ℕ, ◌<◌}
use Rattle.std.proofs.lemmas.List.{length-map}
use Rattle.network_world.specs.Lanes.{seen}
use Rattle.network_world.specs.Stations.{Station}
use Rattle.network_world.specs.Moves.{IsMarkedTo}
use Rattle.network_world.proofs.Sending.{room_marked}
use Rattle.network_world.proofs.Stopped.{station_marked}
use Rattle.network_world.proofs.stations.Station.mark.Goals as goal

pub mark_lane-requires : goal.mark_lane-requires
mark_lane-requires c =
    subst (λ (n : ℕ). c.args.to < n) (length-map c.self.inside.lanes seen)
    (subst (λ (s : Station). c.args.to < length s.lanes) (sym c.self.view_is) c.requires)

pub invariant_of-self : goal.invariant_of-self
invariant_of-self c =
    λ known.
    room_marked c.self.inside.lanes c.mark_lane.new.lanes c.args.to c.args.k
    (subst (λ (n : ℕ). c.args.to < n) (length-map c.self.inside.lanes seen)
    (subst (λ (s : Station). c.args.to < length s.lanes) (sym c.self.view_is) c.requires)) c.mark_lane.ensures
    (c.self.invariant known)

pub returns : goal.returns
returns c =
    subst
    (λ (s : Station). IsMarkedTo s c.args.to c.args.k
    (record { node = c.self.inside.node; lanes = map seen c.mark_lane.new.lanes })) c.self.view_is
    (station_marked c.self.inside.node c.self.inside.lanes c.mark_lane.new.lanes c.args.to c.args.k
    c.mark_lane.ensures)
