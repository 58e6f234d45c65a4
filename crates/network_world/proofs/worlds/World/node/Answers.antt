use Rattle.std.proofs.Common.{◌≡◌, ◌<◌, ◌∙◌, ℕ, List, Some, ap, arith, get_or, length, option_map, subst, sym}
use Rattle.lemmas.proofs.Lists.{get_there}
use Rattle.agent_core.specs.Nodes.{NodeState}
use Rattle.network_world.specs.Stations.{Station, WorldState}
use Rattle.network_world.specs.Standing.{NodeStandsFor}
use Rattle.network_world.proofs.Showing.{node_shown}
use Rattle.network_world.proofs.worlds.World.node.Goals as goal

pub bounds-stations-i : goal.bounds-stations-i
bounds-stations-i c =
    omega (
      arith,
      c.from-i.ensures,
      c.w.view_is,
      c.requires,
      c.stands.ensures.world.stands.station_count,
      ap (λ (s : WorldState). length s.stations) c.self.view_is,
      ap length c.as_slice-stations.ensures,
    )

pub returns : goal.returns
returns c =
    let s : WorldState = c.args.self.now in
    let same : c.as_slice-stations.result.now ≡ s.stations =
    c.as_slice-stations.ensures ∙ ap (λ (v : WorldState). v.stations) c.self.view_is in
    let place : c.from-i.result ≡ c.args.w = omega (arith, c.from-i.ensures, c.w.view_is) in
    let at_w = get_there s.stations c.args.w c.index-stations-i.result
    (subst (λ (n : ℕ). c.args.w < n) (sym c.stands.ensures.world.stands.station_count) c.requires)
    (c.index-stations-i.is
    ∙ ap (λ (l : List Station). get_or l c.from-i.result c.index-stations-i.result) same
    ∙ ap (λ (n : ℕ). get_or s.stations n c.index-stations-i.result) place) in
    let here : c.station.inside.node ≡ c.index-stations-i.result.node = ap (λ (t : Station). t.node) c.station.view_is in
    record {
      value =
          ap (option_map (λ (t : Station). t.node)) at_w ∙ ap (λ (n : NodeState). Some n) (sym here);
      stands = λ x old.
          subst (λ (n : NodeState). NodeStandsFor s.net x c.args.w n) (sym here)
          (node_shown s x c.args.w c.index-stations-i.result old at_w);
    }
