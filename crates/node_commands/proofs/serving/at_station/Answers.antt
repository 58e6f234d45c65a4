use Rattle.std.proofs.Common.{◌≡◌, ◌∙◌, None, Some, ap, codes, refl, sym}
use Rattle.replies.specs.declared.statuses.Status.TheVariants.{WordsRefused}
use Rattle.workload_defs.specs.Stations.{number_of}
use Rattle.node_commands.specs.Forms.{name_in, requested}
use Rattle.node_commands.specs.Services.{IsService, UnservedCallsFor}
use Rattle.node_commands.proofs.Coming.{its_name}
use Rattle.node_commands.proofs.Stations.{found_inside, found_peer}
use Rattle.node_commands.proofs.Telling.{told_said}
use Rattle.node_commands.proofs.serving.at_station.Goals as goal

pub node-requires-clause-inside : goal.node-requires-clause-inside
node-requires-clause-inside g c =
    found_inside c.args.workload.now c.args.name.now c.in-Some.me (sym c.station.ensures ∙ c.in-Some.is)

pub ask_station-requires-clause-there : goal.ask_station-requires-clause-there
ask_station-requires-clause-there g c =
    found_peer c.args.workload.now c.args.name.now c.in-Some.me (sym c.station.ensures ∙ c.in-Some.is)

pub returns-in-None-clause-service : goal.returns-in-None-clause-service
returns-in-None-clause-service g c = λ old new source source' reads.
    let defs = c.args.workload.now in
    let named = its_name c.args.name.now c.args.last.now c.args.service in
    let none : number_of defs (name_in (requested c.args.name.now c.args.last.now c.args.service)) ≡ None =
    ap (number_of defs) named ∙ sym c.station.ensures ∙ c.in-None.is in
    IsService.unserved WordsRefused (codes "words refused\n") (refl, refl, refl, refl, refl)
    (UnservedCallsFor.unknown defs reads none) (told_said _ _ _ _ _ WordsRefused (codes "words refused\n") tt c.say.ensures.said)

pub returns-in-Node-clause-service : goal.returns-in-Node-clause-service
returns-in-Node-clause-service g c = λ old new source source' reads.
    let is : number_of c.args.workload.now c.args.name.now ≡ Some c.in-Some.me = sym c.station.ensures ∙ c.in-Some.is in
    let done = c.node.ensures.served in
    IsService.served done.0
    (record {
      name = c.args.name.now;
      turns = c.in-Node.turns;
      defs = c.args.workload.now;
      me = c.in-Some.me;
      is = ap (requested c.args.name.now c.args.last.now) c.in-Node.is;
      read = reads;
      there = is;
      served = done.1;
    }) done.2

pub returns-in-Ask-clause-service : goal.returns-in-Ask-clause-service
returns-in-Ask-clause-service g c = λ old new source source' reads.
    let is : number_of c.args.workload.now c.args.name.now ≡ Some c.in-Some.me = sym c.station.ensures ∙ c.in-Some.is in
    let done = c.ask_station.ensures.asked in
    IsService.asked done.2 (refl, refl, refl, refl)
    (record {
      name = c.args.name.now;
      command = c.args.last.now;
      defs = c.args.workload.now;
      me = c.in-Some.me;
      peer = done.0;
      is = ap (requested c.args.name.now c.args.last.now) c.in-Ask.is;
      read = reads;
      there = is;
      its_peer = done.1;
      asked = done.3;
    }) done.4
