use Rattle.std.proofs.Common.{◌≡◌, rules}
use Rattle.lemmas.proofs.Results.{on_ok}
use Rattle.outside.specs.declared.links.Arrival.TheVariants as arrival
use Rattle.node_inputs.specs.declared.ends.NodeEnd.TheVariants.{NoMemory}
use Rattle.node_inputs.specs.Tellings.{told_by}
use Rattle.node_inputs.proofs.Doing.{did_outside, out_nothing, out_stop}
use Rattle.node_loop.specs.Runs.{running_with}
use Rattle.node_loop.proofs.Parts.{did_arrive}
use Rattle.node_loop.proofs.Turning.{did_on}
use Rattle.node_loop.proofs.arrivals.take_arrival.Goals as goal

pub returns-in-Bytes-clause-does : goal.returns-in-Bytes-clause-does
returns-in-Bytes-clause-does g c = λ heard asked clock files h.
    let is : c.args.arrival.now ≡ arrival.Bytes c.in-Bytes.x c.as_slice.result.now = search rules in
    let d = c.hear.ensures.does heard asked clock files h in
    (d.0, d.1, did_arrive c.args.arrival.now (arrival.Bytes c.in-Bytes.x c.as_slice.result.now) c.args.workload.now is d.2)

pub returns-in-Up-clause-does : goal.returns-in-Up-clause-does
returns-in-Up-clause-does g c = λ heard asked clock files h.
    let is : c.args.arrival.now ≡ arrival.Up c.in-Up.x = search rules in
    let d = c.turn_link.ensures.does heard asked clock files h in
    (d.0, d.1, did_arrive c.args.arrival.now (arrival.Up c.in-Up.x) c.args.workload.now is d.2)

pub returns-in-Down-clause-does : goal.returns-in-Down-clause-does
returns-in-Down-clause-does g c = λ heard asked clock files h.
    let is : c.args.arrival.now ≡ arrival.Down c.in-Down.x = search rules in
    let d = c.turn_link-in-Down.ensures.does heard asked clock files h in
    (d.0, d.1, did_arrive c.args.arrival.now (arrival.Down c.in-Down.x) c.args.workload.now is d.2)

pub returns-in-Client-clause-does : goal.returns-in-Client-clause-does
returns-in-Client-clause-does g c = λ heard asked clock files h.
    let is : c.args.arrival.now ≡ arrival.Client c.as_slice-in-Client.result.now = search rules in (
      heard,
      on_ok c.listen.result h,
      did_arrive c.args.arrival.now (arrival.Client c.as_slice-in-Client.result.now) c.args.workload.now is
          (did_on heard asked (c.listen.ensures.does clock files)),
    )

pub returns-in-Client-clause-heard : goal.returns-in-Client-clause-heard
returns-in-Client-clause-heard g c = on_ok c.listen.result c.requires.heard

pub returns-in-Nothing-clause-does : goal.returns-in-Nothing-clause-does
returns-in-Nothing-clause-does g c = λ heard asked clock files h.
    let is : c.args.arrival.now ≡ arrival.Nothing = search rules in (
      heard,
      h,
      did_arrive c.args.arrival.now arrival.Nothing c.args.workload.now is
          (did_outside g.K.Keeper.spent c.args.keeper.now c.requires.ready
          (out_nothing (running_with c.args.agent.now heard asked)
          (told_by (g.L.Link.calls c.args.link.now) (g.J.Spawner.calls c.args.jobs.now) clock files))),
    )

pub returns-in-NoMemory-clause-does : goal.returns-in-NoMemory-clause-does
returns-in-NoMemory-clause-does g c = λ heard asked clock files h.
    let is : c.args.arrival.now ≡ arrival.NoMemory = search rules in (
      heard,
      tt,
      did_arrive c.args.arrival.now arrival.NoMemory c.args.workload.now is
          (did_outside g.K.Keeper.spent c.args.keeper.now c.requires.ready
          (out_stop NoMemory (running_with c.args.agent.now heard asked)
          (told_by (g.L.Link.calls c.args.link.now) (g.J.Spawner.calls c.args.jobs.now) clock files))),
    )
