use Rattle.std.proofs.Common.{None, refl, subst, sym}
use Rattle.node_inputs.specs.Traces.{Event}
use Rattle.model.specs.Types.{Send}
use Rattle.node_inputs.specs.Doings.{DoesOutside, end_of}
use Rattle.node_inputs.specs.Inputs.{CarryOut, carried_with}
use Rattle.node_inputs.specs.Stepping.{TellLost}
use Rattle.node_inputs.specs.Tellings.{told_by}
use Rattle.node_inputs.proofs.Doing.{out_call}
use Rattle.node_inputs.proofs.Telling.{kill_told}
use Rattle.node_inputs.proofs.outputs.carry.Goals as goal

pub returns-in-Launch : goal.returns-in-Launch
returns-in-Launch g c = record {
  does = λ all clock files told. (
    all,
    subst (λ l. TellLost l all) (sym c.start.ensures.lost) told,
    subst (λ o. DoesOutside (CarryOut c.args.agent.now o) (carried_with all c.args.carried.now.started) (carried_with all c.start.new.carried.started) (told_by (g.L.Link.calls c.args.link.now) (g.J.Spawner.calls c.args.jobs.now) clock files) (told_by (g.L.Link.calls c.args.link.now) (g.J.Spawner.calls c.start.new.jobs) clock files) None) (sym c.in-Launch.is)
        (c.start.ensures.does all (g.L.Link.calls c.args.link.now) clock files),
  );
  ends = tt;
}

pub returns-in-Kill : goal.returns-in-Kill
returns-in-Kill g c = record {
  does = λ all clock files told. (
    all,
    told,
    subst (λ o. DoesOutside (CarryOut c.args.agent.now o) (carried_with all c.args.carried.now.started) (carried_with all c.args.carried.now.started) (told_by (g.L.Link.calls c.args.link.now) (g.J.Spawner.calls c.args.jobs.now) clock files) (told_by (g.L.Link.calls c.args.link.now) (g.J.Spawner.calls c.kill.new.self) clock files) None) (sym c.in-Kill.is)
        (out_call (Event.Kills c.in-Kill.job c.in-Kill.number) (carried_with all c.args.carried.now.started) refl
        (kill_told (g.L.Link.calls c.args.link.now) clock files (g.J.Spawner.calls c.args.jobs.now) (g.J.Spawner.calls c.kill.new.self) c.in-Kill.job c.in-Kill.number c.kill.ensures.calls)),
  );
  ends = tt;
}

pub returns-in-Send : goal.returns-in-Send
returns-in-Send g c = record {
  does = λ all clock files told.
      let sent = c.send.ensures.does all (g.J.Spawner.calls c.args.jobs.now) clock files told in (
        sent.0,
        sent.1,
        subst (λ o. DoesOutside (CarryOut c.args.agent.now o) (carried_with all c.args.carried.now.started) (carried_with sent.0 c.send.new.carried.started) (told_by (g.L.Link.calls c.args.link.now) (g.J.Spawner.calls c.args.jobs.now) clock files) (told_by (g.L.Link.calls c.send.new.link) (g.J.Spawner.calls c.args.jobs.now) clock files) (end_of c.send.result)) (sym c.in-Send.is)
            (subst (λ s. DoesOutside (CarryOut c.args.agent.now (Send c.in-Send.to c.in-Send.packet)) (carried_with all c.args.carried.now.started) (carried_with sent.0 s) (told_by (g.L.Link.calls c.args.link.now) (g.J.Spawner.calls c.args.jobs.now) clock files) (told_by (g.L.Link.calls c.send.new.link) (g.J.Spawner.calls c.args.jobs.now) clock files) (end_of c.send.result)) (sym c.send.ensures.started) sent.2),
      );
  ends = c.send.ensures.ends;
}
