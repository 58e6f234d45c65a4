use Rattle.std.proofs.Common.{subst, sym}
use Rattle.conman_syntax.specs.declared.lines.Line.{Line}
use Rattle.node_inputs.specs.Doings.{Does, end_of}
use Rattle.node_inputs.specs.Tellings.{told_by}
use Rattle.node_inputs.proofs.Doing.{did_as, did_outside}
use Rattle.node_lines.specs.Lines.{Obey}
use Rattle.node_lines.proofs.Serving.{typed_at_node}
use Rattle.node_lines.proofs.lines.obey.Goals as goal

pub returns-in-ShowJobs-clause-does : goal.returns-in-ShowJobs-clause-does
returns-in-ShowJobs-clause-does g c = λ clock files.
    subst (λ (l : Line). Does g.K.Keeper.kept g.K.Keeper.size g.K.Keeper.faults g.K.Keeper.moment g.K.Keeper.may_leave g.K.Keeper.left_since g.K.Keeper.opens_since
    (Obey c.args.workload.now l) c.args.agent.now c.args.agent.now c.args.keeper.now c.args.keeper.now
    (told_by (g.L.Link.calls c.args.link.now) (g.J.Spawner.calls c.args.jobs.now) clock files) (told_by (g.L.Link.calls c.show.new.link) (g.J.Spawner.calls c.args.jobs.now) clock files) (end_of c.show.result)) (sym c.in-ShowJobs.is)
    (did_outside g.K.Keeper.spent c.args.keeper.now c.requires.ready (c.show.ensures (g.J.Spawner.calls c.args.jobs.now) clock files))

pub returns-in-ShowSchedules-clause-does : goal.returns-in-ShowSchedules-clause-does
returns-in-ShowSchedules-clause-does g c = λ clock files.
    subst (λ (l : Line). Does g.K.Keeper.kept g.K.Keeper.size g.K.Keeper.faults g.K.Keeper.moment g.K.Keeper.may_leave g.K.Keeper.left_since g.K.Keeper.opens_since
    (Obey c.args.workload.now l) c.args.agent.now c.args.agent.now c.args.keeper.now c.args.keeper.now
    (told_by (g.L.Link.calls c.args.link.now) (g.J.Spawner.calls c.args.jobs.now) clock files) (told_by (g.L.Link.calls c.show-in-ShowSchedules.new.link) (g.J.Spawner.calls c.args.jobs.now) clock files) (end_of c.show-in-ShowSchedules.result)) (sym c.in-ShowSchedules.is)
    (did_outside g.K.Keeper.spent c.args.keeper.now c.requires.ready (c.show-in-ShowSchedules.ensures (g.J.Spawner.calls c.args.jobs.now) clock files))

pub returns-in-ShowCpus-clause-does : goal.returns-in-ShowCpus-clause-does
returns-in-ShowCpus-clause-does g c = λ clock files.
    subst (λ (l : Line). Does g.K.Keeper.kept g.K.Keeper.size g.K.Keeper.faults g.K.Keeper.moment g.K.Keeper.may_leave g.K.Keeper.left_since g.K.Keeper.opens_since
    (Obey c.args.workload.now l) c.args.agent.now c.args.agent.now c.args.keeper.now c.args.keeper.now
    (told_by (g.L.Link.calls c.args.link.now) (g.J.Spawner.calls c.args.jobs.now) clock files) (told_by (g.L.Link.calls c.show-in-ShowCpus.new.link) (g.J.Spawner.calls c.args.jobs.now) clock files) (end_of c.show-in-ShowCpus.result)) (sym c.in-ShowCpus.is)
    (did_outside g.K.Keeper.spent c.args.keeper.now c.requires.ready (c.show-in-ShowCpus.ensures (g.J.Spawner.calls c.args.jobs.now) clock files))

pub returns-in-ShowPrompts-clause-does : goal.returns-in-ShowPrompts-clause-does
returns-in-ShowPrompts-clause-does g c = λ clock files.
    subst (λ (l : Line). Does g.K.Keeper.kept g.K.Keeper.size g.K.Keeper.faults g.K.Keeper.moment g.K.Keeper.may_leave g.K.Keeper.left_since g.K.Keeper.opens_since
    (Obey c.args.workload.now l) c.args.agent.now c.args.agent.now c.args.keeper.now c.args.keeper.now
    (told_by (g.L.Link.calls c.args.link.now) (g.J.Spawner.calls c.args.jobs.now) clock files) (told_by (g.L.Link.calls c.show-in-ShowPrompts.new.link) (g.J.Spawner.calls c.args.jobs.now) clock files) (end_of c.show-in-ShowPrompts.result)) (sym c.in-ShowPrompts.is)
    (did_outside g.K.Keeper.spent c.args.keeper.now c.requires.ready (c.show-in-ShowPrompts.ensures (g.J.Spawner.calls c.args.jobs.now) clock files))

pub returns-in-ShowResources-clause-does : goal.returns-in-ShowResources-clause-does
returns-in-ShowResources-clause-does g c = λ clock files.
    subst (λ (l : Line). Does g.K.Keeper.kept g.K.Keeper.size g.K.Keeper.faults g.K.Keeper.moment g.K.Keeper.may_leave g.K.Keeper.left_since g.K.Keeper.opens_since
    (Obey c.args.workload.now l) c.args.agent.now c.args.agent.now c.args.keeper.now c.args.keeper.now
    (told_by (g.L.Link.calls c.args.link.now) (g.J.Spawner.calls c.args.jobs.now) clock files) (told_by (g.L.Link.calls c.show-in-ShowResources.new.link) (g.J.Spawner.calls c.args.jobs.now) clock files) (end_of c.show-in-ShowResources.result)) (sym c.in-ShowResources.is)
    (did_outside g.K.Keeper.spent c.args.keeper.now c.requires.ready (c.show-in-ShowResources.ensures (g.J.Spawner.calls c.args.jobs.now) clock files))

pub returns-in-Link-clause-does : goal.returns-in-Link-clause-does
returns-in-Link-clause-does g c = λ clock files.
    subst (λ (l : Line). Does g.K.Keeper.kept g.K.Keeper.size g.K.Keeper.faults g.K.Keeper.moment g.K.Keeper.may_leave g.K.Keeper.left_since g.K.Keeper.opens_since
    (Obey c.args.workload.now l) c.args.agent.now c.args.agent.now c.args.keeper.now c.args.keeper.now
    (told_by (g.L.Link.calls c.args.link.now) (g.J.Spawner.calls c.args.jobs.now) clock files) (told_by (g.L.Link.calls c.ask_link.new.link) (g.J.Spawner.calls c.args.jobs.now) clock files) (end_of c.ask_link.result)) (sym c.in-Link.is)
    (did_outside g.K.Keeper.spent c.args.keeper.now c.requires.ready (c.ask_link.ensures (g.J.Spawner.calls c.args.jobs.now) clock files))

pub returns-in-Unlink-clause-does : goal.returns-in-Unlink-clause-does
returns-in-Unlink-clause-does g c = λ clock files.
    subst (λ (l : Line). Does g.K.Keeper.kept g.K.Keeper.size g.K.Keeper.faults g.K.Keeper.moment g.K.Keeper.may_leave g.K.Keeper.left_since g.K.Keeper.opens_since
    (Obey c.args.workload.now l) c.args.agent.now c.args.agent.now c.args.keeper.now c.args.keeper.now
    (told_by (g.L.Link.calls c.args.link.now) (g.J.Spawner.calls c.args.jobs.now) clock files) (told_by (g.L.Link.calls c.ask_link-in-Unlink.new.link) (g.J.Spawner.calls c.args.jobs.now) clock files) (end_of c.ask_link-in-Unlink.result)) (sym c.in-Unlink.is)
    (did_outside g.K.Keeper.spent c.args.keeper.now c.requires.ready (c.ask_link-in-Unlink.ensures (g.J.Spawner.calls c.args.jobs.now) clock files))

pub returns-in-Shutdown-clause-does : goal.returns-in-Shutdown-clause-does
returns-in-Shutdown-clause-does g c = λ clock files.
    subst (λ (l : Line). Does g.K.Keeper.kept g.K.Keeper.size g.K.Keeper.faults g.K.Keeper.moment g.K.Keeper.may_leave g.K.Keeper.left_since g.K.Keeper.opens_since
    (Obey c.args.workload.now l) c.args.agent.now c.args.agent.now c.args.keeper.now c.args.keeper.now
    (told_by (g.L.Link.calls c.args.link.now) (g.J.Spawner.calls c.args.jobs.now) clock files) (told_by (g.L.Link.calls c.shut_down.new.link) (g.J.Spawner.calls c.args.jobs.now) clock files) (end_of c.shut_down.result)) (sym c.in-Shutdown.is)
    (did_outside g.K.Keeper.spent c.args.keeper.now c.requires.ready (c.shut_down.ensures.does c.args.workload.now c.args.agent.now (g.J.Spawner.calls c.args.jobs.now) clock files))

pub returns-in_default : goal.returns-in_default
returns-in_default g c = record {
  does = λ clock files.
      did_as (λ trace h. typed_at_node c.args.workload.now c.args.line.now c.args.agent.now trace (end_of c.order.result) c.order.new.agent
      c.in_default.not-ShowJobs c.in_default.not-ShowSchedules c.in_default.not-ShowCpus c.in_default.not-ShowPrompts c.in_default.not-ShowResources
      c.in_default.not-Link c.in_default.not-Unlink c.in_default.not-Shutdown c.in_default.not-JNextPlan h)
      (c.order.ensures.does clock files);
  ready = c.order.ensures.ready;
  keepable = c.order.ensures.keepable;
}
