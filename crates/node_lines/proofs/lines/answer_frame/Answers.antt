use Rattle.std.proofs.Common.{None, subst, sym}
use Rattle.mail_frames.specs.declared.frames.Frame.{Frame}
use Rattle.node_inputs.specs.Doings.{Does}
use Rattle.node_inputs.specs.Tellings.{told_by}
use Rattle.node_inputs.proofs.Doing.{did_outside, out_nothing}
use Rattle.node_lines.specs.Lines.{AnswerFrame}
use Rattle.node_lines.proofs.lines.answer_frame.Goals as goal

pub returns-in-Mail-clause-does : goal.returns-in-Mail-clause-does
returns-in-Mail-clause-does g c = λ clock files.
    let told = told_by (g.L.Link.calls c.args.link.now) (g.J.Spawner.calls c.args.jobs.now) clock files in
    subst (λ (f : Frame). Does g.K.Keeper.kept g.K.Keeper.size g.K.Keeper.faults g.K.Keeper.moment g.K.Keeper.may_leave g.K.Keeper.left_since g.K.Keeper.opens_since (AnswerFrame c.args.workload.now f) c.args.agent.now c.args.agent.now c.args.keeper.now c.args.keeper.now told told None) (sym c.in-Mail.is)
    (did_outside g.K.Keeper.spent c.args.keeper.now c.requires.ready (out_nothing c.args.agent.now told))

pub returns-in-Ack-clause-does : goal.returns-in-Ack-clause-does
returns-in-Ack-clause-does g c = λ clock files.
    let told = told_by (g.L.Link.calls c.args.link.now) (g.J.Spawner.calls c.args.jobs.now) clock files in
    subst (λ (f : Frame). Does g.K.Keeper.kept g.K.Keeper.size g.K.Keeper.faults g.K.Keeper.moment g.K.Keeper.may_leave g.K.Keeper.left_since g.K.Keeper.opens_since (AnswerFrame c.args.workload.now f) c.args.agent.now c.args.agent.now c.args.keeper.now c.args.keeper.now told told None) (sym c.in-Ack.is)
    (did_outside g.K.Keeper.spent c.args.keeper.now c.requires.ready (out_nothing c.args.agent.now told))

pub returns-in-Reply-clause-does : goal.returns-in-Reply-clause-does
returns-in-Reply-clause-does g c = λ clock files.
    let told = told_by (g.L.Link.calls c.args.link.now) (g.J.Spawner.calls c.args.jobs.now) clock files in
    subst (λ (f : Frame). Does g.K.Keeper.kept g.K.Keeper.size g.K.Keeper.faults g.K.Keeper.moment g.K.Keeper.may_leave g.K.Keeper.left_since g.K.Keeper.opens_since (AnswerFrame c.args.workload.now f) c.args.agent.now c.args.agent.now c.args.keeper.now c.args.keeper.now told told None) (sym c.in-Reply.is)
    (did_outside g.K.Keeper.spent c.args.keeper.now c.requires.ready (out_nothing c.args.agent.now told))
