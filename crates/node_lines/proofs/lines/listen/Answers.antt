use Rattle.std.proofs.Common.{◌≡◌, Err, Some, ap, inl, inr, rules}
use Rattle.mail_frames.specs.Streams.{AreFramesOf}
use Rattle.node_inputs.specs.declared.ends.NodeEnd.TheVariants.{NoMemory}
use Rattle.node_inputs.specs.Doings.{end_of}
use Rattle.node_inputs.specs.Tellings.{told_by}
use Rattle.node_inputs.proofs.Doing.{did_as, did_outside, out_as, out_stop}
use Rattle.node_inputs.proofs.Taking.{did_answer}
use Rattle.node_lines.proofs.lines.listen.Goals as goal

pub returns-in_err-fed-clause-does : goal.returns-in_err-fed-clause-does
returns-in_err-fed-clause-does g c = λ clock files.
    let is : c.from_residual.result ≡ Err NoMemory = search rules in
    did_answer c.from_residual.result (Some NoMemory) (ap end_of is)
    (did_outside g.K.Keeper.spent c.args.keeper.now c.requires.ready
    (out_as (λ trace h. inr h) (out_stop NoMemory c.args.agent.now (told_by (g.L.Link.calls c.args.link.now) (g.J.Spawner.calls c.args.jobs.now) clock files))))

pub returns-clause-does : goal.returns-clause-does
returns-clause-does g c = λ clock files.
    let are : AreFramesOf c.args.bytes.now c.as_slice.result.now = search rules in
    did_as (λ trace h. inl (c.as_slice.result.now, are, h)) (c.answer_all.ensures.does clock files)
