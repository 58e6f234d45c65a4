use Rattle.std.proofs.Common.{◌≡◌, Err, List, Some, ap, inr, rules, subst, ℕ}
use Rattle.node_inputs.specs.declared.ends.NodeEnd.TheVariants.{NoMemory}
use Rattle.node_inputs.specs.Doings.{DoesOutside, end_of}
use Rattle.node_inputs.specs.Tellings.{told_by}
use Rattle.node_inputs.proofs.Doing.{out_answer, out_as, out_stop}
use Rattle.node_lines.specs.Lines.{Say}
use Rattle.node_lines.proofs.lines.show.Goals as goal

pub returns-in_err-text : goal.returns-in_err-text
returns-in_err-text g c = λ jobs clock files.
    let is : c.from_residual.result ≡ Err NoMemory = search rules in
    out_answer c.from_residual.result (Some NoMemory) (ap end_of is)
    (out_as (λ trace h. inr h) (out_stop NoMemory c.args.agent.now (told_by (g.L.Link.calls c.args.link.now) jobs clock files)))

pub returns : goal.returns
returns g c = λ jobs clock files.
    out_as (λ trace h. h)
    (subst (λ (t : List ℕ). DoesOutside (Say t) c.args.agent.now c.args.agent.now (told_by (g.L.Link.calls c.args.link.now) jobs clock files) (told_by (g.L.Link.calls c.say.new.link) jobs clock files) (end_of c.say.result)) c.in_ok-text.ensures
    (c.say.ensures c.args.agent.now jobs clock files))
