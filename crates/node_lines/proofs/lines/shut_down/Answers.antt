use Rattle.std.proofs.Common.{◌≡◌, Err, List, None, Some, ap, inr, rules, subst, ℕ}
use Rattle.node_inputs.specs.declared.ends.NodeEnd.TheVariants.{NoMemory, Shutdown}
use Rattle.node_inputs.specs.Actions.{Stop}
use Rattle.node_inputs.specs.Doings.{DoesOutside, end_of}
use Rattle.node_inputs.specs.Tellings.{told_by}
use Rattle.node_inputs.proofs.Doing.{out_answer, out_as, out_end, out_stop, out_then}
use Rattle.node_lines.specs.Lines.{Say}
use Rattle.node_lines.proofs.lines.shut_down.Goals as goal

pub returns-in_err-shutdown-clause-does : goal.returns-in_err-shutdown-clause-does
returns-in_err-shutdown-clause-does g c = λ defs node jobs clock files.
    let is : c.from_residual.result ≡ Err NoMemory = search rules in
    out_answer c.from_residual.result (Some NoMemory) (ap end_of is)
    (out_end (Stop Shutdown) (out_as (λ trace h. inr h) (out_stop NoMemory node (told_by (g.L.Link.calls c.args.link.now) jobs clock files))))

pub returns-in_err-say-clause-does : goal.returns-in_err-say-clause-does
returns-in_err-say-clause-does g c = λ defs node jobs clock files.
    let is : c.from_residual-in_err-say.result ≡ Err c.in_err-say.field-0.0 = search rules in
    out_answer c.from_residual-in_err-say.result (Some c.in_err-say.field-0.0) (ap end_of is)
    (out_end (Stop Shutdown)
    (subst (λ (t : List ℕ). DoesOutside (Say t) node node (told_by (g.L.Link.calls c.args.link.now) jobs clock files) (told_by (g.L.Link.calls c.say.new.link) jobs clock files) (Some c.in_err-say.field-0.0)) c.in_ok-shutdown.ensures
    (c.in_err-say.ensures node jobs clock files)))

pub returns-clause-does : goal.returns-clause-does
returns-clause-does g c = λ defs node jobs clock files.
    out_then
    (subst (λ (t : List ℕ). DoesOutside (Say t) node node (told_by (g.L.Link.calls c.args.link.now) jobs clock files) (told_by (g.L.Link.calls c.say.new.link) jobs clock files) None) c.in_ok-shutdown.ensures
    (c.in_ok-say.ensures node jobs clock files))
    (out_stop Shutdown node (told_by (g.L.Link.calls c.say.new.link) jobs clock files))
