use Rattle.std.proofs.Common.{None, Option, subst, sym}
use Rattle.node_inputs.specs.Doings.{DoesOutside}
use Rattle.node_inputs.specs.Tellings.{told_by}
use Rattle.node_inputs.proofs.Doing.{out_nothing}
use Rattle.node_replies.specs.declared.replies.Refusal.{Refusal}
use Rattle.node_lines.specs.Lines.{Refuse}
use Rattle.node_lines.proofs.replies.refuse_for.Goals as goal

pub returns-in-None : goal.returns-in-None
returns-in-None g c = λ node jobs clock files.
    subst (λ (w : Option Refusal). DoesOutside (Refuse w) node node (told_by (g.L.Link.calls c.args.link.now) jobs clock files) (told_by (g.L.Link.calls c.args.link.now) jobs clock files) None) (sym c.in-None.is)
    (out_nothing node (told_by (g.L.Link.calls c.args.link.now) jobs clock files))
