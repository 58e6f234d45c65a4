use Rattle.std.proofs.Common.{◌≡◌, Err, Some, ap, rules}
use Rattle.node_inputs.specs.declared.ends.NodeEnd.TheVariants.{NoMemory}
use Rattle.node_inputs.specs.Doings.{end_of}
use Rattle.node_inputs.specs.Tellings.{told_by}
use Rattle.node_inputs.proofs.Doing.{out_answer, out_of_memory}
use Rattle.node_replies.specs.Replies.{refused_line}
use Rattle.node_lines.specs.Lines.{Reply}
use Rattle.node_lines.proofs.replies.refuse.Goals as goal

pub returns-in_err-refused : goal.returns-in_err-refused
returns-in_err-refused g c = λ node jobs clock files.
    let is : c.from_residual.result ≡ Err NoMemory = search rules in
    out_answer c.from_residual.result (Some NoMemory) (ap end_of is)
    (out_of_memory (Reply (refused_line c.args.refusal)) node (told_by (g.L.Link.calls c.args.link.now) jobs clock files))
