use Rattle.std.proofs.Common.{[], ◌≡◌, ◌∷◌, Bool, Err, List, Some, ap, refl, rules, subst, ℕ}
use Rattle.std.specs.Prelude.{is_ok}
use Rattle.mail_frames.specs.Spelling.{frame_bytes}
use Rattle.mail_frames.specs.declared.frames.Frame.TheVariants as frame
use Rattle.outside.specs.Calls.{Replied, Replies}
use Rattle.node_inputs.specs.Traces.{Event}
use Rattle.node_inputs.specs.declared.ends.NodeEnd.TheVariants.{NoMemory}
use Rattle.node_inputs.specs.Doings.{end_of}
use Rattle.node_inputs.specs.Tellings.{told_by}
use Rattle.node_inputs.proofs.Doing.{out_answer, out_of_memory, out_wants}
use Rattle.node_inputs.proofs.Telling.{reply_told}
use Rattle.node_lines.specs.Lines.{Reply, reply_text}
use Rattle.node_lines.proofs.replies.say.Goals as goal

pub returns-in_err-text : goal.returns-in_err-text
returns-in_err-text g c = λ node jobs clock files.
    let is : c.from_residual.result ≡ Err NoMemory = search rules in
    out_answer c.from_residual.result (Some NoMemory) (ap end_of is)
    (out_of_memory (Reply c.args.text) node (told_by (g.L.Link.calls c.args.link.now) jobs clock files))

pub returns-in_err-bytes : goal.returns-in_err-bytes
returns-in_err-bytes g c = λ node jobs clock files.
    let is : c.from_residual-in_err-bytes.result ≡ Err NoMemory = search rules in
    out_answer c.from_residual-in_err-bytes.result (Some NoMemory) (ap end_of is)
    (out_of_memory (Reply c.args.text) node (told_by (g.L.Link.calls c.args.link.now) jobs clock files))

pub returns : goal.returns
returns g c = λ node jobs clock files.
    let ok : Bool = is_ok c.reply-failed.result in
    let bytes : c.as_slice.result.now ≡ frame_bytes (frame.Reply (reply_text c.args.text)) = search rules in
    let call : Replied = record { bytes = frame_bytes (frame.Reply (reply_text c.args.text)); ok = ok } in
    let said : Replies call (g.L.Link.calls c.args.link.now) (g.L.Link.calls c.reply-failed.new.self) =
    subst (λ (b : List ℕ). Replies (record { bytes = b; ok = ok }) (g.L.Link.calls c.args.link.now) (g.L.Link.calls c.reply-failed.new.self)) bytes c.reply-failed.ensures.calls in
    out_wants (record {
      trace = Event.Replies call ∷ [];
      acts = (ok, (refl, refl, refl));
      tells = reply_told jobs clock files (g.L.Link.calls c.args.link.now) (g.L.Link.calls c.reply-failed.new.self) call said;
      none_tried = refl;
    })
