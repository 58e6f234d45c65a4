use Rattle.std.proofs.Common.{[], ◌≡◌, ◌∙◌, ◌∷◌, Err, Bool, None, Some, ap, false, get_or, length, refl, rules, set, subst, sym, true}
use Rattle.std.specs.Prelude.{if◌then◌else◌, is_ok, option_map, List, ℕ}
use Rattle.lemmas.proofs.Options.{map_none, map_some}
use Rattle.mail_frames.specs.Spelling.{frame_bytes}
use Rattle.mail_frames.specs.declared.frames.Frame.{Frame}
use Rattle.outside.specs.Calls.{Sends, Sent}
use Rattle.node_inputs.specs.Traces.{Event}
use Rattle.node_inputs.specs.declared.ends.NodeEnd.TheVariants.{NoMemory}
use Rattle.node_inputs.specs.Actions.{IfThere, Nothing, Wants}
use Rattle.node_inputs.specs.Doings.{end_of}
use Rattle.node_inputs.specs.Inputs.{SendFrame, carried_with, frame_of, is_lost}
use Rattle.node_inputs.specs.Tellings.{told_by}
use Rattle.node_inputs.proofs.Choosing.{out_if_false, out_if_true, out_not_there, out_there}
use Rattle.node_inputs.proofs.Doing.{out_answer, out_as, out_nothing, out_of_memory, out_wants}
use Rattle.node_inputs.proofs.Flagging.{lost_more}
use Rattle.node_inputs.proofs.Telling.{send_told}
use Rattle.node_inputs.proofs.outputs.send.Goals.{then-is_err, else-is_err}
use Rattle.node_inputs.proofs.outputs.send.Goals as goal

pub returns-then-is_flagged-clause-does : goal.returns-then-is_flagged-clause-does
returns-then-is_flagged-clause-does g c = λ all jobs clock files told.
    let flag : get_or c.args.carried.now.lost c.args.to false ≡ true = search rules in (
      all,
      told,
      out_as (λ trace h. h)
          (out_if_true (Wants (IfThere (frame_of c.args.agent.now c.args.packet.now) (SendFrame c.args.to) Nothing)) (is_lost all c.args.to)
          (sym (told c.args.to c.requires.within) ∙ flag)
          (out_nothing (carried_with all c.args.carried.now.started) (told_by (g.L.Link.calls c.args.link.now) jobs clock files))),
    )

pub returns-in_err-bytes-clause-does : goal.returns-in_err-bytes-clause-does
returns-in_err-bytes-clause-does g c = λ all jobs clock files told.
    let flag : get_or c.args.carried.now.lost c.args.to false ≡ false = search rules in
    let is : c.from_residual.result ≡ Err NoMemory = search rules in (
      all,
      told,
      out_answer c.from_residual.result (Some NoMemory) (ap end_of is) (out_as (λ trace h. h)
          (out_if_false Nothing (is_lost all c.args.to) (sym (told c.args.to c.requires.within) ∙ flag)
          (out_of_memory (IfThere (frame_of c.args.agent.now c.args.packet.now) (SendFrame c.args.to) Nothing) (carried_with all c.args.carried.now.started) (told_by (g.L.Link.calls c.args.link.now) jobs clock files)))),
    )

pub returns-in_default-clause-does : goal.returns-in_default-clause-does
returns-in_default-clause-does g c = λ all jobs clock files told.
    let flag : get_or c.args.carried.now.lost c.args.to false ≡ false = search rules in
    let none : option_map frame_bytes (frame_of c.args.agent.now c.args.packet.now) ≡ None = search rules in (
      all,
      told,
      out_as (λ trace h. h)
          (out_if_false Nothing (is_lost all c.args.to) (sym (told c.args.to c.requires.within) ∙ flag)
          (out_wants (out_not_there (frame_of c.args.agent.now c.args.packet.now) (SendFrame c.args.to) Nothing (map_none frame_bytes (frame_of c.args.agent.now c.args.packet.now) none)
          (out_nothing (carried_with all c.args.carried.now.started) (told_by (g.L.Link.calls c.args.link.now) jobs clock files))))),
    )

pub returns-clause-does : goal.returns-clause-does
returns-clause-does g c = λ all jobs clock files told.
    let flag : get_or c.args.carried.now.lost c.args.to false ≡ false = search rules in
    let bytes : option_map frame_bytes (frame_of c.args.agent.now c.args.packet.now) ≡ Some c.as_slice.result.now = search rules in
    let ok : Bool = is_ok c.send.result in
    let f : (f : Frame) × (frame_of c.args.agent.now c.args.packet.now ≡ Some f) × (frame_bytes f ≡ c.as_slice.result.now) = map_some frame_bytes (frame_of c.args.agent.now c.args.packet.now) c.as_slice.result.now bytes in
    let call : Sent = record { to = c.args.to; bytes = frame_bytes f.0; ok = ok } in
    let sent : Sends call (g.L.Link.calls c.args.link.now) (g.L.Link.calls c.send.new.self) = subst (λ b. Sends (record { to = c.args.to; bytes = b; ok = ok }) (g.L.Link.calls c.args.link.now) (g.L.Link.calls c.send.new.self)) (sym f.2) c.send.ensures.calls in
    let started = c.args.carried.now.started in
    let later : List ℕ = if ok then all else c.args.to ∷ all in (
      later,
      elim c.if-is_err.branch [
        | then-is_err w ↦
            let failed : is_ok c.send.result ≡ false = search rules in
            let flags : c.if-is_err.carried.lost ≡ set c.args.carried.now.lost c.args.to true = search rules in
            let long : length c.args.carried.now.lost ≡ 256 = search rules in
            rw (failed, flags) (lost_more c.args.carried.now.lost all c.args.to long c.requires.within told)
        | else-is_err w ↦
            let went : is_ok c.send.result ≡ true = search rules in
            let flags : c.if-is_err.carried.lost ≡ c.args.carried.now.lost = search rules in
            rw (went, flags) told
      ],
      out_as (λ trace h. h)
          (out_if_false Nothing (is_lost all c.args.to) (sym (told c.args.to c.requires.within) ∙ flag)
          (out_wants (out_there (frame_of c.args.agent.now c.args.packet.now) f.0 (SendFrame c.args.to) Nothing f.1
          (record {
            trace = Event.Sends call ∷ [];
            acts = (ok, refl, refl, refl);
            tells = send_told jobs clock files (g.L.Link.calls c.args.link.now) (g.L.Link.calls c.send.new.self) call sent;
            none_tried = refl;
          })))),
    )
