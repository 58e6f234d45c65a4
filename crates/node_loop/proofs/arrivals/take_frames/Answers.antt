use Rattle.std.proofs.Common.{◌+◌, ◌<◌, ◌≡◌, ◌≤◌, ◌∙◌, Err, false, None, Some, ap, drop, get_or, length, rules, sym}
use Rattle.lemmas.proofs.Lists.{drop_at_end}
use Rattle.node_inputs.specs.declared.ends.NodeEnd.TheVariants.{NoMemory}
use Rattle.node_inputs.specs.Doings.{end_of}
use Rattle.node_inputs.specs.Inputs.{Lose}
use Rattle.node_inputs.specs.Tellings.{told_by}
use Rattle.node_inputs.proofs.Choosing.{out_if_false}
use Rattle.node_inputs.proofs.Doing.{did_outside, out_nothing}
use Rattle.node_inputs.proofs.Looping.{next_item}
use Rattle.node_inputs.proofs.Taking.{did_answer}
use Rattle.node_loop.specs.Frames.{input_of}
use Rattle.node_loop.proofs.Turning.{frame_bad, frame_ended, frame_taken, frame_unread, frames_more}
use Rattle.node_loop.proofs.arrivals.take_frames.Goals as goal

pub returns-in_err-input-clause-does : goal.returns-in_err-input-clause-does
returns-in_err-input-clause-does g c = λ clock files.
    let i = c.loop-frame.frame-index in
    let f = c.frame-item.result in
    let inside : i < length c.args.frames.now = search rules in
    let item : get_or c.args.frames.now i f ≡ f = search rules in
    let is : c.from_residual.result ≡ Err NoMemory = search rules in
    did_answer c.from_residual.result (Some NoMemory) (ap end_of is)
    (frame_unread c.args.x c.args.is_bad f (drop (i + 1) c.args.frames.now) g.K.Keeper.spent c.loop-frame.invariant.ready_
    (frames_more c.args.x c.args.is_bad (drop i c.args.frames.now) _ (next_item c.args.frames.now i f inside item) (c.loop-frame.invariant.does_ clock files)))

pub returns-in_err-take-in-Some-clause-does : goal.returns-in_err-take-in-Some-clause-does
returns-in_err-take-in-Some-clause-does g c = λ clock files.
    let i = c.loop-frame.frame-index in
    let f = c.frame-item.result in
    let inside : i < length c.args.frames.now = search rules in
    let item : get_or c.args.frames.now i f ≡ f = search rules in
    let of : Some c.in-Some.input ≡ input_of c.args.x f = sym c.in-Some.is ∙ c.in_ok-input.ensures.input in
    let is : c.from_residual-in_err-take-in-Some.result ≡ Err c.in_err-take-in-Some.field-0.0 = search rules in
    did_answer c.from_residual-in_err-take-in-Some.result (Some c.in_err-take-in-Some.field-0.0) (ap end_of is)
    (frame_ended c.args.x c.args.is_bad f (drop (i + 1) c.args.frames.now) c.in-Some.input of
    (frames_more c.args.x c.args.is_bad (drop i c.args.frames.now) _ (next_item c.args.frames.now i f inside item) (c.loop-frame.invariant.does_ clock files))
    (c.in_err-take-in-Some.ensures.does clock files))

pub returns-in-None-clause-does : goal.returns-in-None-clause-does
returns-in-None-clause-does g c = λ clock files.
    let i = c.loop-frame.frame-index in
    let f = c.frame-item.result in
    let inside : i < length c.args.frames.now = search rules in
    let item : get_or c.args.frames.now i f ≡ f = search rules in
    let of : None ≡ input_of c.args.x f = sym c.in-None.is ∙ c.in_ok-input.ensures.input in
    frame_bad c.args.x c.args.is_bad f (drop (i + 1) c.args.frames.now) of
    (frames_more c.args.x c.args.is_bad (drop i c.args.frames.now) _ (next_item c.args.frames.now i f inside item) (c.loop-frame.invariant.does_ clock files))
    (c.lose.ensures.does (g.J.Spawner.calls c.loop-frame.jobs) clock files)

pub loop-frame-preserved : goal.loop-frame-preserved
loop-frame-preserved g c =
    let i = c.loop-frame.frame-index in
    let f = c.frame-item.result in
    let inside : i < length c.args.frames.now = search rules in
    let item : get_or c.args.frames.now i f ≡ f = search rules in
    let of : Some c.in-Some.input ≡ input_of c.args.x f = sym c.in-Some.is ∙ c.in_ok-input.ensures.input in
    record {
      ready_ = c.in_ok-take-in-Some.ensures.ready;
      keepable_ = c.in_ok-take-in-Some.ensures.keepable;
      does_ = λ clock files.
          frame_taken c.args.x c.args.is_bad f (drop (i + 1) c.args.frames.now) c.in-Some.input of
          (frames_more c.args.x c.args.is_bad (drop i c.args.frames.now) _ (next_item c.args.frames.now i f inside item) (c.loop-frame.invariant.does_ clock files))
          (c.in_ok-take-in-Some.ensures.does clock files);
    }

pub returns-else-is_bad-clause-does : goal.returns-else-is_bad-clause-does
returns-else-is_bad-clause-does g c = λ clock files.
    let i = c.loop-frame.frame-index in
    let all : length c.args.frames.now ≤ i = search rules in
    let bad : c.args.is_bad ≡ false = search rules in
    let told = told_by (g.L.Link.calls c.loop-frame.link) (g.J.Spawner.calls c.loop-frame.jobs) clock files in
    frames_more c.args.x c.args.is_bad (drop i c.args.frames.now) _ (drop_at_end c.args.frames.now i all) (c.loop-frame.invariant.does_ clock files)
    c.loop-frame.agent c.loop-frame.keeper told None
    (did_outside g.K.Keeper.spent c.loop-frame.keeper c.loop-frame.invariant.ready_
    (out_if_false (Lose c.args.x) c.args.is_bad bad (out_nothing c.loop-frame.agent told)))
