use Rattle.std.proofs.Common.{◌+◌, ◌<◌, ◌≡◌, ◌≤◌, Err, Some, ap, drop, get_or, length, rules}
use Rattle.lemmas.proofs.Lists.{drop_at_end}
use Rattle.node_inputs.specs.Actions.{Each}
use Rattle.node_inputs.specs.Doings.{end_of}
use Rattle.node_inputs.proofs.Looping.{completing_all, completing_end, completing_one, each_done, each_more, next_item}
use Rattle.node_inputs.proofs.Taking.{did_answer}
use Rattle.node_lines.specs.Lines.{AnswerFrame}
use Rattle.node_lines.proofs.lines.answer_all.Goals as goal

pub returns-in_err-answer_frame-clause-does : goal.returns-in_err-answer_frame-clause-does
returns-in_err-answer_frame-clause-does g c = λ clock files.
    let i = c.loop-frame.frame-index in
    let inside : i < length c.args.frames.now = search rules in
    let item : get_or c.args.frames.now i c.frame-item.result ≡ c.frame-item.result = search rules in
    let is : c.from_residual.result ≡ Err c.in_err-answer_frame.field-0.0 = search rules in
    did_answer c.from_residual.result (Some c.in_err-answer_frame.field-0.0) (ap end_of is)
    (completing_end (Each (AnswerFrame c.args.workload.now) (drop (i + 1) c.args.frames.now))
    (each_more (AnswerFrame c.args.workload.now) (drop i c.args.frames.now) (drop (i + 1) c.args.frames.now) c.frame-item.result (next_item c.args.frames.now i c.frame-item.result inside item) (c.loop-frame.invariant.does_ clock files))
    (c.in_err-answer_frame.ensures.does clock files))

pub loop-frame-preserved : goal.loop-frame-preserved
loop-frame-preserved g c =
    let i = c.loop-frame.frame-index in
    let inside : i < length c.args.frames.now = search rules in
    let item : get_or c.args.frames.now i c.frame-item.result ≡ c.frame-item.result = search rules in
    record {
      ready_ = c.in_ok-answer_frame.ensures.ready;
      keepable_ = c.in_ok-answer_frame.ensures.keepable;
      does_ = λ clock files.
          completing_one
          (each_more (AnswerFrame c.args.workload.now) (drop i c.args.frames.now) (drop (i + 1) c.args.frames.now) c.frame-item.result (next_item c.args.frames.now i c.frame-item.result inside item) (c.loop-frame.invariant.does_ clock files))
          (c.in_ok-answer_frame.ensures.does clock files);
    }

pub returns-clause-does : goal.returns-clause-does
returns-clause-does g c = λ clock files.
    let i = c.loop-frame.frame-index in
    let all : length c.args.frames.now ≤ i = search rules in
    completing_all g.K.Keeper.spent c.loop-frame.invariant.ready_
    (each_done (AnswerFrame c.args.workload.now) (drop i c.args.frames.now) (drop_at_end c.args.frames.now i all) (c.loop-frame.invariant.does_ clock files))
