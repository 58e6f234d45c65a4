use Rattle.std.proofs.Common.{ap, arith, drop, length}
use Rattle.node_replies.proofs.Rests.{length-matches_of_rests, none_passed, none_passed_next, one_passed, one_passed_next}
use Rattle.node_replies.proofs.patterns.add_first.Goals as goal

pub bounds-answers-end : goal.bounds-answers-end
bounds-answers-end c =
    omega (arith, ap length c.requires.behind, length-matches_of_rests (drop 1 c.args.pattern.now) c.args.text.now)

pub bounds-answers-end-2 : goal.bounds-answers-end-2
bounds-answers-end-2 c =
    omega (arith, ap length c.requires.behind, length-matches_of_rests (drop 1 c.args.pattern.now) c.args.text.now)

pub loop-passed-init : goal.loop-passed-init
loop-passed-init c = record {
  answers = none_passed c.args.pattern.now c.args.text.now c.args.answers.now _ c.requires.some c.requires.behind c.answer_at_end.ensures;
  next = none_passed_next (drop 1 c.args.pattern.now) c.args.text.now c.args.answers.now c.requires.behind;
}

pub loop-passed-preserved : goal.loop-passed-preserved
loop-passed-preserved c = record {
  answers =
      one_passed c.args.pattern.now c.args.text.now c.loop-passed.answers c.loop-passed.passed c.loop-passed.next _
      c.requires.some c.loop-passed-test.true c.loop-passed.invariant.answers c.loop-passed.invariant.next
      c.answer.ensures;
  next =
      one_passed_next (drop 1 c.args.pattern.now) c.args.pattern.now c.args.text.now c.loop-passed.answers c.loop-passed.passed
      c.loop-passed-test.true c.loop-passed.invariant.answers;
}
