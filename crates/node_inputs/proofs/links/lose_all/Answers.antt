use Rattle.std.proofs.Common.{◌+◌, ◌-◌, ◌<◌, ◌≡◌, ◌≤◌, Err, Some, ap, rules}
use Rattle.model.specs.Words.{numbers_from}
use Rattle.node_inputs.specs.Actions.{Each}
use Rattle.node_inputs.specs.Doings.{end_of}
use Rattle.node_inputs.specs.Inputs.{LoseIf}
use Rattle.node_inputs.proofs.Looping.{completing_all, completing_end, completing_one, each_done, each_more, numbers_done, numbers_more}
use Rattle.node_inputs.proofs.Taking.{did_answer}
use Rattle.node_inputs.proofs.links.lose_all.Goals as goal

pub returns-in_err-lose_if-clause-does : goal.returns-in_err-lose_if-clause-does
returns-in_err-lose_if-clause-does g c = λ all jobs clock files told.
    let n = c.count-count.result in
    let x = c.loop-x.x in
    let inside : x < n = search rules in
    let is : c.from_residual.result ≡ Err c.in_err-lose_if.field-0.0 = search rules in
    did_answer c.from_residual.result (Some c.in_err-lose_if.field-0.0) (ap end_of is)
    (completing_end (Each (LoseIf all) (numbers_from (x + 1) (n - (x + 1))))
    (each_more (LoseIf all) (numbers_from x (n - x)) (numbers_from (x + 1) (n - (x + 1))) x (numbers_more x n inside) (c.loop-x.invariant.does_ all jobs clock files told))
    (c.in_err-lose_if.ensures.does all jobs clock files told))

pub loop-x-preserved : goal.loop-x-preserved
loop-x-preserved g c =
    let n = c.count-count.result in
    let x = c.loop-x.x in
    let inside : x < n = search rules in
    record {
      ready_ = c.in_ok-lose_if.ensures.ready;
      keepable_ = c.in_ok-lose_if.ensures.keepable;
      does_ = λ all jobs clock files told.
          completing_one
          (each_more (LoseIf all) (numbers_from x (n - x)) (numbers_from (x + 1) (n - (x + 1))) x (numbers_more x n inside) (c.loop-x.invariant.does_ all jobs clock files told))
          (c.in_ok-lose_if.ensures.does all jobs clock files told);
    }

pub returns-clause-does : goal.returns-clause-does
returns-clause-does g c = λ all jobs clock files told.
    let n = c.count-count.result in
    let x = c.loop-x.x in
    let done : n ≤ x = search rules in
    completing_all g.K.Keeper.spent c.loop-x.invariant.ready_
    (each_done (LoseIf all) (numbers_from x (n - x)) (numbers_done x n done) (c.loop-x.invariant.does_ all jobs clock files told))
