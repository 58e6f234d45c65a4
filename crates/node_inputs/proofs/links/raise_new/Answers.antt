use Rattle.std.proofs.Common.{◌+◌, ◌-◌, ◌<◌, ◌≤◌, rules}
use Rattle.model.specs.Network.{node_count}
use Rattle.model.specs.Words.{numbers_from}
use Rattle.node_inputs.specs.Inputs.{RaiseNew}
use Rattle.node_inputs.proofs.Looping.{each_out_done, each_out_more, numbers_done, numbers_more, outside_all, outside_one}
use Rattle.node_inputs.proofs.links.raise_new.Goals as goal

pub loop-x-preserved : goal.loop-x-preserved
loop-x-preserved g c = λ old jobs clock files told same.
    let n = node_count c.args.agent.now.net in
    let x = c.loop-x.x in
    let inside : x < n = search rules in
    outside_one
    (each_out_more (RaiseNew old c.args.agent.now) (numbers_from x (n - x)) (numbers_from (x + 1) (n - (x + 1))) x (numbers_more x n inside)
    (c.loop-x.invariant old jobs clock files told same))
    (c.raise_if_new.ensures old jobs clock files told same)

pub returns : goal.returns
returns g c = λ old jobs clock files told same.
    let n = node_count c.args.agent.now.net in
    let x = c.loop-x.x in
    let all : n ≤ x = search rules in
    outside_all (each_out_done (RaiseNew old c.args.agent.now) (numbers_from x (n - x)) (numbers_done x n all) (c.loop-x.invariant old jobs clock files told same))
