use Rattle.std.proofs.Common.{◌<◌}
use Rattle.std.specs.Prelude.{◌++◌}
use Rattle.model.specs.Words.{below}
use Rattle.model.specs.Network.{node_count}
use Rattle.agent_core.specs.Nodes.{present_in}
use Rattle.agent_core.specs.Sending.{sends_among}
use Rattle.agent_core.proofs.Turning.{all_done, room_left, room_next, sends_end, sends_next, still_inside}
use Rattle.agent_core.proofs.agents.Agent.put_sends.Goals as goal

pub put_sends_to-requires : goal.put_sends_to-requires
put_sends_to-requires c =
    let n = c.args.self.now in
    let inside : c.loop-m.m < node_count (present_in n) =
    still_inside n c.loop-m.m c.count-m-end.result c.net.result.now c.loop-m-test.true c.count-m-end.ensures.value
    c.net.ensures.value in
    record { inside = inside; room = room_left n c.loop-m.m c.loop-m.outs.spare inside c.loop-m.invariant.room }

pub loop-m-preserved : goal.loop-m-preserved
loop-m-preserved c =
    let n = c.args.self.now in
    let inside : c.loop-m.m < node_count (present_in n) =
    still_inside n c.loop-m.m c.count-m-end.result c.net.result.now c.loop-m-test.true c.count-m-end.ensures.value
    c.net.ensures.value in
    record {
      told =
          sends_next n c.loop-m.m c.loop-m.outs.items c.put_sends_to.new.outs.items
          (c.args.outs.now.items ++ sends_among n (below (node_count (present_in n)))) inside
          c.put_sends_to.ensures.items c.loop-m.invariant.told;
      room =
          room_next n c.loop-m.m c.loop-m.outs.spare c.put_sends_to.new.outs.spare c.loop-m.invariant.room
          c.put_sends_to.ensures.room;
    }

pub returns : goal.returns
returns c =
    let n = c.args.self.now in
    sends_end n c.loop-m.m c.loop-m.outs.items
    (c.args.outs.now.items ++ sends_among n (below (node_count (present_in n))))
    (all_done n c.loop-m.m c.count-m-end.result c.net.result.now c.loop-m-test.false c.count-m-end.ensures.value
    c.net.ensures.value) c.loop-m.invariant.told
