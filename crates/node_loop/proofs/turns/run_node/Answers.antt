use Rattle.std.proofs.Common.{◌+◌, ◌-◌, ◌<◌, ◌≤◌, Some, refl, rules}
use Rattle.node_inputs.specs.Tellings.{told_by}
use Rattle.node_inputs.proofs.Doing.{did_outside, out_stop}
use Rattle.node_inputs.proofs.Looping.{completing_end, completing_one}
use Rattle.node_inputs.specs.declared.ends.NodeEnd.TheVariants.{TurnsSpent}
use Rattle.node_loop.specs.Heard.{nothing_heard}
use Rattle.node_loop.specs.Runs.{Run, running_with}
use Rattle.node_loop.proofs.Turning.{one_turn, turns_begin, turns_done, turns_more, turns_over}
use Rattle.node_loop.proofs.turns.run_node.Goals as goal

pub loop-turn-init : goal.loop-turn-init
loop-turn-init g c = record {
  ready_ = c.requires.ready;
  keepable_ = c.requires.keepable;
  does_ = (λ x. nothing_heard, c.new-streams.ensures, turns_begin c.args.workload.now c.args.turns);
}

pub returns-in-Err : goal.returns-in-Err
returns-in-Err g c =
    let n = c.args.turns in
    let i = c.loop-turn._turn in
    let inside : i < n = search rules in
    let so_far = c.loop-turn.invariant.does_ in
    let d = c.in-Err.ensures.does so_far.0 so_far.1 in
    record {
      run = (
        running_with c.turn.new.agent d.0 c.turn.new.asked,
        refl,
        completing_end (Run c.args.workload.now (n - (i + 1)))
            (turns_more c.args.workload.now (n - i) (n - (i + 1)) (one_turn c.args.workload.now n i inside) so_far.2) d.2,
      );
    }

pub loop-turn-preserved : goal.loop-turn-preserved
loop-turn-preserved g c =
    let n = c.args.turns in
    let i = c.loop-turn._turn in
    let inside : i < n = search rules in
    let so_far = c.loop-turn.invariant.does_ in
    let d = c.in-Ok.ensures.does so_far.0 so_far.1 in
    record {
      ready_ = c.in-Ok.ensures.ready;
      keepable_ = c.in-Ok.ensures.keepable;
      does_ = (
        d.0,
        d.1,
        completing_one (turns_more c.args.workload.now (n - i) (n - (i + 1)) (one_turn c.args.workload.now n i inside) so_far.2) d.2,
      );
    }

pub returns : goal.returns
returns g c =
    let n = c.args.turns in
    let i = c.loop-turn._turn in
    let all : n ≤ i = search rules in
    let so_far = c.loop-turn.invariant.does_ in
    let here = running_with c.loop-turn.agent so_far.0 c.loop-turn.asked in
    let told = told_by (g.L.Link.calls c.loop-turn.link) (g.J.Spawner.calls c.loop-turn.jobs) (g.C.Clock.readings c.loop-turn.clock) (g.F.Prober.asked c.loop-turn.files) in
    record {
      run = (
        here,
        refl,
        turns_done c.args.workload.now (n - i) (turns_over n i all) so_far.2 here c.loop-turn.keeper told (Some TurnsSpent)
            (did_outside g.K.Keeper.spent c.loop-turn.keeper c.loop-turn.invariant.ready_ (out_stop TurnsSpent here told)),
      );
    }
