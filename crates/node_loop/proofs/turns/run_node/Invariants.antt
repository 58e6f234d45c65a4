use Rattle.std.proofs.Common.{ℕ, ◌-◌}
use Rattle.node_inputs.specs.Keeping.{IsReady}
use Rattle.node_inputs.specs.Stepping.{AreKeepable}
use Rattle.node_inputs.specs.Tellings.{told_by}
use Rattle.node_inputs.proofs.Doing.{Completing}
use Rattle.node_loop.specs.Heard.{AreHeard, Heard}
use Rattle.node_loop.specs.Runs.{Run, running, running_with}
use Rattle.node_lines.proofs.Keeping.{Standing}
use Rattle.node_loop.proofs.turns.run_node.Given as goal

abbrev pub invariant-loop-turn : goal.invariant-loop-turn
invariant-loop-turn g l =
    Standing (IsReady g.K.Keeper.kept g.K.Keeper.spent g.K.Keeper.may_leave l.keeper) (AreKeepable l.agent.kept)
    ((heard : ℕ → Heard) × AreHeard l.streams heard
    × Completing g.K.Keeper.kept g.K.Keeper.size g.K.Keeper.faults g.K.Keeper.moment g.K.Keeper.may_leave g.K.Keeper.left_since g.K.Keeper.opens_since
    (Run l.workload (l.turns - l._turn)) (Run l.workload l.turns) (running_with l.agent heard l.asked) (running l.fn.agent) l.keeper l.fn.keeper
    (told_by (g.L.Link.calls l.link) (g.J.Spawner.calls l.jobs) (g.C.Clock.readings l.clock) (g.F.Prober.asked l.files))
    (told_by (g.L.Link.calls l.fn.link) (g.J.Spawner.calls l.fn.jobs) (g.C.Clock.readings l.fn.clock) (g.F.Prober.asked l.fn.files)))
