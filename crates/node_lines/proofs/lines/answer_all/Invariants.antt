use Rattle.std.proofs.Common.{ℕ, List, Option, drop}
use Rattle.file_watch.specs.Asked.{Probe}
use Rattle.node_inputs.specs.Keeping.{IsReady}
use Rattle.node_inputs.specs.Actions.{Each}
use Rattle.node_inputs.specs.Stepping.{AreKeepable}
use Rattle.node_inputs.specs.Tellings.{told_by}
use Rattle.node_inputs.proofs.Doing.{Completing}
use Rattle.node_lines.specs.Lines.{AnswerFrame}
use Rattle.node_lines.proofs.Keeping.{Standing}
use Rattle.node_lines.proofs.lines.answer_all.Given as goal

abbrev pub invariant-loop-frame : goal.invariant-loop-frame
invariant-loop-frame g l =
    Standing (IsReady g.K.Keeper.kept g.K.Keeper.spent g.K.Keeper.may_leave l.keeper) (AreKeepable l.agent.kept)
    ((clock : Option (List ℕ)) (files : Option (List Probe))
    → Completing g.K.Keeper.kept g.K.Keeper.size g.K.Keeper.faults g.K.Keeper.moment g.K.Keeper.may_leave g.K.Keeper.left_since g.K.Keeper.opens_since
    (Each (AnswerFrame l.workload) (drop l.frame-index l.frames)) (Each (AnswerFrame l.workload) l.frames) l.agent l.fn.agent l.keeper l.fn.keeper
    (told_by (g.L.Link.calls l.link) (g.J.Spawner.calls l.jobs) clock files) (told_by (g.L.Link.calls l.fn.link) (g.J.Spawner.calls l.fn.jobs) clock files))
