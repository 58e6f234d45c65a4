use Rattle.std.proofs.Common.{ℕ, ◌-◌, List, Option}
use Rattle.model.specs.Words.{numbers_from}
use Rattle.file_watch.specs.Asked.{Probe}
use Rattle.outside.specs.Calls.{SpawnerCalls}
use Rattle.node_inputs.specs.Keeping.{IsReady}
use Rattle.node_inputs.specs.Actions.{Each}
use Rattle.node_inputs.specs.Inputs.{LoseAll, LoseIf}
use Rattle.node_inputs.specs.Stepping.{AreKeepable, TellLost}
use Rattle.node_inputs.specs.Tellings.{told_by}
use Rattle.node_inputs.proofs.Doing.{Completing}
use Rattle.node_inputs.proofs.links.lose_all.Given as goal

pub record Kept (ready keepable does : Type 0) : Type 0 where
  pub ready_ : ready
  pub keepable_ : keepable
  pub does_ : does

abbrev pub invariant-loop-x : goal.invariant-loop-x
invariant-loop-x g l =
    Kept (IsReady g.K.Keeper.kept g.K.Keeper.spent g.K.Keeper.may_leave l.keeper) (AreKeepable l.agent.kept)
    ((all : List ℕ) (jobs : SpawnerCalls) (clock : Option (List ℕ)) (files : Option (List Probe)) → TellLost l.lost all
    → Completing g.K.Keeper.kept g.K.Keeper.size g.K.Keeper.faults g.K.Keeper.moment g.K.Keeper.may_leave g.K.Keeper.left_since g.K.Keeper.opens_since
    (Each (LoseIf all) (numbers_from l.x (l.count - l.x))) (LoseAll all) l.agent l.fn.agent l.keeper l.fn.keeper
    (told_by (g.L.Link.calls l.link) jobs clock files) (told_by (g.L.Link.calls l.fn.link) jobs clock files))
