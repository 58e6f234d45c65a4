-- How long the parts of a line may be that was read, and which days it may name.
use Rattle.std.specs.Prelude.{ℕ, ◌≤◌, IfSome, List, length}
use Rattle.calendars.specs.Dates.{IsDay}
use Rattle.conman_syntax.specs.declared.lines.StreamRef.{StreamRef}
use Rattle.conman_syntax.specs.declared.lines.JobRef.{JobRef}
use Rattle.conman_syntax.specs.declared.lines.ObjRef.{ObjRef}
use Rattle.conman_syntax.specs.declared.lines.ObjRef.TheVariants as object
use Rattle.conman_syntax.specs.declared.lines.DepRef.{DepRef}
use Rattle.conman_syntax.specs.declared.lines.DepRef.TheVariants as dep
use Rattle.conman_syntax.specs.declared.lines.Line.{Line}
use Rattle.conman_syntax.specs.declared.lines.Line.TheVariants as line

-- a name has at most 40 bytes
abbrev pub IsFitName : List ℕ → Type 0
IsFitName name = length name ≤ 40

-- a text that was quoted has at most 4,096 bytes
abbrev pub IsFitText : List ℕ → Type 0
IsFitText text = length text ≤ 4096

abbrev pub IsFitStream : StreamRef → Type 0
IsFitStream r = IfSome r.ws IsFitName × IsFitName r.name

abbrev pub IsFitJob : JobRef → Type 0
IsFitJob r = IsFitStream r.stream × IsFitName r.name

abbrev pub IsFitObj : ObjRef → Type 0
IsFitObj (object.Job r) = IsFitJob r
IsFitObj (object.Stream r) = IsFitStream r

abbrev pub IsFitDep : DepRef → Type 0
IsFitDep (dep.FollowsJob r) = IsFitJob r
IsFitDep (dep.FollowsStream r) = IsFitStream r
IsFitDep (dep.Needs n ws name) = IsFitName ws × IsFitName name
IsFitDep (dep.PromptName name) = IsFitName name
IsFitDep (dep.PromptText text) = IsFitText text
IsFitDep (dep.At t) = Unit {0}
IsFitDep (dep.Until t passed) = Unit {0}

-- A pattern is bounded by the line alone: it has at most so many bytes.
abbrev pub IsFitPattern : ℕ → List ℕ → Type 0
IsFitPattern most pattern = length pattern ≤ most

-- names, quoted texts and patterns of a line of at most so many bytes are no longer than that, and a day is one that
-- there is
abbrev pub IsFitLine : ℕ → Line → Type 0
IsFitLine most (line.AddDep o d) = IsFitObj o × IsFitDep d
IsFitLine most (line.DelDep o d) = IsFitObj o × IsFitDep d
IsFitLine most (line.Release o) = IsFitObj o
IsFitLine most (line.AltPri o p) = IsFitObj o
IsFitLine most (line.Cancel o) = IsFitObj o
IsFitLine most (line.Confirm r) = IsFitJob r
IsFitLine most (line.Kill r) = IsFitJob r
IsFitLine most (line.Rerun r) = IsFitJob r
IsFitLine most (line.Fence ws p) = IsFitName ws
IsFitLine most (line.CpuLimit ws n) = IsFitName ws
IsFitLine most (line.StreamLimit r n) = IsFitStream r
IsFitLine most (line.Resource ws name n) = IsFitName ws × IsFitName name
IsFitLine most (line.ReplyGlobal name yes_) = IsFitName name
IsFitLine most (line.ReplyOwn o i yes_) = IsFitObj o
IsFitLine most (line.Start ws) = IsFitName ws
IsFitLine most (line.Stop ws) = IsFitName ws
IsFitLine most (line.Submit ws text alias priority) = IsFitName ws × (IsFitText text × IfSome alias IsFitName)
IsFitLine most (line.SwitchMgr domain ws) = IsFitName domain × IsFitName ws
IsFitLine most (line.ShowJobs pattern) = IfSome pattern (IsFitPattern most)
IsFitLine most (line.ShowSchedules pattern) = IfSome pattern (IsFitPattern most)
IsFitLine most (line.ShowCpus pattern) = IfSome pattern (IsFitPattern most)
IsFitLine most (line.ShowPrompts pattern) = IfSome pattern (IsFitPattern most)
IsFitLine most (line.ShowResources pattern) = IfSome pattern (IsFitPattern most)
IsFitLine most (line.Link ws) = IsFitName ws
IsFitLine most (line.Unlink ws) = IsFitName ws
IsFitLine most line.Shutdown = Unit {0}
IsFitLine most (line.JNextPlan day) = IsDay day
