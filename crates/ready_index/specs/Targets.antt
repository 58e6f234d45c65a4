-- What a waiting job can watch.
use Rattle.std.specs.Prelude.{None, Option, Some}
use Rattle.model.specs.Types.{At, Deadline, Dep, FollowsJob, FollowsStream, Needs, Outside, Prompt, Until}
use Rattle.ready_index.specs.declared.targets.Target.{Target}
use Rattle.ready_index.specs.declared.targets.Target.TheVariants.{EndOfJob, EndOfStream}

-- what a FOLLOWS waits for
abbrev pub followed : Dep → Option Target
followed (FollowsJob j) = Some (EndOfJob j)
followed (FollowsStream s) = Some (EndOfStream s)
followed (Needs r n) = None
followed (Prompt p) = None
followed (At t) = None
followed (Until t then_) = None
followed (Outside path) = None
followed (Deadline t) = None
