use Rattle.std.proofs.Common.{◌≡◌, drop}
use Rattle.std.specs.Prelude.{fold}
use Rattle.model.specs.Types.{Events}
use Rattle.model.specs.History.{list_of, view_of}
use Rattle.model.specs.PresentNet as spec
use Rattle.model.specs.PresentNet.{switched}
use Rattle.manager_switch.specs.Switches.{switches_in}
use Rattle.manager_switch.proofs.presents.present_net.Given as goal

abbrev pub invariant-loop-entry : goal.invariant-loop-entry
invariant-loop-entry l =
    spec.present_net l.net (view_of l.kept)
    ≡ fold switched l.present (switches_in (list_of (drop l.entry-index l.kept) (Events 0)))
