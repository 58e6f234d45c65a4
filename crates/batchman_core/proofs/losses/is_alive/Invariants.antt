use Rattle.std.proofs.Common.{◌≡◌, drop}
use Rattle.model.specs.Turn.{is_alive}
use Rattle.batchman_core.proofs.losses.is_alive.Given as goal

abbrev pub invariant-loop-launch : goal.invariant-loop-launch
invariant-loop-launch l =
    is_alive l.live l.fn.j l.fn.number ≡ is_alive (drop l.launch-index l.launch-items) l.fn.j l.fn.number
