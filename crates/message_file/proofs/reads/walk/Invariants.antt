use Rattle.std.proofs.Common.{◌≡◌, ◌≤◌}
use Rattle.message_file.specs.Attaching.{OnlyReads}
use Rattle.message_file.specs.State.{StandsBehind}
use Rattle.message_file.proofs.reads.walk.Given as goal

abbrev pub invariant-loop-i : goal.invariant-loop-i
invariant-loop-i g l = record {
  at : StandsBehind (g.D.Disk.seen l.fn.disk) l.i l.place;
  low : 8 ≤ l.place;
  inside : l.place ≤ l.extent.gate;
  reads : OnlyReads g.D.Disk.seen g.D.Disk.may_leave g.D.Disk.moment g.D.Disk.left_since l.fn.disk l.disk;
  cause : g.D.Disk.faults l.disk ≡ g.D.Disk.faults l.fn.disk;
}
