use Rattle.std.proofs.Common.{◌≡◌, ◌+◌, take}
use Rattle.outside_mem.specs.Begun.{host_bytes}
use Rattle.outside_mem.proofs.begun.hosts_fit.Given as goal

abbrev pub invariant-loop-peer : goal.invariant-loop-peer
invariant-loop-peer l = l.left + host_bytes (take l.peer-index l.peers) ≡ l.room
