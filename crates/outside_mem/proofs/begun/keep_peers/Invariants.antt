use Rattle.std.proofs.Common.{◌≡◌, ◌+◌, ◌++◌, map, take}
use Rattle.outside_mem.specs.Begun.{host_bytes, kept_peer}
use Rattle.outside_mem.proofs.begun.keep_peers.Given as goal

abbrev pub invariant-loop-peer : goal.invariant-loop-peer
invariant-loop-peer l = (l.rows.rows ≡ l.fn.rows.rows ++ map kept_peer (take l.peer-index l.peers))
    × (l.rows.used ≡ l.fn.rows.used + host_bytes (take l.peer-index l.peers))
    × (l.rows.room ≡ l.fn.rows.room)
