-- The beginnings of a link that are kept, each with the addresses that it was given.
use Rattle.std.specs.Prelude.{◌+◌, ◌&&◌, nat_lt, nat_le, ℕ, Bool, true, false, List, [], ◌∷◌, ◌++◌, length, map}
use Rattle.std.specs.List.{sum_by}
use Rattle.base_types.specs.declared.Peer.{Peer}
use Rattle.outside.specs.Calls.{Begin}
use Rattle.outside_mem.specs.declared.begun.BegunBy.{BegunBy}
use Rattle.outside_mem.specs.declared.begun.PeerAt.{PeerAt}

-- the calls with their addresses, each with its host; how many addresses and how many bytes of hosts they have together;
-- for how many of each there is room; and whether all that came were kept
pub record BegunLog : Type 0 where
  pub calls : List (BegunBy × List (PeerAt × List ℕ))
  pub peers : ℕ
  pub used : ℕ
  pub room : ℕ
  pub whole : Bool

abbrev pub no_begun : ℕ → BegunLog
no_begun room = record { calls = []; peers = 0; used = 0; room = room; whole = true }

-- an address as it is kept
abbrev pub kept_peer : Peer → PeerAt × List ℕ
kept_peer peer = (record { ws = peer.ws; port = peer.port }, peer.host)

abbrev pub peer_of : PeerAt × List ℕ → Peer
peer_of row = record { ws = row.0.ws; host = row.1; port = row.0.port }

-- a call that is kept, as a call
abbrev pub begin_of : BegunBy × List (PeerAt × List ℕ) → Begin
begin_of row = record { me = row.0.me; hop = row.0.hop; peers = map peer_of row.1; ok = row.0.ok }

-- how many bytes their hosts have
abbrev pub host_bytes : List Peer → ℕ
host_bytes peers = sum_by (λ (peer : Peer). length peer.host) peers

-- whether there is room for one call more with these addresses
abbrev pub peers_fit : List Peer → BegunLog → Bool
peers_fit peers log = nat_lt (length log.calls) log.room && nat_le (log.peers + length peers) log.room && nat_le (log.used + host_bytes peers) log.room

abbrev pub with_begun : BegunBy → List Peer → BegunLog → BegunLog
with_begun call peers log = record {
  calls = log.calls ++ (call, map kept_peer peers) ∷ [];
  peers = log.peers + length peers;
  used = log.used + host_bytes peers;
  room = log.room;
  whole = log.whole;
}

-- one came for which there is no room
abbrev pub without_begun : BegunLog → BegunLog
without_begun log = record { calls = log.calls; peers = log.peers; used = log.used; room = log.room; whole = false }
