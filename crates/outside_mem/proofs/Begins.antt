-- Calls that are kept are the calls that were made.
use Rattle.std.proofs.Common.{◌≡◌, ℕ, List, [], ◌∷◌, ◌++◌, map, refl, ◌∙◌, ap}
use Rattle.std.proofs.lemmas.List.{map_push}
use Rattle.base_types.specs.declared.Peer.{Peer}
use Rattle.outside_mem.specs.declared.begun.BegunBy.{BegunBy}
use Rattle.outside_mem.specs.declared.begun.PeerAt.{PeerAt}
use Rattle.outside_mem.specs.Begun.{kept_peer, peer_of, begin_of}

peers_back : (peers : List Peer) → map peer_of (map kept_peer peers) ≡ peers
peers_back [] = refl
peers_back (peer ∷ peers) = ap (λ (l : List Peer). peer ∷ l) (peers_back peers)

pub begun_more : (calls : List (BegunBy × List (PeerAt × List ℕ))) (call : BegunBy) (peers : List Peer)
    → map begin_of (calls ++ (call, map kept_peer peers) ∷ []) ≡ map begin_of calls ++ record { me = call.me; hop = call.hop; peers = peers; ok = call.ok } ∷ []
begun_more calls call peers =
    map_push begin_of calls (call, map kept_peer peers)
    ∙ ap (λ (l : List Peer). map begin_of calls ++ record { me = call.me; hop = call.hop; peers = l; ok = call.ok } ∷ []) (peers_back peers)
