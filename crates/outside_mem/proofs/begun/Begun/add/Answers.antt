use Rattle.std.proofs.Common.{◌≡◌, ◌+◌, length, map, subst, arith, rules}
use Rattle.std.proofs.lemmas.List.{length-map}
use Rattle.outside_mem.specs.Rooms.{cut}
use Rattle.outside_mem.specs.Begun.{BegunLog, with_begun, kept_peer}
use Rattle.outside_mem.proofs.Cuts.{cut_size, are_added, begun_stored}
use Rattle.outside_mem.proofs.begun.Begun.add.Goals as goal

pub invariant_of-self : goal.invariant_of-self
invariant_of-self c =
    let s = c.self.inside in
    let calls = c.push_reserved.new.self.items in
    let peers = c.keep_peers.new.rows.rows in
    let kept = map kept_peer c.args.peers.now in
    let here : c.len.result + length c.args.peers.now ≡ length s.peers.rows + length kept = grind (arith, c.len.ensures.count, length-map c.args.peers.now kept_peer) in
    (are_added s.calls.items calls s.peers.rows peers kept c.args.call _ c.self.invariant.0 here c.push_reserved.ensures.items c.keep_peers.ensures.rows, cut_size 0 calls peers, search rules, search rules, search rules)

pub returns : goal.returns
returns c =
    let s = c.self.inside in
    let calls = c.push_reserved.new.self.items in
    let peers = c.keep_peers.new.rows in
    let kept = map kept_peer c.args.peers.now in
    let here : c.len.result + length c.args.peers.now ≡ length s.peers.rows + length kept = grind (arith, c.len.ensures.count, length-map c.args.peers.now kept_peer) in
    subst (λ (m : BegunLog). record { calls = cut 0 calls peers.rows; peers = length peers.rows; used = peers.used; room = s.room; whole = s.whole } ≡ with_begun c.args.call c.args.peers.now m) c.self.view_is
    (begun_stored s.calls.items calls s.peers.rows peers.rows c.args.peers.now c.args.call _ c.self.invariant.0 here c.push_reserved.ensures.items c.keep_peers.ensures.rows s.peers.used peers.used c.keep_peers.ensures.used s.room s.whole)
