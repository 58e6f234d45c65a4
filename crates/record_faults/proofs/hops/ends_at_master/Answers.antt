use Rattle.std.proofs.Common.{◌+◌, ◌-◌, ◌≡◌, ◌∙◌, Some, arith, length, slice_get}
use Rattle.record_faults.proofs.Chains.{chain_on, hop_next, stands_there}
use Rattle.record_faults.proofs.hops.ends_at_master.Goals as goal

pub loop-place-preserved : goal.loop-place-preserved
loop-place-preserved c =
    let all = c.args.all.now in
    let hops = c.args.hops.now in
    let at_ = c.loop-place.at in
    let n = length all in
    let here : slice_get all at_ ≡ Some c.in-Some.s.now =
    stands_there all at_ c.in-Some.s.now c.in-Some.ensures.lookup.0 c.in-Some.ensures.lookup.1 in
    let on : slice_get hops at_ ≡ Some c.in-Some-get.next.now =
    stands_there hops at_ c.in-Some-get.next.now c.in-Some-get.ensures.lookup.0 c.in-Some-get.ensures.lookup.1 in
    c.loop-place.invariant
    ∙ chain_on all (n - c.loop-place._place) (n - (c.loop-place._place + 1)) (slice_get all at_)
    (slice_get all c.in-Some-get.next.now) c.in-Some.s.now c.is_top.result (omega arith) here c.is_top.ensures
    c.if-is_top.false
    (hop_next all hops at_ c.in-Some.s.now c.in-Some-get.next.now c.requires here on)
