use Rattle.std.proofs.Common.{◌-◌, ◌∙◌, Some, ap, arith, bytes_eq, cond, length, refl}
use Rattle.record_faults.specs.Hops.{place_in}
use Rattle.record_faults.proofs.Chains.{nowhere, place_more}
use Rattle.record_faults.proofs.hops.places.Goals as goal

pub loop-i-preserved : goal.loop-i-preserved
loop-i-preserved c =
    λ name.
    place_more c.args.all.now (c.loop-i.i - 1) c.loop-i.i c.index-all-i.result (place_in c.loop-i.places.entries name)
    (place_in c.put.new.places.entries name) name (omega arith) (omega arith) c.index-all-i.is
    (c.in_ok-put.ensures name
    ∙ ap (λ t. cond (bytes_eq name t) (Some (c.loop-i.i - 1)) (place_in c.loop-i.places.entries name)) c.name.ensures)
    (c.loop-i.invariant name)

pub loop-i-init : goal.loop-i-init
loop-i-init c =
    λ name. nowhere c.args.all.now (length c.args.all.now) c.new-places.result.entries name refl c.new-places.ensures.empty
