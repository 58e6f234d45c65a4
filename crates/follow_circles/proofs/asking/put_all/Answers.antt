use Rattle.follow_circles.proofs.Marking.{one_more}
use Rattle.follow_circles.proofs.asking.put_all.Goals as goal

pub loop-place-preserved : goal.loop-place-preserved
loop-place-preserved c =
    one_more c.args.reached.now c.loop-place.reached c.put.new.reached c.args.places.now c.loop-place.place-index 0
    c.loop-place-test.true c.loop-place.invariant c.in_ok-put.ensures
