use Rattle.std.proofs.Common.{refl, sym, ◌∙◌, ◌<◌, length, arith, false}
use Rattle.std.proofs.lemmas.Option.{get_or_from_slice_get, slice_get_read}
use Rattle.follow_circles.proofs.Marking.{put_one, put_none}
use Rattle.follow_circles.proofs.asking.put.Goals as goal

pub returns : goal.returns
returns c =
    let low : c.args.place < length c.args.reached.now.marks.items = omega (arith, c.if-place-len.false, c.len.ensures) in
    put_one c.args.reached.now _ c.args.place low
    (get_or_from_slice_get c.args.reached.now.marks.items c.args.place c.index.result.now false
    (slice_get_read c.args.reached.now.marks.items (length c.args.reached.now.marks.items) c.args.place
    c.index.result.now refl low c.index.ensures)
    ∙ c.if-index.false)
    refl c.in_ok-push.ensures.items
