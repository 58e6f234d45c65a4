use Rattle.std.proofs.Common.{◌∙◌, ◌≡◌, Some, ap, arith, slice_get, sym}
use Rattle.std.proofs.lemmas.Option.{slice_get-get_or}
use Rattle.event_audit.proofs.Parts.{all_found, one_found, one_passed}
use Rattle.event_audit.proofs.carried_streams.is_part_of.Goals as goal
use Rattle.event_audit.proofs.carried_streams.is_part_of.Goals.{else-stands_at, then-stands_at}

pub loop-number-preserved : goal.loop-number-preserved
loop-number-preserved c =
    let here : slice_get c.args.whole.now c.loop-number.number-index ≡ Some c.number-item.result =
    slice_get-get_or c.args.whole.now c.loop-number.number-index c.number-item.result c.loop-number-test.true
    ∙ ap Some (sym c.number-item.is) in
    elim c.if-stands_at.branch [
      | then-stands_at w ↦ one_found c.args.part.now c.args.whole.now c.loop-number.found c.loop-number.number-index
          c.number-item.result c.if-stands_at.found here (c.stands_at.ensures.0 w.if-stands_at.true) w.found-is
          c.loop-number.invariant
      | else-stands_at w ↦ one_passed c.args.part.now c.args.whole.now c.loop-number.found c.loop-number.number-index
          c.number-item.result c.if-stands_at.found here (λ e. let told = c.stands_at.ensures.1 e in let not_ = w.if-stands_at.false in cc) w.found-is
          c.loop-number.invariant
    ]

pub returns : goal.returns
returns c =
    all_found c.args.part.now c.args.whole.now c.loop-number.found c.loop-number.number-index
    (let end_ = c.loop-number-test.false in omega (arith, end_)) c.loop-number.invariant
