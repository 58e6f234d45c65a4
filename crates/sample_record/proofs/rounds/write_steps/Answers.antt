use Rattle.std.proofs.Common.{◌≡◌, ◌+◌, ◌-◌, ◌*◌, ◌∙◌, append_assoc, arith}
use Rattle.sample_record.specs.Rounds.{round_part, steps_part}
use Rattle.sample_record.proofs.Counting.{further, at_end}
use Rattle.sample_record.proofs.rounds.write_steps.Goals as goal

pub loop-round-preserved : goal.loop-round-preserved
loop-round-preserved c =
    further round_part _ _ _ _ _ c.loop-round-test.true c.loop-round.invariant c.in_ok-write_round.ensures

pub returns : goal.returns
unfolding steps_part
returns c =
    let e : 2 * c.args.jobs + 21 - 1 ≡ 2 * c.args.jobs + 20 = omega arith in
    at_end round_part _ _ _ _ c.loop-round-test.false c.loop-round.invariant
    ∙ rw (e, c.in_ok-write_links.ensures, c.in_ok-write.ensures.bytes) (simp append_assoc)
