use Rattle.std.proofs.Common.{◌≡◌, ◌++◌, ◌-◌, flat_map}
use Rattle.std.specs.List.{range_with_len}
use Rattle.sample_record.specs.Rounds.{round_part}
use Rattle.sample_record.proofs.rounds.write_steps.Given as goal

abbrev pub invariant-loop-round : goal.invariant-loop-round
invariant-loop-round l =
    l.initial.out.items ++ flat_map round_part (range_with_len 1 (l.round-end - 1))
    ≡ l.out.items ++ flat_map round_part (range_with_len l.round (l.round-end - l.round))
