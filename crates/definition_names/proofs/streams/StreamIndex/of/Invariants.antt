use Rattle.std.proofs.Common.{◌≡◌, ℕ, List, Option, drop}
use Rattle.std.specs.List.{position_from}
use Rattle.std.specs.Option.{option_copied}
use Rattle.definition_names.specs.Streams.{is_stream}
use Rattle.definition_names.specs.Indexes.{stream_in}
use Rattle.definition_names.proofs.streams.StreamIndex.of.Given as goal

abbrev pub invariant-loop-i : goal.invariant-loop-i
invariant-loop-i l =
    (ws : Option (List ℕ)) (name : List ℕ) → stream_in l.index ws name
    ≡ position_from (is_stream (option_copied l.master) ws name) l.i (drop l.i l.schedules)
