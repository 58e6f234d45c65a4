use Rattle.std.proofs.Common.{◌≡◌, ℕ, List, None}
use Rattle.std.specs.Prelude.{nat_lt, if◌then◌else◌}
use Rattle.definition_names.specs.Streams.{entry_among}
use Rattle.definition_names.specs.Indexes.{entry_in}
use Rattle.definition_names.proofs.streams.entry_index.Given as goal

abbrev pub invariant-loop-n : goal.invariant-loop-n
invariant-loop-n l =
    (m : ℕ) (name : List ℕ) → entry_in l.index.entries m name
    ≡ (if nat_lt m l.n then entry_among l.schedules m name else None)
