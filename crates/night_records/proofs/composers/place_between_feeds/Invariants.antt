use Rattle.std.proofs.Common.{◌≡◌, drop, eqb, length}
use Rattle.std.specs.List.{slice_split}
use Rattle.night_records.specs.Composers.{definitions_from}
use Rattle.night_records.proofs.composers.place_between_feeds.Given as goal

abbrev pub invariant-loop-line : goal.invariant-loop-line
invariant-loop-line l =
    record {
      count : l.place ≡ length l.yielded;
      left :
          definitions_from 0 (slice_split (λ b. eqb b 10) l.text)
          ≡ definitions_from l.place (drop l.place (slice_split (λ b. eqb b 10) l.text));
    }
