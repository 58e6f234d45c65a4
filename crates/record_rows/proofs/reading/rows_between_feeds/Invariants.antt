use Rattle.std.proofs.Common.{◌≡◌, ◌==◌, ◌++◌, length, map}
use Rattle.std.specs.List.{slice_split}
use Rattle.std.specs.Str.{IsUtf8}
use Rattle.record_rows.specs.Rows.{row_of}
use Rattle.record_rows.proofs.reading.rows_between_feeds.Given as goal

abbrev pub invariant-loop-line : goal.invariant-loop-line
invariant-loop-line l =
    record {
      is_text : IsUtf8 l.rest;
      left : map row_of (slice_split (λ b. b == 10) l.text) ≡ l.rows ++ map row_of (slice_split (λ b. b == 10) l.rest);
    }

abbrev pub decreases-loop-line : goal.decreases-loop-line
decreases-loop-line l = length l.rest
