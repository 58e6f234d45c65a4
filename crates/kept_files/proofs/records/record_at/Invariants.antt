use Rattle.std.proofs.Common.{◌+◌, ◌-◌, ◌≤◌}
use Rattle.outside.specs.Records.{longest_body}
use Rattle.kept_files.specs.Looking.{OnlyLooks}
use Rattle.kept_files.proofs.records.record_at.Given as goal

abbrev pub invariant-loop-window : goal.invariant-loop-window
invariant-loop-window g l =
    record {
      some : 5 ≤ l.size;
      most : l.size ≤ 5 + longest_body;
      looks : OnlyLooks g.F.Folder.seen g.F.Folder.becomes g.F.Folder.faults l.fn.folder l.folder;
    }

abbrev pub decreases-loop-window : goal.decreases-loop-window
decreases-loop-window g l = 5 + longest_body - l.size
