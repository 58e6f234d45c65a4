use Rattle.std.proofs.Common.{◌≡◌, ◌-◌, IfSome}
use Rattle.outside.specs.Records.{longest_file}
use Rattle.message_file.specs.Files.{HasRoom, place_behind}
use Rattle.kept_files.specs.Growth.{BeginsWith, OnlyKeepsMore}
use Rattle.kept_files.specs.Looking.{OnlyLooks}
use Rattle.kept_files.proofs.bodies.read_records.Given as goal

abbrev pub invariant-loop-bodies : goal.invariant-loop-bodies
invariant-loop-bodies g l =
    record {
      behind : l.place ≡ place_behind l.bodies;
      room : HasRoom l.bodies;
      begins : OnlyKeepsMore (g.F.Folder.becomes l.fn.folder) l.fn.owner l.name
          → IfSome (g.F.Folder.seen l.folder l.name) (λ file. BeginsWith l.fn.owner file l.bodies);
      looks : OnlyLooks g.F.Folder.seen g.F.Folder.becomes g.F.Folder.faults l.fn.folder l.folder;
    }

abbrev pub decreases-loop-bodies : goal.decreases-loop-bodies
decreases-loop-bodies g l = longest_file - l.place
