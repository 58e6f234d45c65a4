use Rattle.std.proofs.Common.{◌++◌, ◌∷◌}
use Rattle.model.specs.Fields.{u32_bytes}
use Rattle.model.specs.Spelling.{seen_bytes}
use Rattle.entry_codec.proofs.Puts.{behind_a_front}
use Rattle.entry_codec.proofs.writing.bodies.put_launched.Goals as goal

pub returns-clause-added : goal.returns-clause-added
returns-clause-added c =
    behind_a_front c.put_seen.result c.args.out.now (7 ∷ u32_bytes c.args.job.now ++ u32_bytes c.args.number)
    (seen_bytes c.args.seen.now) c.put_launch.new.out c.put_seen.new.out c.in_ok-put_launch.ensures.added
    c.put_seen.ensures.added
