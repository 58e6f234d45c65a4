use Rattle.std.proofs.Common.{◌+◌, arith}
use Rattle.network_world.proofs.Noting.{mailed_noted}
use Rattle.network_world.proofs.journals.Journal.note_mailed.Goals as goal

pub note_outs-requires : goal.note_outs-requires
note_outs-requires c =
    record { starts = c.requires.starts_; taken = c.requires.taken_; sent = c.requires.sent_ }

pub weight-requires : goal.weight-requires
weight-requires c = c.requires.size_

pub returns : goal.returns
returns c =
    mailed_noted c.args.w c.args.outs.now c.args.made.now c.args.self.now c.note_outs.new.self
    (c.note_outs.new.self.kept + c.weight.result) c.note_outs.ensures
    (omega (arith, c.weight.ensures, c.note_outs.ensures.kept_))
