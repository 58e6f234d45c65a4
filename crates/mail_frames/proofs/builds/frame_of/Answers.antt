use Rattle.std.proofs.Common.{◌++◌, arith, length-append}
use Rattle.mail_frames.proofs.Built.{spelled_long}
use Rattle.mail_frames.proofs.builds.frame_of.Goals as goal

pub kind_of-kind-requires : goal.kind_of-kind-requires
kind_of-kind-requires c =
    let both = c.args.front.now ++ c.args.back.now in
    omega (arith, spelled_long both c.requires, length-append c.args.front.now c.args.back.now)
