use Rattle.std.proofs.Common.{arith, sym, subst}
use Rattle.mail_frames.specs.Spelling.{IsSpelled}
use Rattle.mail_frames.proofs.Reached.{scan_open, scan_whole, scan_broken, at_front, front_short}
use Rattle.mail_frames.proofs.Feeding.{read_bad, read_left}
use Rattle.mail_frames.proofs.decoders.read_on.Goals as goal

pub keep-requires : goal.keep-requires
keep-requires c =
    let rest = c.frames.rest.now in
    front_short rest (at_front c.in-Open.place rest
    (scan_open rest c.scan-found.result.count c.scan-found.result.seen c.in-Open.place c.scan-found.ensures
    c.in-Open.is))

pub frame_of-requires : goal.frame_of-requires
frame_of-requires c =
    subst IsSpelled (sym c.split_at.ensures.front)
    (scan_whole c.frames.rest.now c.scan-found.result.count c.scan-found.result.seen c.scan-found.ensures c.in-Whole.is)

pub returns-in-Bad : goal.returns-in-Bad
returns-in-Bad c =
    let bytes = c.args.bytes.now in
    let rest = c.frames.rest.now in
    let left = read_left bytes rest c.args.frames.now c.frames.frames c.frames.invariant in
    read_bad bytes rest c.new.result.items c.args.frames.now c.frames.frames c.scan-found.result.count _
    c.frames.invariant c.new.ensures
    (scan_broken rest c.scan-found.result.count c.scan-found.result.seen c.scan-found.ensures c.in-Bad.is) (omega arith)
