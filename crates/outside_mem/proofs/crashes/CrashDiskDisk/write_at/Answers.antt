use Rattle.std.proofs.Common.{◌/◌, List, length, reverse, sym, subst}
use Rattle.outside.specs.Files.{Torn}
use Rattle.outside.proofs.Remaining.{any_front}
use Rattle.outside_mem.specs.Moments.{Call, CrashState, seen_of}
use Rattle.outside_mem.proofs.crashes.CrashDiskDisk.write_at.Goals as goal

pub returns-then-next_is_listed-clause-failed : goal.returns-then-next_is_listed-clause-failed
returns-then-next_is_listed-clause-failed c =
    let s = c.self.inside in
    let piece = c.args.piece.now in
    let before = seen_of s.first (reverse s.made.rows) in
    let torn : Torn c.args.at (length piece) before (seen_of s.first (reverse c.note.new.rows.rows)) =
    subst (λ (l : List Call). Torn c.args.at (length piece) before (seen_of s.first l)) (sym c.note.ensures.made) (any_front c.args.at (length piece / 2) piece before) in
    subst (λ (m : CrashState). Torn c.args.at (length piece) (seen_of m.first m.made) (seen_of s.first (reverse c.note.new.rows.rows))) c.self.view_is torn
