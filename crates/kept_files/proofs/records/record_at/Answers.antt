use Rattle.std.proofs.Common.{arith}
use Rattle.kept_files.proofs.Looked.{more_looks}
use Rattle.kept_files.proofs.records.record_at.Goals as goal

pub returns-in_err-window-clause-looks : goal.returns-in_err-window-clause-looks
returns-in_err-window-clause-looks g c =
    more_looks g.F.Folder.seen g.F.Folder.becomes g.F.Folder.faults c.args.folder.now c.loop-window.folder
    c.window_at.new.folder c.loop-window.invariant.looks c.window_at.ensures.looks

pub returns-in-Closed-clause-looks : goal.returns-in-Closed-clause-looks
returns-in-Closed-clause-looks g c =
    more_looks g.F.Folder.seen g.F.Folder.becomes g.F.Folder.faults c.args.folder.now c.loop-window.folder
    c.window_at.new.folder c.loop-window.invariant.looks c.window_at.ensures.looks

pub returns-in-Broken-clause-looks : goal.returns-in-Broken-clause-looks
returns-in-Broken-clause-looks g c =
    more_looks g.F.Folder.seen g.F.Folder.becomes g.F.Folder.faults c.args.folder.now c.loop-window.folder
    c.window_at.new.folder c.loop-window.invariant.looks c.window_at.ensures.looks

pub returns-in_err-body-in-Record-clause-looks : goal.returns-in_err-body-in-Record-clause-looks
returns-in_err-body-in-Record-clause-looks g c =
    more_looks g.F.Folder.seen g.F.Folder.becomes g.F.Folder.faults c.args.folder.now c.loop-window.folder
    c.window_at.new.folder c.loop-window.invariant.looks c.window_at.ensures.looks

pub returns-in-Record-clause-looks : goal.returns-in-Record-clause-looks
returns-in-Record-clause-looks g c =
    more_looks g.F.Folder.seen g.F.Folder.becomes g.F.Folder.faults c.args.folder.now c.loop-window.folder
    c.window_at.new.folder c.loop-window.invariant.looks c.window_at.ensures.looks

pub loop-window-smaller : goal.loop-window-smaller
loop-window-smaller g c = omega (arith, c.in-Longer.ensures.bounds)

pub loop-window-preserved : goal.loop-window-preserved
loop-window-preserved g c =
    record {
      some = omega (arith, c.loop-window.invariant.some, c.in-Longer.ensures.bounds);
      most = c.in-Longer.ensures.bounds.1;
      looks =
          more_looks g.F.Folder.seen g.F.Folder.becomes g.F.Folder.faults c.args.folder.now c.loop-window.folder
          c.window_at.new.folder c.loop-window.invariant.looks c.window_at.ensures.looks;
    }
