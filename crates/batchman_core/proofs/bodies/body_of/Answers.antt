use Rattle.std.proofs.Common.{◌+◌}
use Rattle.model.specs.Types as types
use Rattle.model.specs.Types.{Events, Job, Stream}
use Rattle.model.specs.History.{view_of}
use Rattle.model.specs.Facts.{launches}
use Rattle.model.specs.Turn.{body_of, end_witnesses, seen_for, witnesses}
use Rattle.batchman_core.proofs.bodies.body_of.Goals as goal

pub returns-in-Release : goal.returns-in-Release
unfolding body_of
returns-in-Release c =
    let V = view_of c.args.o.now in
    rw c.in-Release.is
    (c.kept.ensures (types.Released c.in-Release.s (seen_for V (witnesses V c.args.me (Stream c.in-Release.s))))
    c.released.ensures)

pub returns-in-End : goal.returns-in-End
unfolding body_of
returns-in-End c =
    let V = view_of c.args.o.now in
    rw c.in-End.is
    (c.kept-in-End.ensures (types.StreamEnded c.in-End.s (seen_for V (end_witnesses V c.args.me c.in-End.s)))
    c.ended.ensures)

pub returns-in-Launch : goal.returns-in-Launch
unfolding body_of
returns-in-Launch c =
    let V = view_of c.args.o.now in
    rw c.in-Launch.is
    (c.kept-in-Launch.ensures
    (types.Launched c.in-Launch.j (1 + launches c.in-Launch.j (V (Events c.args.me)))
    (seen_for V (witnesses V c.args.me (Job c.in-Launch.j))))
    c.launched.ensures)
