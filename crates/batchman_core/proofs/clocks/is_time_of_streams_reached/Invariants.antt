use Rattle.std.proofs.Common.{◌≡◌, map}
use Rattle.std.specs.Prelude.{◌==◌}
use Rattle.model.specs.Types.{Stream, StreamDoc}
use Rattle.model.specs.History.{view_of}
use Rattle.model.specs.Catalogue.{is_member}
use Rattle.model.specs.OwnMembers.{own_streams}
use Rattle.owner_fold.specs.Times.{timed_streams_left}
use Rattle.batchman_core.specs.Reached.{is_any_reached_of}
use Rattle.batchman_core.proofs.Times.{objects_of}
use Rattle.batchman_core.proofs.clocks.is_time_of_streams_reached.Given as goal

abbrev pub invariant-loop-doc : goal.invariant-loop-doc
invariant-loop-doc l =
    let V = view_of l.o in
    is_any_reached_of V l.fn.now l.fn.t (map (λ (d : StreamDoc). Stream d.no) (own_streams V l.fn.w))
    ≡ is_any_reached_of V l.fn.now l.fn.t
    (objects_of (λ (d : StreamDoc). d.ws == l.fn.w) (λ (d : StreamDoc). is_member V d.no)
    (λ (d : StreamDoc). Stream d.no) (timed_streams_left l.doc-iterator))
