use Rattle.std.proofs.Common.{◌≡◌}
use Rattle.std.specs.Prelude.{flat_map, map}
use Rattle.model.specs.Types.{Stream, StreamDoc}
use Rattle.model.specs.History.{view_of}
use Rattle.model.specs.OwnMembers.{own_streams}
use Rattle.owner_fold.specs.Files.{filed_streams_left}
use Rattle.file_watch.specs.Circle.{sooner_of, soonest}
use Rattle.file_watch.specs.Probes.{due_at}
use Rattle.file_watch.proofs.probes.soonest_of_streams.Given as goal

abbrev pub invariant-loop-doc : goal.invariant-loop-doc
invariant-loop-doc l =
    soonest l.last
    (flat_map (due_at (view_of l.o) l.fn.w) (map (λ (d : StreamDoc). Stream d.no) (own_streams (view_of l.o) l.fn.w)))
    ≡ sooner_of l.last l.so_far
    (soonest l.last (flat_map (λ (d : StreamDoc). due_at (view_of l.o) l.fn.w (Stream d.no)) (filed_streams_left l.doc-iterator)))
