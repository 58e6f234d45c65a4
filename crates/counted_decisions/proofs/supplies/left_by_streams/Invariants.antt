use Rattle.std.proofs.Common.{◌≡◌, cond}
use Rattle.std.specs.List.{list_any}
use Rattle.std.specs.Prelude.{sum_by}
use Rattle.model.specs.Types.{Events, Stream, StreamDoc}
use Rattle.model.specs.History.{view_of}
use Rattle.model.specs.Dependencies.{units}
use Rattle.owner_fold.specs.Stages.{begun_left}
use Rattle.counted_facts.specs.Subjects.{brings}
use Rattle.counted_decisions.specs.Sights.{seen_in}
use Rattle.counted_decisions.specs.Units.{holding_streams, left_of}
use Rattle.counted_decisions.proofs.supplies.left_by_streams.Given as goal

abbrev pub invariant-loop-doc : goal.invariant-loop-doc
invariant-loop-doc l =
    left_of l.fn.free
    (sum_by (λ (p : StreamDoc). units (seen_in l.sight) l.fn.r (Stream p.no)) (holding_streams (seen_in l.sight) l.fn.w))
    ≡ left_of l.left
    (sum_by
    (λ (p : StreamDoc).
    cond (list_any (brings p.no) (seen_in l.sight (Events 0)))
    (units (view_of l.sight.owners.now) l.fn.r (Stream p.no)) 0)
    (begun_left l.doc-iterator))
