use Rattle.std.proofs.Common.{◌≡◌, ◌+◌, ◌*◌, ◌≤◌, length}
use Rattle.model.specs.History.{view_of}
use Rattle.model.specs.Dependencies.{used}
use Rattle.owner_fold.specs.Holders.{open_left, streams_under_way}
use Rattle.owner_fold.specs.Stages.{begun_left}
use Rattle.owner_fold.proofs.Holders.{job_units, stream_units}
use Rattle.owner_fold.proofs.holdings.Owners.used.Given as goal

abbrev pub invariant-loop-doc : goal.invariant-loop-doc
invariant-loop-doc l =
    record {
      sum : used (view_of l.self) l.fn.w l.resource
          ≡ l.used + job_units (view_of l.self) l.resource (open_left l.doc-iterator)
          + stream_units (view_of l.self) l.resource (streams_under_way (view_of l.self) l.fn.w);
      few : l.used
          + 4294836225 * (length (open_left l.doc-iterator) + length (streams_under_way (view_of l.self) l.fn.w))
          ≤ 18446181123756261375;
    }

abbrev pub invariant-loop-doc-2 : goal.invariant-loop-doc-2
invariant-loop-doc-2 l =
    record {
      sum : used (view_of l.self) l.fn.w l.resource
          ≡ l.used + stream_units (view_of l.self) l.resource (begun_left l.doc-iterator);
      few : l.used + 4294836225 * length (begun_left l.doc-iterator) ≤ 18446181123756261375;
    }
