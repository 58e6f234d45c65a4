use Rattle.std.proofs.Common.{◌≡◌, filter, find, option_map}
use Rattle.std.specs.Prelude.{◌==◌}
use Rattle.model.specs.Equalities.{text_eq}
use Rattle.model.specs.History.{view_of}
use Rattle.model.specs.Catalogue.{StreamJob}
use Rattle.owner_fold.specs.Left.{jobs_left}
use Rattle.conman_orders.specs.Names.{job_in}
use Rattle.conman_orders.proofs.names.job_in.Given as goal

abbrev pub invariant-loop-parent : goal.invariant-loop-parent
invariant-loop-parent l =
    job_in (view_of l.o) l.fn.s l.name
    ≡ option_map (λ (p : StreamJob). p.doc.no)
    (find (λ (p : StreamJob). text_eq p.doc.name l.name)
    (filter (λ (p : StreamJob). p.parent.no == l.fn.s) (jobs_left l.parent-iterator)))
