use Rattle.model.specs.History.{view_of}
use Rattle.workload_defs.specs.Nets.{net_of}
use Rattle.network_runs.specs.Happenings.{kept_at}
use Rattle.network_runs.proofs.laws.the_same_events_show_the_same.Goals as goal

pub returns-clause-listing : goal.returns-clause-listing
returns-clause-listing c = λ defs night v w same.
    c.shows_events_alone.ensures.listing (net_of defs) (view_of (kept_at v night)) (view_of (kept_at w night)) same

pub returns-clause-symphony : goal.returns-clause-symphony
returns-clause-symphony c = λ defs night v w same.
    c.shows_events_alone.ensures.symphony (net_of defs) (view_of (kept_at v night)) (view_of (kept_at w night)) same
