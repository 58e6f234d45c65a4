-- Units that are left, and who holds some.
use Rattle.std.specs.Bool.{then_some}
use Rattle.std.specs.Prelude.{ℕ, ◌&&◌, ◌-◌, List, Option, filter, nat_le, not}
use Rattle.model.specs.Types.{Events, Stream, StreamDoc}
use Rattle.model.specs.History.{View}
use Rattle.model.specs.Catalogue.{StreamJob, jobs_of, streams_of}
use Rattle.model.specs.Facts.{is_cancelled, is_ended, is_open, is_released}

-- what is left of so many when these are taken, where there are enough
abbrev pub left_of : ℕ → ℕ → Option ℕ
left_of free units = then_some (nat_le units free) (free - units)

-- the jobs of a workstation with an open launch
abbrev pub holding_jobs : View → ℕ → List StreamJob
holding_jobs V w = filter (λ (p : StreamJob). is_open p.doc.no (V (Events w))) (jobs_of V w)

-- its streams under way
abbrev pub holding_streams : View → ℕ → List StreamDoc
holding_streams V w =
    filter
    (λ (d : StreamDoc).
    is_released d.no (V (Events w))
    && (not (is_ended d.no (V (Events w))) && not (is_cancelled (Stream d.no) (V (Events w)))))
    (streams_of V w)
