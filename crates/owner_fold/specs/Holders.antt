-- Who holds units of a resource, and how many.
use Rattle.std.specs.Option.{option_map_or}
use Rattle.std.specs.Prelude.{if◌then◌else◌, ℕ, ◌&&◌, ◌==◌, Bool, List, filter, filter_map, not}
use Rattle.model.specs.Types.{Body, Events, JobDoc, Obj, Stream, StreamDoc}
use Rattle.model.specs.History.{View, list_of}
use Rattle.model.specs.Catalogue.{StreamJob, catalogue, jobs_of}
use Rattle.model.specs.Facts.{is_cancelled, is_ended, is_open, is_released}
use Rattle.model.specs.Dependencies.{dep, is_waived, units_in}
use Rattle.owner_fold.specs.Sets.{job_coded}
use Rattle.owner_fold.specs.declared.units.OpenLaunches.{OpenLaunches}

-- a job of w with an open launch
abbrev pub is_open_here : ℕ → List Body → JobDoc → Bool
is_open_here w events j = (j.ws == w) && is_open j.no events

-- a stream that is neither ended nor cancelled
abbrev pub is_unfinished : List Body → StreamDoc → Bool
is_unfinished events d = not (is_ended d.no events) && not (is_cancelled (Stream d.no) events)

-- a stream of w that is released, not ended and not cancelled
abbrev pub is_under_way : ℕ → List Body → StreamDoc → Bool
is_under_way w events d = (d.ws == w) && (is_released d.no events && is_unfinished events d)

-- the jobs of w with an open launch
abbrev pub open_jobs : View → ℕ → List StreamJob
open_jobs V w = filter (λ (p : StreamJob). is_open p.doc.no (V (Events w))) (jobs_of V w)

-- its streams under way
abbrev pub streams_under_way : View → ℕ → List StreamDoc
streams_under_way V w = filter (is_under_way w (V (Events w))) (catalogue V)

-- the jobs with an open launch that are left
unfoldable pub open_left : OpenLaunches → List StreamJob
open_left it =
    filter (λ (p : StreamJob). is_open_here it.ws (list_of it.owners.now (Events it.ws)) p.doc)
    (filter_map (job_coded it.owners.now it.ws) it.codes.now)

-- the units of resource r that dependency i of an object asks for, 0 where it is waived or not there
abbrev pub units_at : View → ℕ → Obj → ℕ → ℕ
units_at V r o i = if is_waived V o i then 0 else option_map_or (units_in r) (dep V o i) 0
