-- Whether an object was given a dependency of a kind: one with a time, an AT, an UNTIL or a DEADLINE, or one on a file.
use Rattle.std.specs.List.{list_any}
use Rattle.std.specs.Prelude.{ℕ, ◌&&◌, ◌==◌, ◌||◌, Bool, List, false, filter, is_some}
use Rattle.model.specs.Types.{AddDep, Body, Cmd, Dep, Entry, Events, Job, Obj, Stream, StreamDoc}
use Rattle.model.specs.Words.{has}
use Rattle.model.specs.Equalities.{obj_eq}
use Rattle.model.specs.History.{View, list_of}
use Rattle.model.specs.Catalogue.{StreamJob, is_member}
use Rattle.model.specs.Facts.{commands}
use Rattle.model.specs.OwnMembers.{own_jobs, own_streams}
use Rattle.model.specs.StepFaults.{is_outside}
use Rattle.model.specs.Turn.{dep_time}
use Rattle.owner_fold.specs.declared.given.Kind.{Kind}
use Rattle.owner_fold.specs.declared.given.Kind.TheVariants.{File, Time}

-- the dependency has a time
abbrev pub has_time : Dep → Bool
has_time d = is_some (dep_time d)

-- the dependency is of this kind
abbrev pub is_of : Kind → Dep → Bool
is_of Time = has_time
is_of File = is_outside

-- the command adds such a dependency to the object
abbrev pub adds : (Dep → Bool) → Obj → Cmd → Bool
adds test o (AddDep p d) = obj_eq o p && test d
adds test o _ = false

-- one was written, or a command among these events added it
abbrev pub is_given : (Dep → Bool) → Obj → List Dep → List Body → Bool
is_given test o written events = list_any test written || list_any (adds test o) (commands events)

-- with a time
abbrev pub is_timed : Obj → List Dep → List Body → Bool
is_timed o written events = is_given has_time o written events

-- on a file
abbrev pub is_filed : Obj → List Dep → List Body → Bool
is_filed o written events = is_given is_outside o written events

-- by the events of the workstation, of a stream of these numbers, and of a job of one of them
abbrev pub given_stream_by : (Dep → Bool) → List ℕ → List Entry → StreamDoc → Bool
given_stream_by test ms kept d = has ms d.no && is_given test (Stream d.no) d.deps (list_of kept (Events d.ws))

abbrev pub given_job_by : (Dep → Bool) → List ℕ → List Entry → StreamJob → Bool
given_job_by test ms kept p =
    has ms p.parent.no && is_given test (Job p.doc.no) p.doc.deps (list_of kept (Events p.doc.ws))

-- an own member of w that was given one
abbrev pub is_given_stream_here : (Dep → Bool) → View → ℕ → StreamDoc → Bool
is_given_stream_here test V w d =
    (d.ws == w) && (is_member V d.no && is_given test (Stream d.no) d.deps (V (Events w)))

-- an own member's job that was given one
abbrev pub is_given_job_here : (Dep → Bool) → View → ℕ → StreamJob → Bool
is_given_job_here test V w p =
    (p.doc.ws == w) && (is_member V p.parent.no && is_given test (Job p.doc.no) p.doc.deps (V (Events w)))

-- the own members of w that were given one
abbrev pub given_streams : (Dep → Bool) → View → ℕ → List StreamDoc
given_streams test V w = filter (λ (d : StreamDoc). is_given test (Stream d.no) d.deps (V (Events w))) (own_streams V w)

-- and the own members' jobs
abbrev pub given_jobs : (Dep → Bool) → View → ℕ → List StreamJob
given_jobs test V w = filter (λ (p : StreamJob). is_given test (Job p.doc.no) p.doc.deps (V (Events w))) (own_jobs V w)
