-- Which jobs are in play, and what one of them waits for.
use Rattle.std.specs.Prelude.{[], if◌then◌else◌, ℕ, ◌∷◌, ◌≡◌, ◌⊎◌, Bool, List, None, Option, Some, false}
use Rattle.std.specs.Prelude.{filter_map, not, slice_get}
use Rattle.model.specs.Types.{At, Deadline, Dep, Events, FollowsJob, FollowsStream, Job, Needs, Obj, Outside, Prompt}
use Rattle.model.specs.Types.{Stream, Until}
use Rattle.model.specs.Words.{all_of}
use Rattle.model.specs.History.{View}
use Rattle.model.specs.Catalogue.{StreamJob, is_member}
use Rattle.model.specs.Facts.{is_cancelled, is_due, is_released}
use Rattle.model.specs.Dependencies.{NumberedDep, job_lets_followers_go, stream_lets_followers_go, unwaived_deps}
use Rattle.ready_index.specs.Lists.{Among}
use Rattle.ready_index.specs.declared.targets.Target.{Target}
use Rattle.ready_index.specs.declared.targets.Target.TheVariants.{EndOfJob, EndOfStream, ReleaseOf}

-- a job of w is due, its stream is a member, and neither of them is cancelled
unfoldable pub is_in_play : View → ℕ → StreamJob → Bool
is_in_play V w p =
    all_of (is_due p.doc.no (V (Events w))
    ∷ is_member V p.parent.no
    ∷ not (is_cancelled (Stream p.parent.no) (V (Events p.parent.ws)))
    ∷ not (is_cancelled (Job p.doc.no) (V (Events w)))
    ∷ [])

-- what holds an object back by this dependency and can be watched
abbrev pub held_back : View → Dep → Option Target
held_back V (FollowsJob j) = if job_lets_followers_go V j then None else Some (EndOfJob j)
held_back V (FollowsStream s) = if stream_lets_followers_go V s then None else Some (EndOfStream s)
held_back V (Needs r n) = None
held_back V (Prompt p) = None
held_back V (At t) = None
held_back V (Until t then_) = None
held_back V (Outside path) = None
held_back V (Deadline t) = None

-- the jobs and streams that hold an object back, by the dependencies that are not waived
unfoldable pub held_back_by : View → Obj → List Target
held_back_by V o = filter_map (λ (p : NumberedDep). held_back V p.dep) (unwaived_deps V o)

-- a job waits for this
abbrev pub IsAwaited : View → StreamJob → Target → Type 0
IsAwaited V p t =
    ((t ≡ ReleaseOf p.parent.no) × (is_released p.parent.no (V (Events p.parent.ws)) ≡ false))
    ⊎ Among t (held_back_by V (Job p.doc.no))

-- what it waits for first
unfoldable pub first_awaited : View → StreamJob → Option Target
first_awaited V p =
    if is_released p.parent.no (V (Events p.parent.ws))
    then slice_get (held_back_by V (Job p.doc.no)) 0
    else Some (ReleaseOf p.parent.no)
