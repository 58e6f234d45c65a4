-- What a name says of a job or a stream on its face, whoever put it into a list.
use Rattle.std.specs.List.{list_any}
use Rattle.std.specs.Option.{option_map_or}
use Rattle.std.specs.Prelude.{ℕ, ◌&&◌, ◌+◌, ◌==◌, Bool, false, is_none, nat_le, nat_lt, not, true}
use Rattle.model.specs.Types.{Events, Job, Net, Obj, Resource, Stream, StreamDoc}
use Rattle.model.specs.Words.{is_yes, nth}
use Rattle.model.specs.History.{View}
use Rattle.model.specs.Catalogue.{StreamJob, is_member, jobs_of, jobs_of_stream}
use Rattle.model.specs.Facts.{is_cancelled, is_ended, is_fulfilled, is_released, is_stopped, now, open_launch, reruns}
use Rattle.model.specs.Dependencies.{job_lets_followers_go, stream_lets_followers_go}
use Rattle.model.specs.OwnMembers.{lets_stream_end}
use Rattle.model.specs.Readiness.{is_within_limit, open_launch_count}
use Rattle.waiting.specs.declared.lacks.Lack.{Lack}
use Rattle.waiting.specs.declared.lacks.Lack.TheVariants as lack

-- a dependency holds an object of v back
abbrev pub dependency_holds_back : Net → View → ℕ → Obj → Lack → Bool
dependency_holds_back net V v o (lack.Job i j) = not (job_lets_followers_go V j)
dependency_holds_back net V v o (lack.Stream i s) = not (stream_lets_followers_go V s)
dependency_holds_back net V v o (lack.Units i r n in_use all) = not (nat_le (in_use + n) all)
dependency_holds_back net V v o (lack.NoUnits i r) =
    not (option_map_or (λ (q : Resource). q.ws == v) (nth net.resources r) false)
dependency_holds_back net V v o (lack.Prompt i q reply) = not (is_yes reply)
dependency_holds_back net V v o (lack.NoPrompt i q) = is_none (nth net.prompts q)
dependency_holds_back net V v o (lack.OwnPrompt i reply) = not (is_yes reply)
dependency_holds_back net V v o (lack.Time i t told) = not (nat_le t told)
dependency_holds_back net V v o (lack.Before i t) = not (nat_lt (now (V (Events v))) t)
dependency_holds_back net V v o (lack.File i) = not (is_fulfilled o i (V (Events v)))
dependency_holds_back net V v o _ = false

-- this holds a job back that is asked at w
abbrev pub holds_back : Net → View → ℕ → StreamJob → Lack → Bool
holds_back net V w p (lack.Elsewhere v) = not (v == w)
holds_back net V w p (lack.NotPlanned s) = not (is_member V s)
holds_back net V w p (lack.NotReleased s) = not (is_released s (V (Events p.parent.ws)))
holds_back net V w p (lack.StreamCancelled s) = is_cancelled (Stream s) (V (Events p.parent.ws))
holds_back net V w p lack.Cancelled = is_cancelled (Job p.doc.no) (V (Events p.doc.ws))
holds_back net V w p lack.Stopped = is_stopped (V (Events p.doc.ws))
holds_back net V w p (lack.Launched n) = not (nat_lt n (1 + reruns p.doc.no (V (Events p.doc.ws))))
holds_back net V w p (lack.Open n) =
    option_map_or (λ (m : ℕ). m == n) (open_launch p.doc.no (V (Events p.doc.ws))) false
holds_back net V w p (lack.Fenced f rank) = not (nat_lt f rank)
holds_back net V w p (lack.Limited n) = not (nat_lt (open_launch_count V p.doc.ws (jobs_of V p.doc.ws)) n)
holds_back net V w p (lack.StreamLimited n) = not (is_within_limit V p.doc.ws p.parent)
holds_back net V w p x = dependency_holds_back net V p.doc.ws (Job p.doc.no) x

-- this holds the release of a stream back that is asked at w
abbrev pub holds_release_back : Net → View → ℕ → StreamDoc → Lack → Bool
holds_release_back net V w d (lack.Elsewhere v) = not (v == w)
holds_release_back net V w d (lack.NotPlanned s) = not (is_member V s)
holds_release_back net V w d lack.Released = is_released d.no (V (Events d.ws))
holds_release_back net V w d lack.Cancelled = is_cancelled (Stream d.no) (V (Events d.ws))
holds_release_back net V w d x = dependency_holds_back net V d.ws (Stream d.no) x

-- this holds the end of a stream back that is asked at w
abbrev pub holds_end_back : View → ℕ → StreamDoc → Lack → Bool
holds_end_back V w d (lack.Elsewhere v) = not (v == w)
holds_end_back V w d (lack.NotPlanned s) = not (is_member V s)
holds_end_back V w d (lack.NotReleased s) = not (is_released s (V (Events d.ws)))
holds_end_back V w d lack.Ended = is_ended d.no (V (Events d.ws))
holds_end_back V w d lack.Cancelled = is_cancelled (Stream d.no) (V (Events d.ws))
holds_end_back V w d (lack.Unfinished j) =
    list_any (λ (p : StreamJob). (p.doc.no == j) && not (lets_stream_end V p)) (jobs_of_stream V d.no)
holds_end_back V w d _ = false
