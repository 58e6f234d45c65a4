-- What the names of a line stand for, in the network and in what a node holds.
use Rattle.std.specs.Bool.{then_some}
use Rattle.std.specs.List.{position_from}
use Rattle.std.specs.Option.{option_map_or, option_or}
use Rattle.std.specs.Prelude.{[], ℕ, ◌&&◌, ◌==◌, ◌∷◌, Bool, List, None, Option, Some, false, find}
use Rattle.std.specs.Prelude.{option_and_then, option_map, slice_get}
use Rattle.conman_syntax.specs.declared.lines.StreamRef.{StreamRef}
use Rattle.conman_syntax.specs.declared.lines.JobRef.{JobRef}
use Rattle.conman_syntax.specs.declared.lines.ObjRef.{ObjRef}
use Rattle.conman_syntax.specs.declared.lines.ObjRef.TheVariants as object
use Rattle.conman_syntax.specs.declared.lines.DepRef.{DepRef}
use Rattle.conman_syntax.specs.declared.lines.DepRef.TheVariants as typed
use Rattle.model.specs.Types.{At, Dep, FollowsJob, FollowsStream, Global, Job, Needs, Net, Node, Obj, Own, Prompt}
use Rattle.model.specs.Types.{PromptDef, Resource, Stream, StreamDoc, Until}
use Rattle.model.specs.Equalities.{text_eq}
use Rattle.model.specs.Network.{domain}
use Rattle.model.specs.History.{View}
use Rattle.model.specs.Catalogue.{StreamJob, jobs_of_stream, members, owner, stream}

-- the last item of which the test holds
abbrev pub last_that : {X : Type 0} → (X → Bool) → List X → Option X
last_that test [] = None
last_that test (x ∷ xs) = option_or (last_that test xs) (then_some (test x) x)

-- the workstation of this name; they are numbered from 0
unfoldable pub workstation : Net → List ℕ → Option ℕ
workstation net name = position_from (λ (n : Node). text_eq n.name name) 0 net.nodes

-- the domain of a workstation has this name, which is that of its manager
unfoldable pub is_domain_of : Net → ℕ → List ℕ → Bool
is_domain_of net w name =
    option_map_or (λ (n : Node). text_eq n.name name) (slice_get net.nodes (domain net w)) false

-- the network's prompt of this name; they are numbered from 1
unfoldable pub prompt_named : Net → List ℕ → Option ℕ
prompt_named net name = position_from (λ (p : PromptDef). text_eq p.name name) 1 net.prompts

-- a resource has this workstation and name
abbrev pub is_resource : ℕ → List ℕ → Resource → Bool
is_resource w name q = (q.ws == w) && text_eq q.name name

-- the resource of this name on a workstation; they are numbered from 1
unfoldable pub resource_on : Net → ℕ → List ℕ → Option ℕ
resource_on net w name = position_from (is_resource w name) 1 net.resources

-- W#R: the workstation and the resource
unfoldable pub resource_named : Net → List ℕ → List ℕ → Option (ℕ × ℕ)
resource_named net ws name =
    option_and_then (λ w. option_map (λ r. (w, r)) (resource_on net w name)) (workstation net ws)

-- a stream has this workstation and name
abbrev pub is_called : ℕ → List ℕ → StreamDoc → Bool
is_called w name d = (d.ws == w) && text_eq d.name name

-- the stream of this number in the catalogue has this workstation and name
abbrev pub is_called_at : View → ℕ → List ℕ → ℕ → Bool
is_called_at V w name s = option_map_or (is_called w name) (stream V s) false

-- the last member of this workstation and name
unfoldable pub last_member : View → ℕ → List ℕ → Option ℕ
last_member V w name = last_that (is_called_at V w name) (members V)

-- the stream on this workstation: the one of the number, where it has the name, or else the last member of the name
abbrev pub stream_on : View → ℕ → List ℕ → Option ℕ → Option ℕ
stream_on V w name None = last_member V w name
stream_on V w name (Some n) = then_some (is_called_at V w name n) n

-- the workstation that is typed before a stream, or else the node's own
abbrev pub workstation_or : Net → ℕ → Option (List ℕ) → Option ℕ
workstation_or net me None = Some me
workstation_or net me (Some name) = workstation net name

-- STREAM
unfoldable pub stream_named : Net → View → ℕ → StreamRef → Option ℕ
stream_named net V me r = option_and_then (λ w. stream_on V w r.name r.no) (workstation_or net me r.ws)

-- the first job of this name in a stream
unfoldable pub job_in : View → ℕ → List ℕ → Option ℕ
job_in V s name =
    option_map (λ (p : StreamJob). p.doc.no)
    (find (λ (p : StreamJob). text_eq p.doc.name name) (jobs_of_stream V s))

-- JOB
unfoldable pub job_named : Net → View → ℕ → JobRef → Option ℕ
job_named net V me r = option_and_then (λ s. job_in V s r.name) (stream_named net V me r.stream)

-- JOB or STREAM
unfoldable pub object_named : Net → View → ℕ → ObjRef → Option Obj
object_named net V me (object.Job r) = option_map Job (job_named net V me r)
object_named net V me (object.Stream r) = option_map Stream (stream_named net V me r)

-- what is found, with the owner of the object that it is
abbrev pub with_owner : {A : Type 0} → View → (A → Obj) → Option A → Option (ℕ × A)
with_owner V object found = option_and_then (λ a. option_map (λ w. (w, a)) (owner V (object a))) found

-- DEP
unfoldable pub dep_named : Net → View → ℕ → DepRef → Option Dep
dep_named net V me (typed.FollowsJob r) = option_map FollowsJob (job_named net V me r)
dep_named net V me (typed.FollowsStream r) = option_map FollowsStream (stream_named net V me r)
dep_named net V me (typed.Needs n ws name) =
    option_map (λ (q : ℕ × ℕ). Needs q.1 n) (resource_named net ws name)
dep_named net V me (typed.PromptName name) =
    option_map (λ p. Prompt (Global p)) (prompt_named net name)
dep_named net V me (typed.PromptText text) = Some (Prompt (Own text))
dep_named net V me (typed.At t) = Some (At t)
dep_named net V me (typed.Until t mark) = Some (Until t mark)
