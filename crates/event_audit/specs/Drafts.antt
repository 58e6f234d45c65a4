-- The document of a submitted draft, part by part.
use Rattle.std.specs.Prelude.{[], ℕ, ◌+◌, ◌∷◌, ◌≡◌, List, Option, filter_map, map}
use Rattle.model.specs.Types.{Dep, DraftDep, FollowsJob, FollowsStream, JobDoc, JobDraft, StreamDoc, StreamDraft}
use Rattle.model.specs.History.{View}
use Rattle.model.specs.Catalogue.{members, stream}
use Rattle.model.specs.NewPlan.{Fresh, Named, doc_of_job, last_job, last_stream, named_doc, named_fresh, resolve_dep}
use Rattle.event_audit.specs.declared.draft_deps.Resolution.{Resolution}
use Rattle.event_audit.specs.declared.draft_deps.Resolution.TheVariants.{Job, Plain, Stream}

-- the draft as the only fresh stream
abbrev pub only_fresh : View → StreamDraft → Fresh
only_fresh V draft = record { number = 1 + last_stream V; first_job = 1 + last_job V; draft = draft }

-- the streams that its names may stand for: itself, and the members
abbrev pub own_one : View → StreamDraft → Named
own_one V draft = named_fresh (only_fresh V draft)

abbrev pub own_named : View → StreamDraft → List Named
own_named V draft = own_one V draft ∷ []

abbrev pub members_named : View → List Named
members_named V = map named_doc (filter_map (stream V) (members V))

-- what a dependency of the draft becomes
abbrev pub gives : View → StreamDraft → DraftDep → Option Dep
gives V draft = resolve_dep (own_named V draft) (members_named V)

-- the document of one of its jobs, with its number
abbrev pub job_given : View → StreamDraft → ℕ × JobDraft → JobDoc
job_given V draft = doc_of_job (own_named V draft) (members_named V)

-- the dependency that was found
abbrev pub told : Resolution → Dep
told (Job number) = FollowsJob number
told (Stream number) = FollowsStream number
told (Plain dep) = dep.now

-- the document has the next number, and all that its draft has but for dependencies and jobs
pub record HasHead (V : View) (draft : StreamDraft) (doc : StreamDoc) : Type 0 where
  pub no_ : 1 + last_stream V ≡ doc.no
  pub ws_ : draft.ws ≡ doc.ws
  pub name_ : draft.name ≡ doc.name
  pub priority_ : draft.priority ≡ doc.priority
  pub limit_ : draft.limit ≡ doc.limit
  pub carry_ : draft.carry ≡ doc.carry

-- the job has all that its draft has but for its dependencies
pub record HasWork (draft : JobDraft) (doc : JobDoc) : Type 0 where
  pub ws_ : draft.ws ≡ doc.ws
  pub name_ : draft.name ≡ doc.name
  pub priority_ : draft.priority ≡ doc.priority
  pub work_ : draft.work ≡ doc.work
  pub logon_ : draft.logon ≡ doc.logon
  pub cond_ : draft.cond ≡ doc.cond
  pub recovery_ : draft.recovery ≡ doc.recovery
