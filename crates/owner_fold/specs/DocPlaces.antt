-- Where the documents of the plan stand among the entries, and that a list of such places is that of the catalogue.
use Rattle.std.specs.Prelude.{[], ℕ, ◌≡◌, List, Option, Some, flat_map, map, option_and_then}
use Rattle.std.specs.Prelude.{option_map, slice_get}
use Rattle.model.specs.Types.{Entry, JobDoc, StreamDoc}
use Rattle.model.specs.Words.{firsts}
use Rattle.model.specs.Catalogue.{StreamJob, docs_in, jobs_in}
use Rattle.owner_fold.specs.declared.doc_places.StreamPlace.{StreamPlace}
use Rattle.owner_fold.specs.declared.doc_places.JobPlace.{JobPlace}
use Rattle.owner_fold.specs.declared.doc_places.DocPlaces.{DocPlaces}

-- a job with its stream
abbrev pub stream_job : StreamDoc → JobDoc → StreamJob
stream_job d j = record { parent = d; doc = j }

-- the document that stands there
abbrev pub doc_at : List Entry → StreamPlace → Option StreamDoc
doc_at kept p = option_and_then (λ (e : Entry). slice_get (docs_in e.body) p.doc) (slice_get kept p.entry)

-- the job that stands there, with its stream
abbrev pub job_at : List Entry → JobPlace → Option StreamJob
job_at kept p =
    option_and_then (λ (d : StreamDoc). option_map (stream_job d) (slice_get d.jobs p.job)) (doc_at kept p.stream)

-- of one number the first document
abbrev pub first_docs_among : List StreamDoc → List StreamDoc
first_docs_among docs = firsts (λ (d : StreamDoc). d.no) [] docs

-- of one number the first job
abbrev pub first_jobs_among : List StreamJob → List StreamJob
first_jobs_among placed = firsts (λ (p : StreamJob). p.doc.no) [] placed

-- these places, in order, have these items, and their numbers
abbrev pub Stand : {S X : Type 0} → (S → Option X) → (S → ℕ) → (X → ℕ) → List S → List X → Type 0
Stand find_at place_number number doc_places items =
    (map find_at doc_places ≡ map Some items) × (map place_number doc_places ≡ map number items)

-- the places of these documents
abbrev pub AreStreamPlaces : List Entry → List StreamPlace → List StreamDoc → Type 0
AreStreamPlaces kept doc_places docs =
    Stand (doc_at kept) (λ (p : StreamPlace). p.number) (λ (d : StreamDoc). d.no) doc_places docs

-- the places of these jobs
abbrev pub AreJobPlaces : List Entry → List JobPlace → List StreamJob → Type 0
AreJobPlaces kept doc_places placed =
    Stand (job_at kept) (λ (p : JobPlace). p.number) (λ (p : StreamJob). p.doc.no) doc_places placed

-- the places of what counts of these documents
pub record AreDocPlacesOf (kept : List Entry) (docs : List StreamDoc) (doc_places : DocPlaces) : Type 0 where
  pub streams : AreStreamPlaces kept doc_places.streams (first_docs_among docs)
  pub jobs : AreJobPlaces kept doc_places.jobs (first_jobs_among (flat_map jobs_in (first_docs_among docs)))
