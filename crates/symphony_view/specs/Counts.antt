-- How many of the members of a plan, and of their jobs, are in each state.
use Rattle.std.specs.Prelude.{ℕ, ◌==◌, List, count_by, filter_map, flat_map, map, min}
use Rattle.model.specs.Types.{JobDoc, Net, StreamDoc}
use Rattle.model.specs.Words.{below}
use Rattle.model.specs.History.{View}
use Rattle.model.specs.Catalogue.{StreamJob, job, members, stream}
use Rattle.model.specs.States.{job_state, stream_state}
use Rattle.symphony_view.specs.Words.{job_number, stream_number}

-- the documents of streams by their numbers
abbrev pub docs_of : View → List ℕ → List StreamDoc
docs_of V numbers = filter_map (stream V) numbers

-- the jobs of documents, by their numbers: of several with one number the first of the catalogue is meant
abbrev pub jobs_of : View → List JobDoc → List StreamJob
jobs_of V docs = filter_map (λ (j : JobDoc). job V j.no) docs

-- the states of streams by their numbers, in the order of the words of states
abbrev pub stream_places : Net → View → List ℕ → List ℕ
stream_places net V numbers = map (λ d. stream_number (stream_state net V d)) (docs_of V numbers)

-- the states of the jobs of a document
abbrev pub job_places_in : Net → View → List JobDoc → List ℕ
job_places_in net V docs = map (λ p. job_number (job_state net V p)) (jobs_of V docs)

-- those of the jobs of streams
abbrev pub job_places : Net → View → List ℕ → List ℕ
job_places net V numbers = flat_map (λ (d : StreamDoc). job_places_in net V d.jobs) (docs_of V numbers)

-- how often a number stands there, up to what a field holds
abbrev pub count_of : List ℕ → ℕ → ℕ
count_of places k = min 4294967295 (count_by (λ p. p == k) places)

-- the same of each of the first n numbers
abbrev pub counts : ℕ → List ℕ → List ℕ
counts n places = map (count_of places) (below n)

-- The members by their states, from HOLD to CANCEL.
unfoldable pub stream_counts : Net → View → List ℕ
stream_counts net V = counts 7 (stream_places net V (members V))

-- The jobs of the members by their states, from HOLD to CANCEL.
unfoldable pub job_counts : Net → View → List ℕ
job_counts net V = counts 9 (job_places net V (members V))
