-- The workstation of an object stands at the object's place.
use Rattle.std.proofs.Common.{[], ℕ, ◌+◌, ◌∙◌, ◌∷◌, ◌≡◌, Bool, List, None, Option, Some, ap, ap₂, arith, cond}
use Rattle.std.proofs.Common.{eqb, false, find, flat_map, map, option_and_then, option_map, refl, slice_get, suc, true}
use Rattle.model.specs.Types.{Entry, Events, Job, Stream, StreamDoc}
use Rattle.model.specs.History.{list_of, view_of}
use Rattle.model.specs.Catalogue.{StreamJob, catalogue, docs_in, job, jobs, jobs_in, owner, stream}
use Rattle.owner_fold.specs.Numbers.{ArePlaces, place_of}
use Rattle.owner_fold.specs.Plans.{IsPlanOf}
use Rattle.owner_fold.specs.DocPlaces.{AreJobPlaces, AreStreamPlaces, doc_at, first_docs_among, first_jobs_among, job_at}
use Rattle.owner_fold.specs.Stations.{AreStationsOf, job_owner, stream_owner}
use Rattle.owner_fold.specs.declared.plans.Plan.{Plan}
use Rattle.owner_fold.specs.declared.doc_places.DocPlaces.{DocPlaces}
use Rattle.owner_fold.specs.declared.doc_places.JobPlace.{JobPlace}
use Rattle.owner_fold.specs.declared.doc_places.StreamPlace.{StreamPlace}

-- what is read at places where items stand is read of the items
read_of_items : {S X : Type 0} (item : S → Option X) (read : Option X → ℕ) (key : X → ℕ)
    → ((x : X) → read (Some x) ≡ key x) → (places : List S) (items : List X) → map item places ≡ map Some items
    → map (λ s. read (item s)) places ≡ map key items
read_of_items item read key same [] [] h = refl
read_of_items item read key same [] (x ∷ xs) h = cc
read_of_items item read key same (s ∷ ss) [] h = cc
read_of_items {S} {X} item read key same (s ∷ ss) (x ∷ xs) h =
    ap₂ (λ (n : ℕ) (l : List ℕ). n ∷ l) (ap read here ∙ same x) (read_of_items item read key same ss xs there)
  where
    here : item s ≡ Some x
    here = cc

    there : map item ss ≡ map Some xs
    there = cc

-- so of the places of streams and jobs
pub stations_read : (kept : List Entry) (doc_places : DocPlaces) (streams jobs : List ℕ) (docs : List StreamDoc)
    (placed : List StreamJob) → streams ≡ map (λ (p : StreamPlace). stream_owner (doc_at kept p)) doc_places.streams
    → jobs ≡ map (λ (p : JobPlace). job_owner (job_at kept p)) doc_places.jobs
    → AreStreamPlaces kept doc_places.streams docs → AreJobPlaces kept doc_places.jobs placed
    → AreStationsOf docs placed (record { streams = streams; jobs = jobs })
stations_read kept doc_places streams jobs docs placed e f stand job_stand =
    record {
      streams =
          e
          ∙ read_of_items (doc_at kept) stream_owner (λ (d : StreamDoc). d.ws) (λ d. refl) doc_places.streams docs stand.0;
      jobs =
          f
          ∙ read_of_items (job_at kept) job_owner (λ (p : StreamJob). p.doc.ws) (λ p. refl) doc_places.jobs placed
          job_stand.0;
    }

-- the key at the place of a number is that of the first item with the number
key_found : {X : Type 0} (number key : X → ℕ) (items : List X) (n : ℕ)
    → option_and_then (λ i. slice_get (map key items) i) (place_of (map number items) n)
    ≡ option_map key (find (λ x. eqb (number x) n) items)
key_found number key [] n = refl
key_found {X} number key (x ∷ xs) n = go (eqb (number x) n) (key_found number key xs n)
  where
    next : (o : Option ℕ)
        → option_and_then (λ i. slice_get (key x ∷ map key xs) i) (option_map (λ i. i + 1) o)
        ≡ option_and_then (λ i. slice_get (map key xs) i) o
    next None = refl
    next (Some i) = rw (let e : i + 1 ≡ suc i = omega arith in e) refl

    go : (b : Bool)
        → option_and_then (λ i. slice_get (map key xs) i) (place_of (map number xs) n)
        ≡ option_map key (find (λ x. eqb (number x) n) xs)
        → option_and_then (λ i. slice_get (key x ∷ map key xs) i)
        (cond b (Some 0) (option_map (λ i. i + 1) (place_of (map number xs) n)))
        ≡ option_map key (cond b (Some x) (find (λ x. eqb (number x) n) xs))
    go true h = refl
    go false h = next (place_of (map number xs) n) ∙ h

pub stream_owner_found : (kept : List Entry) (plan : Plan) (n : ℕ) (place : Option ℕ) → IsPlanOf kept plan
    → ((numbers : List ℕ) → ArePlaces numbers plan.index.streams → place ≡ place_of numbers n)
    → option_and_then (λ i. slice_get plan.stations.streams i) place ≡ owner (view_of kept) (Stream n)
unfolding owner stream catalogue
stream_owner_found kept plan n place p found =
    ap₂ (λ (l : List ℕ) (o : Option ℕ). option_and_then (λ i. slice_get l i) o) p.stations.streams
    (found (map (λ (q : StreamPlace). q.number) plan.doc_places.streams) p.index.streams
    ∙ ap (λ (l : List ℕ). place_of l n) p.doc_places.streams.1)
    ∙ key_found (λ (d : StreamDoc). d.no) (λ (d : StreamDoc). d.ws)
    (first_docs_among (flat_map docs_in (list_of kept (Events 0)))) n

pub job_owner_found : (kept : List Entry) (plan : Plan) (n : ℕ) (place : Option ℕ) → IsPlanOf kept plan
    → ((numbers : List ℕ) → ArePlaces numbers plan.index.jobs → place ≡ place_of numbers n)
    → option_and_then (λ i. slice_get plan.stations.jobs i) place ≡ owner (view_of kept) (Job n)
unfolding owner job jobs catalogue
job_owner_found kept plan n place p found =
    ap₂ (λ (l : List ℕ) (o : Option ℕ). option_and_then (λ i. slice_get l i) o) p.stations.jobs
    (found (map (λ (q : JobPlace). q.number) plan.doc_places.jobs) p.index.jobs
    ∙ ap (λ (l : List ℕ). place_of l n) p.doc_places.jobs.1)
    ∙ key_found (λ (q : StreamJob). q.doc.no) (λ (q : StreamJob). q.doc.ws)
    (first_jobs_among (flat_map jobs_in (first_docs_among (flat_map docs_in (list_of kept (Events 0)))))) n
