-- What the places of a set find is what counts in the catalogue.
use Rattle.std.proofs.Common.{ℕ, ◌&&◌, ◌*◌, ◌-◌, ◌<◌, ◌^◌, ◌∙◌, ◌≡◌, Bool, List, Option, Some, ap, eqb, false, filter}
use Rattle.std.proofs.Common.{filter_map, flat_map, inl, inr, option_and_then, refl, slice_get, subst, sym, true}
use Rattle.std.proofs.lemmas.Bool.Decides.{eqb_tells}
use Rattle.lemmas.proofs.Lists.{filter_filter}
use Rattle.grouped_places.specs.Codes.{RisesFrom, code, is_in_group}
use Rattle.grouped_places.proofs.Finding.{group_finds}
use Rattle.model.specs.Types.{Body, Dep, Entry, Events, Job, Stream, StreamDoc}
use Rattle.model.specs.Words.{has}
use Rattle.model.specs.History.{list_of, view_of}
use Rattle.model.specs.Catalogue.{StreamJob, catalogue, docs_in, is_member, jobs, jobs_in, jobs_of, jobs_of_stream, members}
use Rattle.model.specs.Catalogue.{streams_of}
use Rattle.model.specs.Facts.{is_open}
use Rattle.model.specs.OwnMembers.{own_jobs, own_streams}
use Rattle.owner_fold.specs.Given.{given_job_by, given_jobs, given_stream_by, given_streams, is_given, is_given_job_here}
use Rattle.owner_fold.specs.Given.{is_given_stream_here}
use Rattle.owner_fold.specs.Holders.{is_open_here, is_under_way, open_jobs, streams_under_way}
use Rattle.owner_fold.specs.Sets.{AreGivenAmong, AreSetsOf, Covers, began_by, is_begun, is_waiting, is_waiting_here, job_coded}
use Rattle.owner_fold.specs.Sets.{job_station_of, job_stream_of, opened_by, station_of, stream_coded, streams_waiting}
use Rattle.owner_fold.specs.Sets.{waits_by}
use Rattle.owner_fold.specs.Plans.{IsPlanOf}
use Rattle.owner_fold.specs.DocPlaces.{doc_at, first_docs_among, first_jobs_among, job_at}
use Rattle.owner_fold.specs.declared.given_objects.GivenObjects.{GivenObjects}
use Rattle.owner_fold.specs.declared.plans.Plan.{Plan}
use Rattle.owner_fold.specs.declared.sets.Sets.{Sets}
use Rattle.owner_fold.specs.declared.doc_places.JobPlace.{JobPlace}
use Rattle.owner_fold.specs.declared.doc_places.StreamPlace.{StreamPlace}
use Rattle.owner_fold.proofs.Covering.{item_placed}
use Rattle.owner_fold.proofs.Holders.{open_among}

-- the stream and the job at the place of a code
pub stream_of_code : (kept now : List Entry) (plan : Plan) (doc_places : List StreamPlace) (n group c : ℕ)
    (o : Option StreamPlace) → IsPlanOf kept plan → kept ≡ now → o ≡ slice_get doc_places n → doc_places ≡ plan.doc_places.streams
    → n ≡ c - group * 2 ^ 32 → option_and_then (doc_at now) o ≡ stream_coded now group c
unfolding catalogue
stream_of_code kept now plan doc_places n group c o h same found same_places place =
    subst (λ (l : List Entry). option_and_then (doc_at l) o ≡ stream_coded l group c) same
    (ap (option_and_then (doc_at kept))
    (found ∙ ap (λ (l : List StreamPlace). slice_get l n) same_places ∙ ap (slice_get plan.doc_places.streams) place)
    ∙ sym
    (item_placed (doc_at kept) plan.doc_places.streams
    (first_docs_among (flat_map docs_in (list_of kept (Events 0)))) h.doc_places.streams.0 (c - group * 2 ^ 32)))

pub job_of_code : (kept now : List Entry) (plan : Plan) (doc_places : List JobPlace) (n group c : ℕ) (o : Option JobPlace)
    → IsPlanOf kept plan → kept ≡ now → o ≡ slice_get doc_places n → doc_places ≡ plan.doc_places.jobs → n ≡ c - group * 2 ^ 32
    → option_and_then (job_at now) o ≡ job_coded now group c
unfolding catalogue jobs
job_of_code kept now plan doc_places n group c o h same found same_places place =
    subst (λ (l : List Entry). option_and_then (job_at l) o ≡ job_coded l group c) same
    (ap (option_and_then (job_at kept))
    (found ∙ ap (λ (l : List JobPlace). slice_get l n) same_places ∙ ap (slice_get plan.doc_places.jobs) place)
    ∙ sym
    (item_placed (job_at kept) plan.doc_places.jobs
    (first_jobs_among (flat_map jobs_in (first_docs_among (flat_map docs_in (list_of kept (Events 0))))))
    h.doc_places.jobs.0 (c - group * 2 ^ 32)))

-- who counts in a group is of the group and counts by itself
in_group : {X : Type 0} (group : X → ℕ) (counts : X → Bool) (by_ : ℕ → X → Bool) (items : List X) (all : List ℕ) (g : ℕ)
    → ((x : X) → by_ (group x) x ≡ true → counts x ≡ true) → Covers group counts items all → (i : ℕ) (x : X)
    → slice_get items i ≡ Some x → (eqb (group x) g && by_ g x) ≡ true → (i < 2 ^ 32) × (has all (code g i) ≡ true)
in_group group counts by_ items all g here h i x s t =
    elim (eqb_tells (group x) g) [
      | inl c ↦ (
          let u : by_ (group x) x ≡ true = (λ j. by_ (c.1 j) x) ∙ sym (ap (λ (b : Bool). b && by_ g x) c.0) ∙ t in
          let k : (i < 2 ^ 32) × (has all (code (group x) i) ≡ true) = h i x s (here x u) in
          (k.0, ap (λ (n : ℕ). has all (code n i)) (sym c.1) ∙ k.1))
      | inr c ↦ absurd (let q : true ≡ false = sym t ∙ ap (λ (b : Bool). b && by_ g x) c.0 in cc)
    ]

module _ (kept : List Entry) (sets : Sets) (h : AreSetsOf kept sets) (w g : ℕ) (codes all : List ℕ)
    (one : g ≡ w) (got : codes ≡ filter (is_in_group g) all) (rises : RisesFrom 0 all) where
  found : {X : Type 0} (items : List X) (test : X → Bool)
      → ((i : ℕ) (x : X) → slice_get items i ≡ Some x → test x ≡ true → (i < 2 ^ 32) × (has all (code w i) ≡ true))
      → filter test (filter_map (λ c. slice_get items (c - w * 2 ^ 32)) codes) ≡ filter test items
  found {X} items test cover =
      ap (λ (l : List ℕ). filter test (filter_map (λ c. slice_get items (c - w * 2 ^ 32)) l))
      (got ∙ ap (λ (n : ℕ). filter (is_in_group n) all) one)
      ∙ group_finds test w items all rises cover

  pub waiting_found : all ≡ sets.waiting
      → filter (is_waiting_here w (list_of kept (Events w))) (filter_map (stream_coded kept w) codes)
      ≡ streams_waiting (view_of kept) w
  unfolding streams_of
  waiting_found e =
      found (catalogue (view_of kept)) (is_waiting_here w (list_of kept (Events w)))
      (in_group station_of (waits_by kept) (λ (v : ℕ) (d : StreamDoc). is_waiting d.no (list_of kept (Events v)))
      (catalogue (view_of kept)) all w (λ d t. t)
      (subst (Covers station_of (waits_by kept) (catalogue (view_of kept))) (sym e) h.waiting))
      ∙ sym (filter_filter (λ (d : StreamDoc). is_waiting d.no (list_of kept (Events w))) (λ (d : StreamDoc). eqb d.ws w)
      (catalogue (view_of kept)))

  pub begun_found : all ≡ sets.begun
      → filter (is_under_way w (list_of kept (Events w))) (filter_map (stream_coded kept w) codes)
      ≡ streams_under_way (view_of kept) w
  begun_found e =
      found (catalogue (view_of kept)) (is_under_way w (list_of kept (Events w)))
      (in_group station_of (began_by kept) (λ (v : ℕ) (d : StreamDoc). is_begun d.no (list_of kept (Events v)))
      (catalogue (view_of kept)) all w (λ d t. t)
      (subst (Covers station_of (began_by kept) (catalogue (view_of kept))) (sym e) h.begun))

  pub opened_found : all ≡ sets.opened
      → filter (λ (p : StreamJob). is_open_here w (list_of kept (Events w)) p.doc) (filter_map (job_coded kept w) codes)
      ≡ open_jobs (view_of kept) w
  opened_found e =
      found (jobs (view_of kept)) (λ (p : StreamJob). is_open_here w (list_of kept (Events w)) p.doc)
      (in_group job_station_of (opened_by kept) (λ (v : ℕ) (p : StreamJob). is_open p.doc.no (list_of kept (Events v)))
      (jobs (view_of kept)) all w (λ p t. t)
      (subst (Covers job_station_of (opened_by kept) (jobs (view_of kept))) (sym e) h.opened))
      ∙ open_among (view_of kept) w (jobs (view_of kept)) refl

  pub of_stream_found : all ≡ sets.by_stream
      → filter (λ (p : StreamJob). eqb p.parent.no w) (filter_map (job_coded kept w) codes)
      ≡ jobs_of_stream (view_of kept) w
  unfolding jobs_of_stream
  of_stream_found e =
      found (jobs (view_of kept)) (λ (p : StreamJob). eqb p.parent.no w)
      (λ i p s t. in_group job_stream_of (λ (p : StreamJob). true) (λ (v : ℕ) (p : StreamJob). true)
      (jobs (view_of kept)) all w (λ p t. t)
      (subst (Covers job_stream_of (λ (p : StreamJob). true) (jobs (view_of kept))) (sym e) h.by_stream) i p s
      (ap (λ (b : Bool). b && true) t))

  pub given_streams_found : (test : Dep → Bool) (given : GivenObjects)
      → AreGivenAmong test kept (members (view_of kept)) (catalogue (view_of kept)) (jobs (view_of kept)) given
      → all ≡ given.streams
      → filter (is_given_stream_here test (view_of kept) w) (filter_map (stream_coded kept w) codes)
      ≡ given_streams test (view_of kept) w
  unfolding is_member own_streams streams_of
  given_streams_found test given are e =
      let V = view_of kept in
      let events : List Body = list_of kept (Events w) in
      found (catalogue V) (is_given_stream_here test V w)
      (in_group station_of (given_stream_by test (members V) kept)
      (λ (v : ℕ) (d : StreamDoc). has (members V) d.no && is_given test (Stream d.no) d.deps (list_of kept (Events v)))
      (catalogue V) all w (λ d t. t)
      (subst (Covers station_of (given_stream_by test (members V) kept) (catalogue V)) (sym e) are.streams))
      ∙ sym
      (filter_filter (λ (d : StreamDoc). is_given test (Stream d.no) d.deps events) (λ (d : StreamDoc). is_member V d.no)
      (filter (λ (d : StreamDoc). eqb d.ws w) (catalogue V))
      ∙ filter_filter (λ (d : StreamDoc). is_member V d.no && is_given test (Stream d.no) d.deps events)
      (λ (d : StreamDoc). eqb d.ws w) (catalogue V))

  pub given_jobs_found : (test : Dep → Bool) (given : GivenObjects)
      → AreGivenAmong test kept (members (view_of kept)) (catalogue (view_of kept)) (jobs (view_of kept)) given
      → all ≡ given.jobs
      → filter (is_given_job_here test (view_of kept) w) (filter_map (job_coded kept w) codes)
      ≡ given_jobs test (view_of kept) w
  unfolding is_member own_jobs jobs_of
  given_jobs_found test given are e =
      let V = view_of kept in
      let events : List Body = list_of kept (Events w) in
      found (jobs V) (is_given_job_here test V w)
      (in_group job_station_of (given_job_by test (members V) kept)
      (λ (v : ℕ) (p : StreamJob). has (members V) p.parent.no && is_given test (Job p.doc.no) p.doc.deps (list_of kept (Events v)))
      (jobs V) all w (λ p t. t)
      (subst (Covers job_station_of (given_job_by test (members V) kept) (jobs V)) (sym e) are.jobs))
      ∙ sym
      (filter_filter (λ (p : StreamJob). is_given test (Job p.doc.no) p.doc.deps events)
      (λ (p : StreamJob). is_member V p.parent.no) (filter (λ (p : StreamJob). eqb p.doc.ws w) (jobs V))
      ∙ filter_filter (λ (p : StreamJob). is_member V p.parent.no && is_given test (Job p.doc.no) p.doc.deps events)
      (λ (p : StreamJob). eqb p.doc.ws w) (jobs V))
