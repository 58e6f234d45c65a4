-- The plan one entry further.
use Rattle.std.proofs.Common.{[], ℕ, ◌&&◌, ◌++◌, ◌∙◌, ◌∷◌, ◌≡◌, Bool, List, None, Option, ap, false, filter, find}
use Rattle.std.proofs.Common.{flat_map}
use Rattle.std.proofs.Common.{ap₂, fold, is_some, map, refl}
use Rattle.std.proofs.Common.{subst, sym, true}
use Rattle.std.specs.Prelude.{◌==◌, unwrap_or}
use Rattle.std.proofs.lemmas.List.{append-nil}
use Rattle.std.proofs.lemmas.List.Sums.{fold-append}
use Rattle.std.proofs.lemmas.Grind.{flat_map-append}
use Rattle.lemmas.proofs.Booleans.{and_parts}
use Rattle.owner_rows.proofs.Feeds.{list_with, list_without}
use Rattle.model.specs.Types.{Body, Entry, Events}
use Rattle.model.specs.Types.{StreamDoc}
use Rattle.model.specs.Equalities.{feed_eq}
use Rattle.model.specs.Words.{greatest, has}
use Rattle.model.specs.History.{list_of, view_of}
use Rattle.model.specs.Catalogue.{StreamJob, catalogue, docs_in, jobs_in, members, members_with, named_members, stream}
use Rattle.owner_fold.specs.Numbers.{IsIndexOf}
use Rattle.owner_fold.specs.declared.numbers.Index.{Index}
use Rattle.owner_fold.specs.declared.doc_places.JobPlace.{JobPlace}
use Rattle.owner_fold.specs.Plans.{IsPlanOf, is_planning, is_planning_body}
use Rattle.owner_fold.specs.DocPlaces.{AreDocPlacesOf, AreJobPlaces, AreStreamPlaces, first_docs_among, first_jobs_among}
use Rattle.owner_fold.specs.declared.plans.Plan.{Plan}
use Rattle.owner_fold.specs.declared.doc_places.DocPlaces.{DocPlaces}
use Rattle.owner_fold.specs.declared.stations.Stations.{Stations}
use Rattle.owner_fold.specs.Stations.{AreStationsOf}
use Rattle.owner_fold.specs.declared.doc_places.StreamPlace.{StreamPlace}
use Rattle.owner_fold.proofs.Firsts.{has_found}
use Rattle.owner_fold.proofs.Planless.{no_docs, no_names}
use Rattle.owner_fold.proofs.Standing.{places_later}

-- the documents after a plan or a stream that is added
pub docs_with : (kept : List Entry) (e : Entry) → is_planning e ≡ true
    → flat_map docs_in (list_of (kept ++ e ∷ []) (Events 0))
    ≡ flat_map docs_in (list_of kept (Events 0)) ++ docs_in e.body
docs_with kept e h =
    let same : feed_eq (Events 0) e.feed ≡ true =
    (and_parts (feed_eq (Events 0) e.feed) (is_planning_body e.body) h).0
    in
    ap (λ (l : List Body). flat_map docs_in l) (list_with kept e (Events 0) same)
    ∙ flat_map-append docs_in (list_of kept (Events 0)) (e.body ∷ [])
    ∙ ap (λ (l : List StreamDoc). flat_map docs_in (list_of kept (Events 0)) ++ l) (append-nil (docs_in e.body))

-- what the plan names then
pub named_with : (kept : List Entry) (e : Entry) → is_planning e ≡ true
    → named_members (view_of (kept ++ e ∷ [])) ≡ members_with (named_members (view_of kept)) e.body
unfolding named_members
named_with kept e h =
    let same : feed_eq (Events 0) e.feed ≡ true =
    (and_parts (feed_eq (Events 0) e.feed) (is_planning_body e.body) h).0
    in
    ap (λ (l : List Body). fold members_with None l) (list_with kept e (Events 0) same)
    ∙ fold-append members_with None (list_of kept (Events 0)) (e.body ∷ [])

filter_same : (p q : ℕ → Bool) (xs : List ℕ) → ((n : ℕ) → p n ≡ q n) → filter p xs ≡ filter q xs
filter_same p q [] same = refl
filter_same p q (x ∷ xs) same = rw (same x, filter_same p q xs same) refl

-- the members are what is named and has a document that counts
pub members_of_docs : (kept : List Entry) (numbers : List ℕ)
    → numbers ≡ map (λ (d : StreamDoc). d.no) (first_docs_among (flat_map docs_in (list_of kept (Events 0))))
    → filter (has numbers) (unwrap_or (named_members (view_of kept)) []) ≡ members (view_of kept)
unfolding members stream catalogue
members_of_docs kept numbers e =
    filter_same (has numbers)
    (λ s. is_some
    (find (λ (d : StreamDoc). d.no == s) (first_docs_among (flat_map docs_in (list_of kept (Events 0))))))
    (unwrap_or (named_members (view_of kept)) [])
    (λ s. rw e (sym (has_found (λ (d : StreamDoc). d.no) s
    (first_docs_among (flat_map docs_in (list_of kept (Events 0)))))))

-- so the documents stay
pub docs_without : (kept : List Entry) (e : Entry) → is_planning e ≡ false
    → flat_map docs_in (list_of (kept ++ e ∷ []) (Events 0)) ≡ flat_map docs_in (list_of kept (Events 0))
docs_without kept e h = go (feed_eq (Events 0) e.feed) refl h
  where
    go : (b : Bool) → feed_eq (Events 0) e.feed ≡ b → (b && is_planning_body e.body) ≡ false
        → flat_map docs_in (list_of (kept ++ e ∷ []) (Events 0)) ≡ flat_map docs_in (list_of kept (Events 0))
    go true same k =
        ap (λ (l : List Body). flat_map docs_in l) (list_with kept e (Events 0) same)
        ∙ flat_map-append docs_in (list_of kept (Events 0)) (e.body ∷ [])
        ∙ ap (λ (l : List StreamDoc). flat_map docs_in (list_of kept (Events 0)) ++ (l ++ [])) (no_docs e.body k)
        ∙ append-nil (flat_map docs_in (list_of kept (Events 0)))
    go false other k = ap (λ (l : List Body). flat_map docs_in l) (list_without kept e (Events 0) other)

stays : (kept : List Entry) (e : Entry) (b : Bool) → feed_eq (Events 0) e.feed ≡ b
    → (b && is_planning_body e.body) ≡ false
    → fold members_with None (list_of (kept ++ e ∷ []) (Events 0)) ≡ fold members_with None (list_of kept (Events 0))
stays kept e true same k =
    ap (λ (l : List Body). fold members_with None l) (list_with kept e (Events 0) same)
    ∙ fold-append members_with None (list_of kept (Events 0)) (e.body ∷ [])
    ∙ no_names (fold members_with None (list_of kept (Events 0))) e.body k
stays kept e false other k = ap (λ (l : List Body). fold members_with None l) (list_without kept e (Events 0) other)

-- and what is named
pub named_without : (kept : List Entry) (e : Entry) → is_planning e ≡ false
    → named_members (view_of (kept ++ e ∷ [])) ≡ named_members (view_of kept)
unfolding named_members
named_without kept e h = stays kept e (feed_eq (Events 0) e.feed) refl h

-- the plan stays with an entry that is neither plan nor added stream
pub plan_without : (kept : List Entry) (e : Entry) (plan : Plan) → is_planning e ≡ false → IsPlanOf kept plan
    → IsPlanOf (kept ++ e ∷ []) plan
unfolding members stream catalogue
plan_without kept e plan h p =
    record {
      doc_places =
          subst (λ (docs : List StreamDoc). AreDocPlacesOf (kept ++ e ∷ []) docs plan.doc_places) (sym (docs_without kept e h))
          (places_later kept (e ∷ []) (flat_map docs_in (list_of kept (Events 0))) plan.doc_places p.doc_places);
      stations =
          subst (λ (docs : List StreamDoc). AreStationsOf (first_docs_among docs)
          (first_jobs_among (flat_map jobs_in (first_docs_among docs))) plan.stations) (sym (docs_without kept e h))
          p.stations;
      named = p.named ∙ sym (named_without kept e h);
      members =
          p.members
          ∙ ap₂
          (λ (docs : List StreamDoc) (names : Option (List ℕ)).
          filter (λ s. is_some (find (λ (d : StreamDoc). d.no == s) (first_docs_among docs))) (unwrap_or names []))
          (sym (docs_without kept e h)) (sym (named_without kept e h));
      index = p.index;
      last_stream = p.last_stream;
      last_job = p.last_job;
    }

-- the plan after a plan or an added stream
pub plan_with : (kept : List Entry) (e : Entry) (plan : Plan) (doc_places : DocPlaces) (stations : Stations)
    (named : Option (List ℕ)) (numbers : List ℕ) (index : Index) (last_stream last_job : ℕ) → is_planning e ≡ true → IsPlanOf kept plan
    → AreDocPlacesOf (kept ++ e ∷ []) (flat_map docs_in (list_of kept (Events 0)) ++ docs_in e.body) doc_places
    → ((docs : List StreamDoc) (placed : List StreamJob) → AreStreamPlaces (kept ++ e ∷ []) doc_places.streams docs
    → AreJobPlaces (kept ++ e ∷ []) doc_places.jobs placed → AreStationsOf docs placed stations)
    → named ≡ members_with plan.named e.body
    → numbers ≡ filter (has (map (λ (p : StreamPlace). p.number) doc_places.streams)) (unwrap_or named [])
    → IsIndexOf (map (λ (p : StreamPlace). p.number) doc_places.streams) (map (λ (p : JobPlace). p.number) doc_places.jobs) numbers
    index → last_stream ≡ greatest (map (λ (p : StreamPlace). p.number) doc_places.streams)
    → last_job ≡ greatest (map (λ (p : JobPlace). p.number) doc_places.jobs)
    → IsPlanOf (kept ++ e ∷ []) (record {
      doc_places = doc_places;
      stations = stations;
      named = named;
      members = numbers;
      index = index;
      last_stream = last_stream;
      last_job = last_job;
    })
plan_with kept e plan doc_places stations named numbers index last_stream last_job h p placed owned names found indexed
    stream_is job_is =
    let here : AreDocPlacesOf (kept ++ e ∷ []) (flat_map docs_in (list_of (kept ++ e ∷ []) (Events 0))) doc_places =
    subst (λ (docs : List StreamDoc). AreDocPlacesOf (kept ++ e ∷ []) docs doc_places) (sym (docs_with kept e h)) placed
    in
    let same : named ≡ named_members (view_of (kept ++ e ∷ [])) =
    names ∙ ap (λ (m : Option (List ℕ)). members_with m e.body) p.named ∙ sym (named_with kept e h)
    in
    record {
      doc_places = here;
      stations =
          owned (first_docs_among (flat_map docs_in (list_of (kept ++ e ∷ []) (Events 0))))
          (first_jobs_among (flat_map jobs_in (first_docs_among (flat_map docs_in (list_of (kept ++ e ∷ []) (Events 0))))))
          here.streams here.jobs;
      named = same;
      members =
          found
          ∙ ap (λ (m : Option (List ℕ)).
          filter (has (map (λ (p : StreamPlace). p.number) doc_places.streams)) (unwrap_or m [])) same
          ∙ members_of_docs (kept ++ e ∷ []) (map (λ (p : StreamPlace). p.number) doc_places.streams)
          here.streams.1;
      index = indexed;
      last_stream = stream_is;
      last_job = job_is;
    }

-- so with any such list
pub kept_without : (kept new : List Entry) (e : Entry) (plan : Plan) → IsPlanOf kept plan → new ≡ kept ++ e ∷ []
    → is_planning e ≡ false → IsPlanOf new plan
kept_without kept new e plan h grown other = rw grown (plan_without kept e plan other h)

-- the plan of no entries
pub plan_of_none : (doc_places : DocPlaces) (stations : Stations) (numbers : List ℕ) (index : Index) → doc_places.streams ≡ [] → doc_places.jobs ≡ []
    → AreStationsOf [] [] stations → numbers ≡ [] → IsIndexOf [] [] [] index
    → IsPlanOf [] (record {
      doc_places = doc_places;
      stations = stations;
      named = None;
      members = numbers;
      index = index;
      last_stream = 0;
      last_job = 0;
    })
unfolding list_of members named_members stream catalogue
plan_of_none doc_places stations numbers index e f owned g h =
    record {
      doc_places = record { streams = (rw e refl, rw e refl); jobs = (rw f refl, rw f refl) };
      stations = owned;
      named = refl;
      members = g;
      index = rw (e, f, g) h;
      last_stream = rw e refl;
      last_job = rw f refl;
    }
