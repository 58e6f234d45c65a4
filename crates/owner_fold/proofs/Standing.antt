-- Places stand for the items that they find: one further, in a longer list of entries, and all that they find.
use Rattle.std.proofs.Common.{[], ℕ, ◌+◌, ◌++◌, ◌∙◌, ◌∷◌, ◌≡◌, List, None, Option, Some, ap, append_assoc}
use Rattle.std.proofs.Common.{cond, false, filter_map, flat_map}
use Rattle.std.proofs.Common.{length, map, option_and_then, option_map, refl, slice_get, subst, sym, take, true}
use Rattle.std.proofs.lemmas.Grind.{flat_map-append}
use Rattle.std.proofs.lemmas.List.{append-nil, map-append}
use Rattle.lemmas.proofs.Lists.{get_in_front, get_last, take_further}
use Rattle.model.specs.Types.{Entry, JobDoc, StreamDoc}
use Rattle.model.specs.Words.{firsts, has}
use Rattle.model.specs.Catalogue.{StreamJob, docs_in, jobs_in}
use Rattle.owner_fold.specs.DocPlaces.{AreJobPlaces, AreDocPlacesOf, AreStreamPlaces, Stand, doc_at, first_docs_among}
use Rattle.owner_fold.specs.DocPlaces.{first_jobs_among}
use Rattle.owner_fold.specs.DocPlaces.{job_at, stream_job}
use Rattle.owner_fold.specs.declared.doc_places.StreamPlace.{StreamPlace}
use Rattle.owner_fold.specs.declared.doc_places.JobPlace.{JobPlace}
use Rattle.owner_fold.specs.declared.doc_places.DocPlaces.{DocPlaces}
use Rattle.owner_fold.proofs.Firsts.{firsts_further}

-- an item whose number is there does not count
first_known : {S X : Type 0} (place_number : S → ℕ) (number : X → ℕ) (doc_places : List S) (xs : List X) (x : X)
    → map place_number doc_places ≡ map number (firsts number [] xs) → has (map place_number doc_places) (number x) ≡ true
    → firsts number [] (xs ++ x ∷ []) ≡ firsts number [] xs
first_known {S} {X} place_number number doc_places xs x same k =
    firsts_further number [] xs x
    ∙ ap (λ b. cond b (firsts number [] xs) (firsts number [] xs ++ x ∷ []))
    (ap (λ (l : List ℕ). has l (number x)) (sym same) ∙ k)

-- another one does
first_new : {S X : Type 0} (place_number : S → ℕ) (number : X → ℕ) (doc_places : List S) (xs : List X) (x : X)
    → map place_number doc_places ≡ map number (firsts number [] xs) → has (map place_number doc_places) (number x) ≡ false
    → firsts number [] (xs ++ x ∷ []) ≡ firsts number [] xs ++ x ∷ []
first_new {S} {X} place_number number doc_places xs x same k =
    firsts_further number [] xs x
    ∙ ap (λ b. cond b (firsts number [] xs) (firsts number [] xs ++ x ∷ []))
    (ap (λ (l : List ℕ). has l (number x)) (sym same) ∙ k)

pub stand_known : {S X : Type 0} (f : S → Option X) (place_number : S → ℕ) (number : X → ℕ) (doc_places : List S)
    (xs : List X) (x : X) → Stand f place_number number doc_places (firsts number [] xs)
    → has (map place_number doc_places) (number x) ≡ true → Stand f place_number number doc_places (firsts number [] (xs ++ x ∷ []))
stand_known {S} {X} f place_number number doc_places xs x h k =
    let e : firsts number [] xs ≡ firsts number [] (xs ++ x ∷ []) =
    sym (first_known place_number number doc_places xs x h.1 k)
    in
    (h.0 ∙ ap (λ (l : List X). map Some l) e, h.1 ∙ ap (λ (l : List X). map number l) e)

-- one more place for one more item
stand_more : {S X : Type 0} (f : S → Option X) (place_number : S → ℕ) (number : X → ℕ) (doc_places : List S)
    (items : List X) (p : S) (x : X) → Stand f place_number number doc_places items → f p ≡ Some x
    → place_number p ≡ number x → Stand f place_number number (doc_places ++ p ∷ []) (items ++ x ∷ [])
stand_more {S} {X} f place_number number doc_places items p x h found same = (
  map-append f doc_places (p ∷ []) ∙ (rw (h.0, found) (sym (map-append Some items (x ∷ [])))),
  map-append place_number doc_places (p ∷ []) ∙ (rw (h.1, same) (sym (map-append number items (x ∷ [])))),
)

pub stand_new : {S X : Type 0} (f : S → Option X) (place_number : S → ℕ) (number : X → ℕ) (doc_places : List S)
    (xs : List X) (p : S) (x : X) → Stand f place_number number doc_places (firsts number [] xs)
    → has (map place_number doc_places) (number x) ≡ false → f p ≡ Some x → place_number p ≡ number x
    → Stand f place_number number (doc_places ++ p ∷ []) (firsts number [] (xs ++ x ∷ []))
stand_new {S} {X} f place_number number doc_places xs p x h k found same =
    subst (λ (l : List X). Stand f place_number number (doc_places ++ p ∷ []) l)
    (sym (first_new place_number number doc_places xs x h.1 k))
    (stand_more f place_number number doc_places (firsts number [] xs) p x h found same)

-- places find the same where more is found
pub stand_later : {S X : Type 0} (f g : S → Option X) (doc_places : List S) (xs : List X)
    → ((p : S) (x : X) → f p ≡ Some x → g p ≡ Some x) → map f doc_places ≡ map Some xs → map g doc_places ≡ map Some xs
stand_later f g [] [] grows h = refl
stand_later f g [] (x ∷ xs) grows h = cc
stand_later f g (p ∷ ps) [] grows h = cc
stand_later {S} {X} f g (p ∷ ps) (x ∷ xs) grows h =
    let here : f p ≡ Some x = cc in
    let there : map f ps ≡ map Some xs = cc in
    rw (grows p x here, stand_later f g ps xs grows there) refl

-- what the places find, one after the other
pub found_in_order : {S X : Type 0} (f : S → Option X) (doc_places : List S) (xs : List X) → map f doc_places ≡ map Some xs
    → filter_map f doc_places ≡ xs
found_in_order f [] [] h = refl
found_in_order f [] (x ∷ xs) h = cc
found_in_order f (p ∷ ps) [] h = cc
found_in_order {S} {X} f (p ∷ ps) (x ∷ xs) h =
    let here : f p ≡ Some x = cc in
    let there : map f ps ≡ map Some xs = cc in
    rw (here, found_in_order f ps xs there) refl

pub doc_later : (kept more : List Entry) (p : StreamPlace) (d : StreamDoc) → doc_at kept p ≡ Some d
    → doc_at (kept ++ more) p ≡ Some d
doc_later kept more p d h = go (slice_get kept p.entry) refl h
  where
    go : (o : Option Entry) → slice_get kept p.entry ≡ o
        → option_and_then (λ (e : Entry). slice_get (docs_in e.body) p.doc) o ≡ Some d
        → doc_at (kept ++ more) p ≡ Some d
    go None e k = cc
    go (Some x) e k = rw (get_in_front kept more p.entry x e) k

pub job_later : (kept more : List Entry) (p : JobPlace) (x : StreamJob) → job_at kept p ≡ Some x
    → job_at (kept ++ more) p ≡ Some x
job_later kept more p x h = go (doc_at kept p.stream) refl h
  where
    go : (o : Option StreamDoc) → doc_at kept p.stream ≡ o
        → option_and_then (λ (d : StreamDoc). option_map (stream_job d) (slice_get d.jobs p.job)) o ≡ Some x
        → job_at (kept ++ more) p ≡ Some x
    go None e k = cc
    go (Some d) e k = rw (doc_later kept more p.stream d e) k

pub streams_later : (kept more : List Entry) (doc_places : List StreamPlace) (docs : List StreamDoc)
    → AreStreamPlaces kept doc_places docs → AreStreamPlaces (kept ++ more) doc_places docs
streams_later kept more doc_places docs h =
    (stand_later (doc_at kept) (doc_at (kept ++ more)) doc_places docs (doc_later kept more) h.0, h.1)

pub jobs_later : (kept more : List Entry) (doc_places : List JobPlace) (placed : List StreamJob)
    → AreJobPlaces kept doc_places placed → AreJobPlaces (kept ++ more) doc_places placed
jobs_later kept more doc_places placed h =
    (stand_later (job_at kept) (job_at (kept ++ more)) doc_places placed (job_later kept more) h.0, h.1)

-- a document whose number is there leaves the places as they are
pub add_known : (kept : List Entry) (docs : List StreamDoc) (doc_places : DocPlaces) (d : StreamDoc)
    → AreDocPlacesOf kept docs doc_places → has (map (λ (p : StreamPlace). p.number) doc_places.streams) d.no ≡ true
    → AreDocPlacesOf kept (docs ++ d ∷ []) doc_places
add_known kept docs doc_places d h k =
    record {
      streams =
          stand_known (doc_at kept) (λ (p : StreamPlace). p.number) (λ (d : StreamDoc). d.no) doc_places.streams docs d
          h.streams k;
      jobs =
          subst (λ (l : List StreamDoc). AreJobPlaces kept doc_places.jobs (first_jobs_among (flat_map jobs_in l)))
          (sym (first_known (λ (p : StreamPlace). p.number) (λ (d : StreamDoc). d.no) doc_places.streams docs d
          h.streams.1 k)) h.jobs;
    }

-- the jobs of one more document
one_more_doc : (docs : List StreamDoc) (d : StreamDoc)
    → flat_map jobs_in (docs ++ d ∷ []) ≡ flat_map jobs_in docs ++ jobs_in d
one_more_doc docs d =
    flat_map-append jobs_in docs (d ∷ [])
    ∙ ap (λ (l : List StreamJob). flat_map jobs_in docs ++ l) (append-nil (jobs_in d))

-- another document has a place, and its jobs have theirs
pub add_new : (kept : List Entry) (docs : List StreamDoc) (old new : DocPlaces) (p : StreamPlace) (d : StreamDoc)
    → AreDocPlacesOf kept docs old → has (map (λ (p : StreamPlace). p.number) old.streams) d.no ≡ false
    → doc_at kept p ≡ Some d → p.number ≡ d.no → new.streams ≡ old.streams ++ p ∷ []
    → ((known : List StreamJob) → AreJobPlaces kept old.jobs (first_jobs_among known)
    → AreJobPlaces kept new.jobs (first_jobs_among (known ++ jobs_in d)))
    → AreDocPlacesOf kept (docs ++ d ∷ []) new
add_new kept docs old new p d h k found same grown jobs_grown =
    record {
      streams =
          subst (λ (l : List StreamPlace). AreStreamPlaces kept l (first_docs_among (docs ++ d ∷ []))) (sym grown)
          (stand_new (doc_at kept) (λ (p : StreamPlace). p.number) (λ (d : StreamDoc). d.no) old.streams docs p d
          h.streams k found same);
      jobs =
          subst (λ (l : List StreamDoc). AreJobPlaces kept new.jobs (first_jobs_among (flat_map jobs_in l)))
          (sym (first_new (λ (p : StreamPlace). p.number) (λ (d : StreamDoc). d.no) old.streams docs d
          h.streams.1 k))
          (subst (λ (l : List StreamJob). AreJobPlaces kept new.jobs (first_jobs_among l))
          (sym (one_more_doc (first_docs_among docs) d))
          (jobs_grown (flat_map jobs_in (first_docs_among docs)) h.jobs));
    }

-- a longer list of entries has the same places
pub places_later : (kept more : List Entry) (docs : List StreamDoc) (doc_places : DocPlaces) → AreDocPlacesOf kept docs doc_places
    → AreDocPlacesOf (kept ++ more) docs doc_places
places_later kept more docs doc_places h =
    record {
      streams = streams_later kept more doc_places.streams (first_docs_among docs) h.streams;
      jobs = jobs_later kept more doc_places.jobs (first_jobs_among (flat_map jobs_in (first_docs_among docs))) h.jobs;
    }

-- a document of the last entry
pub last_doc : (kept : List Entry) (e : Entry) (i n : ℕ) (d : StreamDoc) → slice_get (docs_in e.body) i ≡ Some d
    → doc_at (kept ++ e ∷ []) (record { number = n; entry = length kept; doc = i }) ≡ Some d
last_doc kept e i n d h = rw (get_last kept e) h

-- a job of a document that stands there
pub job_of_doc : (kept : List Entry) (p : StreamPlace) (d : StreamDoc) (i n : ℕ) (j : JobDoc) → doc_at kept p ≡ Some d
    → slice_get d.jobs i ≡ Some j → job_at kept (record { number = n; stream = p; job = i }) ≡ Some (stream_job d j)
job_of_doc kept p d i n j h k = rw (h, k) refl

-- what is known, one item further
pub known_further : {X Y : Type 0} (f : X → Y) (known : List Y) (xs : List X) (i : ℕ) (x : X)
    → slice_get xs i ≡ Some x → known ++ map f (take (i + 1) xs) ≡ (known ++ map f (take i xs)) ++ f x ∷ []
known_further {X} {Y} f known xs i x h =
    ap (λ (l : List X). known ++ map f l) (take_further xs i x h)
    ∙ ap (λ (l : List Y). known ++ l) (map-append f (take i xs) (x ∷ []))
    ∙ sym (append_assoc known (map f (take i xs)) (f x ∷ []))

-- copies of the places, where another entry comes
pub places_copied : (kept more : List Entry) (docs : List StreamDoc) (doc_places : DocPlaces) (streams : List StreamPlace)
    (jobs : List JobPlace) → AreDocPlacesOf kept docs doc_places → streams ≡ doc_places.streams → jobs ≡ doc_places.jobs
    → AreDocPlacesOf (kept ++ more) (docs ++ []) (record { streams = streams; jobs = jobs })
places_copied kept more docs doc_places streams jobs h e f =
    rw (append-nil docs, e, f) (places_later kept more docs doc_places h)
