-- What one entry changes of whether a stream waits or is begun, and whether a job has an open launch.
use Rattle.std.proofs.Common.{[], ℕ, ◌&&◌, ◌++◌, ◌<◌, ◌^◌, ◌∙◌, ◌∷◌, ◌≡◌, ◌⊎◌, Bool, List, None, Option, Some, ap, false}
use Rattle.std.proofs.Common.{filter_map, inl, inr, is_none, is_some, map, not, option_and_then, refl, slice_get, subst, sym, true}
use Rattle.std.proofs.lemmas.Bool.Decides.{eqb_tells}
use Rattle.std.proofs.lemmas.List.Elements.{filter_map-append}
use Rattle.std.specs.Bool.{then_some}
use Rattle.std.specs.List.{list_any}
use Rattle.std.specs.Option.{option_or}
use Rattle.std.specs.Prelude.{◌||◌, option_map}
use Rattle.lemmas.proofs.Booleans.{and_false, and_parts, or_cases, or_made_left}
use Rattle.lemmas.proofs.Lists.{any_with}
use Rattle.grouped_places.specs.Codes.{code}
use Rattle.model.specs.Types.{Added, Body, Entry, Events}
use Rattle.model.specs.Types.{Launched, NewPlan, Obj, Released, Stream, StreamDoc}
use Rattle.model.specs.Equalities.{feed_eq}
use Rattle.model.specs.Words.{firsts, has}
use Rattle.model.specs.History.{list_of}
use Rattle.model.specs.Catalogue.{StreamJob}
use Rattle.model.specs.Facts.{LastLaunch, commands, end_of, first_end, is_cancel_of, is_cancelled, is_cancelling, is_end_of}
use Rattle.model.specs.Facts.{is_ended, is_launch_of, is_open, is_release_of, is_released, last_launch, launch_here}
use Rattle.model.specs.Facts.{open_launch}
use Rattle.model.specs.StepFaults.{is_outside}
use Rattle.owner_rows.proofs.Further.{any_command_with}
use Rattle.owner_rows.proofs.JobTelling.{last_launch_with, later_with}
use Rattle.owner_fold.specs.Given.{has_time}
use Rattle.owner_fold.specs.Numbers.{ArePlaces}
use Rattle.owner_fold.specs.Plans.{is_planning, is_planning_body}
use Rattle.owner_fold.specs.Sets.{AreSetsAmong, Begins, Prepared, began_by, change_by, change_in, is_begun, is_waiting}
use Rattle.owner_fold.specs.Sets.{job_station_of, job_stream_of, opened_by, station_of, waits_by}
use Rattle.owner_fold.specs.declared.changes.Change.{Change}
use Rattle.owner_fold.specs.declared.changes.Change.TheVariants.{JobChange, StreamChange}
use Rattle.owner_fold.specs.declared.numbers.Index.{Index}
use Rattle.owner_fold.specs.declared.sets.Sets.{Sets}
use Rattle.owner_fold.proofs.Covering.{covers_more, covers_still, first_place}
use Rattle.owner_fold.proofs.Holders.{launch_is_told}
use Rattle.owner_fold.proofs.Giving.{HasGivenPlaces, at_feed, file_change, given_kept, given_none, given_put, given_still}
use Rattle.owner_fold.proofs.Giving.{time_change}

-- neither of two that only come to hold
neither : (a c x y : Bool) → (a ≡ true → x ≡ true) → (c ≡ true → y ≡ true) → (not x && not y) ≡ true
    → (not a && not c) ≡ true
neither false false x y f g h = refl
neither true c x y f g h =
    let e : x ≡ true = f refl in
    absurd (let q : true ≡ false = sym h ∙ ap (λ t. not t && not y) e in cc)
neither false true x y f g h =
    let e : y ≡ true = g refl in
    absurd (let q : true ≡ false = sym h ∙ ap (λ t. not x && not t) e ∙ and_false (not x) in cc)

-- what holds stays so
released_stays : (s : ℕ) (events : List Body) (b : Body) → is_released s events ≡ true
    → is_released s (events ++ b ∷ []) ≡ true
unfolding is_released
released_stays s events b h =
    any_with (is_release_of s) events b ∙ or_made_left (list_any (is_release_of s) events) (is_release_of s b) h

ended_stays : (s : ℕ) (events : List Body) (b : Body) → is_ended s events ≡ true → is_ended s (events ++ b ∷ []) ≡ true
unfolding is_ended
ended_stays s events b h =
    any_with (is_end_of s) events b ∙ or_made_left (list_any (is_end_of s) events) (is_end_of s b) h

cancelled_stays : (o : Obj) (events : List Body) (b : Body) → is_cancelled o events ≡ true
    → is_cancelled o (events ++ b ∷ []) ≡ true
unfolding is_cancelled
cancelled_stays o events b h =
    (λ j. any_command_with (is_cancel_of o) events b j || any_with (is_cancelling o) events b j)
    ∙ go (list_any (is_cancel_of o) (commands events)) _ (list_any (is_cancelling o) events) (is_cancelling o b) h
  where
    go : (a x c y : Bool) → (a || c) ≡ true → ((a || x) || (c || y)) ≡ true
    go true x c y k = refl
    go false true c y k = refl
    go false false true y k = refl
    go false false false y k = cc

waiting_before : (s : ℕ) (events : List Body) (b : Body) → is_waiting s (events ++ b ∷ []) ≡ true
    → is_waiting s events ≡ true
waiting_before s events b h =
    neither (is_released s events) (is_cancelled (Stream s) events) (is_released s (events ++ b ∷ []))
    (is_cancelled (Stream s) (events ++ b ∷ [])) (released_stays s events b) (cancelled_stays (Stream s) events b) h

begun_before : (s : ℕ) (events : List Body) (b : Body) → is_begun s (events ++ b ∷ []) ≡ true
    → (is_begun s events ≡ true) ⊎ (is_release_of s b ≡ true)
unfolding is_released
begun_before s events b h =
    let k : (is_released s (events ++ b ∷ []) ≡ true)
    × ((not (is_ended s (events ++ b ∷ [])) && not (is_cancelled (Stream s) (events ++ b ∷ []))) ≡ true) =
    and_parts (is_released s (events ++ b ∷ []))
    (not (is_ended s (events ++ b ∷ [])) && not (is_cancelled (Stream s) (events ++ b ∷ []))) h in
    let l : (not (is_ended s events) && not (is_cancelled (Stream s) events)) ≡ true =
    neither (is_ended s events) (is_cancelled (Stream s) events) (is_ended s (events ++ b ∷ []))
    (is_cancelled (Stream s) (events ++ b ∷ [])) (ended_stays s events b) (cancelled_stays (Stream s) events b) k.1 in
    elim (or_cases (list_any (is_release_of s) events) (is_release_of s b) (sym (any_with (is_release_of s) events b) ∙ k.0)) [
      | inl e ↦ inl (λ j. e j && l j)
      | inr e ↦ inr e
    ]

first_none : {X Y : Type 0} (f : X → Option Y) (xs : List X) (x : X)
    → is_none (slice_get (filter_map f (xs ++ x ∷ [])) 0) ≡ true → is_none (slice_get (filter_map f xs) 0) ≡ true
first_none {X} {Y} f xs x h = go (filter_map f xs) (ap (λ (l : List Y). is_none (slice_get l 0)) (sym (filter_map-append f xs (x ∷ []))) ∙ h)
  where
    go : (ys : List Y) → is_none (slice_get (ys ++ filter_map f (x ∷ [])) 0) ≡ true → is_none (slice_get ys 0) ≡ true
    go [] k = refl
    go (y ∷ ys) k = k

opened_before : (j : ℕ) (events : List Body) (b : Body) → is_open j (events ++ b ∷ []) ≡ true
    → (is_open j events ≡ true) ⊎ (is_launch_of j b ≡ true)
unfolding is_open open_launch
opened_before j events b h =
    go (launch_here j b []) (last_launch j events) refl refl
    (ap (λ (o : Option LastLaunch). is_some (option_and_then (λ (l : LastLaunch). then_some (is_none (first_end j l.number l.later)) l.number) o))
    (sym (last_launch_with j events b)) ∙ h)
  where
    some_then : (t : Bool) (n : ℕ) → is_some (then_some t n) ≡ t
    some_then true n = refl
    some_then false n = refl

    go : (here old : Option LastLaunch) → launch_here j b [] ≡ here → last_launch j events ≡ old
        → is_some (option_and_then (λ (l : LastLaunch). then_some (is_none (first_end j l.number l.later)) l.number)
        (option_or here (option_map (later_with b) old))) ≡ true
        → (is_some (option_and_then (λ (l : LastLaunch). then_some (is_none (first_end j l.number l.later)) l.number)
        (last_launch j events)) ≡ true) ⊎ (is_launch_of j b ≡ true)
    go (Some l) old e f k = inr (launch_is_told j b [] l e)
    go None None e f k = cc
    go None (Some l) e f k =
        inl (rw f
        (some_then (is_none (first_end j l.number l.later)) l.number
        ∙ first_none (end_of j l.number) l.later b
        (sym (some_then (is_none (first_end j l.number (l.later ++ b ∷ []))) l.number) ∙ k)))

-- the sets, where who is released, launched or given a dependency has its place
pub sets_still : (kept : List Entry) (e : Entry) (ms : List ℕ) (streams : List StreamDoc) (placed : List StreamJob)
    (sets : Sets)
    → ((i : ℕ) (d : StreamDoc) → slice_get streams i ≡ Some d → Events d.ws ≡ e.feed → is_release_of d.no e.body ≡ true
    → (i < 2 ^ 32) × (has sets.begun (code d.ws i) ≡ true))
    → ((i : ℕ) (p : StreamJob) → slice_get placed i ≡ Some p → Events p.doc.ws ≡ e.feed
    → is_launch_of p.doc.no e.body ≡ true → (i < 2 ^ 32) × (has sets.opened (code p.doc.ws i) ≡ true))
    → HasGivenPlaces has_time e streams placed sets.timed → HasGivenPlaces is_outside e streams placed sets.filed
    → AreSetsAmong kept ms streams placed sets → AreSetsAmong (kept ++ e ∷ []) ms streams placed sets
sets_still kept e ms streams placed sets released launched timed filed h = record {
  waiting =
      covers_still station_of (waits_by kept) (waits_by (kept ++ e ∷ [])) streams sets.waiting
      (λ i d s t. inl (at_feed kept e d.ws (λ (l : List Body). is_waiting d.no l ≡ true → is_waiting d.no (list_of kept (Events d.ws)) ≡ true)
      (λ k u. u) (λ k u. waiting_before d.no (list_of kept (Events d.ws)) e.body u) t))
      h.waiting;
  begun =
      covers_still station_of (began_by kept) (began_by (kept ++ e ∷ [])) streams sets.begun
      (λ i d s t. at_feed kept e d.ws
      (λ (l : List Body). is_begun d.no l ≡ true → (is_begun d.no (list_of kept (Events d.ws)) ≡ true) ⊎ ((i < 2 ^ 32) × (has sets.begun (code d.ws i) ≡ true)))
      (λ k u. inl u)
      (λ k u. elim (begun_before d.no (list_of kept (Events d.ws)) e.body u) [ inl v ↦ inl v | inr v ↦ inr (released i d s k v) ])
      t)
      h.begun;
  opened =
      covers_still job_station_of (opened_by kept) (opened_by (kept ++ e ∷ [])) placed sets.opened
      (λ i p s t. at_feed kept e p.doc.ws
      (λ (l : List Body). is_open p.doc.no l ≡ true → (is_open p.doc.no (list_of kept (Events p.doc.ws)) ≡ true) ⊎ ((i < 2 ^ 32) × (has sets.opened (code p.doc.ws i) ≡ true)))
      (λ k u. inl u)
      (λ k u. elim (opened_before p.doc.no (list_of kept (Events p.doc.ws)) e.body u) [ inl v ↦ inl v | inr v ↦ inr (launched i p s k v) ])
      t)
      h.opened;
  by_stream = h.by_stream;
  timed = given_still has_time kept e ms streams placed sets.timed timed h.timed;
  filed = given_still is_outside kept e ms streams placed sets.filed filed h.filed;
}

-- a release and a launch are such changes
release_change : (w s : ℕ) (b : Body) → is_release_of s b ≡ true → change_by w b ≡ StreamChange w s true
release_change w s (Released t seen) h =
    elim (eqb_tells s t) [
      | inl c ↦ ap (λ n. StreamChange w n true) (sym c.1)
      | inr c ↦ absurd (let q : true ≡ false = sym h ∙ c.0 in cc)
    ]
release_change w s b h = cc

launch_change : (w j : ℕ) (b : Body) → is_launch_of j b ≡ true → change_by w b ≡ JobChange w j true
launch_change w j (Launched k n seen) h =
    elim (eqb_tells j k) [
      | inl c ↦ ap (λ n. JobChange w n true) (sym c.1)
      | inr c ↦ absurd (let q : true ≡ false = sym h ∙ c.0 in cc)
    ]
launch_change w j b h = cc

-- the sets after an entry for whom they were prepared
pub sets_with : (kept : List Entry) (e : Entry) (ms : List ℕ) (docs : List StreamDoc) (all : List StreamJob)
    (sets : Sets) (index : Index) (change_ : Change) → change_ ≡ change_in e.body e.feed
    → ArePlaces (map (λ (d : StreamDoc). d.no) (firsts (λ (d : StreamDoc). d.no) [] docs)) index.streams
    → ArePlaces (map (λ (p : StreamJob). p.doc.no) (firsts (λ (p : StreamJob). p.doc.no) [] all)) index.jobs
    → Begins index change_ sets → AreSetsAmong kept ms (firsts (λ (d : StreamDoc). d.no) [] docs) (firsts (λ (p : StreamJob). p.doc.no) [] all) sets
    → AreSetsAmong (kept ++ e ∷ []) ms (firsts (λ (d : StreamDoc). d.no) [] docs) (firsts (λ (p : StreamJob). p.doc.no) [] all) sets
sets_with kept e ms docs all sets index change_ one streams jobs begins h =
    sets_still kept e ms (firsts (λ (d : StreamDoc). d.no) [] docs) (firsts (λ (p : StreamJob). p.doc.no) [] all) sets
    (λ i d s f r.
    let b : Begins index (StreamChange d.ws d.no true) sets =
    subst (λ (c : Change). Begins index c sets)
    (one ∙ ap (change_in e.body) (sym f) ∙ release_change d.ws d.no e.body r) begins in
    b refl (map (λ (d : StreamDoc). d.no) (firsts (λ (d : StreamDoc). d.no) [] docs)) streams i (first_place (λ (d : StreamDoc). d.no) [] docs i d s).1)
    (λ i p s f r.
    let b : Begins index (JobChange p.doc.ws p.doc.no true) sets =
    subst (λ (c : Change). Begins index c sets)
    (one ∙ ap (change_in e.body) (sym f) ∙ launch_change p.doc.ws p.doc.no e.body r) begins in
    b refl (map (λ (p : StreamJob). p.doc.no) (firsts (λ (p : StreamJob). p.doc.no) [] all)) jobs i (first_place (λ (p : StreamJob). p.doc.no) [] all i p s).1)
    (given_put has_time e docs all sets.timed index streams jobs
    (λ w o f r.
    subst (λ (c : Change). Begins index c sets) (one ∙ ap (change_in e.body) (sym f) ∙ time_change w o e.body r) begins))
    (given_put is_outside e docs all sets.filed index streams jobs
    (λ w o f r.
    subst (λ (c : Change). Begins index c sets) (one ∙ ap (change_in e.body) (sym f) ∙ file_change w o e.body r) begins))
    h

no_release : (s : ℕ) (b : Body) → is_planning_body b ≡ true → is_release_of s b ≡ false
no_release s (NewPlan run cut carried docs) h = refl
no_release s (Added a k doc) h = refl
no_release s b h = cc

no_launch : (j : ℕ) (b : Body) → is_planning_body b ≡ true → is_launch_of j b ≡ false
no_launch j (NewPlan run cut carried docs) h = refl
no_launch j (Added a k doc) h = refl
no_launch j b h = cc

-- a plan or an added stream releases and launches nothing, and gives no dependency to what is there
pub sets_planned : (kept : List Entry) (e : Entry) (ms : List ℕ) (streams : List StreamDoc) (placed : List StreamJob)
    (sets : Sets) → is_planning e ≡ true → AreSetsAmong kept ms streams placed sets
    → AreSetsAmong (kept ++ e ∷ []) ms streams placed sets
sets_planned kept e ms streams placed sets h =
    let k : is_planning_body e.body ≡ true = (and_parts (feed_eq (Events 0) e.feed) (is_planning_body e.body) h).1 in
    sets_still kept e ms streams placed sets
    (λ i d s f r. absurd (let q : true ≡ false = sym r ∙ no_release d.no e.body k in cc))
    (λ i p s f r. absurd (let q : true ≡ false = sym r ∙ no_launch p.doc.no e.body k in cc))
    (given_none has_time e streams placed sets.timed k) (given_none is_outside e streams placed sets.filed k)

-- the sets of what is prepared
pub sets_prepared : (kept : List Entry) (ms : List ℕ) (streams : List StreamDoc) (placed : List StreamJob)
    (old new : Sets) → Prepared old new → AreSetsAmong kept ms streams placed old → AreSetsAmong kept ms streams placed new
sets_prepared kept ms streams placed old new p h = record {
  waiting =
      covers_more station_of (waits_by kept) streams old.waiting new.waiting
      (λ c k. ap (λ (l : List ℕ). has l c) p.waiting ∙ k) h.waiting;
  begun = covers_more station_of (began_by kept) streams old.begun new.begun p.begun h.begun;
  opened = covers_more job_station_of (opened_by kept) placed old.opened new.opened p.opened h.opened;
  by_stream =
      covers_more job_stream_of (λ x. true) placed old.by_stream new.by_stream
      (λ c k. ap (λ (l : List ℕ). has l c) p.by_stream ∙ k) h.by_stream;
  timed = given_kept has_time kept ms streams placed old.timed new.timed p.timed h.timed;
  filed = given_kept is_outside kept ms streams placed old.filed new.filed p.filed h.filed;
}
