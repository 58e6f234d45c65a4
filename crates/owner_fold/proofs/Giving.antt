-- Who was given a dependency of a kind, one entry further, and the entry that gives one.
use Rattle.std.proofs.Common.{[], ℕ, ◌+◌, ◌++◌, ◌<◌, ◌^◌, ◌≤◌, ◌∙◌, ◌∷◌, ◌≡◌, ◌⊎◌, Bool, List, Some, ap, arith}
use Rattle.std.proofs.Common.{cond, drop, false, inl, inr, length, map, refl, slice_get, subst, suc, sym, true, zero}
use Rattle.std.specs.List.{list_any}
use Rattle.std.specs.Option.{option_map_or}
use Rattle.std.specs.Prelude.{◌&&◌, ◌||◌}
use Rattle.lemmas.proofs.Booleans.{and_parts}
use Rattle.lemmas.proofs.Numbers.{number_tells}
use Rattle.grouped_places.specs.Codes.{code}
use Rattle.model.specs.Types.{AddDep, Added, Body, Dep, Entry, Events, Job, NewPlan, Obeyed, Obj, Outside, Stream, StreamDoc}
use Rattle.model.specs.Words.{firsts, has}
use Rattle.model.specs.Equalities.{obj_eq}
use Rattle.model.specs.History.{list_of}
use Rattle.model.specs.Catalogue.{StreamJob}
use Rattle.model.specs.Facts.{commands, obeyed_command}
use Rattle.model.specs.StepFaults.{is_outside}
use Rattle.owner_rows.proofs.Feeds.{feed_cases, list_with, list_without}
use Rattle.owner_rows.proofs.Further.{any_command_with}
use Rattle.owner_fold.specs.Given.{adds, given_job_by, given_stream_by, has_time, is_given}
use Rattle.owner_fold.specs.Numbers.{ArePlaces}
use Rattle.owner_fold.specs.Plans.{is_planning_body}
use Rattle.owner_fold.specs.Sets.{AreGivenAmong, HasGiven, KeepsGiven, change_by, job_station_of, station_of}
use Rattle.owner_fold.specs.declared.changes.Change.TheVariants.{FileGiven, NoChange, TimeGiven}
use Rattle.owner_fold.specs.declared.given_objects.GivenObjects.{GivenObjects}
use Rattle.owner_fold.specs.declared.numbers.Index.{Index}
use Rattle.owner_fold.proofs.Covering.{covers_more, covers_still, first_place}

-- the body gives the object such a dependency
abbrev pub gives : (Dep → Bool) → Obj → Body → Bool
gives test o b = option_map_or (adds test o) (obeyed_command b) false

given_before : (test : Dep → Bool) (o : Obj) (written : List Dep) (events : List Body) (b : Body)
    → is_given test o written (events ++ b ∷ []) ≡ true
    → (is_given test o written events ≡ true) ⊎ (gives test o b ≡ true)
given_before test o written events b h =
    go (list_any test written) (list_any (adds test o) (commands events)) (gives test o b)
    (sym (ap (λ (t : Bool). list_any test written || t) (any_command_with (adds test o) events b)) ∙ h)
  where
    go : (x y z : Bool) → (x || (y || z)) ≡ true → ((x || y) ≡ true) ⊎ (z ≡ true)
    go true y z k = inl refl
    go false true z k = inl refl
    go false false z k = inr k

plan_gives_none : (test : Dep → Bool) (o : Obj) (b : Body) → is_planning_body b ≡ true → gives test o b ≡ false
plan_gives_none test o (NewPlan run cut carried docs) h = refl
plan_gives_none test o (Added a k doc) h = refl
plan_gives_none test o b h = cc

same_object : (o p : Obj) → obj_eq o p ≡ true → o ≡ p
same_object (Stream s) (Stream t) h = ap Stream (number_tells s t h)
same_object (Job j) (Job k) h = ap Job (number_tells j k h)
same_object (Stream s) (Job k) h = cc
same_object (Job j) (Stream t) h = cc

-- one on a file has no time
no_time : (d : Dep) → is_outside d ≡ true → has_time d ≡ false
no_time (Outside path) h = refl
no_time d h = cc

-- such an entry is a change
pub time_change : (w : ℕ) (o : Obj) (b : Body) → gives has_time o b ≡ true → change_by w b ≡ TimeGiven w o
time_change w o (Obeyed a k (AddDep p d)) h =
    let t : (obj_eq o p ≡ true) × (has_time d ≡ true) = and_parts (obj_eq o p) (has_time d) h in
    ap (λ (b : Bool). cond b (TimeGiven w p) (cond (is_outside d) (FileGiven w p) NoChange)) t.1
    ∙ ap (λ (q : Obj). TimeGiven w q) (sym (same_object o p t.0))
time_change w o b h = cc

pub file_change : (w : ℕ) (o : Obj) (b : Body) → gives is_outside o b ≡ true → change_by w b ≡ FileGiven w o
file_change w o (Obeyed a k (AddDep p d)) h =
    let t : (obj_eq o p ≡ true) × (is_outside d ≡ true) = and_parts (obj_eq o p) (is_outside d) h in
    ap (λ (b : Bool). cond b (TimeGiven w p) (cond (is_outside d) (FileGiven w p) NoChange)) (no_time d t.1)
    ∙ ap (λ (b : Bool). cond b (FileGiven w p) NoChange) t.1
    ∙ ap (λ (q : Obj). FileGiven w q) (sym (same_object o p t.0))
file_change w o b h = cc

-- the events of a workstation, one entry further
pub at_feed : (kept : List Entry) (e : Entry) (w : ℕ) (P : List Body → Type 0)
    → (list_of (kept ++ e ∷ []) (Events w) ≡ list_of kept (Events w) → P (list_of kept (Events w)))
    → (Events w ≡ e.feed → P (list_of kept (Events w) ++ e.body ∷ [])) → P (list_of (kept ++ e ∷ []) (Events w))
at_feed kept e w P number_tells more =
    elim (feed_cases (Events w) e.feed) [
      | inl c ↦ subst P (sym (list_with kept e (Events w) c.0)) (more c.1)
      | inr c ↦ (
          let k : list_of (kept ++ e ∷ []) (Events w) ≡ list_of kept (Events w) = list_without kept e (Events w) c in
          subst P (sym k) (number_tells k))
    ]

-- who is given one by the entry has its place
pub record HasGivenPlaces (test : Dep → Bool) (e : Entry) (docs : List StreamDoc) (placed : List StreamJob)
    (given : GivenObjects) : Type 0 where
  pub streams : (i : ℕ) (d : StreamDoc) → slice_get docs i ≡ Some d → Events d.ws ≡ e.feed
      → gives test (Stream d.no) e.body ≡ true → (i < 2 ^ 32) × (has given.streams (code d.ws i) ≡ true)
  pub jobs : (i : ℕ) (p : StreamJob) → slice_get placed i ≡ Some p → Events p.doc.ws ≡ e.feed
      → gives test (Job p.doc.no) e.body ≡ true → (i < 2 ^ 32) × (has given.jobs (code p.doc.ws i) ≡ true)

pub given_still : (test : Dep → Bool) (kept : List Entry) (e : Entry) (ms : List ℕ) (streams : List StreamDoc)
    (placed : List StreamJob) (given : GivenObjects) → HasGivenPlaces test e streams placed given
    → AreGivenAmong test kept ms streams placed given → AreGivenAmong test (kept ++ e ∷ []) ms streams placed given
given_still test kept e ms streams placed given put h = record {
  streams =
      covers_still station_of (given_stream_by test ms kept) (given_stream_by test ms (kept ++ e ∷ [])) streams given.streams
      (λ i d s t. at_feed kept e d.ws
      (λ (l : List Body). (has ms d.no && is_given test (Stream d.no) d.deps l) ≡ true
      → ((has ms d.no && is_given test (Stream d.no) d.deps (list_of kept (Events d.ws))) ≡ true)
      ⊎ ((i < 2 ^ 32) × (has given.streams (code d.ws i) ≡ true)))
      (λ k u. inl u)
      (λ k u.
      let v : (has ms d.no ≡ true)
      × (is_given test (Stream d.no) d.deps (list_of kept (Events d.ws) ++ e.body ∷ []) ≡ true) =
      and_parts (has ms d.no) (is_given test (Stream d.no) d.deps (list_of kept (Events d.ws) ++ e.body ∷ [])) u in
      elim (given_before test (Stream d.no) d.deps (list_of kept (Events d.ws)) e.body v.1) [
        | inl x ↦ inl (λ j. v.0 j && x j)
        | inr x ↦ inr (put.streams i d s k x)
      ])
      t)
      h.streams;
  jobs =
      covers_still job_station_of (given_job_by test ms kept) (given_job_by test ms (kept ++ e ∷ [])) placed given.jobs
      (λ i p s t. at_feed kept e p.doc.ws
      (λ (l : List Body). (has ms p.parent.no && is_given test (Job p.doc.no) p.doc.deps l) ≡ true
      → ((has ms p.parent.no && is_given test (Job p.doc.no) p.doc.deps (list_of kept (Events p.doc.ws))) ≡ true)
      ⊎ ((i < 2 ^ 32) × (has given.jobs (code p.doc.ws i) ≡ true)))
      (λ k u. inl u)
      (λ k u.
      let v : (has ms p.parent.no ≡ true)
      × (is_given test (Job p.doc.no) p.doc.deps (list_of kept (Events p.doc.ws) ++ e.body ∷ []) ≡ true) =
      and_parts (has ms p.parent.no) (is_given test (Job p.doc.no) p.doc.deps (list_of kept (Events p.doc.ws) ++ e.body ∷ [])) u in
      elim (given_before test (Job p.doc.no) p.doc.deps (list_of kept (Events p.doc.ws)) e.body v.1) [
        | inl x ↦ inl (λ j. v.0 j && x j)
        | inr x ↦ inr (put.jobs i p s k x)
      ])
      t)
      h.jobs;
}

-- where it was put in
pub given_put : (test : Dep → Bool) (e : Entry) (docs : List StreamDoc) (all : List StreamJob) (given : GivenObjects)
    (index : Index) → ArePlaces (map (λ (d : StreamDoc). d.no) (firsts (λ (d : StreamDoc). d.no) [] docs)) index.streams
    → ArePlaces (map (λ (p : StreamJob). p.doc.no) (firsts (λ (p : StreamJob). p.doc.no) [] all)) index.jobs
    → ((w : ℕ) (o : Obj) → Events w ≡ e.feed → gives test o e.body ≡ true → HasGiven index w o given)
    → HasGivenPlaces test e (firsts (λ (d : StreamDoc). d.no) [] docs) (firsts (λ (p : StreamJob). p.doc.no) [] all) given
given_put test e docs all given index streams jobs put = record {
  streams =
      λ i d s f r.
      put d.ws (Stream d.no) f r (map (λ (d : StreamDoc). d.no) (firsts (λ (d : StreamDoc). d.no) [] docs)) streams i
      (first_place (λ (d : StreamDoc). d.no) [] docs i d s).1;
  jobs =
      λ i p s f r.
      put p.doc.ws (Job p.doc.no) f r (map (λ (p : StreamJob). p.doc.no) (firsts (λ (p : StreamJob). p.doc.no) [] all)) jobs
      i (first_place (λ (p : StreamJob). p.doc.no) [] all i p s).1;
}

-- a plan or an added stream gives none
pub given_none : (test : Dep → Bool) (e : Entry) (streams : List StreamDoc) (placed : List StreamJob)
    (given : GivenObjects) → is_planning_body e.body ≡ true → HasGivenPlaces test e streams placed given
given_none test e streams placed given h = record {
  streams = λ i d s f r. absurd (let q : true ≡ false = sym r ∙ plan_gives_none test (Stream d.no) e.body h in cc);
  jobs = λ i p s f r. absurd (let q : true ≡ false = sym r ∙ plan_gives_none test (Job p.doc.no) e.body h in cc);
}

-- those for whom room was made
pub given_kept : (test : Dep → Bool) (kept : List Entry) (ms : List ℕ) (streams : List StreamDoc)
    (placed : List StreamJob) (old new : GivenObjects) → KeepsGiven old new
    → AreGivenAmong test kept ms streams placed old → AreGivenAmong test kept ms streams placed new
given_kept test kept ms streams placed old new p h = record {
  streams = covers_more station_of (given_stream_by test ms kept) streams old.streams new.streams p.streams h.streams;
  jobs = covers_more job_station_of (given_job_by test ms kept) placed old.jobs new.jobs p.jobs h.jobs;
}

-- a walk over dependencies
pub any_from : {X : Type 0} (f : X → Bool) (xs : List X) (i : ℕ) → i < length xs
    → list_any f (drop i xs) ≡ (option_map_or f (slice_get xs i) false || list_any f (drop (i + 1) xs))
any_from f [] i h = absurd (omega (arith, h))
any_from f (x ∷ xs) zero h = refl
any_from f (x ∷ xs) (suc i) h =
    let next : suc i + 1 ≡ suc (i + 1) = omega arith in
    any_from f xs i (omega (arith, h))
    ∙ ap (λ (n : ℕ). option_map_or f (slice_get xs i) false || list_any f (drop n (x ∷ xs))) (sym next)

pub any_behind : {X : Type 0} (f : X → Bool) (xs : List X) (i : ℕ) → length xs ≤ i → list_any f (drop i xs) ≡ false
any_behind f [] zero h = refl
any_behind f [] (suc i) h = refl
any_behind f (x ∷ xs) zero h = absurd (omega (arith, h))
any_behind f (x ∷ xs) (suc i) h = any_behind f xs i (omega (arith, h))
