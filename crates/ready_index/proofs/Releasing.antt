-- Which streams wait for their release, one stream and one entry further.
use Rattle.std.proofs.Common.{[], ℕ, ◌++◌, ◌+◌, ◌<◌, ◌∙◌, ◌∷◌, ◌≡◌, ◌≢◌, ◌⊎◌, Bool, List, None, Option, Some, add-one}
use Rattle.std.proofs.Common.{ap, drop, drop-cons, false, filter, find, get_or, inl, inr, length, map, refl, subst, sym, true}
use Rattle.std.proofs.lemmas.List.Folds.{list_any-append}
use Rattle.std.specs.List.{list_any}
use Rattle.std.specs.Option.{option_map_or}
use Rattle.std.specs.Prelude.{◌&&◌, ◌==◌, ◌||◌, not}
use Rattle.model_laws.proofs.Decisions.{stream_number}
use Rattle.model.specs.Types.{Body, Entry, Events, Net, Stream, StreamDoc}
use Rattle.model.specs.Words.{insert_once, least}
use Rattle.model.specs.History.{View, list_of, view_of}
use Rattle.model.specs.Catalogue.{catalogue, is_member, stream, streams_of}
use Rattle.model.specs.Dependencies.{all_satisfied}
use Rattle.model.specs.Facts.{is_cancelled, is_release_of, is_released}
use Rattle.model.specs.OwnMembers.{may_release, may_release_in, own_numbers}
use Rattle.owner_fold.specs.Sets.{is_waiting}
use Rattle.dependencies.specs.Planned.{IsPlannedStream}
use Rattle.ready_index.specs.declared.changes.Change.{Change}
use Rattle.ready_index.specs.declared.changes.Change.TheVariants.{At as Comes, Everything, Launch, Nothing}
use Rattle.ready_index.specs.declared.releases.Releases.{Releases}
use Rattle.ready_index.specs.declared.targets.Target.{Target}
use Rattle.ready_index.specs.declared.watches.Watches.{Watches}
use Rattle.ready_index.specs.Awaited.{held_back_by}
use Rattle.ready_index.specs.Changes.{change_by}
use Rattle.ready_index.specs.Lists.{Among, InOrder, without}
use Rattle.ready_index.specs.Releases.{IsStreamKnown, IsStreamLookedAt, IsStreamWatching, KnowsWaiting, KnowsWaitingBut}
use Rattle.ready_index.specs.Releases.{waits_here, waits_in}
use Rattle.ready_index.specs.Watched.{AddsOne, TakesAll, waiting_for}
use Rattle.ready_index.proofs.Bests.{held, held_by_none}
use Rattle.ready_index.proofs.Elements.{at_end, filter_keeps, found_among, map_among, put_here, put_keeps, without_keeps}
use Rattle.ready_index.proofs.Further.{before, cancelled_stays, fact_before, held_back_then, member_stays, stream_stays}
use Rattle.ready_index.proofs.Further.{with_it}
use Rattle.ready_index.proofs.Lowests.{first_lowest, not_or_left, own_among}
use Rattle.ready_index.proofs.Quiet.{IsSmall}
use Rattle.ready_index.proofs.Standings.{left_by, still_watched, target_cases}

-- a stream that waits, by its document
pub record WaitsBy (V : View) (w s : ℕ) : Type 0 where
  pub doc : StreamDoc
  pub found : stream V s ≡ Some doc
  pub number : doc.no ≡ s
  pub waits : waits_in V w doc ≡ true

pub waits_by : (V : View) (w s : ℕ) → waits_here V w s ≡ true → WaitsBy V w s
unfolding waits_here
waits_by V w s h = go (stream V s) refl h
  where
    go : (o : Option StreamDoc) → stream V s ≡ o → option_map_or (waits_in V w) o false ≡ true → WaitsBy V w s
    go None e k = cc
    go (Some d) e k = record { doc = d; found = e; number = stream_number V s d e; waits = k }

-- a planned stream waits by its document
pub waits_planned : (V : View) (w : ℕ) (d : StreamDoc) → IsPlannedStream V d → waits_here V w d.no ≡ waits_in V w d
unfolding waits_here
waits_planned V w d planned = ap (λ (o : Option StreamDoc). option_map_or (waits_in V w) o false) planned.found

-- one that is not there waits for nothing
pub none_waits_here : (V : View) (w s : ℕ) → stream V s ≡ None → waits_here V w s ≡ false
unfolding waits_here
none_waits_here V w s none = ap (λ (o : Option StreamDoc). option_map_or (waits_in V w) o false) none

-- what is known stays known where nobody gets lost
known_then : (V : View) (s : ℕ) (old new : Releases)
    → ((n : ℕ) → Among n old.candidates → Among n new.candidates)
    → ((t : Target) (n : ℕ) → Among n (waiting_for old.watches t) → Among n (waiting_for new.watches t))
    → IsStreamKnown V old s → IsStreamKnown V new s
known_then V s old new candidates watches (inl k) = inl (candidates s k)
known_then V s old new candidates watches (inr k) =
    inr (record { target = k.target; watching = watches k.target s k.watching; holds = k.holds })

-- one stream less is left to be looked at
pub stream_less : (V : View) (w number : ℕ) (numbers : List ℕ) (old new : Releases)
    → IsStreamLookedAt V w number old new → KnowsWaitingBut V w (number ∷ numbers) old
    → KnowsWaitingBut V w numbers new
stream_less V w number numbers old new look knows = record { known = λ s h. go s h (knows.known s h) }
  where
    go : (s : ℕ) → waits_here V w s ≡ true → IsStreamKnown V old s ⊎ Among s (number ∷ numbers)
        → IsStreamKnown V new s ⊎ Among s numbers
    go s h (inl k) = inl (known_then V s old new look.candidates look.watches k)
    go s h (inr (inl e)) =
        inl (subst (λ (n : ℕ). IsStreamKnown V new n) (sym e)
        (look.known (subst (λ (n : ℕ). waits_here V w n ≡ true) e h)))
    go s h (inr (inr k)) = inr k

-- one of a list of numbers is looked at
pub stream_further : (V : View) (w : ℕ) (numbers : List ℕ) (i : ℕ) (old new : Releases) → i < length numbers
    → IsStreamLookedAt V w (get_or numbers i 0) old new → KnowsWaitingBut V w (drop i numbers) old
    → KnowsWaitingBut V w (drop (i + 1) numbers) new
stream_further V w numbers i old new within look knows =
    stream_less V w (get_or numbers i 0) (drop (i + 1) numbers) old new look
    (subst (λ (l : List ℕ). KnowsWaitingBut V w l old) next knows)
  where
    next : drop i numbers ≡ get_or numbers i 0 ∷ drop (i + 1) numbers
    next = rw (add-one, drop-cons numbers i 0) refl

-- a stream that does not wait need not be looked at
pub not_waiting : (V : View) (w number : ℕ) (releases : Releases) → waits_here V w number ≡ false
    → IsStreamLookedAt V w number releases releases
not_waiting V w number releases none = record {
  candidates = λ s h. h;
  watches = λ t s h. h;
  known = λ h. absurd (clash h);
}
  where
    clash : waits_here V w number ≡ true → ⊥
    clash h = cc

-- a stream becomes a candidate
pub stream_added : (V : View) (w number : ℕ) (old : Releases) (candidates : List ℕ)
    → candidates ≡ insert_once number old.candidates
    → IsStreamLookedAt V w number old (record { candidates = candidates; watches = old.watches })
stream_added V w number old candidates grown = record {
  candidates = λ s h. rw grown (put_keeps number s old.candidates h);
  watches = λ t s h. h;
  known = λ h. inl (rw grown (put_here number old.candidates));
}

-- a stream watches something
pub stream_watches : (V : View) (w number : ℕ) (t : Target) (old : Releases) (watches : Watches)
    → Among t (held_back_by V (Stream number)) → AddsOne old.watches watches t number
    → IsStreamLookedAt V w number old (record { candidates = old.candidates; watches = watches })
stream_watches V w number t old watches holds added = record {
  candidates = λ s h. h;
  watches = still_watched t number old.watches watches added;
  known = λ h.
      inr (record { target = t; watching = rw added.here (at_end (waiting_for old.watches t) number); holds = holds });
}

-- who watches something is left to be looked at
pub streams_taken : (V : View) (w : ℕ) (t : Target) (numbers : List ℕ) (old : Releases) (watches : Watches)
    → TakesAll old.watches watches t numbers → KnowsWaitingBut V w (waiting_for old.watches t) old
    → KnowsWaitingBut V w numbers (record { candidates = old.candidates; watches = watches })
streams_taken V w t numbers old watches taken knows = record { known = λ s h. go s (knows.known s h) }
  where
    pending : (s : ℕ) → Among s (waiting_for old.watches t) → Among s numbers
    pending s h = rw taken.taken h

    watching : (s : ℕ) (k : IsStreamWatching V old.watches s) → (k.target ≡ t) ⊎ (k.target ≢ t)
        → IsStreamKnown V (record { candidates = old.candidates; watches = watches }) s ⊎ Among s numbers
    watching s k (inl e) =
        inr (pending s (subst (λ (u : Target). Among s (waiting_for old.watches u)) e k.watching))
    watching s k (inr e) =
        inl (inr (record { target = k.target; watching = rw (taken.others k.target e) k.watching; holds = k.holds }))

    go : (s : ℕ) → IsStreamKnown V old s ⊎ Among s (waiting_for old.watches t)
        → IsStreamKnown V (record { candidates = old.candidates; watches = watches }) s ⊎ Among s numbers
    go s (inl (inl k)) = inl (inl k)
    go s (inl (inr k)) = watching s k (target_cases k.target t)
    go s (inr h) = inr (pending s h)

-- a stream that does not wait any more goes
pub stream_settled : (V : View) (w number : ℕ) (old : Releases) (candidates : List ℕ) → waits_here V w number ≡ false
    → candidates ≡ without number old.candidates → KnowsWaiting V w old
    → KnowsWaiting V w (record { candidates = candidates; watches = old.watches })
stream_settled V w number old candidates none less knows = record { known = λ s h. go s h (knows.known s h) }
  where
    apart : (s : ℕ) → waits_here V w s ≡ true → s ≡ number → ⊥
    apart s h e = let t : waits_here V w number ≡ true = subst (λ (n : ℕ). waits_here V w n ≡ true) e h in cc

    go : (s : ℕ) → waits_here V w s ≡ true → IsStreamKnown V old s ⊎ Among s []
        → IsStreamKnown V (record { candidates = candidates; watches = old.watches }) s ⊎ Among s []
    go s h (inl (inl k)) = inl (inl (rw less (without_keeps number s old.candidates k (apart s h))))
    go s h (inl (inr k)) = inl (inr k)
    go s h (inr k) = absurd k

-- the numbers of these streams
abbrev pub numbers_in : List StreamDoc → List ℕ
numbers_in left = map (λ (d : StreamDoc). d.no) left

-- before the walk over the streams that wait
pub streams_left : (V : View) (w : ℕ) (left : List StreamDoc) (releases : Releases)
    → left ≡ filter (λ (d : StreamDoc). is_waiting d.no (V (Events w))) (streams_of V w)
    → KnowsWaitingBut V w (numbers_in left) releases
unfolding streams_of stream
streams_left V w left releases e = record { known = λ s h. inr (here s (waits_by V w s h)) }
  where
    here : (s : ℕ) → WaitsBy V w s → Among s (numbers_in left)
    here s by =
        let conditions = (by.doc.ws == w)
        ∷ is_member V by.doc.no
        ∷ not (is_released by.doc.no (V (Events w)))
        ∷ not (is_cancelled (Stream by.doc.no) (V (Events w)))
        ∷ [] in
        let there : Among by.doc (catalogue V) =
        found_among (λ (d : StreamDoc). d.no == s) (catalogue V) by.doc by.found in
        let owned : Among by.doc (filter (λ (d : StreamDoc). d.ws == w) (catalogue V)) =
        filter_keeps (λ (d : StreamDoc). d.ws == w) (catalogue V) by.doc there
        (held conditions 0 (by.doc.ws == w) by.waits refl) in
        let unreleased : not (is_released by.doc.no (V (Events w))) ≡ true =
        held conditions 2 (not (is_released by.doc.no (V (Events w)))) by.waits refl in
        let running : not (is_cancelled (Stream by.doc.no) (V (Events w))) ≡ true =
        held conditions 3 (not (is_cancelled (Stream by.doc.no) (V (Events w)))) by.waits refl in
        let waiting : is_waiting by.doc.no (V (Events w)) ≡ true = rw (unreleased, running) refl in
        let among : Among by.doc left =
        subst (λ (l : List StreamDoc). Among by.doc l) (sym e)
        (filter_keeps (λ (d : StreamDoc). is_waiting d.no (V (Events w)))
        (filter (λ (d : StreamDoc). d.ws == w) (catalogue V)) by.doc owned waiting) in
        subst (λ (n : ℕ). Among n (numbers_in left)) by.number
        (map_among (λ (d : StreamDoc). d.no) left by.doc among)

-- nothing is left
pub streams_end : (V : View) (w : ℕ) (left : List StreamDoc) (releases : Releases) → left ≡ []
    → KnowsWaitingBut V w (numbers_in left) releases → KnowsWaiting V w releases
streams_end V w left releases e h = subst (λ (l : List StreamDoc). KnowsWaitingBut V w (numbers_in l) releases) e h

-- no stream waits by no entries
pub none_waits : (w : ℕ) (releases : Releases) → KnowsWaiting (view_of []) w releases
unfolding waits_here stream catalogue list_of
none_waits w releases = record { known = λ s h. cc }

-- a stream that may be released, by its document
pub record ReleasesBy (net : Net) (V : View) (w s : ℕ) : Type 0 where
  pub doc : StreamDoc
  pub found : stream V s ≡ Some doc
  pub number : doc.no ≡ s
  pub releases : may_release_in net V w doc ≡ true

releases_by : (net : Net) (V : View) (w s : ℕ) → may_release net V w s ≡ true → ReleasesBy net V w s
unfolding may_release
releases_by net V w s h = go (stream V s) refl h
  where
    go : (o : Option StreamDoc) → stream V s ≡ o → option_map_or (may_release_in net V w) o false ≡ true
        → ReleasesBy net V w s
    go None e k = cc
    go (Some d) e k = record { doc = d; found = e; number = stream_number V s d e; releases = k }

-- it waits, its dependencies are satisfied, and it is an own member
record IsDue (net : Net) (V : View) (w s : ℕ) : Type 0 where
  waits : waits_here V w s ≡ true
  satisfied : all_satisfied net V w (Stream s) ≡ true
  own : Among s (own_numbers V w)

is_due : (net : Net) (V : View) (w s : ℕ) → ReleasesBy net V w s → IsDue net V w s
unfolding waits_here
is_due net V w s by =
    let conditions = (by.doc.ws == w)
    ∷ is_member V by.doc.no
    ∷ not (is_released by.doc.no (V (Events w)))
    ∷ not (is_cancelled (Stream by.doc.no) (V (Events w)))
    ∷ all_satisfied net V w (Stream by.doc.no)
    ∷ [] in
    let owned : (by.doc.ws == w) ≡ true = held conditions 0 (by.doc.ws == w) by.releases refl in
    let member : is_member V by.doc.no ≡ true = held conditions 1 (is_member V by.doc.no) by.releases refl in
    let unreleased : not (is_released by.doc.no (V (Events w))) ≡ true =
    held conditions 2 (not (is_released by.doc.no (V (Events w)))) by.releases refl in
    let running : not (is_cancelled (Stream by.doc.no) (V (Events w))) ≡ true =
    held conditions 3 (not (is_cancelled (Stream by.doc.no) (V (Events w)))) by.releases refl in
    let satisfied : all_satisfied net V w (Stream by.doc.no) ≡ true =
    held conditions 4 (all_satisfied net V w (Stream by.doc.no)) by.releases refl in
    record {
      waits = rw (by.found, owned, member, unreleased, running) refl;
      satisfied = subst (λ (n : ℕ). all_satisfied net V w (Stream n) ≡ true) by.number satisfied;
      own = own_among V w s by.doc by.found owned member;
    }

-- the first that may be released is the lowest own member that may
pub first_releases : (net : Net) (V : View) (w : ℕ) (releases : Releases) → InOrder ◌<◌ releases.candidates
    → KnowsWaiting V w releases
    → find (may_release net V w) releases.candidates ≡ least (filter (may_release net V w) (own_numbers V w))
first_releases net V w releases ordered knows =
    first_lowest (may_release net V w) releases.candidates (own_numbers V w) ordered
    (λ s h. here s (is_due net V w s (releases_by net V w s h)))
    (λ s h. (is_due net V w s (releases_by net V w s h)).own)
  where
    among : (s : ℕ) → IsDue net V w s → IsStreamKnown V releases s ⊎ Among s [] → Among s releases.candidates
    among s due (inl (inl k)) = k
    among s due (inl (inr k)) = absurd (held_by_none net V w (Stream s) k.target due.satisfied k.holds)
    among s due (inr k) = absurd k

    here : (s : ℕ) → IsDue net V w s → Among s releases.candidates
    here s due = among s due (knows.known s due.waits)

-- a stream that is not released was not
unreleased_before : (s : ℕ) (b : Body) (l : List Body) → not (is_released s (l ++ b ∷ [])) ≡ true
    → not (is_released s l) ≡ true
unfolding is_released
unreleased_before s b l h =
    not_or_left (list_any (is_release_of s) l) (list_any (is_release_of s) (b ∷ []))
    (sym (ap not (list_any-append (is_release_of s) l (b ∷ []))) ∙ h)

module _ (kept : List Entry) (e : Entry) (small : IsSmall e.body) where
  -- a stream that waits did so before
  waits_before : (w s : ℕ) → waits_here (with_it kept e) w s ≡ true → waits_here (before kept e) w s ≡ true
  unfolding waits_here
  waits_before w s h = by (waits_by (with_it kept e) w s h)
    where
      by : WaitsBy (with_it kept e) w s → option_map_or (waits_in (before kept e) w) (stream (before kept e) s) false ≡ true
      by k =
          let n = k.doc.no in
          let conditions = (k.doc.ws == w)
          ∷ is_member (with_it kept e) n
          ∷ not (is_released n (with_it kept e (Events w)))
          ∷ not (is_cancelled (Stream n) (with_it kept e (Events w)))
          ∷ [] in
          let owned : (k.doc.ws == w) ≡ true = held conditions 0 (k.doc.ws == w) k.waits refl in
          let member : is_member (before kept e) n ≡ true =
          sym (member_stays kept e small n) ∙ held conditions 1 (is_member (with_it kept e) n) k.waits refl in
          let unreleased : not (is_released n (before kept e (Events w))) ≡ true =
          fact_before kept e (λ (l : List Body). not (is_released n l)) (unreleased_before n e.body) w
          (held conditions 2 (not (is_released n (with_it kept e (Events w)))) k.waits refl) in
          let running : not (is_cancelled (Stream n) (before kept e (Events w))) ≡ true =
          sym (ap not (cancelled_stays kept e small (Stream n) w))
          ∙ held conditions 3 (not (is_cancelled (Stream n) (with_it kept e (Events w)))) k.waits refl in
          let found : stream (before kept e) s ≡ Some k.doc = sym (stream_stays kept e small s) ∙ k.found in
          rw (found, owned, member, unreleased, running) refl

  -- who waits is known then, but for who watches what the entry tells
  waiting_then : (w : ℕ) (change : Change) (releases : Releases) → change ≡ change_by e.body
      → KnowsWaiting (before kept e) w releases
      → KnowsWaitingBut (with_it kept e) w (left_by change releases.watches) releases
  waiting_then w change releases same knows =
      record { known = λ s h. go s (knows.known s (waits_before w s h)) }
    where
      stays : (s : ℕ) (k : IsStreamWatching (before kept e) releases.watches s) → change_by e.body ≢ Comes k.target
          → IsStreamKnown (with_it kept e) releases s
      stays s k apart =
          inr (record {
            target = k.target;
            watching = k.watching;
            holds = held_back_then kept e small (Stream s) k.target apart k.holds;
          })

      watching : (c : Change) → c ≡ change_by e.body → (s : ℕ)
          (k : IsStreamWatching (before kept e) releases.watches s)
          → IsStreamKnown (with_it kept e) releases s ⊎ Among s (left_by c releases.watches)
      watching Everything is s k = absurd (small (sym is))
      watching (Launch j) is s k = inl (stays s k (λ h. cc))
      watching Nothing is s k = inl (stays s k (λ h. cc))
      watching (Comes t) is s k =
          elim (target_cases k.target t) [
            | inl q ↦ inr (subst (λ (u : Target). Among s (waiting_for releases.watches u)) q k.watching)
            | inr q ↦ inl (stays s k (λ h. q (one (sym h ∙ sym is))))
          ]
        where
          one : {u v : Target} → Comes u ≡ Comes v → u ≡ v
          one h = cc

      go : (s : ℕ) → IsStreamKnown (before kept e) releases s ⊎ Among s []
          → IsStreamKnown (with_it kept e) releases s ⊎ Among s (left_by change releases.watches)
      go s (inl (inl k)) = inl (inl k)
      go s (inl (inr k)) = watching change same s k
      go s (inr k) = absurd k

-- who waits after an entry was taken, before who watches what it tells is looked at
pub waiting_taken : (taken kept : List Entry) (e : Entry) (w : ℕ) (change : Change) (releases : Releases)
    → change ≡ change_by e.body → change ≢ Everything → taken ≡ kept ++ e ∷ [] → KnowsWaiting (view_of kept) w releases
    → KnowsWaitingBut (view_of taken) w (left_by change releases.watches) releases
waiting_taken taken kept e w change releases same small grown knows =
    subst (λ (l : List Entry). KnowsWaitingBut (view_of l) w (left_by change releases.watches) releases) (sym grown)
    (waiting_then kept e (subst (λ (c : Change). c ≢ Everything) same small) w change releases same knows)
