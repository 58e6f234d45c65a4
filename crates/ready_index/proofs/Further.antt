-- What an entry that does not change everything leaves as it was, in the view of all entries.
use Rattle.std.proofs.Common.{[], ℕ, ◌++◌, ◌∙◌, ◌∷◌, ◌≡◌, ◌≢◌, ◌⊎◌, Bool, List, None, Option, Some, ap, ap₂, cond}
use Rattle.std.proofs.Common.{false, filter, find, flat_map, fold, inl, inr, is_some, option_map}
use Rattle.std.proofs.Common.{refl, subst, sym, true}
use Rattle.std.proofs.lemmas.List.{append-nil}
use Rattle.std.specs.Option.{option_map_or}
use Rattle.std.specs.Prelude.{◌&&◌, ◌==◌, ◌||◌, filter_map, length, nat_le, nat_lt, not, take, unwrap_or}
use Rattle.model_laws.proofs.Feeds.{list_of-append, list_of_elsewhere, list_of_here}
use Rattle.model.specs.Types.{At, Body, Cmd, Deadline, Dep, Entry, Events, FollowsJob, FollowsStream, Job, Needs}
use Rattle.model.specs.Types.{Obj, Outside, Prompt, Stream, StreamDoc, Until}
use Rattle.model.specs.Equalities.{feed_eq}
use Rattle.model.specs.History.{View, list_of, view_of}
use Rattle.model.specs.Words.{firsts, has, last_or}
use Rattle.model.specs.Catalogue.{StreamJob, catalogue, docs_in, is_member, job, jobs, jobs_in, jobs_of, members}
use Rattle.model.specs.Catalogue.{members_with, named_members, owner, stream}
use Rattle.model.specs.Facts.{commands, is_cancelled, is_due, is_ended, is_good, is_released, priority, priority_in}
use Rattle.model.specs.Dependencies.{NumberedDep, deps, deps_added_by, document_deps, is_waived, is_waived_by}
use Rattle.model.specs.Dependencies.{job_lets_followers_go, numbered_deps, owner_events, stream_lets_followers_go}
use Rattle.model.specs.Dependencies.{unwaived_deps}
use Rattle.model.specs.Readiness.{job_priority, stream_priority}
use Rattle.ready_index.specs.declared.changes.Change.{Change}
use Rattle.ready_index.specs.declared.changes.Change.TheVariants.{At as Comes, Everything}
use Rattle.ready_index.specs.declared.jobs.JobIndex.{JobIndex}
use Rattle.ready_index.specs.declared.targets.Target.{Target}
use Rattle.ready_index.specs.declared.targets.Target.TheVariants.{EndOfJob, EndOfStream}
use Rattle.ready_index.specs.Awaited.{IsAwaited, held_back, held_back_by, is_in_play}
use Rattle.ready_index.specs.Changes.{EntriesKeepOthers, KeepsOthers, change_by}
use Rattle.ready_index.specs.Lists.{Among}
use Rattle.ready_index.specs.Standing.{IsJobIndexBut, IsJobIndexOf}
use Rattle.ready_index.proofs.Standings.{after_entry, left_by}
use Rattle.ready_index.proofs.Bests.{held}
use Rattle.ready_index.proofs.Elements.{chosen_too, filter_same}
use Rattle.ready_index.proofs.Quiet.{Endures, IsSmall, added_deps_endure, cancelled_same, commands_same, docs_same}
use Rattle.ready_index.proofs.Quiet.{due_before, ended_same, good_before, names_same, priorities_endure}
use Rattle.ready_index.proofs.Quiet.{released_same, waivers_endure}

-- the list of a workstation has the entry at its end, or stays
one_further : (kept : List Entry) (e : Entry) (v : ℕ)
    → (list_of (kept ++ e ∷ []) (Events v) ≡ list_of kept (Events v) ++ e.body ∷ [])
    ⊎ (list_of (kept ++ e ∷ []) (Events v) ≡ list_of kept (Events v))
one_further kept e v = go (feed_eq (Events v) e.feed) refl
  where
    go : (b : Bool) → feed_eq (Events v) e.feed ≡ b
        → (list_of (kept ++ e ∷ []) (Events v) ≡ list_of kept (Events v) ++ e.body ∷ [])
        ⊎ (list_of (kept ++ e ∷ []) (Events v) ≡ list_of kept (Events v))
    go true same =
        inl (list_of-append kept (e ∷ []) (Events v)
        ∙ ap (λ (l : List Body). list_of kept (Events v) ++ l) (list_of_here e (Events v) same))
    go false other =
        inr (list_of-append kept (e ∷ []) (Events v)
        ∙ ap (λ (l : List Body). list_of kept (Events v) ++ l) (list_of_elsewhere e (Events v) other)
        ∙ append-nil (list_of kept (Events v)))

module _ (kept : List Entry) (e : Entry) where
  -- the view before, and with the entry
  abbrev pub before : View
  before = view_of kept

  abbrev pub with_it : View
  with_it = view_of (kept ++ e ∷ [])

  -- a fact that the body leaves as it was stays in each list
  pub fact_same : {X : Type 0} (fact : List Body → X) → ((l : List Body) → fact (l ++ e.body ∷ []) ≡ fact l) → (v : ℕ)
      → fact (with_it (Events v)) ≡ fact (before (Events v))
  fact_same fact same v =
      elim (one_further kept e v) [ inl c ↦ ap fact c ∙ same (before (Events v)) | inr c ↦ ap fact c ]

  -- one that holds with the body alone where it held before
  pub fact_before : (fact : List Body → Bool) → ((l : List Body) → fact (l ++ e.body ∷ []) ≡ true → fact l ≡ true) → (v : ℕ)
      → fact (with_it (Events v)) ≡ true → fact (before (Events v)) ≡ true
  fact_before fact same v h =
      elim (one_further kept e v) [
        | inl c ↦ same (before (Events v)) (sym (ap fact c) ∙ h)
        | inr c ↦ sym (ap fact c) ∙ h
      ]

  module _ (small : IsSmall e.body) where
    catalogue_stays : catalogue with_it ≡ catalogue before
    unfolding catalogue
    catalogue_stays =
        ap (λ (ds : List StreamDoc). firsts (λ (d : StreamDoc). d.no) [] ds)
        (fact_same (λ (l : List Body). flat_map docs_in l) (docs_same e.body small) 0)

    pub jobs_stay : jobs with_it ≡ jobs before
    unfolding jobs
    jobs_stay =
        ap (λ (ds : List StreamDoc). firsts (λ (p : StreamJob). p.doc.no) [] (flat_map jobs_in ds)) catalogue_stays

    job_stays : (j : ℕ) → job with_it j ≡ job before j
    unfolding job
    job_stays j = ap (find (λ (p : StreamJob). p.doc.no == j)) jobs_stay

    pub stream_stays : (s : ℕ) → stream with_it s ≡ stream before s
    unfolding stream
    stream_stays s = ap (find (λ (d : StreamDoc). d.no == s)) catalogue_stays

    jobs_of_stay : (w : ℕ) → jobs_of with_it w ≡ jobs_of before w
    unfolding jobs_of
    jobs_of_stay w = ap (filter (λ (p : StreamJob). p.doc.ws == w)) jobs_stay

    names_stay : named_members with_it ≡ named_members before
    unfolding named_members
    names_stay = fact_same (λ (l : List Body). fold members_with None l) (names_same e.body small) 0

    members_stay : members with_it ≡ members before
    unfolding members
    members_stay =
        filter_same (λ s. is_some (stream with_it s)) (λ s. is_some (stream before s))
        (unwrap_or (named_members with_it) []) (λ s. ap is_some (stream_stays s))
        ∙ ap (λ (o : Option (List ℕ)). filter (λ s. is_some (stream before s)) (unwrap_or o [])) names_stay

    pub member_stays : (s : ℕ) → is_member with_it s ≡ is_member before s
    unfolding is_member
    member_stays s = ap (λ (l : List ℕ). has l s) members_stay

    owner_stays : (o : Obj) → owner with_it o ≡ owner before o
    unfolding owner
    owner_stays (Job j) = ap (option_map (λ (p : StreamJob). p.doc.ws)) (job_stays j)
    owner_stays (Stream s) = ap (option_map (λ (d : StreamDoc). d.ws)) (stream_stays s)

    commands_stay : {X : Type 0} (fact : List Cmd → X) → Endures fact → (v : ℕ)
        → fact (commands (with_it (Events v))) ≡ fact (commands (before (Events v)))
    commands_stay fact endures v =
        fact_same (λ (l : List Body). fact (commands l)) (commands_same fact endures e.body small) v

    pub cancelled_stays : (o : Obj) (v : ℕ) → is_cancelled o (with_it (Events v)) ≡ is_cancelled o (before (Events v))
    cancelled_stays o v = fact_same (is_cancelled o) (cancelled_same o e.body small) v

    priority_stays : (o : Obj) (written v : ℕ)
        → priority o written (with_it (Events v)) ≡ priority o written (before (Events v))
    unfolding priority
    priority_stays o written v =
        ap (last_or written) (commands_stay (filter_map (priority_in o)) (priorities_endure o) v)

    stream_priority_stays : (d : StreamDoc) → stream_priority with_it d ≡ stream_priority before d
    unfolding stream_priority
    stream_priority_stays d = priority_stays (Stream d.no) d.priority d.ws

    job_priority_stays : (p : StreamJob) → job_priority with_it p ≡ job_priority before p
    unfolding job_priority
    job_priority_stays p = priority_stays (Job p.doc.no) p.doc.priority p.doc.ws

    owner_commands_stay : {X : Type 0} (fact : List Cmd → X) → Endures fact → (o : Obj)
        → fact (commands (owner_events with_it o)) ≡ fact (commands (owner_events before o))
    unfolding owner_events
    owner_commands_stay fact endures o =
        ap (λ (w : Option ℕ). fact (commands (option_map_or (λ w. with_it (Events w)) w []))) (owner_stays o)
        ∙ go (owner before o)
      where
        go : (w : Option ℕ)
            → fact (commands (option_map_or (λ w. with_it (Events w)) w []))
            ≡ fact (commands (option_map_or (λ w. before (Events w)) w []))
        go None = refl
        go (Some v) = commands_stay fact endures v

    document_deps_stay : (o : Obj) → document_deps with_it o ≡ document_deps before o
    unfolding document_deps
    document_deps_stay (Job j) =
        ap (λ (q : Option StreamJob). option_map_or (λ (p : StreamJob). p.doc.deps) q []) (job_stays j)
    document_deps_stay (Stream s) =
        ap (λ (q : Option StreamDoc). option_map_or (λ (d : StreamDoc). d.deps) q []) (stream_stays s)

    deps_stay : (o : Obj) → deps with_it o ≡ deps before o
    unfolding deps
    deps_stay o =
        ap₂ (λ (written added : List Dep). take 65535 (written ++ added)) (document_deps_stay o)
        (owner_commands_stay (flat_map (deps_added_by o)) (added_deps_endure o) o)

    waived_stays : (o : Obj) (i : ℕ) → is_waived with_it o i ≡ is_waived before o i
    unfolding is_waived
    waived_stays o i =
        rw (deps_stay o, document_deps_stay o)
        (ap (λ (b : Bool). nat_lt 0 i && (nat_le i (length (deps before o)) && b))
        (owner_commands_stay (is_waived_by o i (length (document_deps before o)))
        (waivers_endure o i (length (document_deps before o))) o))

    unwaived_stay : (o : Obj) → unwaived_deps with_it o ≡ unwaived_deps before o
    unfolding unwaived_deps
    unwaived_stay o =
        filter_same (λ (p : NumberedDep). not (is_waived with_it o p.number))
        (λ (p : NumberedDep). not (is_waived before o p.number)) (numbered_deps 1 (deps with_it o))
        (λ p. ap not (waived_stays o p.number))
        ∙ ap
        (λ (ds : List Dep). filter (λ (p : NumberedDep). not (is_waived before o p.number)) (numbered_deps 1 ds))
        (deps_stay o)

    -- a job that is in play was in play
    play_before : (w : ℕ) (p : StreamJob) → is_in_play with_it w p ≡ true → is_in_play before w p ≡ true
    unfolding is_in_play
    play_before w p h =
        let told = is_due p.doc.no (with_it (Events w))
        ∷ is_member with_it p.parent.no
        ∷ not (is_cancelled (Stream p.parent.no) (with_it (Events p.parent.ws)))
        ∷ not (is_cancelled (Job p.doc.no) (with_it (Events w)))
        ∷ [] in
        let due : is_due p.doc.no (before (Events w)) ≡ true =
        fact_before (is_due p.doc.no) (due_before p.doc.no e.body small) w
        (held told 0 (is_due p.doc.no (with_it (Events w))) h refl) in
        let member : is_member before p.parent.no ≡ true =
        sym (member_stays p.parent.no) ∙ held told 1 (is_member with_it p.parent.no) h refl in
        let going : not (is_cancelled (Stream p.parent.no) (before (Events p.parent.ws))) ≡ true =
        sym (ap not (cancelled_stays (Stream p.parent.no) p.parent.ws))
        ∙ held told 2 (not (is_cancelled (Stream p.parent.no) (with_it (Events p.parent.ws)))) h refl in
        let running : not (is_cancelled (Job p.doc.no) (before (Events w))) ≡ true =
        sym (ap not (cancelled_stays (Job p.doc.no) w))
        ∙ held told 3 (not (is_cancelled (Job p.doc.no) (with_it (Events w)))) h refl in
        rw (due, member, going, running) refl

    -- a job that does not let its followers go, nor is told to end, does not then
    job_holds : (j : ℕ) → change_by e.body ≢ Comes (EndOfJob j) → job_lets_followers_go before j ≡ false
        → job_lets_followers_go with_it j ≡ false
    unfolding job_lets_followers_go
    job_holds j apart h =
        ap (λ (o : Option StreamJob). option_map_or (lets with_it) o false) (job_stays j) ∙ go (job before j) h
      where
        lets : View → StreamJob → Bool
        lets V p =
            is_good j (V (Events p.doc.ws))
            || (is_cancelled (Job j) (V (Events p.doc.ws))
            || is_cancelled (Stream p.parent.no) (V (Events p.parent.ws)))

        both : (a b c : Bool) → (a ≡ true → b ≡ true) → (b || c) ≡ false → (a || c) ≡ false
        both true b c imp h = let t : b ≡ true = imp refl in absurd (clash b c t h)
          where
            clash : (b c : Bool) → b ≡ true → (b || c) ≡ false → ⊥
            clash true c t h = cc
            clash false c t h = cc
        both false true c imp h = cc
        both false false c imp h = h

        go : (o : Option StreamJob) → option_map_or (lets before) o false ≡ false
            → option_map_or (lets with_it) o false ≡ false
        go None h = refl
        go (Some p) h =
            ap₂ (λ (a b : Bool). is_good j (with_it (Events p.doc.ws)) || (a || b))
            (cancelled_stays (Job j) p.doc.ws) (cancelled_stays (Stream p.parent.no) p.parent.ws)
            ∙ both (is_good j (with_it (Events p.doc.ws))) (is_good j (before (Events p.doc.ws))) _
            (fact_before (is_good j) (good_before j e.body small apart) p.doc.ws) h

    -- nor does a stream
    stream_holds : (s : ℕ) → change_by e.body ≢ Comes (EndOfStream s) → stream_lets_followers_go before s ≡ false
        → stream_lets_followers_go with_it s ≡ false
    unfolding stream_lets_followers_go
    stream_holds s apart h =
        ap
        (λ (o : Option StreamDoc).
        option_map_or
        (λ (d : StreamDoc). is_ended s (with_it (Events d.ws)) || is_cancelled (Stream s) (with_it (Events d.ws))) o
        false)
        (stream_stays s)
        ∙ go (stream before s) h
      where
        go : (o : Option StreamDoc)
            → option_map_or
            (λ (d : StreamDoc). is_ended s (before (Events d.ws)) || is_cancelled (Stream s) (before (Events d.ws))) o
            false
            ≡ false
            → option_map_or
            (λ (d : StreamDoc). is_ended s (with_it (Events d.ws)) || is_cancelled (Stream s) (with_it (Events d.ws)))
            o false
            ≡ false
        go None h = refl
        go (Some d) h =
            ap₂ ◌||◌ (fact_same (is_ended s) (ended_same s e.body apart) d.ws) (cancelled_stays (Stream s) d.ws) ∙ h

    -- what holds somebody back does so then, but for what the entry tells
    held_then : (t : Target) → change_by e.body ≢ Comes t → (d : Dep) → held_back before d ≡ Some t
        → held_back with_it d ≡ Some t
    held_then t apart (FollowsJob j) h = go (job_lets_followers_go before j) refl h
      where
        go : (b : Bool) → job_lets_followers_go before j ≡ b → cond b None (Some (EndOfJob j)) ≡ Some t
            → held_back with_it (FollowsJob j) ≡ Some t
        go true k h = cc
        go false k h =
            let s : EndOfJob j ≡ t = cc in
            let f : job_lets_followers_go with_it j ≡ false =
            job_holds j (subst (λ (u : Target). change_by e.body ≢ Comes u) (sym s) apart) k in rw (f, s) refl
    held_then t apart (FollowsStream n) h = go (stream_lets_followers_go before n) refl h
      where
        go : (b : Bool) → stream_lets_followers_go before n ≡ b → cond b None (Some (EndOfStream n)) ≡ Some t
            → held_back with_it (FollowsStream n) ≡ Some t
        go true k h = cc
        go false k h =
            let s : EndOfStream n ≡ t = cc in
            let f : stream_lets_followers_go with_it n ≡ false =
            stream_holds n (subst (λ (u : Target). change_by e.body ≢ Comes u) (sym s) apart) k in rw (f, s) refl
    held_then t apart (Needs r n) h = cc
    held_then t apart (Prompt p) h = cc
    held_then t apart (At m) h = cc
    held_then t apart (Until m then_) h = cc
    held_then t apart (Outside path) h = cc
    held_then t apart (Deadline m) h = cc

    -- so is an object by its dependencies
    pub held_back_then : (o : Obj) (t : Target) → change_by e.body ≢ Comes t → Among t (held_back_by before o)
        → Among t (held_back_by with_it o)
    unfolding held_back_by
    held_back_then o t apart h =
        subst
        (λ (ds : List NumberedDep). Among t (filter_map (λ (q : NumberedDep). held_back with_it q.dep) ds))
        (sym (unwaived_stay o))
        (chosen_too (λ (q : NumberedDep). held_back before q.dep) (λ (q : NumberedDep). held_back with_it q.dep)
        (unwaived_deps before o) t (λ q k. held_then t apart q.dep k) h)

    awaited_then : (p : StreamJob) (t : Target) → change_by e.body ≢ Comes t → IsAwaited before p t
        → IsAwaited with_it p t
    awaited_then p t apart (inl h) =
        inl (
          h.0,
          fact_same (is_released p.parent.no)
              (released_same p.parent.no e.body (subst (λ (u : Target). change_by e.body ≢ Comes u) h.0 apart))
              p.parent.ws
              ∙ h.1,
        )
    awaited_then p t apart (inr h) = inr (held_back_then (Job p.doc.no) t apart h)

-- an entry that does not change everything leaves the rest as it was
pub entries_keep : EntriesKeepOthers
entries_keep kept e w small = record {
  jobs = jobs_of_stay kept e small w;
  streams = stream_priority_stays kept e small;
  priorities = job_priority_stays kept e small;
  play = play_before kept e small w;
  awaited = awaited_then kept e small;
}

-- an index after an entry was taken, before who watches what it tells is looked at
pub after_taken : (taken kept : List Entry) (e : Entry) (w : ℕ) (change : Change) (index : JobIndex)
    → change ≡ change_by e.body → change ≢ Everything → taken ≡ kept ++ e ∷ [] → IsJobIndexOf (view_of kept) w index
    → IsJobIndexBut (view_of taken) w (left_by change index.watches) index
after_taken taken kept e w change index same small grown stands =
    subst (λ (l : List Entry). IsJobIndexBut (view_of l) w (left_by change index.watches) index) (sym grown)
    (after_entry (view_of kept) (view_of (kept ++ e ∷ [])) w change index
    (subst (λ (c : Change). KeepsOthers (view_of kept) (view_of (kept ++ e ∷ [])) w c) (sym same)
    (entries_keep kept e w (subst (λ (c : Change). c ≢ Everything) same small)))
    stands)
