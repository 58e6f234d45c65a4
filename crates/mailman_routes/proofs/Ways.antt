-- An entry that is no plan, adds no stream to one and obeys no command leaves whom feeds are passed on to.
use Rattle.std.proofs.Common.{◌≡◌, ◌∷◌, ◌∙◌, [], ℕ, List, None, Option, Some, ap, filter_map, flat_map, inl, inr, map}
use Rattle.std.proofs.Common.{refl, true}
use Rattle.std.proofs.lemmas.Grind.{flat_map-append}
use Rattle.std.proofs.lemmas.List.{append-nil}
use Rattle.std.proofs.lemmas.List.Elements.{filter_map-append}
use Rattle.std.specs.List.{list_any}
use Rattle.std.specs.Option.{option_map_or, option_to_list}
use Rattle.std.specs.Prelude.{◌&&◌, ◌||◌, ◌==◌, ◌++◌, filter, find, not, option_map, take}
use Rattle.lemmas.proofs.Lists.{one_filtered}
use Rattle.model.specs.Types.{Added, Body, Clock, Cmd, Declined, Ended, Entry, Events, Failed, Feed, Fulfilled, Late, Launched}
use Rattle.model.specs.Types.{Lost, Net, NewPlan, Obeyed, Order, Orders, Released, Started, StreamEnded, UntilPassed}
use Rattle.model.specs.Types.{At, Deadline, Dep, FollowsJob, FollowsStream, Global, Job, Needs, Obj, Outside, Own, Prompt}
use Rattle.model.specs.Types.{Stream, StreamDoc, Until}
use Rattle.model.specs.Words.{below, firsts, has, some_is}
use Rattle.model.specs.Network.{domain, has_full_status, hop, is_behind, node_count}
use Rattle.model.specs.History.{View, list_of, view_of}
use Rattle.model.specs.Catalogue.{StreamJob, catalogue, docs_in, job, jobs, jobs_in, jobs_of, owner, stream, streams_of}
use Rattle.model.specs.Facts.{commands, obeyed_command}
use Rattle.model.specs.Dependencies.{cites, dep_cites, deps, deps_added_by, document_deps, owner_events}
use Rattle.model.specs.Forwarding.{forwards, is_under, objects_of, wants, works_on}
use Rattle.model_laws.proofs.Feeds.{pushed_cases}
use Rattle.mailman_routes.specs.Quiet.{is_quiet}

-- such a body brings no documents, and no command
brings_none : (b : Body) → is_quiet b ≡ true → (docs_in b ≡ []) × (obeyed_command b ≡ None)
brings_none (NewPlan run cut carried docs) h = cc
brings_none (Added a k doc) h = cc
brings_none (Obeyed a k c) h = cc
brings_none (Clock t) h = (refl, refl)
brings_none (Released s seen) h = (refl, refl)
brings_none (StreamEnded s seen) h = (refl, refl)
brings_none (UntilPassed o i mark) h = (refl, refl)
brings_none (Launched j n seen) h = (refl, refl)
brings_none (Started j n) h = (refl, refl)
brings_none (Failed j n) h = (refl, refl)
brings_none (Ended j n rc good) h = (refl, refl)
brings_none (Lost j n) h = (refl, refl)
brings_none (Fulfilled o i) h = (refl, refl)
brings_none (Declined a k why) h = (refl, refl)
brings_none (Order c) h = (refl, refl)
brings_none (Late o i) h = (refl, refl)

module _ (kept : List Entry) (e : Entry) (quiet : is_quiet e.body ≡ true) where
  abbrev old : View
  old = view_of kept

  abbrev new : View
  new = view_of (kept ++ e ∷ [])

  docs_same : flat_map docs_in (list_of (kept ++ e ∷ []) (Events 0)) ≡ flat_map docs_in (list_of kept (Events 0))
  docs_same =
      elim (pushed_cases kept e (Events 0)) [
        | inl c ↦ ap (flat_map docs_in) c.1
            ∙ flat_map-append docs_in (list_of kept (Events 0)) (e.body ∷ [])
            ∙ ap (λ (l : List StreamDoc). flat_map docs_in (list_of kept (Events 0)) ++ (l ++ []))
            (brings_none e.body quiet).0
            ∙ append-nil (flat_map docs_in (list_of kept (Events 0)))
        | inr c ↦ ap (flat_map docs_in) c.1
      ]

  told_same : (w : ℕ) → commands (list_of (kept ++ e ∷ []) (Events w)) ≡ commands (list_of kept (Events w))
  unfolding commands
  told_same w =
      elim (pushed_cases kept e (Events w)) [
        | inl c ↦ ap (filter_map obeyed_command) c.1
            ∙ filter_map-append obeyed_command (list_of kept (Events w)) (e.body ∷ [])
            ∙ ap (λ (l : List Cmd). filter_map obeyed_command (list_of kept (Events w)) ++ l)
            (one_filtered obeyed_command e.body ∙ ap option_to_list (brings_none e.body quiet).1)
            ∙ append-nil (filter_map obeyed_command (list_of kept (Events w)))
        | inr c ↦ ap (filter_map obeyed_command) c.1
      ]

  catalogue_same : catalogue new ≡ catalogue old
  unfolding catalogue
  catalogue_same = ap (firsts (λ (d : StreamDoc). d.no) []) docs_same

  jobs_same : jobs new ≡ jobs old
  unfolding jobs
  jobs_same = ap (λ (ds : List StreamDoc). firsts (λ (p : StreamJob). p.doc.no) [] (flat_map jobs_in ds)) catalogue_same

  job_same : (j : ℕ) → job new j ≡ job old j
  unfolding job
  job_same j = ap (find (λ (p : StreamJob). p.doc.no == j)) jobs_same

  stream_same : (s : ℕ) → stream new s ≡ stream old s
  unfolding stream
  stream_same s = ap (find (λ (d : StreamDoc). d.no == s)) catalogue_same

  owner_same : (o : Obj) → owner new o ≡ owner old o
  unfolding owner
  owner_same (Job j) = ap (option_map (λ (p : StreamJob). p.doc.ws)) (job_same j)
  owner_same (Stream s) = ap (option_map (λ (d : StreamDoc). d.ws)) (stream_same s)

  written_same : (o : Obj) → document_deps new o ≡ document_deps old o
  unfolding document_deps
  written_same (Job j) = ap (λ (p : Option StreamJob). option_map_or (λ (q : StreamJob). q.doc.deps) p []) (job_same j)
  written_same (Stream s) = ap (λ (p : Option StreamDoc). option_map_or (λ (d : StreamDoc). d.deps) p []) (stream_same s)

  cited_same : (d : Dep) → dep_cites new d ≡ dep_cites old d
  unfolding dep_cites
  cited_same (FollowsJob j) =
      ap (λ (p : Option StreamJob). option_map_or (λ (q : StreamJob). q.doc.ws ∷ q.parent.ws ∷ []) p []) (job_same j)
  cited_same (FollowsStream s) =
      ap (λ (p : Option StreamDoc). option_map_or (λ (d : StreamDoc). d.ws ∷ []) p []) (stream_same s)
  cited_same (Prompt (Global p)) = refl
  cited_same (Prompt (Own text)) = refl
  cited_same (Needs r n) = refl
  cited_same (At t) = refl
  cited_same (Until t mark) = refl
  cited_same (Outside path) = refl
  cited_same (Deadline t) = refl

  obeyed_same : (o : Obj) → commands (owner_events new o) ≡ commands (owner_events old o)
  unfolding owner_events
  obeyed_same o =
      ap (λ (p : Option ℕ). commands (option_map_or (λ w. new (Events w)) p [])) (owner_same o) ∙ go (owner old o)
    where
      go : (p : Option ℕ)
          → commands (option_map_or (λ w. new (Events w)) p []) ≡ commands (option_map_or (λ w. old (Events w)) p [])
      go None = refl
      go (Some w) = told_same w

  deps_same : (o : Obj) → deps new o ≡ deps old o
  unfolding deps
  deps_same o = λ i. take 65535 (written_same o i ++ flat_map (deps_added_by o) (obeyed_same o i))

  cites_same : (o : Obj) → cites new o ≡ cites old o
  unfolding cites
  cites_same o = λ i. flat_map (λ d. cited_same d i) (deps_same o i)

  objects_same : (v : ℕ) → objects_of new v ≡ objects_of old v
  unfolding objects_of streams_of jobs_of
  objects_same v = λ i.
      map (λ (d : StreamDoc). Stream d.no) (filter (λ (d : StreamDoc). d.ws == v) (catalogue_same i))
      ++ map (λ (p : StreamJob). Job p.doc.no) (filter (λ (p : StreamJob). p.doc.ws == v) (jobs_same i))

  works_same : (v x : ℕ) → works_on new v x ≡ works_on old v x
  works_same v x = ap (list_any (λ (p : StreamJob). (p.parent.ws == v) && (p.doc.ws == x))) jobs_same

  wants_same : (net : Net) (v x : ℕ) → wants net new v x ≡ wants net old v x
  unfolding wants
  wants_same net v x = λ i.
      (x == 0)
      || ((has_full_status net v && ((domain net x == domain net v) || is_behind net (domain net x) (domain net v)))
      || (works_same v x i || (works_same x v i || list_any (λ o. has (cites_same o i) x) (objects_same v i))))

  pub ways_same : (net : Net) (n m : ℕ) (f : Feed) → forwards net new n m f ≡ forwards net old n m f
  unfolding forwards
  ways_same net n m (Orders a t) = refl
  ways_same net n m (Events x) = λ i.
      (some_is (hop net n) m && is_under net x n)
      || (some_is (hop net m) n
      && (not (is_under net x m)
      && list_any (λ v. is_under net v m && wants_same net v x i) (below (node_count net))))
