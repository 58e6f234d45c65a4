-- Pairs of workstations, one entry further, and what a pair that is not there tells.
use Rattle.std.proofs.Common.{[], ℕ, ◌&&◌, ◌++◌, ◌||◌, ◌∙◌, ◌∷◌, ◌≡◌, ◌⊎◌, Bool, List, Option, Some, ap, cond, eqb, false}
use Rattle.std.proofs.Common.{filter, filter_map, find, flat_map, inl, inr, map, option_and_then, option_map, refl}
use Rattle.std.proofs.Common.{slice_get, subst, suc, sym, take, true, zero}
use Rattle.std.proofs.lemmas.Bool.Decides.{eqb_tells}
use Rattle.std.proofs.lemmas.Grind.{flat_map-append}
use Rattle.std.proofs.lemmas.List.Folds.{list_any-append}
use Rattle.std.specs.List.{list_any}
use Rattle.std.specs.Option.{option_map_or}
use Rattle.lemmas.proofs.Booleans.{and_parts, neither}
use Rattle.lemmas.proofs.Numbers.{number_tells}
use Rattle.model_laws.proofs.Lists.{has_append}
use Rattle.grouped_places.specs.Codes.{code}
use Rattle.model.specs.Types.{AddDep, Added, At, Body, Deadline, Dep, Entry, Events, Feed, FollowsJob, FollowsStream, Global}
use Rattle.model.specs.Types.{Job, Needs, NewPlan, Obeyed, Obj, Orders, Outside, Own, Prompt, Stream, StreamDoc, Until}
use Rattle.model.specs.Words.{firsts, has}
use Rattle.model.specs.Equalities.{obj_eq}
use Rattle.model.specs.History.{list_of, view_of}
use Rattle.model.specs.Catalogue.{StreamJob, catalogue, docs_in, job, jobs, jobs_in, jobs_of, owner, stream, streams_of}
use Rattle.model.specs.Dependencies.{cites, dep_cites, deps, deps_added_by, document_deps, owner_events}
use Rattle.model.specs.Facts.{commands, obeyed_command}
use Rattle.model.specs.Forwarding.{objects_of, works_on}
use Rattle.owner_rows.proofs.Further.{commands_with}
use Rattle.owner_fold.specs.Pairs.{ArePairsAmong, ArePairsOf, HasAll, dep_pairs, job_pairs, object_pairs, pairs_by, pairs_in}
use Rattle.owner_fold.specs.Pairs.{stream_pairs}
use Rattle.owner_fold.specs.Plans.{is_planning, is_planning_body}
use Rattle.owner_fold.specs.DocPlaces.{first_docs_among, first_jobs_among}
use Rattle.owner_fold.proofs.Covering.{first_place}
use Rattle.owner_fold.proofs.Finding.{found_at}
use Rattle.owner_fold.proofs.Further.{docs_without}
use Rattle.owner_fold.proofs.Giving.{at_feed}
use Rattle.owner_fold.proofs.Growing.{in_either, in_first, in_second, itself}

-- what the items have now they had before, or it is brought
flat_either : {X : Type 0} (f g : X → List ℕ) (xs : List X) (more : List ℕ) (c : ℕ)
    → ((x : X) → has (f x) c ≡ true → (has (g x) c ≡ true) ⊎ (has more c ≡ true)) → has (flat_map f xs) c ≡ true
    → (has (flat_map g xs) c ≡ true) ⊎ (has more c ≡ true)
flat_either f g [] more c one h = cc
flat_either f g (x ∷ xs) more c one h =
    elim (in_either (f x) (flat_map f xs) c h) [
      | inl e ↦ elim (one x e) [ inl a ↦ inl (in_first (g x) (flat_map g xs) c a) | inr a ↦ inr a ]
      | inr e ↦ elim (flat_either f g xs more c one e) [
        | inl a ↦ inl (in_second (g x) (flat_map g xs) c a)
        | inr a ↦ inr a
      ]
    ]

-- the dependency that a command adds
brought_by : (cite : Dep → List ℕ) (w : ℕ) (o : Obj) (b : Body) (c : ℕ)
    → has (flat_map (dep_pairs cite w) (flat_map (deps_added_by o) (filter_map obeyed_command (b ∷ [])))) c ≡ true
    → has (pairs_by cite w b) c ≡ true
brought_by cite w o (Obeyed a k (AddDep p d)) c h = go (obj_eq o p) h
  where
    go : (t : Bool) → has (flat_map (dep_pairs cite w) (cond t (d ∷ []) [] ++ [])) c ≡ true
        → has (dep_pairs cite w d) c ≡ true
    go true k = elim (in_either (dep_pairs cite w d) [] c k) [ inl e ↦ e | inr e ↦ absurd (cc) ]
    go false k = cc
brought_by cite w o b c h = cc

object_further : (cite : Dep → List ℕ) (w : ℕ) (o : Obj) (written : List Dep) (events : List Body) (b : Body) (c : ℕ)
    → has (object_pairs cite w o written (events ++ b ∷ [])) c ≡ true
    → (has (object_pairs cite w o written events) c ≡ true) ⊎ (has (pairs_by cite w b) c ≡ true)
object_further cite w o written events b c h =
    let f : Dep → List ℕ = dep_pairs cite w in
    let old : List Dep = flat_map (deps_added_by o) (commands events) in
    let new : List Dep = flat_map (deps_added_by o) (filter_map obeyed_command (b ∷ [])) in
    let more : flat_map (deps_added_by o) (commands (events ++ b ∷ [])) ≡ old ++ new =
    ap (flat_map (deps_added_by o)) (commands_with events b)
    ∙ flat_map-append (deps_added_by o) (commands events) (filter_map obeyed_command (b ∷ [])) in
    let all : has (flat_map f written ++ (flat_map f old ++ flat_map f new)) c ≡ true =
    sym (ap (λ (l : List ℕ). has l c)
    (flat_map-append f written (flat_map (deps_added_by o) (commands (events ++ b ∷ [])))
    ∙ ap (λ (l : List Dep). flat_map f written ++ flat_map f l) more
    ∙ ap (λ (l : List ℕ). flat_map f written ++ l) (flat_map-append f old new)))
    ∙ h in
    let back : has (flat_map f (written ++ old)) c ≡ has (flat_map f written ++ flat_map f old) c =
    ap (λ (l : List ℕ). has l c) (flat_map-append f written old) in
    elim (in_either (flat_map f written) (flat_map f old ++ flat_map f new) c all) [
      | inl e ↦ inl (back ∙ in_first (flat_map f written) (flat_map f old) c e)
      | inr e ↦ elim (in_either (flat_map f old) (flat_map f new) c e) [
        | inl k ↦ inl (back ∙ in_second (flat_map f written) (flat_map f old) c k)
        | inr k ↦ inr (brought_by cite w o b c k)
      ]
    ]

-- an object, one entry further
object_at : (cite : Dep → List ℕ) (kept : List Entry) (e : Entry) (w : ℕ) (o : Obj) (written : List Dep) (c : ℕ)
    → has (object_pairs cite w o written (list_of (kept ++ e ∷ []) (Events w))) c ≡ true
    → (has (object_pairs cite w o written (list_of kept (Events w))) c ≡ true)
    ⊎ (has (pairs_in cite e.body e.feed) c ≡ true)
object_at cite kept e w o written c h =
    at_feed kept e w
    (λ (l : List Body). has (object_pairs cite w o written l) c ≡ true
    → (has (object_pairs cite w o written (list_of kept (Events w))) c ≡ true)
    ⊎ (has (pairs_in cite e.body e.feed) c ≡ true))
    (λ k u. inl u)
    (λ k u.
    elim (object_further cite w o written (list_of kept (Events w)) e.body c u) [
      | inl a ↦ inl a
      | inr a ↦ inr (ap (λ (f : Feed). has (pairs_in cite e.body f) c) (sym k) ∙ a)
    ])
    h

job_at_entry : (cite : Dep → List ℕ) (kept : List Entry) (e : Entry) (p : StreamJob) (c : ℕ)
    → has (job_pairs cite (kept ++ e ∷ []) p) c ≡ true
    → (has (job_pairs cite kept p) c ≡ true) ⊎ (has (pairs_in cite e.body e.feed) c ≡ true)
job_at_entry cite kept e p c h =
    let here : List ℕ = code p.parent.ws p.doc.ws ∷ [] in
    let w : ℕ = p.doc.ws in
    let o : Obj = Job p.doc.no in
    elim (in_either here (object_pairs cite w o p.doc.deps (list_of (kept ++ e ∷ []) (Events w))) c h) [
      | inl a ↦ inl (in_first here (object_pairs cite w o p.doc.deps (list_of kept (Events w))) c a)
      | inr a ↦ elim (object_at cite kept e w o p.doc.deps c a) [
        | inl k ↦ inl (in_second here (object_pairs cite w o p.doc.deps (list_of kept (Events w))) c k)
        | inr k ↦ inr k
      ]
    ]

-- the pairs, where those that the entry brings are there
pairs_still : (cite : Dep → List ℕ) (kept : List Entry) (e : Entry) (docs : List StreamDoc) (placed : List StreamJob)
    (pairs : List ℕ) → HasAll pairs (pairs_in cite e.body e.feed) → ArePairsAmong cite kept docs placed pairs
    → ArePairsAmong cite (kept ++ e ∷ []) docs placed pairs
pairs_still cite kept e docs placed pairs brought h = record {
  streams =
      λ c k.
      elim (flat_either (stream_pairs cite (kept ++ e ∷ [])) (stream_pairs cite kept) docs (pairs_in cite e.body e.feed) c
      (λ d. object_at cite kept e d.ws (Stream d.no) d.deps c) k) [
        | inl a ↦ h.streams c a
        | inr a ↦ brought c a
      ];
  jobs =
      λ c k.
      elim (flat_either (job_pairs cite (kept ++ e ∷ [])) (job_pairs cite kept) placed (pairs_in cite e.body e.feed) c
      (λ p. job_at_entry cite kept e p c) k) [
        | inl a ↦ h.jobs c a
        | inr a ↦ brought c a
      ];
}

-- a plan or an added stream brings none by commands
none_brought : (cite : Dep → List ℕ) (b : Body) (f : Feed) (pairs : List ℕ) → is_planning_body b ≡ true
    → HasAll pairs (pairs_in cite b f)
none_brought cite b (Orders a w) pairs h c k = cc
none_brought cite (NewPlan run cut carried docs) (Events w) pairs h c k = cc
none_brought cite (Added a n doc) (Events w) pairs h c k = cc
none_brought cite b (Events w) pairs h c k = cc

pub pairs_planned : (kept : List Entry) (e : Entry) (pairs : List ℕ) → is_planning e ≡ true
    → ArePairsAmong (dep_cites (view_of (kept ++ e ∷ []))) kept (catalogue (view_of (kept ++ e ∷ [])))
    (jobs (view_of (kept ++ e ∷ []))) pairs
    → ArePairsOf (kept ++ e ∷ []) pairs
pairs_planned kept e pairs h are =
    let V = view_of (kept ++ e ∷ []) in
    pairs_still (dep_cites V) kept e (catalogue V) (jobs V) pairs
    (none_brought (dep_cites V) e.body e.feed pairs (and_parts _ (is_planning_body e.body) h).1) are

-- another entry leaves whom dependencies cite
cited_same : (kept : List Entry) (e : Entry) → is_planning e ≡ false → (d : Dep)
    → dep_cites (view_of (kept ++ e ∷ [])) d ≡ dep_cites (view_of kept) d
unfolding dep_cites job jobs stream catalogue
cited_same kept e h (FollowsJob j) =
    ap
    (λ (docs : List StreamDoc).
    option_map_or (λ (p : StreamJob). p.doc.ws ∷ p.parent.ws ∷ [])
    (find (λ (p : StreamJob). eqb p.doc.no j) (first_jobs_among (flat_map jobs_in (first_docs_among docs)))) [])
    (docs_without kept e h)
cited_same kept e h (FollowsStream s) =
    ap
    (λ (docs : List StreamDoc).
    option_map_or (λ (d : StreamDoc). d.ws ∷ []) (find (λ (d : StreamDoc). eqb d.no s) (first_docs_among docs)) [])
    (docs_without kept e h)
cited_same kept e h (Prompt (Global p)) = refl
cited_same kept e h (Prompt (Own text)) = refl
cited_same kept e h (Needs r n) = refl
cited_same kept e h (At t) = refl
cited_same kept e h (Until t mark) = refl
cited_same kept e h (Outside path) = refl
cited_same kept e h (Deadline t) = refl

pub pairs_changed : (kept : List Entry) (e : Entry) (old new : List ℕ) → is_planning e ≡ false → HasAll new old
    → HasAll new (pairs_in (dep_cites (view_of (kept ++ e ∷ []))) e.body e.feed) → ArePairsOf kept old
    → ArePairsOf (kept ++ e ∷ []) new
unfolding catalogue jobs
pairs_changed kept e old new other keeps brought h =
    let docs : List StreamDoc = flat_map docs_in (list_of kept (Events 0)) in
    let cite : Dep → List ℕ = dep_cites (view_of (kept ++ e ∷ [])) in
    let first_ : ArePairsAmong (dep_cites (view_of kept)) kept (first_docs_among docs)
    (first_jobs_among (flat_map jobs_in (first_docs_among docs))) new =
    record { streams = λ c k. keeps c (h.streams c k); jobs = λ c k. keeps c (h.jobs c k) } in
    let cited : ArePairsAmong cite kept (first_docs_among docs)
    (first_jobs_among (flat_map jobs_in (first_docs_among docs))) new =
    subst
    (λ (f : Dep → List ℕ).
    ArePairsAmong f kept (first_docs_among docs) (first_jobs_among (flat_map jobs_in (first_docs_among docs))) new)
    (λ j d. sym (cited_same kept e other d) j) first_ in
    subst
    (λ (ds : List StreamDoc).
    ArePairsAmong cite (kept ++ e ∷ []) (first_docs_among ds) (first_jobs_among (flat_map jobs_in (first_docs_among ds)))
    new)
    (sym (docs_without kept e other))
    (pairs_still cite kept e (first_docs_among docs) (first_jobs_among (flat_map jobs_in (first_docs_among docs))) new
    brought cited)

-- no entries
pub pairs_of_none : (pairs : List ℕ) → ArePairsOf [] pairs
unfolding list_of catalogue jobs
pairs_of_none pairs = record { streams = λ c h. cc; jobs = λ c h. cc }

-- where a pair is not there, nothing passes that would bring it
missing : (pairs those : List ℕ) (c : ℕ) → HasAll pairs those → has pairs c ≡ false → has those c ≡ false
missing pairs those c h k = go (has those c) refl
  where
    go : (b : Bool) → has those c ≡ b → b ≡ false
    go false e = refl
    go true e = absurd (let q : true ≡ false = sym (h c e) ∙ k in cc)

none_any : {X : Type 0} (test : X → Bool) (f : X → List ℕ) (xs : List X) (c : ℕ)
    → ((i : ℕ) (x : X) → slice_get xs i ≡ Some x → test x ≡ true → has (f x) c ≡ true)
    → has (flat_map f xs) c ≡ false → list_any test xs ≡ false
none_any test f [] c h k = refl
none_any {X} test f (x ∷ xs) c h k =
    let t : (has (f x) c ≡ false) × (has (flat_map f xs) c ≡ false) =
    neither (has (f x) c) (has (flat_map f xs) c) (sym (has_append (f x) (flat_map f xs) c) ∙ k) in
    ap (λ (b : Bool). b || list_any test xs) (go (test x) refl t.0)
    ∙ none_any test f xs c (λ i. h (suc i)) t.1
  where
    go : (b : Bool) → test x ≡ b → has (f x) c ≡ false → test x ≡ false
    go false e n = e
    go true e n = absurd (let q : true ≡ false = sym (h 0 x refl e) ∙ n in cc)

pub works_not : (kept view : List Entry) (pairs : List ℕ) (v x : ℕ) → kept ≡ view → ArePairsOf kept pairs
    → has pairs (code v x) ≡ false → works_on (view_of view) v x ≡ false
works_not kept view pairs v x one h k =
    let V = view_of kept in
    subst (λ (l : List Entry). works_on (view_of l) v x ≡ false) one
    (none_any (λ (p : StreamJob). eqb p.parent.ws v && eqb p.doc.ws x) (job_pairs (dep_cites V) kept) (jobs V) (code v x)
    (λ i p s t.
    let b : (eqb p.parent.ws v ≡ true) × (eqb p.doc.ws x ≡ true) = and_parts (eqb p.parent.ws v) (eqb p.doc.ws x) t in
    in_first (code p.parent.ws p.doc.ws ∷ [])
    (object_pairs (dep_cites V) p.doc.ws (Job p.doc.no) p.doc.deps (list_of kept (Events p.doc.ws))) (code v x)
    ((λ j. has (code (number_tells p.parent.ws v b.0 j) (number_tells p.doc.ws x b.1 j) ∷ []) (code v x)) ∙ itself (code v x)))
    (missing pairs (flat_map (job_pairs (dep_cites V) kept) (jobs V)) (code v x) h.jobs k))

-- whom an object cites is in its pairs
has_mapped : (w : ℕ) (xs : List ℕ) (x : ℕ) → has xs x ≡ true → has (map (code w) xs) (code w x) ≡ true
has_mapped w [] x h = cc
has_mapped w (y ∷ ys) x h =
    elim (in_either (y ∷ []) ys x h) [
      | inl e ↦ in_first (code w y ∷ []) (map (code w) ys) (code w x)
          (ap (λ (n : ℕ). has (code w n ∷ []) (code w x)) (one y x e) ∙ itself (code w x))
      | inr e ↦ in_second (code w y ∷ []) (map (code w) ys) (code w x) (has_mapped w ys x e)
    ]
  where
    one : (a b : ℕ) → has (a ∷ []) b ≡ true → a ≡ b
    one a b k =
        elim (eqb_tells a b) [
          | inl e ↦ e.1
          | inr e ↦ absurd (let q : true ≡ false = sym k ∙ ap (λ (t : Bool). t || false) e.0 in cc)
        ]

cited_there : (cite : Dep → List ℕ) (w : ℕ) (ds : List Dep) (x : ℕ) → has (flat_map cite ds) x ≡ true
    → has (flat_map (dep_pairs cite w) ds) (code w x) ≡ true
cited_there cite w [] x h = cc
cited_there cite w (d ∷ ds) x h =
    elim (in_either (cite d) (flat_map cite ds) x h) [
      | inl e ↦ in_first (dep_pairs cite w d) (flat_map (dep_pairs cite w) ds) (code w x) (has_mapped w (cite d) x e)
      | inr e ↦ in_second (dep_pairs cite w d) (flat_map (dep_pairs cite w) ds) (code w x) (cited_there cite w ds x e)
    ]

taken_cited : (cite : Dep → List ℕ) (n : ℕ) (ds : List Dep) (x : ℕ) → has (flat_map cite (take n ds)) x ≡ true
    → has (flat_map cite ds) x ≡ true
taken_cited cite zero [] x h = h
taken_cited cite (suc n) [] x h = h
taken_cited cite zero (d ∷ ds) x h = cc
taken_cited cite (suc n) (d ∷ ds) x h =
    elim (in_either (cite d) (flat_map cite (take n ds)) x h) [
      | inl e ↦ in_first (cite d) (flat_map cite ds) x e
      | inr e ↦ in_second (cite d) (flat_map cite ds) x (taken_cited cite n ds x e)
    ]

object_cites : (kept : List Entry) (w : ℕ) (o : Obj) (written : List Dep) (x : ℕ)
    → document_deps (view_of kept) o ≡ written → owner_events (view_of kept) o ≡ list_of kept (Events w)
    → has (cites (view_of kept) o) x ≡ true
    → has (object_pairs (dep_cites (view_of kept)) w o written (list_of kept (Events w))) (code w x) ≡ true
unfolding cites deps
object_cites kept w o written x docs events h =
    let V = view_of kept in
    cited_there (dep_cites V) w (written ++ flat_map (deps_added_by o) (commands (list_of kept (Events w)))) x
    (sym (λ j. has (flat_map (dep_cites V) (docs j ++ flat_map (deps_added_by o) (commands (events j)))) x)
    ∙ taken_cited (dep_cites V) 65535
    (document_deps V o ++ flat_map (deps_added_by o) (commands (owner_events V o))) x h)

-- what counts is found by its number
once : {X : Type 0} (number : X → ℕ) (xs : List X) (i : ℕ) (x : X) → slice_get (firsts number [] xs) i ≡ Some x
    → find (λ (y : X). eqb (number y) (number x)) (firsts number [] xs) ≡ Some x
once {X} number xs i x s =
    let items : List X = firsts number [] xs in
    sym (found_at (λ (y : X). Some y) number items items refl (number x))
    ∙ ap (option_and_then (λ j. option_and_then (λ (y : X). Some y) (slice_get items j))) (first_place number [] xs i x s).1
    ∙ ap (option_and_then (λ (y : X). Some y)) s

stream_cites : (kept : List Entry) (i : ℕ) (d : StreamDoc) (x : ℕ) → slice_get (catalogue (view_of kept)) i ≡ Some d
    → has (cites (view_of kept) (Stream d.no)) x ≡ true
    → has (stream_pairs (dep_cites (view_of kept)) kept d) (code d.ws x) ≡ true
unfolding catalogue document_deps owner_events owner stream
stream_cites kept i d x s h =
    let found : find (λ (y : StreamDoc). eqb y.no d.no) (first_docs_among (flat_map docs_in (list_of kept (Events 0)))) ≡ Some d =
    once (λ (y : StreamDoc). y.no) (flat_map docs_in (list_of kept (Events 0))) i d s in
    object_cites kept d.ws (Stream d.no) d.deps x
    (ap (λ (o : Option StreamDoc). option_map_or (λ (y : StreamDoc). y.deps) o []) found)
    (ap
    (λ (o : Option StreamDoc).
    option_map_or (λ w. list_of kept (Events w)) (option_map (λ (y : StreamDoc). y.ws) o) [])
    found)
    h

job_cites : (kept : List Entry) (i : ℕ) (p : StreamJob) (x : ℕ) → slice_get (jobs (view_of kept)) i ≡ Some p
    → has (cites (view_of kept) (Job p.doc.no)) x ≡ true
    → has (job_pairs (dep_cites (view_of kept)) kept p) (code p.doc.ws x) ≡ true
unfolding jobs document_deps owner_events owner job
job_cites kept i p x s h =
    let found : find (λ (y : StreamJob). eqb y.doc.no p.doc.no) (first_jobs_among (flat_map jobs_in (catalogue (view_of kept)))) ≡ Some p =
    once (λ (y : StreamJob). y.doc.no) (flat_map jobs_in (catalogue (view_of kept))) i p s in
    in_second (code p.parent.ws p.doc.ws ∷ [])
    (object_pairs (dep_cites (view_of kept)) p.doc.ws (Job p.doc.no) p.doc.deps (list_of kept (Events p.doc.ws)))
    (code p.doc.ws x)
    (object_cites kept p.doc.ws (Job p.doc.no) p.doc.deps x
    (ap (λ (o : Option StreamJob). option_map_or (λ (y : StreamJob). y.doc.deps) o []) found)
    (ap
    (λ (o : Option StreamJob).
    option_map_or (λ w. list_of kept (Events w)) (option_map (λ (y : StreamJob). y.doc.ws) o) [])
    found)
    h)

filtered : {X Y : Type 0} (test : Y → Bool) (g : X → Y) (q : X → Bool) (xs : List X)
    → list_any test (map g (filter q xs)) ≡ list_any (λ (x : X). q x && test (g x)) xs
filtered test g q [] = refl
filtered {X} {Y} test g q (x ∷ xs) = go (q x) (filtered test g q xs)
  where
    go : (b : Bool) → list_any test (map g (filter q xs)) ≡ list_any (λ (x : X). q x && test (g x)) xs
        → list_any test (map g (cond b (x ∷ filter q xs) (filter q xs)))
        ≡ ((b && test (g x)) || list_any (λ (x : X). q x && test (g x)) xs)
    go true h = ap (λ (t : Bool). test (g x) || t) h
    go false h = h

pub cites_not : (kept view : List Entry) (pairs : List ℕ) (v x : ℕ) → kept ≡ view → ArePairsOf kept pairs
    → has pairs (code v x) ≡ false
    → list_any (λ o. has (cites (view_of view) o) x) (objects_of (view_of view) v) ≡ false
unfolding objects_of streams_of jobs_of
cites_not kept view pairs v x one h k =
    let V = view_of kept in
    let test : Obj → Bool = λ o. has (cites V o) x in
    let streams : list_any test (map (λ (d : StreamDoc). Stream d.no) (filter (λ (d : StreamDoc). eqb d.ws v) (catalogue V))) ≡ false =
    filtered test (λ (d : StreamDoc). Stream d.no) (λ (d : StreamDoc). eqb d.ws v) (catalogue V)
    ∙ none_any (λ (d : StreamDoc). eqb d.ws v && test (Stream d.no)) (stream_pairs (dep_cites V) kept) (catalogue V)
    (code v x)
    (λ i d s t.
    let b : (eqb d.ws v ≡ true) × (test (Stream d.no) ≡ true) = and_parts (eqb d.ws v) (test (Stream d.no)) t in
    ap (λ (n : ℕ). has (stream_pairs (dep_cites V) kept d) (code n x)) (sym (number_tells d.ws v b.0))
    ∙ stream_cites kept i d x s b.1)
    (missing pairs (flat_map (stream_pairs (dep_cites V) kept) (catalogue V)) (code v x) h.streams k) in
    let placed : list_any test (map (λ (p : StreamJob). Job p.doc.no) (filter (λ (p : StreamJob). eqb p.doc.ws v) (jobs V))) ≡ false =
    filtered test (λ (p : StreamJob). Job p.doc.no) (λ (p : StreamJob). eqb p.doc.ws v) (jobs V)
    ∙ none_any (λ (p : StreamJob). eqb p.doc.ws v && test (Job p.doc.no)) (job_pairs (dep_cites V) kept) (jobs V) (code v x)
    (λ i p s t.
    let b : (eqb p.doc.ws v ≡ true) × (test (Job p.doc.no) ≡ true) = and_parts (eqb p.doc.ws v) (test (Job p.doc.no)) t in
    ap (λ (n : ℕ). has (job_pairs (dep_cites V) kept p) (code n x)) (sym (number_tells p.doc.ws v b.0))
    ∙ job_cites kept i p x s b.1)
    (missing pairs (flat_map (job_pairs (dep_cites V) kept) (jobs V)) (code v x) h.jobs k) in
    subst (λ (l : List Entry). list_any (λ o. has (cites (view_of l) o) x) (objects_of (view_of l) v) ≡ false) one
    (list_any-append test
    (map (λ (d : StreamDoc). Stream d.no) (filter (λ (d : StreamDoc). eqb d.ws v) (catalogue V)))
    (map (λ (p : StreamJob). Job p.doc.no) (filter (λ (p : StreamJob). eqb p.doc.ws v) (jobs V)))
    ∙ (λ j. streams j || placed j))
