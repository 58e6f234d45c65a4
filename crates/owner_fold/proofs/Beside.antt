-- The plan and the sets beside the entries, one entry further.
use Rattle.std.proofs.Common.{[], ℕ, ◌++◌, ◌∙◌, ◌∷◌, ◌≡◌, ◌||◌, Bool, List, None, Some, ap, false, flat_map, map, slice_get, subst, sym, true}
use Rattle.grouped_places.proofs.Finding.{nothing_there}
use Rattle.model.specs.Types.{Entry, Events, StreamDoc}
use Rattle.model.specs.History.{list_of, view_of}
use Rattle.model.specs.Catalogue.{StreamJob, catalogue, docs_in, jobs, jobs_in, members}
use Rattle.model.specs.Dependencies.{dep_cites}
use Rattle.owner_fold.specs.Kept.{IsKeptBeside}
use Rattle.owner_fold.specs.Numbers.{ArePlaces}
use Rattle.owner_fold.specs.Ordered.{has_orders, is_of_orders}
use Rattle.owner_fold.specs.Pairs.{ArePairsAmong, ArePairsOf, AreWorksOf, HasAll, pairs_in}
use Rattle.owner_fold.specs.Plans.{IsPlanOf, is_planning}
use Rattle.owner_fold.specs.Sets.{AreSetsAmong, AreSetsOf, Begins, Prepared, change_in}
use Rattle.owner_fold.specs.DocPlaces.{AreJobPlaces, AreStreamPlaces, first_docs_among, first_jobs_among}
use Rattle.owner_fold.specs.declared.changes.Change.{Change}
use Rattle.owner_fold.specs.declared.plans.Plan.{Plan}
use Rattle.owner_fold.specs.declared.sets.Sets.{Sets}
use Rattle.owner_fold.proofs.Changing.{sets_planned, sets_prepared, sets_with}
use Rattle.owner_fold.proofs.Further.{docs_without, plan_without}
use Rattle.owner_fold.proofs.Ordering.{orders_planned, orders_with}
use Rattle.owner_fold.proofs.Pairing.{pairs_changed, pairs_planned}
use Rattle.owner_fold.proofs.Working.{works_stay}

-- with any such list
pub beside_same : (kept new : List Entry) (plan : Plan) (sets : Sets) (pairs works : List ℕ) (ordered : Bool)
    → new ≡ kept → IsKeptBeside kept plan sets pairs works ordered → IsKeptBeside new plan sets pairs works ordered
beside_same kept new plan sets pairs works ordered e h =
    subst (λ (l : List Entry). IsKeptBeside l plan sets pairs works ordered) (sym e) h

-- sets that are prepared, and more pairs
pub beside_prepared : (kept new : List Entry) (plan : Plan) (old mid : Sets) (pairs more works : List ℕ)
    (ordered : Bool) → new ≡ kept → Prepared old mid → HasAll more pairs → IsKeptBeside kept plan old pairs works ordered
    → IsKeptBeside new plan mid more works ordered
beside_prepared kept new plan old mid pairs more works ordered e p keeps h =
    beside_same kept new plan mid more works ordered e
    (record {
      plan = h.plan;
      sets =
          sets_prepared kept (members (view_of kept)) (catalogue (view_of kept)) (jobs (view_of kept)) old mid p h.sets;
      pairs =
          record { streams = λ c k. keeps c (h.pairs.streams c k); jobs = λ c k. keeps c (h.pairs.jobs c k) };
      works = h.works;
      ordered = h.ordered;
    })

-- a plan or an added stream, for which plan and sets are made anew
pub beside_planned : (kept new : List Entry) (e : Entry) (plan : Plan) (sets : Sets) (pairs works : List ℕ)
    (ordered : Bool) → is_planning e ≡ true
    → IsPlanOf (kept ++ e ∷ []) plan
    → ((ms : List ℕ) (streams : List StreamDoc) (placed : List StreamJob) → ArePlaces ms plan.index.members
    → AreStreamPlaces (kept ++ e ∷ []) plan.doc_places.streams streams
    → AreJobPlaces (kept ++ e ∷ []) plan.doc_places.jobs placed → AreSetsAmong kept ms streams placed sets)
    → ArePairsAmong (dep_cites (view_of (kept ++ e ∷ []))) kept (catalogue (view_of (kept ++ e ∷ [])))
    (jobs (view_of (kept ++ e ∷ []))) pairs
    → AreWorksOf (kept ++ e ∷ []) works → ordered ≡ has_orders kept → new ≡ kept ++ e ∷ []
    → IsKeptBeside new plan sets pairs works ordered
unfolding catalogue jobs
beside_planned kept new e plan sets pairs works ordered h p anew paired worked told grown =
    let ms : List ℕ = members (view_of (kept ++ e ∷ [])) in
    let places : ArePlaces ms plan.index.members =
    subst (λ (l : List ℕ). ArePlaces l plan.index.members) p.members p.index.members in
    beside_same (kept ++ e ∷ []) new plan sets pairs works ordered grown
    (record {
      plan = p;
      sets =
          sets_planned kept e ms (catalogue (view_of (kept ++ e ∷ []))) (jobs (view_of (kept ++ e ∷ []))) sets h
          (anew ms (catalogue (view_of (kept ++ e ∷ []))) (jobs (view_of (kept ++ e ∷ []))) places p.doc_places.streams
          p.doc_places.jobs);
      pairs = pairs_planned kept e pairs h paired;
      works = worked;
      ordered = told ∙ sym (orders_planned kept e h);
    })

-- another entry, for which the sets were prepared
pub beside_changed : (kept new : List Entry) (e : Entry) (plan : Plan) (old mid last_ : Sets)
    (change_ : Change) (pairs more works : List ℕ) (before now : Bool)
    → IsKeptBeside kept plan old pairs works before → is_planning e ≡ false
    → change_ ≡ change_in e.body e.feed → Prepared old mid
    → Begins plan.index change_ mid → new ≡ kept ++ e ∷ []
    → ((ms : List ℕ) (streams : List StreamDoc) (placed : List StreamJob)
    → ArePlaces (map (λ (d : StreamDoc). d.no) streams) plan.index.streams
    → ArePlaces (map (λ (p : StreamJob). p.doc.no) placed) plan.index.jobs
    → AreSetsAmong new ms streams placed mid → AreSetsAmong new ms streams placed last_)
    → HasAll more pairs → HasAll more (pairs_in (dep_cites (view_of (kept ++ e ∷ []))) e.body e.feed)
    → now ≡ (is_of_orders e.feed || before) → IsKeptBeside new plan last_ more works now
unfolding catalogue jobs
beside_changed kept new e plan old mid last_ change_ pairs more works before now h other one p begins grown settled keeps brought told =
    let ms : List ℕ = members (view_of kept) in
    let docs : List StreamDoc = flat_map docs_in (list_of kept (Events 0)) in
    let all : List StreamJob = flat_map jobs_in (first_docs_among docs) in
    let streams : ArePlaces (map (λ (d : StreamDoc). d.no) (first_docs_among docs)) plan.index.streams =
    subst (λ l. ArePlaces l plan.index.streams) h.plan.doc_places.streams.1 h.plan.index.streams in
    let placed : ArePlaces (map (λ (p : StreamJob). p.doc.no) (first_jobs_among all)) plan.index.jobs =
    subst (λ l. ArePlaces l plan.index.jobs) h.plan.doc_places.jobs.1 h.plan.index.jobs in
    let first_ : AreSetsAmong kept ms (first_docs_among docs) (first_jobs_among all) mid =
    sets_prepared kept ms (first_docs_among docs) (first_jobs_among all) old mid p h.sets in
    let next : AreSetsAmong (kept ++ e ∷ []) ms (first_docs_among docs) (first_jobs_among all) mid =
    sets_with kept e ms docs all mid plan.index change_ one streams placed begins first_ in
    let then_ : AreSetsAmong new ms (first_docs_among docs) (first_jobs_among all) mid =
    subst (λ (l : List Entry). AreSetsAmong l ms (first_docs_among docs) (first_jobs_among all) mid) (sym grown) next in
    let same : flat_map docs_in (list_of new (Events 0)) ≡ docs =
    ap (λ (l : List Entry). flat_map docs_in (list_of l (Events 0))) grown ∙ docs_without kept e other in
    let later : IsPlanOf (kept ++ e ∷ []) plan = plan_without kept e plan other h.plan in
    let same_members : members (view_of new) ≡ ms =
    ap (λ (l : List Entry). members (view_of l)) grown ∙ sym later.members ∙ h.plan.members in
    record {
      plan = subst (λ (l : List Entry). IsPlanOf l plan) (sym grown) later;
      sets =
          subst
          (λ (l : List ℕ).
          AreSetsAmong new l (first_docs_among (flat_map docs_in (list_of new (Events 0))))
          (first_jobs_among (flat_map jobs_in (first_docs_among (flat_map docs_in (list_of new (Events 0)))))) last_)
          (sym same_members)
          (subst
          (λ (ds : List StreamDoc).
          AreSetsAmong new ms (first_docs_among ds) (first_jobs_among (flat_map jobs_in (first_docs_among ds))) last_)
          (sym same) (settled ms (first_docs_among docs) (first_jobs_among all) streams placed then_));
      pairs =
          subst (λ (l : List Entry). ArePairsOf l more) (sym grown) (pairs_changed kept e pairs more other keeps brought h.pairs);
      works = subst (λ (l : List Entry). AreWorksOf l works) (sym grown) (works_stay kept e works other h.works);
      ordered =
          told ∙ ap (λ (b : Bool). is_of_orders e.feed || b) h.ordered ∙ sym (orders_with kept e)
          ∙ ap has_orders (sym grown);
    }

-- no entries
nobody : {X : Type 0} {A : Type 0} (i : ℕ) (x : X) → slice_get {X = X} [] i ≡ Some x → A
nobody {X} i x s = let q : None ≡ Some x = sym (nothing_there {X = X} i) ∙ s in absurd (cc)

pub sets_of_none : (sets : Sets) → AreSetsOf [] sets
unfolding list_of catalogue jobs
sets_of_none sets = record {
  waiting = λ i x s t. nobody i x s;
  begun = λ i x s t. nobody i x s;
  opened = λ i x s t. nobody i x s;
  by_stream = λ i x s t. nobody i x s;
  timed = record { streams = λ i x s t. nobody i x s; jobs = λ i x s t. nobody i x s };
  filed = record { streams = λ i x s t. nobody i x s; jobs = λ i x s t. nobody i x s };
}
