-- A time that is reached is that of an object with a time.
use Rattle.std.proofs.Common.{◌≡◌, ◌∙◌, ◌∷◌, [], ℕ, Bool, List, None, Option, Some, ap, cond, false, filter, filter_map, is_some}
use Rattle.std.proofs.Common.{map, refl, sym, true}
use Rattle.std.specs.List.{AllByRecursion, cons_option, list_any}
use Rattle.std.specs.Prelude.{◌&&◌, ◌==◌, ◌||◌}
use Rattle.model.specs.Types.{Events, Job, Obj, Stream, StreamDoc}
use Rattle.model.specs.History.{View}
use Rattle.model.specs.Catalogue.{StreamJob, catalogue, is_member, jobs, jobs_of, streams_of}
use Rattle.model.specs.Dependencies.{NumberedDep, document_deps, owner_events, unwaived_deps}
use Rattle.model.specs.OwnMembers.{own_jobs, own_streams}
use Rattle.model.specs.Turn.{dep_time}
use Rattle.model.specs.Types.{Dep}
use Rattle.owner_fold.specs.Given.{has_time, is_timed}
use Rattle.owner_fold.specs.Times.{timed_jobs, timed_streams}
use Rattle.dependencies.specs.Planned.{IsPlannedJob, IsPlannedStream}
use Rattle.dependencies.proofs.Found.{jobs_planned, streams_planned}
use Rattle.dependencies.proofs.Timed.{both_and, job_given, stream_given, timed_if, timed_jobs_all, timed_streams_all}
use Rattle.batchman_core.specs.Reached.{is_any_reached, is_any_reached_of, is_reached}
use Rattle.batchman_core.proofs.Times.{reached_here, reached_later, objects_of}

-- among those whom another test lets pass too, where each that counts passes it
reached_among : {X : Type 0} (P : X → Type 0) (V : View) (clock t : ℕ) (p q : X → Bool) (obj : X → Obj) (s : X → Bool)
    (xs : List X)
    → ((x : X) → P x → (p x && (q x && is_any_reached clock t (unwaived_deps V (obj x)))) ≡ true → s x ≡ true)
    → AllByRecursion P xs
    → is_any_reached_of V clock t (objects_of p q obj (filter s xs)) ≡ is_any_reached_of V clock t (objects_of p q obj xs)
reached_among P V clock t p q obj s [] h a = refl
reached_among {X} P V clock t p q obj s (x ∷ xs) h a =
    go (p x && (q x && is_any_reached clock t (unwaived_deps V (obj x)))) (s x) refl refl
    (reached_among P V clock t p q obj s xs h a.1)
  where
    kept : (c : Bool) → s x ≡ c
        → is_any_reached_of V clock t (objects_of p q obj (filter s (x ∷ xs)))
        ≡ is_any_reached_of V clock t (objects_of p q obj (cond c (x ∷ filter s xs) (filter s xs)))
    kept c f =
        ap (λ (b : Bool). is_any_reached_of V clock t (objects_of p q obj (cond b (x ∷ filter s xs) (filter s xs)))) f

    go : (b c : Bool) → (p x && (q x && is_any_reached clock t (unwaived_deps V (obj x)))) ≡ b → s x ≡ c
        → is_any_reached_of V clock t (objects_of p q obj (filter s xs)) ≡ is_any_reached_of V clock t (objects_of p q obj xs)
        → is_any_reached_of V clock t (objects_of p q obj (filter s (x ∷ xs)))
        ≡ is_any_reached_of V clock t (objects_of p q obj (x ∷ xs))
    go true true e f ih =
        kept true f ∙ reached_here V clock t p q obj x (filter s xs) e ∙ sym (reached_here V clock t p q obj x xs e)
    go true false e f ih = absurd (let k : false ≡ true = sym f ∙ h x a.0 e in cc)
    go false true e f ih =
        kept true f ∙ reached_later V clock t p q obj x (filter s xs) e ∙ ih
        ∙ sym (reached_later V clock t p q obj x xs e)
    go false false e f ih = kept false f ∙ ih ∙ sym (reached_later V clock t p q obj x xs e)

timed_any : (clock t : ℕ) (ps : List NumberedDep) → is_any_reached clock t ps ≡ true
    → list_any (λ (p : NumberedDep). has_time p.dep) ps ≡ true
timed_any clock t [] h = cc
timed_any clock t (p ∷ ps) h = go (dep_time p.dep) h (timed_any clock t ps)
  where
    go : (o : Option ℕ)
        → list_any (is_reached clock t) (cons_option o (filter_map (λ (q : NumberedDep). dep_time q.dep) ps)) ≡ true
        → (is_any_reached clock t ps ≡ true → list_any (λ (q : NumberedDep). has_time q.dep) ps ≡ true)
        → (is_some o || list_any (λ (q : NumberedDep). has_time q.dep) ps) ≡ true
    go None k ih = ih k
    go (Some u) k ih = refl

reached_is_timed : (V : View) (w clock t : ℕ) (o : Obj) (written : List Dep) → document_deps V o ≡ written
    → owner_events V o ≡ V (Events w) → is_any_reached clock t (unwaived_deps V o) ≡ true
    → is_timed o written (V (Events w)) ≡ true
reached_is_timed V w clock t o written docs events h =
    timed_if V w o written (λ (p : NumberedDep). has_time p.dep) docs events (λ p k. k)
    (timed_any clock t (unwaived_deps V o) h)

-- before the walks
pub streams_at_first : (V : View) (w clock t : ℕ) (left : List StreamDoc) → left ≡ timed_streams V w
    → is_any_reached_of V clock t (map (λ (d : StreamDoc). Stream d.no) (own_streams V w))
    ≡ is_any_reached_of V clock t
    (objects_of (λ (d : StreamDoc). d.ws == w) (λ (d : StreamDoc). is_member V d.no) (λ (d : StreamDoc). Stream d.no) left)
unfolding own_streams streams_of
streams_at_first V w clock t left e =
    sym
    (reached_among (IsPlannedStream V) V clock t (λ (d : StreamDoc). d.ws == w) (λ (d : StreamDoc). is_member V d.no)
    (λ (d : StreamDoc). Stream d.no)
    (λ (d : StreamDoc). (d.ws == w) && (is_member V d.no && is_timed (Stream d.no) d.deps (V (Events w)))) (catalogue V)
    (λ d h k.
    both_and (d.ws == w) (is_member V d.no) (is_any_reached clock t (unwaived_deps V (Stream d.no)))
    (is_timed (Stream d.no) d.deps (V (Events w)))
    (λ a c.
    reached_is_timed V w clock t (Stream d.no) d.deps (stream_given V w d h a).0 (stream_given V w d h a).1 c)
    k)
    (streams_planned V))
    ∙ ap
    (λ (l : List StreamDoc).
    is_any_reached_of V clock t
    (objects_of (λ (d : StreamDoc). d.ws == w) (λ (d : StreamDoc). is_member V d.no) (λ (d : StreamDoc). Stream d.no) l))
    (sym (e ∙ timed_streams_all V w))

pub jobs_at_first : (V : View) (w clock t : ℕ) (left : List StreamJob) → left ≡ timed_jobs V w
    → is_any_reached_of V clock t (map (λ (p : StreamJob). Job p.doc.no) (own_jobs V w))
    ≡ is_any_reached_of V clock t
    (objects_of (λ (p : StreamJob). p.doc.ws == w) (λ (p : StreamJob). is_member V p.parent.no)
    (λ (p : StreamJob). Job p.doc.no) left)
unfolding own_jobs jobs_of
jobs_at_first V w clock t left e =
    sym
    (reached_among (IsPlannedJob V) V clock t (λ (p : StreamJob). p.doc.ws == w)
    (λ (p : StreamJob). is_member V p.parent.no) (λ (p : StreamJob). Job p.doc.no)
    (λ (p : StreamJob). (p.doc.ws == w) && (is_member V p.parent.no && is_timed (Job p.doc.no) p.doc.deps (V (Events w))))
    (jobs V)
    (λ p h k.
    both_and (p.doc.ws == w) (is_member V p.parent.no) (is_any_reached clock t (unwaived_deps V (Job p.doc.no)))
    (is_timed (Job p.doc.no) p.doc.deps (V (Events w)))
    (λ a c. reached_is_timed V w clock t (Job p.doc.no) p.doc.deps (job_given V w p h a).0 (job_given V w p h a).1 c)
    k)
    (jobs_planned V))
    ∙ ap
    (λ (l : List StreamJob).
    is_any_reached_of V clock t
    (objects_of (λ (p : StreamJob). p.doc.ws == w) (λ (p : StreamJob). is_member V p.parent.no)
    (λ (p : StreamJob). Job p.doc.no) l))
    (sym (e ∙ timed_jobs_all V w))
