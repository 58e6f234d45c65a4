-- At rest nobody who saw the whole history would find anything to launch, release or end.
use Rattle.std.proofs.Common.{◌≡◌, ℕ, ◌<◌, Bool, true, false, ◌==◌, ◌&&◌, ◌||◌, inl, inr, List, [], ◌∷◌, ◌++◌, refl, ap, sym}
use Rattle.std.proofs.Common.{◌⊎◌, subst, ◌∙◌, Option, Some, None, map}
use Rattle.std.proofs.lemmas.Bool.{eq-eqb, eqb-true}
use Rattle.std.specs.List.{AllByRecursion}
use Rattle.std.specs.Option.{option_map_or}
use Rattle.std.specs.Prelude.{eqb, filter, flat_map}
use Rattle.lemmas.proofs.Booleans.{and_made, or_made_left, or_made_right}
use Rattle.lemmas.proofs.Lists.{all_append, all_map, all_such}
use Rattle.model.specs.Types.{Events, Job, JobDoc, Net, Stream, StreamDoc}
use Rattle.model.specs.Words.{all_of, has}
use Rattle.model.specs.Network.{IsTree, domain, has_full_status, is_behind, node_count}
use Rattle.model.specs.History.{View, list_of}
use Rattle.model.specs.Catalogue.{StreamJob, catalogue, job, jobs, jobs_in, jobs_of, jobs_of_stream, stream, stream_of}
use Rattle.model.specs.Catalogue.{streams_of}
use Rattle.model.specs.Dependencies.{cites}
use Rattle.model.specs.Readiness.{is_ready, ready_conditions}
use Rattle.model.specs.OwnMembers.{may_end, may_end_in, may_release, may_release_in}
use Rattle.model.specs.Turn.{end_witnesses, witnesses}
use Rattle.model.specs.Forwarding.{objects_of, wants, works_on}
use Rattle.model.specs.World.{World, view_at}
use Rattle.model.specs.Invariant.{Invariant}
use Rattle.model_laws.proofs.Decisions.{end_same, ready_same, release_same}
use Rattle.model_laws.proofs.Firsts.{streams_found}
use Rattle.model_laws.proofs.Lists.{all_filter}
use Rattle.model_laws.proofs.Locality.{AgreeOn, local_job, local_stream}
use Rattle.model_laws.proofs.Options.{filter_all, find_passes, there_if}
use Rattle.model_laws.proofs.Inside.{firsts_all}
use Rattle.rest_laws.specs.Rest.{HasDecided, HasDecidedOf, IsAtRest, net_at}
use Rattle.rest_laws.proofs.Decided.{decided}
use Rattle.rest_laws.proofs.Held.{wants_master}
use Rattle.rest_laws.proofs.Own.{IsIn, all_has, any_in, found_in, in_filter, in_map, wants_cited, wants_parent, whole}
use Rattle.rest_laws.proofs.Own.{whole_own}

in_left : {A : Type 0} (xs ys : List A) (a : A) → IsIn a xs → IsIn a (xs ++ ys)
unfolding IsIn
in_left [] ys a h = absurd h
in_left (x ∷ xs) ys a (inl e) = inl e
in_left (x ∷ xs) ys a (inr h) = inr (in_left xs ys a h)

-- whom a stream of w's cites, w wants
stream_cited : (N : Net) (V : View) (w : ℕ) (d : StreamDoc) → stream V d.no ≡ Some d → d.ws ≡ w → (y : ℕ)
    → has (cites V (Stream d.no)) y ≡ true → wants N V w y ≡ true
unfolding wants objects_of streams_of stream
stream_cited N V w d there mine y h =
    or_made_right (eqb y 0) _
    (or_made_right (has_full_status N w && (eqb (domain N y) (domain N w) || is_behind N (domain N y) (domain N w))) _
    (or_made_right (works_on V w y) _
    (or_made_right (works_on V y w) _
    (any_in (λ o. has (cites V o) y) (objects_of V w) (Stream d.no)
    (in_left (map (λ (d : StreamDoc). Stream d.no) (streams_of V w))
    (map (λ (p : StreamJob). Job p.doc.no) (jobs_of V w)) (Stream d.no)
    (in_map (λ (d : StreamDoc). Stream d.no) (streams_of V w) d
    (in_filter (λ (d : StreamDoc). d.ws == w) (catalogue V) d
    (found_in (λ (e : StreamDoc). e.no == d.no) (catalogue V) d there) (eq-eqb d.ws w mine)))) h))))

job_not_mine : (N : Net) (V : View) (w : ℕ) (p : StreamJob) → eqb p.doc.ws w ≡ false
    → all_of (ready_conditions N V w p) ≡ false
job_not_mine N V w p e = rw e refl

stream_not_mine : (N : Net) (V : View) (w : ℕ) (d : StreamDoc) → eqb d.ws w ≡ false
    → may_release_in N V w d ≡ false
stream_not_mine N V w d e = rw e refl

no_end_of_others : (V : View) (w : ℕ) (d : StreamDoc) → eqb d.ws w ≡ false → may_end_in V w d ≡ false
no_end_of_others V w d e = rw e refl

-- the stream of a job is the catalogue's stream of that number
parents_found : (V : View) → AllByRecursion (λ (p : StreamJob). stream V p.parent.no ≡ Some p.parent) (jobs V)
unfolding jobs
parents_found V =
    firsts_all (λ (p : StreamJob). stream V p.parent.no ≡ Some p.parent) (λ (p : StreamJob). p.doc.no) []
    (flat_map jobs_in (catalogue V)) (in_docs (catalogue V) (streams_found V))
  where
    in_docs : (ds : List StreamDoc) → AllByRecursion (λ (d : StreamDoc). stream V d.no ≡ Some d) ds
        → AllByRecursion (λ (p : StreamJob). stream V p.parent.no ≡ Some p.parent) (flat_map jobs_in ds)
    in_docs [] h = tt
    in_docs (d ∷ ds) h =
        all_append (λ (p : StreamJob). stream V p.parent.no ≡ Some p.parent) (jobs_in d) (flat_map jobs_in ds)
        (of_doc d.jobs) (in_docs ds h.1)
      where
        of_doc : (js : List JobDoc) → AllByRecursion (λ (p : StreamJob). stream V p.parent.no ≡ Some p.parent)
            (map (λ (j : JobDoc). record { parent = d; doc = j }) js)
        of_doc [] = tt
        of_doc (j ∷ js) = (h.0, of_doc js)

all_itself : {A : Type 0} (xs : List A) → AllByRecursion (λ a. IsIn a xs) xs
unfolding IsIn
all_itself [] = tt
all_itself {A} (x ∷ xs) =
    (inl refl, all_such (λ a. IsIn a xs) (λ a. (x ≡ a) ⊎ IsIn a xs) xs (λ a h. inr h) (all_itself xs))

-- w wants the events of whom its stream has a job on
works_wanted : (N : Net) (V : View) (w : ℕ) (p : StreamJob) → IsIn p (jobs V) → p.parent.ws ≡ w
    → wants N V w p.doc.ws ≡ true
unfolding wants
works_wanted N V w p there mine =
    or_made_right (eqb p.doc.ws 0) _
    (or_made_right (has_full_status N w && (eqb (domain N p.doc.ws) (domain N w) || is_behind N (domain N p.doc.ws)
    (domain N w))) _
    (or_made_left (works_on V w p.doc.ws) _
    (any_in (λ (q : StreamJob). (q.parent.ws == w) && (q.doc.ws == p.doc.ws)) (jobs V) p there
    (and_made (eqb p.parent.ws w) (eqb p.doc.ws p.doc.ws) (eq-eqb p.parent.ws w mine)
    (eq-eqb p.doc.ws p.doc.ws refl)))))

module _ (net : Net) (readings : ℕ → ℕ) (x : World) (tree : IsTree net) (inv : Invariant net x)
    (rest : IsAtRest net readings x) (w : ℕ) (w_in : w < node_count net) where
  G : View
  G = list_of x.history

  N : Net
  N = net_at net x w

  V : View
  V = view_at x w

  done : HasDecided net x w (readings w)
  done = decided net x w (readings w) (rest.quiet w w_in)

  master : V (Events 0) ≡ G (Events 0)
  unfolding V G
  master = whole net readings x tree inv rest w w_in 0 (wants_master (net_at net x w) (view_at x w) w)

  own : V (Events w) ≡ G (Events w)
  unfolding V G
  own = whole_own net readings x tree inv rest w

  wanted : (y : ℕ) → wants N V w y ≡ true → V (Events y) ≡ G (Events y)
  unfolding V G N
  wanted y h = whole net readings x tree inv rest w w_in y h

  not_ready : (j : ℕ) → is_ready N V w j ≡ false
  unfolding V N
  not_ready j = done.launch j

  not_release : (s : ℕ) → may_release N V w s ≡ false
  unfolding V N
  not_release s = done.release s

  no_launch_of : (j : ℕ) (p : StreamJob) → job V j ≡ Some p → p.doc.ws ≡ w → is_ready N G w j ≡ false
  unfolding witnesses stream_of job
  no_launch_of j p there mine =
      let number : p.doc.no ≡ j = eqb-true p.doc.no j
      (there_if (λ (q : StreamJob). (q.doc.no == j) ≡ true) (job V j) p
      (find_passes (λ (q : StreamJob). q.doc.no == j) (jobs V)) there) in
      let there_ : job V p.doc.no ≡ Some p = ap (job V) number ∙ there in
      let agree : AgreeOn V G (w ∷ 0 ∷ p.parent.ws ∷ cites V (Job p.doc.no)) = (
        own,
        (
          master,
          (
            wanted p.parent.ws (wants_parent N V w p there_ mine),
            all_such (λ y. has (cites V (Job p.doc.no)) y ≡ true) (λ y. V (Events y) ≡ G (Events y))
                (cites V (Job p.doc.no)) (λ y h. wanted y (wants_cited N V w p there_ mine y h))
                (all_has (cites V (Job p.doc.no))),
          ),
        ),
      ) in
      sym (ready_same N V G w j
      (subst (λ i. AgreeOn V G (witnesses V w (Job i))) number
      (subst (λ o. AgreeOn V G (w ∷ 0 ∷ option_map_or (λ (d : StreamDoc). d.ws ∷ cites V (Job p.doc.no)) o []))
      (sym (parent_of there_)) agree)))
      ∙ not_ready j
    where
      parent_of : job V p.doc.no ≡ Some p → stream_of V (Job p.doc.no) ≡ Some p.parent
      parent_of e = rw e refl

  no_launch : (j : ℕ) → is_ready N G w j ≡ false
  unfolding is_ready
  no_launch j = go (job V j) refl
    where
      go : (o : Option StreamJob) → job V j ≡ o → is_ready N G w j ≡ false
      go None e = rw (sym (local_job V G master j) ∙ e) refl
      go (Some p) e = by_owner (eqb p.doc.ws w) refl
        where
          by_owner : (b : Bool) → eqb p.doc.ws w ≡ b → is_ready N G w j ≡ false
          by_owner true k = no_launch_of j p e (eqb-true p.doc.ws w k)
          by_owner false k =
              subst (λ o. option_map_or (λ (q : StreamJob). all_of (ready_conditions N G w q)) o false ≡ false)
              (sym (sym (local_job V G master j) ∙ e)) (job_not_mine N G w p k)

  no_release_of : (s : ℕ) (d : StreamDoc) → stream V s ≡ Some d → d.ws ≡ w → may_release N G w s ≡ false
  unfolding witnesses stream_of stream
  no_release_of s d there mine =
      let number : d.no ≡ s = eqb-true d.no s
      (there_if (λ (e : StreamDoc). (e.no == s) ≡ true) (stream V s) d
      (find_passes (λ (e : StreamDoc). e.no == s) (catalogue V)) there) in
      let there_ : stream V d.no ≡ Some d = ap (stream V) number ∙ there in
      let agree : AgreeOn V G (w ∷ 0 ∷ d.ws ∷ cites V (Stream d.no)) = (
        own,
        (
          master,
          (
            subst (λ i. V (Events i) ≡ G (Events i)) (sym mine) own,
            all_such (λ y. has (cites V (Stream d.no)) y ≡ true) (λ y. V (Events y) ≡ G (Events y))
                (cites V (Stream d.no)) (λ y h. wanted y (stream_cited N V w d there_ mine y h))
                (all_has (cites V (Stream d.no))),
          ),
        ),
      ) in
      sym (release_same N V G w s
      (subst (λ i. AgreeOn V G (witnesses V w (Stream i))) number
      (subst (λ o. AgreeOn V G (w ∷ 0 ∷ option_map_or (λ (e : StreamDoc). e.ws ∷ cites V (Stream d.no)) o []))
      (sym there_) agree)))
      ∙ not_release s

  no_release : (s : ℕ) → may_release N G w s ≡ false
  unfolding may_release
  no_release s = go (stream V s) refl
    where
      go : (o : Option StreamDoc) → stream V s ≡ o → may_release N G w s ≡ false
      go None e = rw (sym (local_stream V G master s) ∙ e) refl
      go (Some d) e = by_owner (eqb d.ws w) refl
        where
          by_owner : (b : Bool) → eqb d.ws w ≡ b → may_release N G w s ≡ false
          by_owner true k = no_release_of s d e (eqb-true d.ws w k)
          by_owner false k =
              subst (λ o. option_map_or (may_release_in N G w) o false ≡ false)
              (sym (sym (local_stream V G master s) ∙ e)) (stream_not_mine N G w d k)

  not_end : (s : ℕ) → may_end V w s ≡ false
  unfolding V
  not_end s = done.end_ s

  no_end_of : (s : ℕ) (d : StreamDoc) → stream V s ≡ Some d → d.ws ≡ w → may_end G w s ≡ false
  unfolding end_witnesses jobs_of_stream
  no_end_of s d there mine =
      sym (end_same V G w s (
        own,
        (
          master,
          all_map (λ y. V (Events y) ≡ G (Events y)) (λ (p : StreamJob). p.doc.ws) (jobs_of_stream V s)
              (three (filter (λ (p : StreamJob). p.parent.no == s) (jobs V))
              (filter_all (λ (p : StreamJob). p.parent.no == s) (jobs V))
              (all_filter (λ (p : StreamJob). stream V p.parent.no ≡ Some p.parent) (λ (p : StreamJob). p.parent.no == s)
              (jobs V) (parents_found V))
              (all_filter (λ (p : StreamJob). IsIn p (jobs V)) (λ (p : StreamJob). p.parent.no == s) (jobs V)
              (all_itself (jobs V)))),
        ),
      ))
      ∙ not_end s
    where
      inside : (a b : StreamDoc) → Some a ≡ Some b → a ≡ b
      inside a b e = cc

      three : (ps : List StreamJob) → AllByRecursion (λ (p : StreamJob). (p.parent.no == s) ≡ true) ps
          → AllByRecursion (λ (p : StreamJob). stream V p.parent.no ≡ Some p.parent) ps
          → AllByRecursion (λ (p : StreamJob). IsIn p (jobs V)) ps
          → AllByRecursion (λ (p : StreamJob). V (Events p.doc.ws) ≡ G (Events p.doc.ws)) ps
      three [] a b c = tt
      three (p ∷ ps) a b c =
          let number : p.parent.no ≡ s = eqb-true p.parent.no s a.0 in
          let same : d ≡ p.parent = inside d p.parent (sym there ∙ ap (stream V) (sym number) ∙ b.0) in (
            wanted p.doc.ws (works_wanted N V w p c.0 (ap (λ (e : StreamDoc). e.ws) (sym same) ∙ mine)),
            three ps a.1 b.1 c.1,
          )

  no_end : (s : ℕ) → may_end G w s ≡ false
  unfolding may_end
  no_end s = go (stream V s) refl
    where
      go : (o : Option StreamDoc) → stream V s ≡ o → may_end G w s ≡ false
      go None e = rw (sym (local_stream V G master s) ∙ e) refl
      go (Some d) e = by_owner (eqb d.ws w) refl
        where
          by_owner : (b : Bool) → eqb d.ws w ≡ b → may_end G w s ≡ false
          by_owner true k = no_end_of s d e (eqb-true d.ws w k)
          by_owner false k =
              subst (λ o. option_map_or (may_end_in G w) o false ≡ false)
              (sym (sym (local_stream V G master s) ∙ e)) (no_end_of_others G w d k)

  pub knows_all : HasDecidedOf net x w
  unfolding G N
  knows_all = record { release = no_release; end_ = no_end; launch = no_launch }
