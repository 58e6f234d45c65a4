-- At rest the master wants and holds all, and each shows of its own jobs what the master shows.
use Rattle.std.proofs.Common.{◌≡◌, ℕ, ◌<◌, ◌≤◌, Bool, true, false, ◌==◌, ◌&&◌, ◌||◌, ◌⊎◌, inl, inr, List, []}
use Rattle.std.proofs.Common.{◌∷◌, ◌++◌, refl, ap, sym, subst, ◌∙◌, arith, Option, Some, None, map, cond, if◌then◌else◌}
use Rattle.std.proofs.lemmas.Bool.{eq-eqb}
use Rattle.std.specs.List.{AllByRecursion, list_any}
use Rattle.std.specs.Option.{option_map_or}
use Rattle.std.specs.Prelude.{eqb, filter, find, slice_get, unwrap_or}
use Rattle.lemmas.proofs.Booleans.{and_made, or_made_left, or_made_right}
use Rattle.lemmas.proofs.Lists.{all_such}
use Rattle.lemmas.proofs.Numbers.{below_or_not}
use Rattle.model.specs.Types.{Events, Job, Net, Node, Stream, StreamDoc}
use Rattle.model.specs.Words.{has}
use Rattle.model.specs.Network.{IsTree, domain, has_full_status, hop, is_behind, is_manager, node_count}
use Rattle.model.specs.History.{View, list_of}
use Rattle.model.specs.Catalogue.{StreamJob, job, jobs, jobs_of, owner, streams_of}
use Rattle.model.specs.Dependencies.{all_satisfied, cites}
use Rattle.model.specs.Readiness.{job_priority}
use Rattle.model.specs.Forwarding.{objects_of, wants, works_on}
use Rattle.model.specs.States.{job_state}
use Rattle.model.specs.World.{World, view_at}
use Rattle.model.specs.Invariant.{Invariant}
use Rattle.model_laws.proofs.Locality.{local_satisfied}
use Rattle.model_laws.proofs.PresentNets.{by_one, by_tree, one_count}
use Rattle.model_laws.proofs.Ranks.{hung, managed_hop, manager_inside}
use Rattle.rest_laws.specs.Rest.{IsAtRest, WantsAll, count_of, net_at}
use Rattle.rest_laws.proofs.Chains.{under_top}
use Rattle.rest_laws.proofs.Held.{full_view, same_net, wanted_held, wants_master}
use Rattle.rest_laws.proofs.Shown.{all_events, outside_none}

-- one of a list
unfoldable pub IsIn : {A : Type 0} → A → List A → Type 0
IsIn a [] = ⊥
IsIn a (x ∷ xs) = (x ≡ a) ⊎ IsIn a xs

pub found_in : {A : Type 0} (q : A → Bool) (xs : List A) (a : A) → find q xs ≡ Some a → IsIn a xs
unfolding IsIn
found_in q [] a e = cc
found_in {A} q (x ∷ xs) a e = go (q x) e (found_in q xs a)
  where
    go : (b : Bool) → cond b (Some x) (find q xs) ≡ Some a → (find q xs ≡ Some a → IsIn a xs)
        → (x ≡ a) ⊎ IsIn a xs
    go true k more = inl (inside x a k)
      where
        inside : (x a : A) → Some x ≡ Some a → x ≡ a
        inside x a k = cc
    go false k more = inr (more k)

pub in_filter : {A : Type 0} (q : A → Bool) (xs : List A) (a : A) → IsIn a xs → q a ≡ true → IsIn a (filter q xs)
unfolding IsIn
in_filter q [] a h k = absurd h
in_filter q (x ∷ xs) a (inl e) k = rw (ap q e ∙ k) (inl e)
in_filter {A} q (x ∷ xs) a (inr h) k = go (q x) (in_filter q xs a h k)
  where
    go : (b : Bool) → IsIn a (filter q xs) → IsIn a (cond b (x ∷ filter q xs) (filter q xs))
    go true m = inr m
    go false m = m

pub in_map : {A B : Type 0} (f : A → B) (xs : List A) (a : A) → IsIn a xs → IsIn (f a) (map f xs)
unfolding IsIn
in_map f [] a h = absurd h
in_map f (x ∷ xs) a (inl e) = inl (ap f e)
in_map f (x ∷ xs) a (inr h) = inr (in_map f xs a h)

pub in_right : {A : Type 0} (xs ys : List A) (a : A) → IsIn a ys → IsIn a (xs ++ ys)
unfolding IsIn
in_right [] ys a h = h
in_right (x ∷ xs) ys a h = inr (in_right xs ys a h)

pub any_in : {A : Type 0} (r : A → Bool) (xs : List A) (a : A) → IsIn a xs → r a ≡ true → list_any r xs ≡ true
unfolding IsIn
any_in r [] a h k = absurd h
any_in r (x ∷ xs) a (inl e) k = or_made_left (r x) (list_any r xs) (ap r e ∙ k)
any_in r (x ∷ xs) a (inr h) k = or_made_right (r x) (list_any r xs) (any_in r xs a h k)

pub all_has : (xs : List ℕ) → AllByRecursion (λ y. has xs y ≡ true) xs
all_has [] = tt
all_has (x ∷ xs) = (
  or_made_left (eqb x x) (has xs x) (eq-eqb x x refl),
  all_such (λ y. has xs y ≡ true) (λ y. has (x ∷ xs) y ≡ true) xs (λ y h. or_made_right (eqb x y) (has xs y) h) (all_has xs),
)

-- who has full status in the master's domain wants all, and so does the master
domain_in : (N : Net) → IsTree N → (y : ℕ) → y < node_count N → domain N y < node_count N
domain_in N tree y y_in = go (is_manager N y) (hop N y) refl
  where
    go : (b : Bool) (o : Option ℕ) → hop N y ≡ o → (if b then y else unwrap_or o 0) < node_count N
    go true o e = y_in
    go false None e = omega (arith, y_in)
    go false (Some q) e = manager_inside N q (managed_hop N (hung N tree) y q y_in e)

full_wants : (N : Net) → IsTree N → (V : View) (v y : ℕ) → y < node_count N → has_full_status N v ≡ true
    → domain N v ≡ 0 → wants N V v y ≡ true
unfolding wants
full_wants N tree V v y y_in full top =
    or_made_right (eqb y 0) _
    (or_made_left (has_full_status N v && (eqb (domain N y) (domain N v) || is_behind N (domain N y) (domain N v))) _
    (and_made (has_full_status N v) (eqb (domain N y) (domain N v) || is_behind N (domain N y) (domain N v)) full
    (subst (λ d. (eqb (domain N y) d || is_behind N (domain N y) d) ≡ true) (sym top)
    (under_top N tree (domain N y) (domain_in N tree y y_in)))))

master_full : (N : Net) → IsTree N → has_full_status N 0 ≡ true
master_full N tree = go (slice_get N.nodes 0) tree.managed
  where
    go : (o : Option Node) → option_map_or (λ (n : Node). n.manager) o false ≡ true
        → option_map_or (λ (n : Node). n.full || n.manager) o false ≡ true
    go None h = cc
    go (Some n) h = or_made_right n.full n.manager h

master_domain : (N : Net) → IsTree N → domain N 0 ≡ 0
master_domain N tree = rw tree.managed refl

module _ (net : Net) (tree : IsTree net) (x : World) where
  tree_at : (v : ℕ) → IsTree (net_at net x v)
  tree_at v = by_tree net (view_at x v (Events 0)) tree

  pub full_wants_all : (v : ℕ) → has_full_status (net_at net x v) v ≡ true → domain (net_at net x v) v ≡ 0
      → WantsAll net x v
  full_wants_all v full top y y_in =
      full_wants (net_at net x v) (tree_at v) (view_at x v) v y
      (omega (arith, y_in, one_count net (net_at net x v) (by_one net (view_at x v (Events 0))))) full top

  pub master_wants_all : WantsAll net x 0
  master_wants_all = full_wants_all 0 (master_full (net_at net x 0) (tree_at 0)) (master_domain (net_at net x 0) (tree_at 0))

-- whom a job of w's names, w wants
module _ (N : Net) (V : View) (w : ℕ) (p : StreamJob) (there : job V p.doc.no ≡ Some p) (mine : p.doc.ws ≡ w) where
  among_jobs : IsIn p (jobs V)
  unfolding job
  among_jobs = found_in (λ (q : StreamJob). q.doc.no == p.doc.no) (jobs V) p there

  pub wants_parent : wants N V w p.parent.ws ≡ true
  unfolding wants
  wants_parent =
      or_made_right (eqb p.parent.ws 0) _
      (or_made_right (has_full_status N w && (eqb (domain N p.parent.ws) (domain N w) || is_behind N (domain N p.parent.ws)
      (domain N w))) _
      (or_made_right (works_on V w p.parent.ws) _
      (or_made_left (works_on V p.parent.ws w) _
      (any_in (λ (q : StreamJob). (q.parent.ws == p.parent.ws) && (q.doc.ws == w)) (jobs V) p among_jobs
      (and_made (eqb p.parent.ws p.parent.ws) (eqb p.doc.ws w) (eq-eqb p.parent.ws p.parent.ws refl)
      (eq-eqb p.doc.ws w mine))))))

  among_objects : IsIn (Job p.doc.no) (objects_of V w)
  unfolding objects_of jobs_of
  among_objects =
      in_right (map (λ (d : StreamDoc). Stream d.no) (streams_of V w)) _ (Job p.doc.no)
      (in_map (λ (q : StreamJob). Job q.doc.no) (jobs_of V w) p
      (in_filter (λ (q : StreamJob). q.doc.ws == w) (jobs V) p among_jobs (eq-eqb p.doc.ws w mine)))

  pub wants_cited : (y : ℕ) → has (cites V (Job p.doc.no)) y ≡ true → wants N V w y ≡ true
  unfolding wants
  wants_cited y h =
      or_made_right (eqb y 0) _
      (or_made_right (has_full_status N w && (eqb (domain N y) (domain N w) || is_behind N (domain N y) (domain N w))) _
      (or_made_right (works_on V w y) _
      (or_made_right (works_on V y w) _
      (any_in (λ o. has (cites V o) y) (objects_of V w) (Job p.doc.no) among_objects h))))

  its_owner : owner V (Job p.doc.no) ≡ Some w
  unfolding owner
  its_owner = rw there (ap Some mine)

module _ (net : Net) (readings : ℕ → ℕ) (x : World) (tree : IsTree net) (inv : Invariant net x)
    (rest : IsAtRest net readings x) where
  -- what is wanted is seen as it stands in the history
  pub whole : (v : ℕ) → v < node_count net → (y : ℕ) → wants (net_at net x v) (view_at x v) v y ≡ true
      → view_at x v (Events y) ≡ list_of x.history (Events y)
  whole v v_in y want = go (below_or_not y (node_count net))
    where
      go : ((y < node_count net) ⊎ (node_count net ≤ y)) → view_at x v (Events y) ≡ list_of x.history (Events y)
      go (inl y_in) =
          full_view net readings x tree inv rest v (Events y)
          (wanted_held net readings x tree inv rest v y v_in y_in want)
      go (inr high) =
          full_view net readings x tree inv rest v (Events y)
          (let none : count_of x (Events y) ≡ 0 = outside_none net x.history y high inv.inside in
          omega (arith, none, inv.within v (Events y)))

  pub whole_own : (v : ℕ) → view_at x v (Events v) ≡ list_of x.history (Events v)
  whole_own v = full_view net readings x tree inv rest v (Events v) (inv.own v (Events v) refl)

  as_master : (v : ℕ) → v < node_count net → (y : ℕ) → wants (net_at net x v) (view_at x v) v y ≡ true
      → view_at x v (Events y) ≡ view_at x 0 (Events y)
  as_master v v_in y want =
      whole v v_in y want
      ∙ sym (all_events net readings x tree inv rest 0 (omega (arith, v_in)) (master_wants_all net tree x) y)

  own_as_master : (v : ℕ) → v < node_count net → view_at x v (Events v) ≡ view_at x 0 (Events v)
  own_as_master v v_in =
      full_view net readings x tree inv rest v (Events v) (inv.own v (Events v) refl)
      ∙ sym (all_events net readings x tree inv rest 0 (omega (arith, v_in)) (master_wants_all net tree x) v)

  pub own_job : (v : ℕ) (p : StreamJob) → v < node_count net → p.doc.ws ≡ v → job (view_at x v) p.doc.no ≡ Some p
      → job_state (net_at net x v) (view_at x v) p ≡ job_state (net_at net x 0) (view_at x 0) p
  unfolding job_state job_priority
  own_job v p v_in mine there =
      let same : net_at net x v ≡ net_at net x 0 = same_net net readings x tree inv rest v v_in in
      let own : view_at x v (Events v) ≡ view_at x 0 (Events v) = own_as_master v v_in in
      let owned : view_at x v (Events p.doc.ws) ≡ view_at x 0 (Events p.doc.ws) =
      subst (λ w. view_at x v (Events w) ≡ view_at x 0 (Events w)) (sym mine) own in
      let above : view_at x v (Events p.parent.ws) ≡ view_at x 0 (Events p.parent.ws) =
      as_master v v_in p.parent.ws (wants_parent (net_at net x v) (view_at x v) v p there mine) in
      let met : all_satisfied (net_at net x 0) (view_at x v) v (Job p.doc.no)
      ≡ all_satisfied (net_at net x 0) (view_at x 0) v (Job p.doc.no) =
      local_satisfied (view_at x v) (view_at x 0) (as_master v v_in 0 (wants_master (net_at net x v) (view_at x v) v)) v own (net_at net x 0)
      (Job p.doc.no) (its_owner (net_at net x v) (view_at x v) v p there mine)
      (all_such (λ y. has (cites (view_at x v) (Job p.doc.no)) y ≡ true) _ (cites (view_at x v) (Job p.doc.no))
      (λ y h. as_master v v_in y (wants_cited (net_at net x v) (view_at x v) v p there mine y h))
      (all_has (cites (view_at x v) (Job p.doc.no)))) in
      let met_ : all_satisfied (net_at net x 0) (view_at x v) p.doc.ws (Job p.doc.no)
      ≡ all_satisfied (net_at net x 0) (view_at x 0) p.doc.ws (Job p.doc.no) =
      subst (λ w. all_satisfied (net_at net x 0) (view_at x v) w (Job p.doc.no)
      ≡ all_satisfied (net_at net x 0) (view_at x 0) w (Job p.doc.no)) (sym mine) met in
      ap (λ n. job_state n (view_at x v) p) same ∙ (rw (owned, above, met_) refl)
