-- What a workstation wants is told by the master's events and its own.
use Rattle.std.proofs.Common.{◌≡◌, ℕ, Bool, List, [], ◌∷◌, refl, ap, ◌∙◌, Some, map}
use Rattle.std.specs.List.{AllByRecursion, list_any}
use Rattle.lemmas.proofs.Lists.{all_append, all_map, all_such}
use Rattle.model.specs.Types.{Events, Job, Net, Stream, StreamDoc}
use Rattle.model.specs.Words.{has}
use Rattle.model.specs.History.{View}
use Rattle.model.specs.Catalogue.{StreamJob, catalogue, jobs, jobs_of, owner, streams_of}
use Rattle.model.specs.Dependencies.{cites}
use Rattle.model.specs.Forwarding.{objects_of, wants, works_on}
use Rattle.model_laws.proofs.Firsts.{jobs_owned, streams_owned}
use Rattle.model_laws.proofs.Locality.{local_cites}

any_same : {A : Type 0} (p q : A → Bool) (xs : List A) → AllByRecursion (λ x. p x ≡ q x) xs
    → list_any p xs ≡ list_any q xs
any_same p q [] h = refl
any_same p q (x ∷ xs) h = rw (h.0, any_same p q xs h.1) refl

objects_owned : (V : View) (w : ℕ) → AllByRecursion (λ o. owner V o ≡ Some w) (objects_of V w)
unfolding objects_of
objects_owned V w =
    all_append (λ o. owner V o ≡ Some w) (map _ _) (map _ _)
    (all_map (λ o. owner V o ≡ Some w) (λ (d : StreamDoc). Stream d.no) _ (streams_owned V w))
    (all_map (λ o. owner V o ≡ Some w) (λ (p : StreamJob). Job p.doc.no) _ (jobs_owned V w))

module _ (V W : View) (master : V (Events 0) ≡ W (Events 0)) (w : ℕ) (own : V (Events w) ≡ W (Events w)) where
  same_jobs : jobs V ≡ jobs W
  unfolding jobs catalogue
  same_jobs = ap (λ l. jobs (λ f. l)) master

  same_objects : objects_of V w ≡ objects_of W w
  unfolding objects_of streams_of jobs_of jobs catalogue
  same_objects = ap (λ l. objects_of (λ f. l) w) master

  same_works : (v y : ℕ) → works_on V v y ≡ works_on W v y
  same_works v y = rw same_jobs refl

  same_cited : (y : ℕ) → list_any (λ o. has (cites V o) y) (objects_of V w)
      ≡ list_any (λ o. has (cites W o) y) (objects_of W w)
  same_cited y =
      any_same (λ o. has (cites V o) y) (λ o. has (cites W o) y) (objects_of V w)
      (all_such (λ o. owner V o ≡ Some w) (λ o. has (cites V o) y ≡ has (cites W o) y) (objects_of V w)
      (λ o e. ap (λ (c : List ℕ). has c y) (local_cites V W master w own o e)) (objects_owned V w))
      ∙ ap (list_any (λ o. has (cites W o) y)) same_objects

  pub same_wants : (net : Net) (y : ℕ) → wants net V w y ≡ wants net W w y
  unfolding wants
  same_wants net y = rw (same_works w y, same_works y w, same_cited y) refl
