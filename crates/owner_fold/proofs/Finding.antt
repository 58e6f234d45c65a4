-- An index finds the first with a number, and grows by one more number.
use Rattle.std.proofs.Common.{[], ℕ, ◌+◌, ◌++◌, ◌∙◌, ◌∷◌, ◌≡◌, Bool, List, None, Option, Some, ap, arith, cond}
use Rattle.std.proofs.Common.{eqb, false, find, flat_map, is_some, length, map, option_and_then, option_map, refl}
use Rattle.std.proofs.Common.{slice_get, subst, suc, sym, true}
use Rattle.std.specs.Prelude.{◌||◌, nat_eq}
use Rattle.lemmas.proofs.Numbers.{number_tells}
use Rattle.indexmap.specs.IndexMap.{get}
use Rattle.model.specs.Words.{has}
use Rattle.model.specs.Types.{Entry, Events, StreamDoc}
use Rattle.model.specs.History.{list_of, view_of}
use Rattle.model.specs.Catalogue.{StreamJob, catalogue, docs_in, is_member, job, jobs, jobs_in, members, stream}
use Rattle.owner_fold.specs.Numbers.{ArePlaces, place_of}
use Rattle.owner_fold.specs.Plans.{IsPlanOf}
use Rattle.owner_fold.specs.DocPlaces.{doc_at, first_docs_among, first_jobs_among, job_at}
use Rattle.owner_fold.specs.declared.plans.Plan.{Plan}
use Rattle.owner_fold.specs.declared.doc_places.JobPlace.{JobPlace}
use Rattle.owner_fold.specs.declared.doc_places.StreamPlace.{StreamPlace}
use Rattle.owner_fold.specs.declared.numbers.Numbers.{Numbers}

-- what stands at the place of a number is the first with that number
pub found_at : {S X : Type 0} (item : S → Option X) (number : X → ℕ) (doc_places : List S) (items : List X)
    → map item doc_places ≡ map Some items → (n : ℕ)
    → option_and_then (λ i. option_and_then item (slice_get doc_places i)) (place_of (map number items) n)
    ≡ find (λ x. eqb (number x) n) items
found_at item number [] [] h n = refl
found_at item number [] (x ∷ xs) h n = cc
found_at item number (s ∷ ss) [] h n = cc
found_at {S} {X} item number (s ∷ ss) (x ∷ xs) h n =
    go (eqb (number x) n) (found_at item number ss xs there n)
  where
    here : item s ≡ Some x
    here = cc

    there : map item ss ≡ map Some xs
    there = cc

    next : (o : Option ℕ)
        → option_and_then (λ i. option_and_then item (slice_get (s ∷ ss) i)) (option_map (λ i. i + 1) o)
        ≡ option_and_then (λ i. option_and_then item (slice_get ss i)) o
    next None = refl
    next (Some i) = rw (let e : i + 1 ≡ suc i = omega arith in e) refl

    go : (b : Bool)
        → option_and_then (λ i. option_and_then item (slice_get ss i)) (place_of (map number xs) n)
        ≡ find (λ x. eqb (number x) n) xs
        → option_and_then (λ i. option_and_then item (slice_get (s ∷ ss) i))
        (cond b (Some 0) (option_map (λ i. i + 1) (place_of (map number xs) n)))
        ≡ cond b (Some x) (find (λ x. eqb (number x) n) xs)
    go true ih = here
    go false ih = next (place_of (map number xs) n) ∙ ih

place_more : (xs : List ℕ) (x n : ℕ) → has xs x ≡ false
    → place_of (xs ++ x ∷ []) n ≡ cond (eqb x n) (Some (length xs)) (place_of xs n)
place_more [] x n h = refl
place_more (y ∷ ys) x n h =
    ap (λ (o : Option ℕ). cond (eqb y n) (Some 0) (option_map (λ i. i + 1) o)) (place_more ys x n (right h))
    ∙ go (eqb y n) (eqb x n) refl refl
  where
    right : (eqb y x || has ys x) ≡ false → has ys x ≡ false
    right k = or_right (eqb y x) k
      where
        or_right : (b : Bool) → (b || has ys x) ≡ false → has ys x ≡ false
        or_right true k = cc
        or_right false k = k

    left_ : (b : Bool) → eqb y x ≡ b → (b || has ys x) ≡ false → eqb y x ≡ false
    left_ true e k = cc
    left_ false e k = e

    go : (b c : Bool) → eqb y n ≡ b → eqb x n ≡ c
        → cond b (Some 0) (option_map (λ i. i + 1) (cond c (Some (length ys)) (place_of ys n)))
        ≡ cond c (Some (length (y ∷ ys))) (cond b (Some 0) (option_map (λ i. i + 1) (place_of ys n)))
    go true true e f =
        let p : y ≡ n = number_tells y n e in
        let q : x ≡ n = number_tells x n f in
        let t : eqb y x ≡ true = (λ j. eqb (p j) (q j)) ∙ sym (λ j. eqb (p j) n) ∙ e in
        let u : eqb y x ≡ false = left_ (eqb y x) refl h in absurd (cc)
    go true false e f = refl
    go false true e f = ap Some (let g : length ys + 1 ≡ length (y ∷ ys) = omega arith in g)
    go false false e f = refl

-- a number has a place where it is there
pub placed : (xs : List ℕ) (n : ℕ) → is_some (place_of xs n) ≡ has xs n
placed [] n = refl
placed (x ∷ xs) n = go (eqb x n) (place_of xs n) (placed xs n)
  where
    go : (b : Bool) (o : Option ℕ) → is_some o ≡ has xs n
        → is_some (cond b (Some 0) (option_map (λ i. i + 1) o)) ≡ (b || has xs n)
    go true o h = refl
    go false None h = h
    go false (Some i) h = h

-- a number that is there changes no place
known_step : (b : Bool) (y : ℕ) (ys : List ℕ) (x n : ℕ) → eqb y x ≡ b → (b || has ys x) ≡ true
    → (has ys x ≡ true → place_of (ys ++ x ∷ []) n ≡ place_of ys n)
    → cond (eqb y n) (Some 0) (option_map (λ i. i + 1) (place_of (ys ++ x ∷ []) n))
    ≡ cond (eqb y n) (Some 0) (option_map (λ i. i + 1) (place_of ys n))
known_step true y ys x n e k ih = go (eqb y n) refl (has ys x) refl
  where
    go : (b : Bool) → eqb y n ≡ b → (c : Bool) → has ys x ≡ c
        → cond b (Some 0) (option_map (λ i. i + 1) (place_of (ys ++ x ∷ []) n))
        ≡ cond b (Some 0) (option_map (λ i. i + 1) (place_of ys n))
    go true f c g = refl
    go false f true g = ap (option_map (λ i. i + 1)) (ih g)
    go false f false g =
        ap (option_map (λ i. i + 1))
        (place_more ys x n g
        ∙ ap (λ (t : Bool). cond t (Some (length ys)) (place_of ys n))
        (ap (λ (m : ℕ). eqb m n) (sym (number_tells y x e)) ∙ f))
known_step false y ys x n e k ih =
    ap (λ (o : Option ℕ). cond (eqb y n) (Some 0) (option_map (λ i. i + 1) o)) (ih k)

place_known : (xs : List ℕ) (x n : ℕ) → has xs x ≡ true → place_of (xs ++ x ∷ []) n ≡ place_of xs n
place_known [] x n h = cc
place_known (y ∷ ys) x n h = known_step (eqb y x) y ys x n refl h (place_known ys x n)

-- so it is where the index knows it
pub known_stays : (xs : List ℕ) (x : ℕ) (p : Numbers) → ArePlaces xs p → true ≡ is_some (get nat_eq p.places x)
    → ArePlaces (xs ++ x ∷ []) p
known_stays xs x p h k n =
    h n ∙ sym (place_known xs x n (sym (placed xs x) ∙ ap is_some (sym (h x)) ∙ sym k))

-- and another is added at its place
pub new_grows : (xs : List ℕ) (x place : ℕ) (p q : Numbers) → length xs ≡ place → ArePlaces xs p
    → false ≡ is_some (get nat_eq p.places x)
    → ((n : ℕ) → get nat_eq q.places n ≡ cond (eqb x n) (Some place) (get nat_eq p.places n))
    → ArePlaces (xs ++ x ∷ []) q
new_grows xs x place p q e h k put n =
    put n ∙ (λ i. cond (eqb x n) (Some (sym e i)) (h n i))
    ∙ sym (place_more xs x n (sym (placed xs x) ∙ ap is_some (sym (h x)) ∙ sym k))

-- what is looked up by its number is the first with it
looked_up : {S X : Type 0} (item : S → Option X) (number : X → ℕ) (place_number : S → ℕ) (doc_places : List S)
    (items : List X) (place : Option ℕ) (n : ℕ) → map item doc_places ≡ map Some items
    → map place_number doc_places ≡ map number items → place ≡ place_of (map place_number doc_places) n
    → option_and_then (λ i. option_and_then item (slice_get doc_places i)) place ≡ find (λ x. eqb (number x) n) items
looked_up item number place_number doc_places items place n h same e =
    ap (option_and_then (λ i. option_and_then item (slice_get doc_places i))) (e ∙ ap (λ (l : List ℕ). place_of l n) same)
    ∙ found_at item number doc_places items h n

pub stream_found : (kept view : List Entry) (plan : Plan) (n : ℕ) (place : Option ℕ) → IsPlanOf kept plan
    → kept ≡ view → ((numbers : List ℕ) → ArePlaces numbers plan.index.streams → place ≡ place_of numbers n)
    → option_and_then (λ i. option_and_then (doc_at view) (slice_get plan.doc_places.streams i)) place
    ≡ stream (view_of view) n
unfolding stream catalogue
stream_found kept view plan n place p e found =
    subst (λ (l : List Entry). option_and_then (λ i. option_and_then (doc_at l) (slice_get plan.doc_places.streams i)) place
    ≡ find (λ (d : StreamDoc). eqb d.no n) (first_docs_among (flat_map docs_in (list_of l (Events 0))))) e
    (looked_up (doc_at kept) (λ (d : StreamDoc). d.no) (λ (q : StreamPlace). q.number) plan.doc_places.streams
    (first_docs_among (flat_map docs_in (list_of kept (Events 0)))) place n p.doc_places.streams.0 p.doc_places.streams.1
    (found (map (λ (q : StreamPlace). q.number) plan.doc_places.streams) p.index.streams))

pub job_found : (kept view : List Entry) (plan : Plan) (n : ℕ) (place : Option ℕ) → IsPlanOf kept plan
    → kept ≡ view → ((numbers : List ℕ) → ArePlaces numbers plan.index.jobs → place ≡ place_of numbers n)
    → option_and_then (λ i. option_and_then (job_at view) (slice_get plan.doc_places.jobs i)) place
    ≡ job (view_of view) n
unfolding job jobs catalogue
job_found kept view plan n place p e found =
    subst (λ (l : List Entry). option_and_then (λ i. option_and_then (job_at l) (slice_get plan.doc_places.jobs i)) place
    ≡ find (λ (q : StreamJob). eqb q.doc.no n)
    (first_jobs_among (flat_map jobs_in (first_docs_among (flat_map docs_in (list_of l (Events 0))))))) e
    (looked_up (job_at kept) (λ (q : StreamJob). q.doc.no) (λ (q : JobPlace). q.number) plan.doc_places.jobs
    (first_jobs_among (flat_map jobs_in (first_docs_among (flat_map docs_in (list_of kept (Events 0)))))) place n
    p.doc_places.jobs.0 p.doc_places.jobs.1 (found (map (λ (q : JobPlace). q.number) plan.doc_places.jobs) p.index.jobs))

pub member_found : (kept view : List Entry) (plan : Plan) (n : ℕ) (place : Option ℕ) → IsPlanOf kept plan
    → kept ≡ view → ((numbers : List ℕ) → ArePlaces numbers plan.index.members → place ≡ place_of numbers n)
    → is_some place ≡ is_member (view_of view) n
unfolding is_member
member_found kept view plan n place p e found =
    ap is_some (found plan.members p.index.members) ∙ placed plan.members n
    ∙ ap (λ (l : List ℕ). has l n) (p.members ∙ ap (λ (l : List Entry). members (view_of l)) e)
