-- The soonest of several, in parts.
use Rattle.std.proofs.Common.{◌≡◌, ◌∙◌, ◌∷◌, ◌++◌, [], ℕ, Bool, List, None, Option, Some, ap, cond, false, map, refl, sym}
use Rattle.std.proofs.Common.{true}
use Rattle.std.proofs.lemmas.List.Concat.{flat_map-append}
use Rattle.std.specs.Prelude.{filter, flat_map}
use Rattle.model.specs.Types.{Job, Obj, Stream, StreamDoc}
use Rattle.model.specs.History.{View}
use Rattle.model.specs.Catalogue.{StreamJob}
use Rattle.model.specs.OwnMembers.{own_jobs, own_objects, own_streams}
use Rattle.file_watch.specs.Circle.{DepPlace, comes_sooner, sooner, sooner_of, soonest}
use Rattle.file_watch.specs.Probes.{due_at, due_probes, next_probe}
use Rattle.file_watch.proofs.Order.{sooner_back, sooner_through}

-- the first of three by an order, found from either side
three : {X : Type 0} (lt : X → X → Bool)
    → ((p q r : X) → lt p q ≡ true → lt q r ≡ true → lt p r ≡ true)
    → ((p q r : X) → lt p q ≡ false → lt q r ≡ false → lt p r ≡ false) → (a b d : X)
    → cond (lt (cond (lt d b) d b) a) (cond (lt d b) d b) a ≡ cond (lt d (cond (lt b a) b a)) d (cond (lt b a) b a)
three {X} lt through back a b d = go (lt d b) (lt b a) refl refl
  where
    go : (x y : Bool) → lt d b ≡ x → lt b a ≡ y
        → cond (lt (cond x d b) a) (cond x d b) a ≡ cond (lt d (cond y b a)) d (cond y b a)
    go true true e f = rw (through d b a e f, e) refl
    go true false e f = refl
    go false true e f = rw (f, e) refl
    go false false e f = rw (f, back d b a e f) refl

two_and_one : (last : Option DepPlace) (a b : DepPlace) (c : Option DepPlace)
    → sooner last a (Some (sooner last b c)) ≡ sooner last (sooner last a (Some b)) c
two_and_one last a b None = refl
two_and_one last a b (Some d) =
    three (λ (p q : DepPlace). comes_sooner last p q) (sooner_through last) (sooner_back last) a b d

pub joined : (last : Option DepPlace) (a b c : Option DepPlace)
    → sooner_of last a (sooner_of last b c) ≡ sooner_of last (sooner_of last a b) c
joined last None b c = refl
joined last (Some p) None c = refl
joined last (Some p) (Some q) c = ap Some (two_and_one last p q c)

pub soonest-append : (last : Option DepPlace) (xs ys : List DepPlace)
    → soonest last (xs ++ ys) ≡ sooner_of last (soonest last xs) (soonest last ys)
soonest-append last [] ys = refl
soonest-append last (x ∷ xs) ys =
    ap (sooner_of last (Some x)) (soonest-append last xs ys)
    ∙ joined last (Some x) (soonest last xs) (soonest last ys)

-- the probes of streams and of jobs
pub streams_and_jobs : (V : View) (w : ℕ) (last a b : Option DepPlace)
    → a ≡ soonest last (flat_map (due_at V w) (map (λ (d : StreamDoc). Stream d.no) (own_streams V w)))
    → b ≡ soonest last (flat_map (due_at V w) (map (λ (p : StreamJob). Job p.doc.no) (own_jobs V w)))
    → sooner_of last a b ≡ next_probe V w last
unfolding next_probe due_probes own_objects
streams_and_jobs V w last a b e f =
    let streams : List Obj = map (λ (d : StreamDoc). Stream d.no) (own_streams V w) in
    let jobs : List Obj = map (λ (p : StreamJob). Job p.doc.no) (own_jobs V w) in
    (λ j. sooner_of last (e j) (f j))
    ∙ sym (soonest-append last (flat_map (due_at V w) streams) (flat_map (due_at V w) jobs))
    ∙ ap (soonest last) (sym (flat_map-append (due_at V w) streams jobs))

-- a walk, one item further
pub one_further : {X : Type 0} (last : Option DepPlace) (g : X → List DepPlace) (x : X) (xs : List X)
    (all next found : Option DepPlace) → found ≡ soonest last (g x)
    → all ≡ sooner_of last next (soonest last (flat_map g (x ∷ xs)))
    → all ≡ sooner_of last (sooner_of last next found) (soonest last (flat_map g xs))
one_further last g x xs all next found f e =
    e ∙ ap (sooner_of last next) (soonest-append last (g x) (flat_map g xs))
    ∙ joined last next (soonest last (g x)) (soonest last (flat_map g xs))
    ∙ ap (λ (a : Option DepPlace). sooner_of last (sooner_of last next a) (soonest last (flat_map g xs))) (sym f)

-- a walk over those that pass, one that does
pub further_with : {X : Type 0} (last : Option DepPlace) (test : X → Bool) (g : X → DepPlace) (x : X) (xs : List X)
    (all next : Option DepPlace) → test x ≡ true
    → all ≡ sooner_of last next (soonest last (map g (filter test (x ∷ xs))))
    → all ≡ sooner_of last (sooner_of last next (Some (g x))) (soonest last (map g (filter test xs)))
further_with {X} last test g x xs all next h e =
    e ∙ ap (λ (b : Bool). sooner_of last next (soonest last (map g (cond b (x ∷ filter test xs) (filter test xs))))) h
    ∙ joined last next (Some (g x)) (soonest last (map g (filter test xs)))

-- and one that does not
pub further_without : {X : Type 0} (last : Option DepPlace) (test : X → Bool) (g : X → DepPlace) (x : X) (xs : List X)
    (all next : Option DepPlace) → test x ≡ false
    → all ≡ sooner_of last next (soonest last (map g (filter test (x ∷ xs))))
    → all ≡ sooner_of last next (soonest last (map g (filter test xs)))
further_without {X} last test g x xs all next h e =
    e ∙ ap (λ (b : Bool). sooner_of last next (soonest last (map g (cond b (x ∷ filter test xs) (filter test xs))))) h
