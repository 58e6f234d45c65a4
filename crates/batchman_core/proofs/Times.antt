-- The times of own members' objects, one object further.
use Rattle.std.proofs.Common.{◌≡◌, ◌∙◌, ◌∷◌, ◌++◌, [], ℕ, Bool, List, None, Option, Some, ap, false, map}
use Rattle.std.proofs.Common.{refl, subst, sym, true}
use Rattle.std.proofs.lemmas.List.Elements.{filter_map-append}
use Rattle.std.specs.List.{cons_option, list_any}
use Rattle.std.specs.Option.{option_map_or}
use Rattle.std.specs.Prelude.{◌&&◌, ◌||◌, filter, filter_map, flat_map}
use Rattle.lemmas.proofs.Lists.{any_append}
use Rattle.model.specs.Types.{Events, Job, Obj, Stream, StreamDoc}
use Rattle.model.specs.History.{View}
use Rattle.model.specs.Dependencies.{NumberedDep, unwaived_deps}
use Rattle.model.specs.Catalogue.{StreamJob}
use Rattle.model.specs.Facts.{now}
use Rattle.model.specs.OwnMembers.{own_jobs, own_objects, own_streams}
use Rattle.model.specs.Turn.{dep_time, is_clock_due, own_times}
use Rattle.batchman_core.specs.Reached.{is_any_reached, is_any_reached_of, is_reached}

reached_append : (clock t : ℕ) (ps qs : List NumberedDep)
    → is_any_reached clock t (ps ++ qs) ≡ (is_any_reached clock t ps || is_any_reached clock t qs)
reached_append clock t ps qs =
    ap (list_any (is_reached clock t)) (filter_map-append (λ (p : NumberedDep). dep_time p.dep) ps qs)
    ∙ any_append (is_reached clock t) (filter_map (λ (p : NumberedDep). dep_time p.dep) ps)
    (filter_map (λ (p : NumberedDep). dep_time p.dep) qs)

flat_append : {A B : Type 0} (f : A → List B) (xs ys : List A) → flat_map f (xs ++ ys) ≡ flat_map f xs ++ flat_map f ys
flat_append f [] ys = refl
flat_append {A} {B} f (x ∷ xs) ys =
    ap (λ (l : List B). f x ++ l) (flat_append f xs ys) ∙ sym (regroup (f x) (flat_map f xs) (flat_map f ys))
  where
    regroup : (a b c : List B) → (a ++ b) ++ c ≡ a ++ (b ++ c)
    regroup [] b c = refl
    regroup (y ∷ a) b c = ap (λ (l : List B). y ∷ l) (regroup a b c)

reached_first : (clock t : ℕ) (p : NumberedDep) (ps : List NumberedDep)
    → is_any_reached clock t (p ∷ ps) ≡ (option_map_or (is_reached clock t) (dep_time p.dep) false || is_any_reached clock t ps)
reached_first clock t p ps = go (dep_time p.dep)
  where
    go : (o : Option ℕ)
        → list_any (is_reached clock t) (cons_option o (filter_map (λ (q : NumberedDep). dep_time q.dep) ps))
        ≡ (option_map_or (is_reached clock t) o false || is_any_reached clock t ps)
    go None = refl
    go (Some u) = refl

-- a dependency whose time is reached
pub time_here : (clock t : ℕ) (p : NumberedDep) (ps : List NumberedDep)
    → option_map_or (is_reached clock t) (dep_time p.dep) false ≡ true → is_any_reached clock t (p ∷ ps) ≡ true
time_here clock t p ps h = reached_first clock t p ps ∙ ap (λ (b : Bool). b || is_any_reached clock t ps) h

-- any other dependency
pub time_later : (clock t : ℕ) (p : NumberedDep) (ps : List NumberedDep)
    → option_map_or (is_reached clock t) (dep_time p.dep) false ≡ false → is_any_reached clock t (p ∷ ps) ≡ is_any_reached clock t ps
time_later clock t p ps h = reached_first clock t p ps ∙ ap (λ (b : Bool). b || is_any_reached clock t ps) h

-- among two lists of objects
pub reached_in_both : (V : View) (clock t : ℕ) (os qs : List Obj)
    → is_any_reached_of V clock t (os ++ qs) ≡ (is_any_reached_of V clock t os || is_any_reached_of V clock t qs)
reached_in_both V clock t os qs =
    ap (is_any_reached clock t) (flat_append (unwaived_deps V) os qs)
    ∙ reached_append clock t (flat_map (unwaived_deps V) os) (flat_map (unwaived_deps V) qs)

reached_of_first : (V : View) (clock t : ℕ) (o : Obj) (os : List Obj)
    → is_any_reached_of V clock t (o ∷ os) ≡ (is_any_reached clock t (unwaived_deps V o) || is_any_reached_of V clock t os)
reached_of_first V clock t o os = reached_append clock t (unwaived_deps V o) (flat_map (unwaived_deps V) os)

-- the objects of the items that pass two tests
abbrev pub objects_of : {X : Type 0} → (X → Bool) → (X → Bool) → (X → Obj) → List X → List Obj
objects_of p q obj xs = map obj (filter q (filter p xs))

-- an item that passes, with a time that is reached
pub reached_here : {X : Type 0} (V : View) (clock t : ℕ) (p q : X → Bool) (obj : X → Obj) (x : X) (xs : List X)
    → (p x && (q x && is_any_reached clock t (unwaived_deps V (obj x)))) ≡ true
    → is_any_reached_of V clock t (objects_of p q obj (x ∷ xs)) ≡ true
reached_here {X} V clock t p q obj x xs h = go (p x) (q x) (is_any_reached clock t (unwaived_deps V (obj x))) refl refl refl h
  where
    go : (a b c : Bool) → p x ≡ a → q x ≡ b → is_any_reached clock t (unwaived_deps V (obj x)) ≡ c → (a && (b && c)) ≡ true
        → is_any_reached_of V clock t (objects_of p q obj (x ∷ xs)) ≡ true
    go true true true e f g h =
        rw (e, f)
        (reached_of_first V clock t (obj x) (objects_of p q obj xs)
        ∙ ap (λ (b : Bool). b || is_any_reached_of V clock t (objects_of p q obj xs)) g)
    go true true false e f g h = cc
    go true false c e f g h = cc
    go false b c e f g h = cc

-- any other item
pub reached_later : {X : Type 0} (V : View) (clock t : ℕ) (p q : X → Bool) (obj : X → Obj) (x : X) (xs : List X)
    → (p x && (q x && is_any_reached clock t (unwaived_deps V (obj x)))) ≡ false
    → is_any_reached_of V clock t (objects_of p q obj (x ∷ xs)) ≡ is_any_reached_of V clock t (objects_of p q obj xs)
reached_later {X} V clock t p q obj x xs h = go (p x) (q x) (is_any_reached clock t (unwaived_deps V (obj x))) refl refl refl h
  where
    go : (a b c : Bool) → p x ≡ a → q x ≡ b → is_any_reached clock t (unwaived_deps V (obj x)) ≡ c → (a && (b && c)) ≡ false
        → is_any_reached_of V clock t (objects_of p q obj (x ∷ xs)) ≡ is_any_reached_of V clock t (objects_of p q obj xs)
    go true true true e f g h = cc
    go true true false e f g h =
        rw (e, f)
        (reached_of_first V clock t (obj x) (objects_of p q obj xs)
        ∙ ap (λ (b : Bool). b || is_any_reached_of V clock t (objects_of p q obj xs)) g)
    go true false c e f g h = rw (e, f) refl
    go false b c e f g h = rw e refl

due_by_either : (V : View) (w t : ℕ)
    → is_clock_due V w t
    ≡ (is_any_reached_of V (now (V (Events w))) t (map (λ (d : StreamDoc). Stream d.no) (own_streams V w))
    || is_any_reached_of V (now (V (Events w))) t (map (λ (p : StreamJob). Job p.doc.no) (own_jobs V w)))
unfolding is_clock_due own_times own_objects
due_by_either V w t =
    reached_in_both V (now (V (Events w))) t (map (λ (d : StreamDoc). Stream d.no) (own_streams V w))
    (map (λ (p : StreamJob). Job p.doc.no) (own_jobs V w))

-- a time of an own member is reached
pub due_by_streams : (V : View) (w t n : ℕ) (here : Bool) → n ≡ now (V (Events w))
    → here ≡ is_any_reached_of V n t (map (λ (d : StreamDoc). Stream d.no) (own_streams V w)) → here ≡ true
    → here ≡ is_clock_due V w t
due_by_streams V w t n here e f h =
    let reached_here : is_any_reached_of V (now (V (Events w))) t (map (λ (d : StreamDoc). Stream d.no) (own_streams V w))
    ≡ true =
    subst (λ (m : ℕ). is_any_reached_of V m t (map (λ (d : StreamDoc). Stream d.no) (own_streams V w)) ≡ true) e
    (sym f ∙ h)
    in
    h
    ∙ sym
    (due_by_either V w t
    ∙ ap
    (λ (b : Bool).
    b || is_any_reached_of V (now (V (Events w))) t (map (λ (p : StreamJob). Job p.doc.no) (own_jobs V w)))
    reached_here)

-- none of these does, so an own member's job decides
pub due_by_jobs : (V : View) (w t n : ℕ) (above here : Bool) → n ≡ now (V (Events w))
    → above ≡ is_any_reached_of V n t (map (λ (d : StreamDoc). Stream d.no) (own_streams V w)) → above ≡ false
    → here ≡ is_any_reached_of V n t (map (λ (p : StreamJob). Job p.doc.no) (own_jobs V w)) → here ≡ is_clock_due V w t
due_by_jobs V w t n above here e f h g =
    let not_above : is_any_reached_of V (now (V (Events w))) t (map (λ (d : StreamDoc). Stream d.no) (own_streams V w))
    ≡ false =
    subst (λ (m : ℕ). is_any_reached_of V m t (map (λ (d : StreamDoc). Stream d.no) (own_streams V w)) ≡ false) e
    (sym f ∙ h)
    in
    g ∙ ap (λ (m : ℕ). is_any_reached_of V m t (map (λ (p : StreamJob). Job p.doc.no) (own_jobs V w))) e
    ∙ sym
    (due_by_either V w t
    ∙ ap
    (λ (b : Bool).
    b || is_any_reached_of V (now (V (Events w))) t (map (λ (p : StreamJob). Job p.doc.no) (own_jobs V w)))
    not_above)
