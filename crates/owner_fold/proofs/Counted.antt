-- How many dependencies count, and where each of them stands.
use Rattle.std.proofs.Common.{[], ℕ, ◌+◌, ◌++◌, ◌-◌, ◌<◌, ◌∙◌, ◌∷◌, ◌≡◌, ◌≤◌, List, None, Some, arith, flat_map}
use Rattle.std.proofs.Common.{length, length-append}
use Rattle.std.proofs.Common.{length-take, refl, slice_get, subst, suc, zero}
use Rattle.lemmas.proofs.Lists.{get_take}
use Rattle.model.specs.Types.{Dep, Events, Obj}
use Rattle.model.specs.Catalogue.{owner}
use Rattle.model.specs.History.{View}
use Rattle.model.specs.Facts.{commands}
use Rattle.model.specs.Dependencies.{dep, deps, deps_added_by, document_deps, owner_events}

-- those that the object's owner added
abbrev pub added_deps : View → Obj → List Dep
added_deps V o = flat_map (deps_added_by o) (commands (owner_events V o))

pub all_count : (V : View) (o : Obj) → length (document_deps V o) + length (added_deps V o) < 65535
    → length (deps V o) ≡ length (document_deps V o) + length (added_deps V o)
unfolding deps
all_count V o h =
    omega (
      arith,
      h,
      length-take 65535 (document_deps V o ++ added_deps V o),
      length-append (document_deps V o) (added_deps V o),
    )

pub most_count : (V : View) (o : Obj) → 65535 ≤ length (document_deps V o) + length (added_deps V o)
    → length (deps V o) ≡ 65535
unfolding deps
most_count V o h =
    omega (
      arith,
      h,
      length-take 65535 (document_deps V o ++ added_deps V o),
      length-append (document_deps V o) (added_deps V o),
    )

get_front : {X : Type 0} (xs ys : List X) (i : ℕ) → i < length xs → slice_get (xs ++ ys) i ≡ slice_get xs i
get_front [] ys i h = absurd (omega arith)
get_front (x ∷ xs) ys zero h = refl
get_front (x ∷ xs) ys (suc i) h = get_front xs ys i (omega arith)

get_back : {X : Type 0} (xs ys : List X) (i : ℕ) → slice_get (xs ++ ys) (length xs + i) ≡ slice_get ys i
get_back [] ys i = let e : 0 + i ≡ i = omega arith in rw e refl
get_back (x ∷ xs) ys i = let e : suc (length xs) + i ≡ suc (length xs + i) = omega arith in rw e (get_back xs ys i)

-- a dependency of the document
pub dep_written : (V : View) (o : Obj) (i : ℕ) → 0 < i → i ≤ 65535 → i - 1 < length (document_deps V o)
    → dep V o i ≡ slice_get (document_deps V o) (i - 1)
unfolding deps
dep_written V o zero h k l = absurd (omega arith)
dep_written V o (suc i) h k l =
    let e : suc i - 1 ≡ i = omega arith in
    rw e
    (get_take (document_deps V o ++ added_deps V o) 65535 i (omega arith)
    ∙ get_front (document_deps V o) (added_deps V o) i (rw e at l))

-- one that was added
pub dep_added : (V : View) (o : Obj) (i : ℕ) → 0 < i → i ≤ 65535 → length (document_deps V o) ≤ i - 1
    → dep V o i ≡ slice_get (added_deps V o) (i - 1 - length (document_deps V o))
unfolding deps
dep_added V o zero h k l = absurd (omega arith)
dep_added V o (suc i) h k l =
    let e : suc i - 1 ≡ i = omega arith in
    let f : length (document_deps V o) + (i - length (document_deps V o)) ≡ i = omega (arith, e, l) in
    rw e
    (get_take (document_deps V o ++ added_deps V o) 65535 i (omega arith)
    ∙ subst
    (λ n. slice_get (document_deps V o ++ added_deps V o) n
    ≡ slice_get (added_deps V o) (i - length (document_deps V o)))
    f (get_back (document_deps V o) (added_deps V o) (i - length (document_deps V o))))

-- an object without an owner has none that were added
pub owned_none : (V : View) (o : Obj) (i : ℕ) → owner V o ≡ None → slice_get (added_deps V o) i ≡ None
unfolding owner_events commands
owned_none V o i h = rw h refl

-- another has those that commands of its owner added
pub owned_some : (V : View) (o : Obj) (w i : ℕ) → owner V o ≡ Some w
    → slice_get (added_deps V o) i ≡ slice_get (flat_map (deps_added_by o) (commands (V (Events w)))) i
unfolding owner_events
owned_some V o w i h = rw h refl
