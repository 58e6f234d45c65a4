-- What is satisfied of the dependencies that are not waived, and who is held back by them.
use Rattle.std.proofs.Common.{[], ℕ, ◌+◌, ◌∙◌, ◌∷◌, ◌≡◌, Bool, List, None, Option, Some, add-one, ap, cond, drop, false}
use Rattle.std.proofs.Common.{filter, refl, subst, suc, sym, true, zero}
use Rattle.std.specs.List.{AllByRecursion, cons_option}
use Rattle.std.specs.Prelude.{filter_map, not, slice_get}
use Rattle.lemmas.proofs.Lists.{all_such}
use Rattle.model.specs.Types.{At, Deadline, Dep, FollowsJob, FollowsStream, Needs, Net, Obj, Outside, Prompt, Until}
use Rattle.model.specs.History.{View}
use Rattle.model.specs.Words.{nth}
use Rattle.model.specs.Catalogue.{owner}
use Rattle.model.specs.Dependencies.{NumberedDep, dep, deps, is_met, is_satisfied, is_waived, numbered_deps}
use Rattle.model.specs.Dependencies.{unwaived_deps}
use Rattle.ready_index.specs.declared.targets.Target.{Target}
use Rattle.ready_index.specs.Awaited.{held_back, held_back_by}
use Rattle.ready_index.specs.Targets.{followed}
use Rattle.ready_index.proofs.Bests.{met_lets_go}

drop_zero : {X : Type 0} (xs : List X) → drop 0 xs ≡ xs
drop_zero [] = refl
drop_zero (x ∷ xs) = refl

first_behind : {X : Type 0} (xs : List X) (n : ℕ) (x : X) (rest : List X) → drop n xs ≡ x ∷ rest
    → (slice_get xs n ≡ Some x) × (drop (suc n) xs ≡ rest)
first_behind [] zero x rest e = cc
first_behind [] (suc n) x rest e = cc
first_behind (y ∷ ys) zero x rest e =
    let a : y ≡ x = cc in let b : ys ≡ rest = cc in (ap Some a, drop_zero ys ∙ b)
first_behind (y ∷ ys) (suc n) x rest e = first_behind ys n x rest e

-- each has its number
numbered : (ds : List Dep) (n : ℕ) (rest : List Dep) → drop n ds ≡ rest
    → AllByRecursion (λ (q : NumberedDep). nth ds q.number ≡ Some q.dep) (numbered_deps (n + 1) rest)
numbered ds n [] e = tt
numbered ds n (d ∷ rest) e =
    let k : (slice_get ds n ≡ Some d) × (drop (suc n) ds ≡ rest) = first_behind ds n d rest e in (
      subst (λ i. nth ds i ≡ Some d) (sym (add-one n)) k.0,
      numbered ds (n + 1) rest (subst (λ i. drop i ds ≡ rest) (sym (add-one n)) k.1),
    )

all_passing : {X : Type 0} (P : X → Type 0) (f : X → Bool) (xs : List X) → AllByRecursion P xs
    → AllByRecursion (λ x. P x × (f x ≡ true)) (filter f xs)
all_passing P f [] h = tt
all_passing {X} P f (x ∷ xs) h = go (f x) refl (all_passing P f xs h.1)
  where
    go : (b : Bool) → f x ≡ b → AllByRecursion (λ (y : X). P y × (f y ≡ true)) (filter f xs)
        → AllByRecursion (λ (y : X). P y × (f y ≡ true)) (cond b (x ∷ filter f xs) (filter f xs))
    go true e k = ((h.0, e), k)
    go false e k = k

-- a dependency of an object of w is satisfied where it is met
abbrev pub IsTold : Net → View → ℕ → Obj → NumberedDep → Type 0
IsTold net V w o q = is_satisfied net V o q.number ≡ is_met net V w o q.number q.dep

told_by_number : (net : Net) (V : View) (w : ℕ) (o : Obj) → owner V o ≡ Some w → (q : NumberedDep)
    → (nth (deps V o) q.number ≡ Some q.dep) × (not (is_waived V o q.number) ≡ true) → IsTold net V w o q
unfolding is_satisfied
told_by_number net V w o owned q h =
    let here : dep V o q.number ≡ Some q.dep = h.0 in
    let stands : is_waived V o q.number ≡ false = turned (is_waived V o q.number) h.1 in
    rw (owned, here, stands) refl
  where
    turned : (b : Bool) → not b ≡ true → b ≡ false
    turned true e = cc
    turned false e = refl

-- each that is not waived is told so
pub all_told : (net : Net) (V : View) (w : ℕ) (o : Obj) → owner V o ≡ Some w
    → AllByRecursion (IsTold net V w o) (unwaived_deps V o)
unfolding unwaived_deps
all_told net V w o owned =
    all_such
    (λ (q : NumberedDep). (nth (deps V o) q.number ≡ Some q.dep) × (not (is_waived V o q.number) ≡ true))
    (IsTold net V w o) _ (told_by_number net V w o owned)
    (all_passing (λ (q : NumberedDep). nth (deps V o) q.number ≡ Some q.dep)
    (λ (q : NumberedDep). not (is_waived V o q.number)) (numbered_deps 1 (deps V o))
    (numbered (deps V o) 0 (deps V o) (drop_zero (deps V o))))

-- what is no FOLLOWS holds nobody back
no_hold : (V : View) (d : Dep) → followed d ≡ None → held_back V d ≡ None
no_hold V (FollowsJob j) h = cc
no_hold V (FollowsStream s) h = cc
no_hold V (Needs r n) h = refl
no_hold V (Prompt p) h = refl
no_hold V (At t) h = refl
no_hold V (Until t then_) h = refl
no_hold V (Outside path) h = refl
no_hold V (Deadline t) h = refl

-- a FOLLOWS that is not met does
unmet_holds : (net : Net) (V : View) (w : ℕ) (o : Obj) (i : ℕ) (d : Dep) (t : Target) → followed d ≡ Some t
    → is_met net V w o i d ≡ false → held_back V d ≡ Some t
unfolding is_met
unmet_holds net V w o i (FollowsJob k) t h e = rw e h
unmet_holds net V w o i (FollowsStream s) t h e = rw e h
unmet_holds net V w o i (Needs r n) t h e = cc
unmet_holds net V w o i (Prompt p) t h e = cc
unmet_holds net V w o i (At m) t h e = cc
unmet_holds net V w o i (Until m then_) t h e = cc
unmet_holds net V w o i (Outside path) t h e = cc
unmet_holds net V w o i (Deadline m) t h e = cc

-- what holds an object back among these dependencies
abbrev pub held_among : View → List NumberedDep → List Target
held_among V ds = filter_map (λ (q : NumberedDep). held_back V q.dep) ds

-- the walk so far met nothing that holds the object back
pub record IsFreeSoFar (net : Net) (V : View) (w : ℕ) (o : Obj) (left : List NumberedDep) : Type 0 where
  pub first : slice_get (held_back_by V o) 0 ≡ slice_get (held_among V left) 0
  pub told : AllByRecursion (IsTold net V w o) left

pub nothing_walked : (net : Net) (V : View) (w : ℕ) (o : Obj) (left : List NumberedDep) → owner V o ≡ Some w
    → left ≡ unwaived_deps V o → IsFreeSoFar net V w o left
unfolding held_back_by
nothing_walked net V w o left owned e = rw e (record { first = refl; told = all_told net V w o owned })

passed : (net : Net) (V : View) (w : ℕ) (o : Obj) (q : NumberedDep) (left : List NumberedDep) → held_back V q.dep ≡ None
    → IsFreeSoFar net V w o (q ∷ left) → IsFreeSoFar net V w o left
passed net V w o q left none h = record {
  first = h.first ∙ ap (λ (o : Option Target). slice_get (cons_option o (held_among V left)) 0) none;
  told = h.told.1;
}

pub passed_other : (net : Net) (V : View) (w : ℕ) (o : Obj) (q : NumberedDep) (left : List NumberedDep)
    → followed q.dep ≡ None → IsFreeSoFar net V w o (q ∷ left) → IsFreeSoFar net V w o left
passed_other net V w o q left none h = passed net V w o q left (no_hold V q.dep none) h

pub passed_satisfied : (net : Net) (V : View) (w : ℕ) (o : Obj) (q : NumberedDep) (left : List NumberedDep)
    → is_satisfied net V o q.number ≡ true → IsFreeSoFar net V w o (q ∷ left) → IsFreeSoFar net V w o left
passed_satisfied net V w o q left e h =
    passed net V w o q left (met_lets_go net V w o q.number q.dep (sym h.told.0 ∙ e)) h

pub held_here : (net : Net) (V : View) (w : ℕ) (o : Obj) (q : NumberedDep) (left : List NumberedDep) (t : Target)
    → followed q.dep ≡ Some t → is_satisfied net V o q.number ≡ false → IsFreeSoFar net V w o (q ∷ left)
    → slice_get (held_back_by V o) 0 ≡ Some t
held_here net V w o q left t e f h =
    h.first
    ∙ ap (λ (o : Option Target). slice_get (cons_option o (held_among V left)) 0)
    (unmet_holds net V w o q.number q.dep t e (sym h.told.0 ∙ f))

pub nothing_holds : (net : Net) (V : View) (w : ℕ) (o : Obj) (left : List NumberedDep) → left ≡ []
    → IsFreeSoFar net V w o left → slice_get (held_back_by V o) 0 ≡ None
nothing_holds net V w o left e h = h.first ∙ ap (λ (ds : List NumberedDep). slice_get (held_among V ds) 0) e
