-- An object that was given no file waits for none.
use Rattle.std.proofs.Common.{◌≡◌, ◌∙◌, ◌∷◌, ◌++◌, ◌+◌, [], ℕ, Bool, List, ap, cond, false, map, refl}
use Rattle.std.proofs.Common.{suc, take, true, zero}
use Rattle.std.specs.List.{list_any}
use Rattle.std.specs.Prelude.{◌||◌, filter, flat_map, not}
use Rattle.lemmas.proofs.Booleans.{neither_left, neither_right}
use Rattle.lemmas.proofs.Lists.{any_append}
use Rattle.model.specs.Types.{Body, Dep, Events, Obj}
use Rattle.model.specs.History.{View}
use Rattle.model.specs.Facts.{commands, is_cancelled}
use Rattle.model.specs.Dependencies.{NumberedDep, deps, deps_added_by, document_deps, is_waived, numbered_deps}
use Rattle.model.specs.Dependencies.{owner_events, unwaived_deps}
use Rattle.model.specs.OwnMembers.{has_begun}
use Rattle.model.specs.StepFaults.{is_outside}
use Rattle.owner_fold.specs.Given.{is_filed}
use Rattle.owner_fold.proofs.Additions.{added_such}
use Rattle.file_watch.specs.Circle.{DepPlace}
use Rattle.file_watch.specs.Probes.{due_at, due_files, is_file_due}

none_taken : (n : ℕ) (ds : List Dep) → list_any is_outside ds ≡ false → list_any is_outside (take n ds) ≡ false
none_taken zero [] h = refl
none_taken (suc n) [] h = refl
none_taken zero (d ∷ ds) h = refl
none_taken (suc n) (d ∷ ds) h =
    rw (neither_left (is_outside d) (list_any is_outside ds) h)
    (none_taken n ds (neither_right (is_outside d) (list_any is_outside ds) h))

none_due : (q : NumberedDep → Bool) (events : List Body) (o : Obj) (n : ℕ) (ds : List Dep)
    → list_any is_outside ds ≡ false → filter (is_file_due events o) (filter q (numbered_deps n ds)) ≡ []
none_due q events o n [] h = refl
none_due q events o n (d ∷ ds) h =
    go (q (record { number = n; dep = d })) (neither_left (is_outside d) (list_any is_outside ds) h)
    (none_due q events o (n + 1) ds (neither_right (is_outside d) (list_any is_outside ds) h))
  where
    rest : List NumberedDep
    rest = filter q (numbered_deps (n + 1) ds)

    go : (b : Bool) → is_outside d ≡ false → filter (is_file_due events o) (filter q (numbered_deps (n + 1) ds)) ≡ []
        → filter (is_file_due events o)
        (cond b (record { number = n; dep = d } ∷ filter q (numbered_deps (n + 1) ds))
        (filter q (numbered_deps (n + 1) ds)))
        ≡ []
    go true e ih = rw e ih
    go false e ih = ih

none_over : (over : Bool) (o : Obj) (due : List NumberedDep) → due ≡ []
    → map {B = DepPlace} (λ (p : NumberedDep). (o, p.number)) (cond over [] due) ≡ []
none_over true o due e = refl
none_over false o due e = ap (map {B = DepPlace} (λ (p : NumberedDep). (o, p.number))) e

pub no_file : (V : View) (w : ℕ) (o : Obj) (written : List Dep) → document_deps V o ≡ written
    → owner_events V o ≡ V (Events w) → is_filed o written (V (Events w)) ≡ false → due_at V w o ≡ []
unfolding due_at due_files unwaived_deps deps
no_file V w o written docs events h =
    let all : List Dep = document_deps V o ++ flat_map (deps_added_by o) (commands (owner_events V o)) in
    let none : list_any is_outside all ≡ false =
    any_append is_outside (document_deps V o) (flat_map (deps_added_by o) (commands (owner_events V o)))
    ∙ (λ j. list_any is_outside (docs j)
    || (ap (λ (l : List Body). list_any is_outside (flat_map (deps_added_by o) (commands l))) events
    ∙ added_such is_outside o (commands (V (Events w)))) j)
    ∙ h
    in
    none_over (is_cancelled o (V (Events w)) || has_begun (V (Events w)) o) o _
    (none_due (λ (p : NumberedDep). not (is_waived V o p.number)) (V (Events w)) o 1 (take 65535 all)
    (none_taken 65535 all none))
