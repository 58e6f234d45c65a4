-- What is due may be told: it is an own member's, waits for a file, and that file was not told.
use Rattle.std.proofs.Common.{◌≡◌, ◌∙◌, ◌∷◌, [], ℕ, Bool, List, None, Option, Some, ap, cond, false, map, refl, true}
use Rattle.std.proofs.lemmas.Bool.{eq-eqb}
use Rattle.std.specs.List.{AllByRecursion}
use Rattle.std.specs.Option.{option_map_or}
use Rattle.std.specs.Prelude.{◌||◌, IsSome, filter, not, option_and_then}
use Rattle.lemmas.proofs.Booleans.{and_left, and_right, not_holds, or_made_right}
use Rattle.lemmas.proofs.Lists.{all_map, all_such, flat_all}
use Rattle.model.specs.Types.{Dep, Events, Fulfil, Input, Job, Obj, Outside, Stream}
use Rattle.model.specs.Words.{nth}
use Rattle.model.specs.Equalities.{obj_among, obj_eq}
use Rattle.model.specs.History.{View}
use Rattle.model.specs.Facts.{is_cancelled, is_fulfilled}
use Rattle.model.specs.Dependencies.{NumberedDep, dep, deps, unwaived_deps}
use Rattle.model.specs.OwnMembers.{has_begun, own_objects}
use Rattle.model.specs.StepFaults.{is_outside, lacks_dep}
use Rattle.model_laws.proofs.Options.{filter_all}
use Rattle.model_laws.proofs.Lists.{all_both, all_filter}
use Rattle.model_laws.proofs.Untils.{open_is_nth}
use Rattle.file_watch.specs.Circle.{DepPlace}
use Rattle.file_watch.specs.Probes.{due_at, due_files, due_probes, is_file_due, next_probe, path_at, path_in}
use Rattle.file_watch.proofs.Chosen.{holds_of_soonest}

-- an own member's object's dependency that waits for a file, which was not told
pub record IsDue (V : View) (w : ℕ) (p : DepPlace) : Type 0 where
  pub mine : obj_among (own_objects V w) p.0 ≡ true
  pub file : option_map_or is_outside (dep V p.0 p.1) false ≡ true
  pub fresh : is_fulfilled p.0 p.1 (V (Events w)) ≡ false

itself : (o : Obj) → obj_eq o o ≡ true
itself (Job j) = eq-eqb j j refl
itself (Stream s) = eq-eqb s s refl

all_among : (xs : List Obj) → AllByRecursion (λ (o : Obj). obj_among xs o ≡ true) xs
all_among [] = tt
all_among (x ∷ xs) = (
  rw (itself x) refl,
  all_such (λ (o : Obj). obj_among xs o ≡ true) (λ (o : Obj). obj_among (x ∷ xs) o ≡ true) xs
      (λ o h. or_made_right (obj_eq x o) (obj_among xs o) h) (all_among xs),
)

due_of : (V : View) (w : ℕ) (o : Obj) → obj_among (own_objects V w) o ≡ true → (p : NumberedDep)
    → nth (deps V o) p.number ≡ Some p.dep → is_file_due (V (Events w)) o p ≡ true → IsDue V w (o, p.number)
due_of V w o mine p stands due = record {
  mine = mine;
  file =
      ap (λ (d : Option Dep). option_map_or is_outside d false) stands
      ∙ and_left (is_outside p.dep) (not (is_fulfilled o p.number (V (Events w)))) due;
  fresh =
      not_holds (is_fulfilled o p.number (V (Events w)))
      (and_right (is_outside p.dep) (not (is_fulfilled o p.number (V (Events w)))) due);
}

due_here : (V : View) (w : ℕ) (o : Obj) → obj_among (own_objects V w) o ≡ true
    → AllByRecursion (IsDue V w) (due_at V w o)
unfolding due_at due_files
due_here V w o mine = go (is_cancelled o (V (Events w)) || has_begun (V (Events w)) o)
  where
    go : (over : Bool)
        → AllByRecursion (IsDue V w)
        (map (λ (p : NumberedDep). (o, p.number))
        (cond over [] (filter (is_file_due (V (Events w)) o) (unwaived_deps V o))))
    go true = tt
    go false =
        all_map (IsDue V w) (λ (p : NumberedDep). (o, p.number))
        (filter (is_file_due (V (Events w)) o) (unwaived_deps V o))
        (all_both (λ (p : NumberedDep). nth (deps V o) p.number ≡ Some p.dep)
        (λ (p : NumberedDep). is_file_due (V (Events w)) o p ≡ true)
        (λ (p : NumberedDep). IsDue V w (o, p.number))
        (filter (is_file_due (V (Events w)) o) (unwaived_deps V o)) (due_of V w o mine)
        (all_filter (λ (p : NumberedDep). nth (deps V o) p.number ≡ Some p.dep) (is_file_due (V (Events w)) o)
        (unwaived_deps V o) (open_is_nth V o))
        (filter_all (is_file_due (V (Events w)) o) (unwaived_deps V o)))

all_due : (V : View) (w : ℕ) → AllByRecursion (IsDue V w) (due_probes V w)
unfolding due_probes
all_due V w =
    flat_all (IsDue V w) (due_at V w) (own_objects V w)
    (all_such (λ (o : Obj). obj_among (own_objects V w) o ≡ true)
    (λ (o : Obj). AllByRecursion (IsDue V w) (due_at V w o)) (own_objects V w) (due_here V w)
    (all_among (own_objects V w)))

next_is_due : (V : View) (w : ℕ) (last : Option DepPlace) (p : DepPlace) → next_probe V w last ≡ Some p → IsDue V w p
unfolding next_probe
next_is_due V w last p e = holds_of_soonest (IsDue V w) last (due_probes V w) p (all_due V w) e

path_there : (d : Option Dep) → option_map_or is_outside d false ≡ true → IsSome (option_and_then path_in d)
path_there None h = cc
path_there (Some d) h = go d h
  where
    go : (d : Dep) → is_outside d ≡ true → IsSome (path_in d)
    go (Outside path) h = refl
    go d h = cc

pub probe_has_path : (V : View) (w : ℕ) (last : Option DepPlace) (o : Obj) (i : ℕ) → next_probe V w last ≡ Some (o, i)
    → IsSome (path_at V o i)
probe_has_path V w last o i e = path_there (dep V o i) (next_is_due V w last (o, i) e).file

pub probe_may_be_told : (V : View) (w : ℕ) (last : Option DepPlace) (o : Obj) (i : ℕ) → next_probe V w last ≡ Some (o, i)
    → lacks_dep w V (Input.Local (Fulfil o i)) ≡ false
probe_may_be_told V w last o i e =
    let due = next_is_due V w last (o, i) e in
    rw (due.mine, due.file, due.fresh) refl
