-- The files that the objects of a workstation wait for, and which of them is looked for next.
use Rattle.std.specs.Prelude.{[], if◌then◌else◌, ℕ, ◌&&◌, ◌||◌, Bool, List, None, Option, Some, filter, flat_map, map}
use Rattle.std.specs.Prelude.{not, option_and_then}
use Rattle.model.specs.Types.{Body, Dep, Events, Obj, Outside}
use Rattle.model.specs.History.{View}
use Rattle.model.specs.Facts.{is_cancelled, is_fulfilled}
use Rattle.model.specs.Dependencies.{NumberedDep, dep, unwaived_deps}
use Rattle.model.specs.OwnMembers.{has_begun, own_objects}
use Rattle.model.specs.StepFaults.{is_outside}
use Rattle.file_watch.specs.Circle.{DepPlace, soonest}

-- it waits for a file that was not told yet
abbrev pub is_file_due : List Body → Obj → NumberedDep → Bool
is_file_due events o p = is_outside p.dep && not (is_fulfilled o p.number events)

-- those of an object of w that are not waived; a cancelled or begun object waits for no file any more
unfoldable pub due_files : View → ℕ → Obj → List NumberedDep
due_files V w o =
    if is_cancelled o (V (Events w)) || has_begun (V (Events w)) o
    then []
    else filter (is_file_due (V (Events w)) o) (unwaived_deps V o)

-- the same, each with the object
unfoldable pub due_at : View → ℕ → Obj → List DepPlace
due_at V w o = map (λ (p : NumberedDep). (o, p.number)) (due_files V w o)

-- those of own members and of own members' jobs
unfoldable pub due_probes : View → ℕ → List DepPlace
due_probes V w = flat_map (due_at V w) (own_objects V w)

-- the one whose turn comes next behind the last one, none where none is due
unfoldable pub next_probe : View → ℕ → Option DepPlace → Option DepPlace
next_probe V w last = soonest last (due_probes V w)

-- the path of a dependency that waits for a file
abbrev pub path_in : Dep → Option (List ℕ)
path_in (Outside path) = Some path
path_in _ = None

-- of dependency i of an object
abbrev pub path_at : View → Obj → ℕ → Option (List ℕ)
path_at V o i = option_and_then path_in (dep V o i)
