-- The files that a run found, and the entries that tell of them.
use Rattle.std.specs.Prelude.{[], ℕ, ◌++◌, ◌∷◌, ◌≡◌, ◌⊎◌, List, Ok, Option, Some, true}
use Rattle.base_types.specs.declared.LimitName.TheVariants.{Places}
use Rattle.model.specs.Types.{Entry, Events, Fulfilled, Obj}
use Rattle.agent_core.specs.Nodes.{NodeState}
use Rattle.file_watch.specs.Circle.{DepPlace}
use Rattle.file_watch.specs.Probes.{next_probe, path_at}
use Rattle.node_inputs.specs.Traces.{Event, Trace}
use Rattle.node_inputs.specs.declared.ends.NodeEnd.{NodeEnd}
use Rattle.node_inputs.specs.declared.ends.NodeEnd.TheVariants.{Limit, NoMemory}
use Rattle.run_laws.specs.Held.{held_after}

-- it tells, among this workstation's own events, that the file of a dependency is there
pub record TellsFile (me : ℕ) (e : Entry) (o : Obj) (i : ℕ) : Type 0 where
  pub its_feed : e.feed ≡ Events me
  pub its_body : e.body ≡ Fulfilled o i

-- The file of the dependency is looked for behind this front: it waits for its file, its turn has come behind another's,
-- and this is the path that it has then.
pub record IsLookedFor (node : NodeState) (front : Trace) (o : Obj) (i : ℕ) (path : List ℕ) : Type 0 where
  pub last : Option DepPlace
  pub its_turn : next_probe (held_after node front) node.me last ≡ Some (o, i)
  pub its_path : path_at (held_after node front) o i ≡ Some path

-- this front of a trace ends with a probe for the dependency that found the file
pub record EndsWithItsProbe (node : NodeState) (front : Trace) (o : Obj) (i : ℕ) : Type 0 where
  pub before : Trace
  pub path : List ℕ
  pub probed : front ≡ before ++ Event.Looks path (Ok true) ∷ []
  pub looked_for : IsLookedFor node before o i path

-- What follows a probe that found a file at this path: the next event tells it of the dependency that was looked for, or
-- telling of it is refused and the run ends, or it ends at once, for want of memory or of places.
pub data FollowsFile (node : NodeState) (front : Trace) (path : List ℕ) (back : Trace) (end : Option NodeEnd) : Type 0 where
  told : (o : Obj) (i : ℕ) (e : Entry) (rest : Trace) → IsLookedFor node front o i path
      → TellsFile node.me e o i → back ≡ Event.Keeps e ∷ rest → FollowsFile node front path back end
  refused : (o : Obj) (i : ℕ) (e : Entry) (why : NodeEnd) → IsLookedFor node front o i path
      → TellsFile node.me e o i → back ≡ Event.Refuses e why ∷ [] → end ≡ Some why → FollowsFile node front path back end
  stopped_at_once : back ≡ [] → (end ≡ Some NoMemory) ⊎ (end ≡ Some (Limit Places)) → FollowsFile node front path back end
