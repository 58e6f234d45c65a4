-- Running nodes that stand still: a whole pass of each in which nothing comes, nothing is kept and nothing goes out.
use Rattle.std.specs.List.{AllByRecursion, list_all}
use Rattle.std.specs.Prelude.{[], ℕ, ◌&&◌, ◌<◌, ◌∷◌, ◌≡◌, Bool, IsTrue, None, Ok, false, true}
use Rattle.composer_parser.specs.declared.Defs.{Defs}
use Rattle.model.specs.Types.{Entry}
use Rattle.model.specs.Network.{are_neighbours, node_count}
use Rattle.model.specs.World.{World}
use Rattle.outside.specs.declared.links.Arrival.TheVariants as arrival
use Rattle.workload_defs.specs.Nets.{net_of}
use Rattle.agent_core.specs.Nodes.{present_in, session_in}
use Rattle.node_inputs.specs.Traces.{Event, Trace, readings}
use Rattle.node_loop.specs.Runs.{Running, TurnOf}
use Rattle.rest_laws.specs.Rest.{HasDoneItsWork, IsAtRest, IsKeptWhole}
use Rattle.rest_laws.specs.Short.{can_count, has_short_answer}
use Rattle.network_world.specs.Standing.{NodeStandsFor}
use Rattle.network_runs.specs.Happenings.{Night, kept_at, made}

-- what the run of each workstation has come to
abbrev pub Nodes : Type 0
Nodes = ℕ → Running

-- its node holds what the workstation holds in the world, with its session
abbrev pub NodesStandFor : Defs → Nodes → World → Type 0
NodesStandFor defs nodes x =
    (w : ℕ) → w < node_count (net_of defs) → NodeStandsFor (net_of defs) x w (nodes w).node

-- nothing comes, no process ended, no file was found; and nothing is kept and nothing goes out
abbrev pub is_still : Event → Bool
is_still (Event.Reads t) = true
is_still (Event.Comes arrival.Nothing) = true
is_still (Event.Reports (Ok None)) = true
is_still (Event.Looks path (Ok false)) = true
is_still _ = false

-- A pass at this reading in which nothing happens. A pass is one turn of the loop of `run_node`, as its clause `run` has
-- it: one reading of the clock, one arrival, one end, one probe, the advice, and the turn with that reading.
pub record IsStill (defs : Defs) (t : ℕ) (old : Running) : Type 0 where
  pub trace : Trace
  pub after : Running
  pub turn : TurnOf defs old trace None after
  pub reads : readings trace ≡ t ∷ []
  pub each : AllByRecursion (λ event. IsTrue (is_still event)) trace

-- its own end is up of each link to one that it takes for a neighbour
abbrev pub HasItsLinks : Defs → Running → Type 0
HasItsLinks defs now =
    (m : ℕ) → m < node_count (net_of defs) → IsTrue (are_neighbours (present_in now.node) now.node.me m)
    → IsTrue ((session_in now.node).links m)

-- each node has its links, and makes such a pass at its reading
pub record StandStill (defs : Defs) (reads : ℕ → ℕ) (nodes : Nodes) : Type 0 where
  pub linked : (w : ℕ) → w < node_count (net_of defs) → HasItsLinks defs (nodes w)
  pub still : (w : ℕ) → w < node_count (net_of defs) → IsStill defs (reads w) (nodes w)

-- each order of the night has an answer that an entry can hold, and an entry can count all workstations: so it is with
-- orders of the program's language (`order_laws`)
abbrev pub have_short_answers : Defs → Night → Bool
have_short_answers defs night =
    can_count (node_count (net_of defs)) && list_all (λ (e : Entry). has_short_answer e.body) (made night)

-- the world of the night is at rest and has done its work, and each disk has all events that its workstation wants, and
-- all orders for it
pub record RestsIn (defs : Defs) (reads : ℕ → ℕ) (night : Night) (x : World) : Type 0 where
  pub rest : IsAtRest (net_of defs) reads x
  pub work : HasDoneItsWork (net_of defs) reads x
  pub disks : IsKeptWhole (net_of defs) x (λ w. kept_at w night)
