-- When a node acts by itself, and what it orders then.
use Rattle.std.specs.Prelude.{ℕ, ◌≡◌, Bool, false, fold, true}
use Rattle.model.specs.Types.{Cmd, Entry, Order, Orders}
use Rattle.node_inputs.specs.Traces.{Event, Trace}

-- a turn begins with its reading of the clock, and the ends of processes are asked for behind its one arrival
abbrev pub alone_with : Bool → Event → Bool
alone_with so_far (Event.Reads t) = false
alone_with so_far (Event.Comes a) = false
alone_with so_far (Event.Reports answer) = true
alone_with so_far _ = so_far

-- behind this front of its trace nobody is heard in the turn any more
abbrev pub is_alone : Trace → Bool
is_alone front = fold alone_with false front

-- an order of the node to itself that nobody asked for
pub record IsOwnOrder (me : ℕ) (front : Trace) (e : Entry) (c : Cmd) : Type 0 where
  pub its_feed : e.feed ≡ Orders me me
  pub its_body : e.body ≡ Order c
  pub alone : is_alone front ≡ true
