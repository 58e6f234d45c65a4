-- What a node held at a moment of its run.
use Rattle.std.specs.Prelude.{[], ◌++◌, ◌∷◌, ◌≡◌, Option, Some}
use Rattle.model.specs.Types.{Entry}
use Rattle.model.specs.History.{View, view_of}
use Rattle.agent_core.specs.Nodes.{NodeState}
use Rattle.node_inputs.specs.Traces.{Event, Trace, kept}
use Rattle.node_inputs.specs.declared.ends.NodeEnd.{NodeEnd}
use Rattle.node_inputs.specs.declared.ends.NodeEnd.TheVariants.{NoMemory}

-- behind this front of its trace: what it held before, and what it kept since
abbrev pub held_after : NodeState → Trace → View
held_after node front = view_of (node.kept ++ kept front)

-- the entry in hand where a run ends: it was refused, or there was no memory to keep it
pub data IsInHand (trace : Trace) (end : Option NodeEnd) (e : Entry) : Type 0 where
  refused : (front : Trace) (why : NodeEnd) → trace ≡ front ++ Event.Refuses e why ∷ [] → end ≡ Some why
      → IsInHand trace end e
  spent : end ≡ Some NoMemory → IsInHand trace end e
