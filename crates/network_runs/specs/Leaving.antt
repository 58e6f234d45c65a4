-- What the end of a run leaves on the disk of its workstation.
use Rattle.std.specs.Option.{option_to_list}
use Rattle.std.specs.Prelude.{ℕ, ◌++◌, ◌≡◌, List, Option}
use Rattle.composer_parser.specs.declared.Defs.{Defs}
use Rattle.model.specs.Types.{Entry}
use Rattle.outside.specs.Kept.{Bodies}
use Rattle.node_inputs.specs.Keeping.{bodies}
use Rattle.node_inputs.specs.Traces.{Trace, kept}
use Rattle.network_runs.specs.Nights.{IsLife}

-- the run is a life of the workstation, and left is what it held at first, all that it kept, and what its stop leaves
pub record EndsAs (defs : Defs) (w : ℕ) (entries : List Entry) (trace : Trace) (left : Bodies) : Type 0 where
  pub in_hand : Option Entry
  pub life : IsLife defs w entries trace in_hand
  pub leaves : left ≡ bodies (entries ++ (kept trace ++ option_to_list in_hand))
