-- The run of the second service.
use Rattle.std.proofs.Common.{[], ◌≡◌, ◌∷◌, None, Ok, Some, inl, inr, refl}
use Rattle.file_watch.specs.Probes.{due_at, due_files, due_probes, next_probe}
use Rattle.model.specs.Everything.{everything}
use Rattle.outside.specs.declared.links.Arrival.TheVariants as arrival
use Rattle.recovery_watch.specs.Advice.{advice, needs_advice}
use Rattle.agent_core.specs.Nodes.{view_in}
use Rattle.node_inputs.specs.Traces.{Event}
use Rattle.node_inputs.specs.declared.ends.NodeEnd.TheVariants.{NoMemory}
use Rattle.node_loop.specs.Runs.{Run, TurnOf, running}
use Rattle.worked_night.specs.Workload.{defs}
use Rattle.worked_night.proofs.Runs.{behind_arrival, turn_stops}
use Rattle.worked_night.proofs.Turns.{node_of}
use Rattle.worked_services.specs.Served.{turn}

no_probe : next_probe (view_in (node_of 1 [])) 1 None ≡ None
unfolding everything next_probe due_probes due_at due_files
no_probe = refl

no_advice : advice (view_in (node_of 1 [])) 1 ≡ None
unfolding everything advice needs_advice
no_advice = refl

its_turn : TurnOf defs (running (node_of 1 [])) turn (Some NoMemory) (running (node_of 1 []))
its_turn = record {
  reading = 200;
  rest = Event.Comes arrival.Nothing ∷ Event.Reports (Ok None) ∷ [];
  split = refl;
  acts =
      inl (record {
        front = Event.Comes arrival.Nothing ∷ [];
        back = Event.Reports (Ok None) ∷ [];
        middle = running (node_of 1 []);
        split = refl;
        begins =
            inl (record {
              arrived = arrival.Nothing;
              rest = [];
              there = λ q. cc;
              split = refl;
              arrives = (refl, refl, refl);
            });
        goes_on =
            behind_arrival (running (node_of 1 [])) 200 [] (Some NoMemory) (node_of 1 []) no_probe no_advice
            (turn_stops (node_of 1 []) 200);
      });
}

pub its_run : Run defs 1 (running (node_of 1 [])) turn (Some NoMemory) (running (node_of 1 []))
its_run = inr (record { why = NoMemory; for_that_cause = refl; ends = its_turn })
