use Rattle.std.proofs.Common.{[], ◌∷◌, Some, ap, refl}
use Rattle.std.specs.Prelude.{is_ok}
use Rattle.outside.specs.Calls.{StartCall}
use Rattle.node_inputs.specs.Traces.{Event}
use Rattle.node_inputs.specs.Inputs.{carried_with}
use Rattle.node_inputs.proofs.Telling.{start_told}
use Rattle.node_inputs.proofs.outputs.start.Goals as goal

pub returns-clause-does : goal.returns-clause-does
returns-clause-does g c = λ all link clock files.
    let call : StartCall = record { job = c.args.job; number = c.args.number; work = c.args.work.now; ok = is_ok c.start.result } in
    record {
      trace = Event.Starts call ∷ [];
      acts = (is_ok c.start.result, refl, refl, ap (λ b. carried_with all (Some (c.args.job, b))) c.is_ok-ok.ensures.value);
      tells = start_told link clock files (g.J.Spawner.calls c.args.jobs.now) (g.J.Spawner.calls c.start.new.self) call c.start.ensures.calls;
      none_tried = refl;
    }
