use Rattle.std.proofs.Common.{true}
use Rattle.std.specs.Prelude.{Ok}
use Rattle.node_inputs.specs.Traces.{Event}
use Rattle.node_loop.specs.Runs.{running}
use Rattle.run_laws.proofs.Finding.{run_files}
use Rattle.run_laws.proofs.laws.files_follow_probes.Goals as goal

pub returns-clause-probed : goal.returns-clause-probed
returns-clause-probed c = λ defs turns node trace end new runs front back e o i split.
    (run_files defs turns (running node) trace end new runs).each front (Event.Keeps e) back split o i

pub returns-clause-told : goal.returns-clause-told
returns-clause-told c = λ defs turns node trace end new runs inside front back path split.
    (run_files defs turns (running node) trace end new runs).each front (Event.Looks path (Ok true)) back split inside
