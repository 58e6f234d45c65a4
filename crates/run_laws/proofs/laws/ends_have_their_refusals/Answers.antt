use Rattle.std.proofs.Common.{Some, refl}
use Rattle.node_inputs.specs.declared.ends.NodeEnd.TheVariants.{Limit}
use Rattle.node_loop.specs.Runs.{running}
use Rattle.run_laws.proofs.Holding.{run_forced, run_meets}
use Rattle.run_laws.proofs.Rules.{free_end}
use Rattle.run_laws.proofs.laws.ends_have_their_refusals.Goals as goal

pub returns-clause-forced : goal.returns-clause-forced
returns-clause-forced c = λ defs turns node trace why new runs.
    (run_forced defs turns (running node) trace (Some why) new runs).forced why refl

pub returns-clause-unforced : goal.returns-clause-unforced
returns-clause-unforced c = λ defs turns node trace why new runs free.
    (run_forced defs turns (running node) trace (Some why) new runs).quiet (free_end (Some why) why refl free)

pub returns-clause-limits : goal.returns-clause-limits
returns-clause-limits c = λ defs turns node trace name new runs.
    run_meets defs turns (running node) trace (Some (Limit name)) new runs name refl
