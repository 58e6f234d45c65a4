use Rattle.model.specs.Fit.{AreFitEntries}
use Rattle.night_probe.proofs.symphonies.held.Given as goal

abbrev pub invariant-loop-word : goal.invariant-loop-word
invariant-loop-word l = AreFitEntries l.owners
