use Rattle.std.proofs.Common.{◌≡◌, map, take}
use Rattle.composer_parser.specs.declared.Lined.{Lined}
use Rattle.composer_parser.specs.declared.JobDef.{JobDef}
use Rattle.definition_names.specs.Keys.{seen_pair}
use Rattle.definition_names.proofs.keys.job_names.Given as goal

abbrev pub invariant-loop-job : goal.invariant-loop-job
invariant-loop-job l =
    map seen_pair l.names.items ≡ map (λ (x : Lined JobDef). (x.item.ws, x.item.name)) (take l.job-index l.jobs)
