use Rattle.std.proofs.Common.{◌≡◌, drop}
use Rattle.definition_names.specs.Stations.{top_domains}
use Rattle.definition_faults.specs.Masters.{top_faults}
use Rattle.definition_faults.proofs.Tops.{with_line}
use Rattle.definition_faults.proofs.masters.in_masters.Given as goal

abbrev pub invariant-loop-domain : goal.invariant-loop-domain
invariant-loop-domain l =
    top_faults l.defs.last_line (top_domains l.domains)
    ≡ with_line l.defs.last_line l.found (top_domains (drop l.domain-index l.domains))
