use Rattle.std.proofs.Common.{◌≡◌, drop}
use Rattle.std.specs.Option.{option_copied}
use Rattle.definition_names.specs.Stations.{master_among, top_domains}
use Rattle.definition_names.proofs.Masters.{with_found}
use Rattle.definition_names.proofs.name_tables.master_of.Given as goal

abbrev pub invariant-loop-domain : goal.invariant-loop-domain
invariant-loop-domain l =
    master_among l.domains ≡ with_found (option_copied l.found) (top_domains (drop l.domain-index l.domains))
