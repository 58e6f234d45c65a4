use Rattle.std.proofs.Common.{◌≡◌, ◌++◌, drop, flat_map, map}
use Rattle.composer_print.specs.Stations.{domain_line}
use Rattle.composer_print.specs.Normal.{bare}
use Rattle.composer_print.proofs.stations.write_domains.Given as goal

abbrev pub invariant-loop-domain : goal.invariant-loop-domain
invariant-loop-domain l =
    l.initial.out.items ++ flat_map (λ x. domain_line x.item) (map bare l.domains)
    ≡ l.out.items ++ flat_map (λ x. domain_line x.item) (map bare (drop l.domain-index l.domains))
