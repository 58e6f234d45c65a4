use Rattle.std.proofs.Common.{◌≡◌, drop}
use Rattle.std.specs.List.{list_any}
use Rattle.std.specs.Str.{bytes_eq}
use Rattle.composer_parser.specs.declared.DomainDef.{DomainDef}
use Rattle.composer_parser.specs.declared.Lined.{Lined}
use Rattle.workload_defs.proofs.nets.manages.Given as goal

abbrev pub invariant-loop-domain : goal.invariant-loop-domain
invariant-loop-domain l =
    list_any (λ (x : Lined DomainDef). bytes_eq x.item.manager l.cpu.name) l.domains
    ≡ list_any (λ (x : Lined DomainDef). bytes_eq x.item.manager l.cpu.name) (drop l.domain-index l.domains)
