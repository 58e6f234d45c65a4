use Rattle.std.proofs.Common.{◌≡◌, drop, is_none}
use Rattle.std.specs.List.{list_any}
use Rattle.composer_parser.specs.declared.DomainDef.{DomainDef}
use Rattle.composer_parser.specs.declared.Lined.{Lined}
use Rattle.definition_faults.proofs.items.has_top.Given as goal

abbrev pub invariant-loop-domain : goal.invariant-loop-domain
invariant-loop-domain l =
    list_any (λ (x : Lined DomainDef). is_none x.item.parent) l.domains
    ≡ list_any (λ (x : Lined DomainDef). is_none x.item.parent) (drop l.domain-index l.domains)
