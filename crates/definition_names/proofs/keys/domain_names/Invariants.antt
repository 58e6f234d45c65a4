use Rattle.std.proofs.Common.{◌≡◌, map, take}
use Rattle.composer_parser.specs.declared.Lined.{Lined}
use Rattle.composer_parser.specs.declared.DomainDef.{DomainDef}
use Rattle.definition_names.specs.Keys.{seen}
use Rattle.definition_names.proofs.keys.domain_names.Given as goal

abbrev pub invariant-loop-domain : goal.invariant-loop-domain
invariant-loop-domain l =
    map seen l.names.items ≡ map (λ (x : Lined DomainDef). x.item.name) (take l.domain-index l.domains)
