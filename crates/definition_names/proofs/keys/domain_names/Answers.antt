use Rattle.composer_parser.specs.declared.Lined.{Lined}
use Rattle.composer_parser.specs.declared.DomainDef.{DomainDef}
use Rattle.definition_names.specs.Keys.{seen}
use Rattle.definition_names.proofs.Steps.{keys_more}
use Rattle.definition_names.proofs.keys.domain_names.Goals as goal

pub loop-domain-preserved : goal.loop-domain-preserved
loop-domain-preserved c =
    keys_more seen (λ (x : Lined DomainDef). x.item.name) c.args.domains.now c.loop-domain.domain-index c.domain-item.result
    c.loop-domain.names.items _ _ c.loop-domain-test.true c.domain-item.is c.in_ok-push.ensures.items c.loop-domain.invariant
    (let e = c.domain-item.is in cc)
