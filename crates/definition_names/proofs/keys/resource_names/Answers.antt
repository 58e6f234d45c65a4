use Rattle.composer_parser.specs.declared.Lined.{Lined}
use Rattle.composer_parser.specs.declared.ResourceDef.{ResourceDef}
use Rattle.definition_names.specs.Keys.{seen_pair}
use Rattle.definition_names.proofs.Steps.{keys_more}
use Rattle.definition_names.proofs.keys.resource_names.Goals as goal

pub loop-resource-preserved : goal.loop-resource-preserved
loop-resource-preserved c =
    keys_more seen_pair (λ (x : Lined ResourceDef). (x.item.ws, x.item.name)) c.args.resources.now c.loop-resource.resource-index c.resource-item.result
    c.loop-resource.names.items _ _ c.loop-resource-test.true c.resource-item.is c.in_ok-push.ensures.items c.loop-resource.invariant
    (let e = c.resource-item.is in cc)
