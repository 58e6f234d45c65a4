use Rattle.std.proofs.Common.{◌≡◌, map, take}
use Rattle.composer_parser.specs.declared.Lined.{Lined}
use Rattle.composer_parser.specs.declared.ResourceDef.{ResourceDef}
use Rattle.definition_names.specs.Keys.{seen_pair}
use Rattle.definition_names.proofs.keys.resource_names.Given as goal

abbrev pub invariant-loop-resource : goal.invariant-loop-resource
invariant-loop-resource l =
    map seen_pair l.names.items ≡ map (λ (x : Lined ResourceDef). (x.item.ws, x.item.name)) (take l.resource-index l.resources)
