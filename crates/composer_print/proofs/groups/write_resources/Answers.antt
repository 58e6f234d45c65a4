use Rattle.std.proofs.Common.{List, codes, flat_map, map, refl, sym, ◌∙◌}
use Rattle.composer_parser.specs.declared.definitions.ResourceDef.{ResourceDef}
use Rattle.composer_parser.specs.declared.definitions.Lined.{Lined}
use Rattle.composer_print.specs.Groups.{resource_line}
use Rattle.composer_print.specs.Normal.{bare}
use Rattle.composer_print.proofs.Lists.{group_all, part_more}
use Rattle.composer_print.proofs.groups.write_resources.Goals as goal

pub loop-resource-preserved : goal.loop-resource-preserved
loop-resource-preserved c =
    part_more (λ (ys : List (Lined ResourceDef)). flat_map (λ x. resource_line x.item) (map bare ys))
    (λ (y : Lined ResourceDef). resource_line y.item) (λ y ys. refl) _ _ _ c.args.resources.now c.loop-resource.resource-index c.resource-item.result
    c.loop-resource-test.true c.resource-item.is c.in_ok-write_resource.ensures c.loop-resource.invariant

pub returns : goal.returns
returns c =
    group_all (λ (ys : List (Lined ResourceDef)). flat_map (λ x. resource_line x.item) (map bare ys)) refl bare
    (codes "$RESOURCE\n") _ _ _ c.args.resources.now c.loop-resource.resource-index (sym c.is_empty.ensures ∙ c.if-is_empty.false)
    c.in_ok-write.ensures.bytes c.loop-resource-test.false c.loop-resource.invariant
