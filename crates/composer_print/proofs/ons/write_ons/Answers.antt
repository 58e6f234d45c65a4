use Rattle.std.proofs.Common.{List, flat_map, map, refl}
use Rattle.composer_parser.specs.declared.definitions.Lined.{Lined}
use Rattle.composer_parser.specs.declared.schedules.OnDef.{OnDef}
use Rattle.composer_print.specs.Normal.{bare}
use Rattle.composer_print.specs.Streams.{items, on_text}
use Rattle.composer_print.proofs.Lists.{part_more, parts_all}
use Rattle.composer_print.proofs.ons.write_ons.Goals as goal

pub loop-on-preserved : goal.loop-on-preserved
loop-on-preserved c =
    part_more (λ (ys : List (Lined OnDef)). flat_map on_text (items (map bare ys)))
    (λ (y : Lined OnDef). on_text y.item) (λ y ys. refl) _ _ _ c.args.ons.now c.loop-on.on-index c.on-item.result
    c.loop-on-test.true c.on-item.is c.in_ok-write_on.ensures c.loop-on.invariant

pub returns : goal.returns
returns c =
    parts_all (λ (ys : List (Lined OnDef)). flat_map on_text (items (map bare ys))) refl
    _ _ c.args.ons.now c.loop-on.on-index c.loop-on-test.false c.loop-on.invariant
