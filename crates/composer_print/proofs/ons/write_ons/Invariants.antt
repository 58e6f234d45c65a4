use Rattle.std.proofs.Common.{◌≡◌, ◌++◌, drop, flat_map, map}
use Rattle.composer_print.specs.Normal.{bare}
use Rattle.composer_print.specs.Streams.{items, on_text}
use Rattle.composer_print.proofs.ons.write_ons.Given as goal

abbrev pub invariant-loop-on : goal.invariant-loop-on
invariant-loop-on l =
    l.initial.out.items ++ flat_map on_text (items (map bare l.ons))
    ≡ l.out.items ++ flat_map on_text (items (map bare (drop l.on-index l.ons)))
