use Rattle.std.proofs.Common.{◌≡◌, ◌++◌, codes, drop, map, false}
use Rattle.composer_print.specs.Texts.{texts_from}
use Rattle.composer_print.specs.Streams.{item_text}
use Rattle.composer_print.proofs.ons.write_items.Given as goal

abbrev pub invariant-loop-item : goal.invariant-loop-item
invariant-loop-item l =
    l.initial.out.items ++ texts_from (codes ", ") (codes " ") false (map item_text l.all)
    ≡ l.out.items ++ texts_from (codes ", ") (codes " ") l.begun (map item_text (drop l.item-index l.all))
