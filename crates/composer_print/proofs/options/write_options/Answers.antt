use Rattle.std.proofs.Common.{arith}
use Rattle.std.proofs.lemmas.Grind.{common_steps}
use Rattle.composer_print.specs.Texts.{unless, item_of}
use Rattle.composer_print.specs.Stations.{unless_utc, unless_yes}
use Rattle.composer_print.proofs.Lists.{options_parts}
use Rattle.composer_print.proofs.Joins.{item_unlined}
use Rattle.composer_print.proofs.options.write_options.Goals as goal

pub returns : goal.returns
returns c =
    let start = unless 360 (item_of c.args.defs.now.start) in
    let zone = unless_utc (item_of c.args.defs.now.zone) in
    let carry = unless_yes (item_of c.args.defs.now.carry) in
    let parts = options_parts start zone carry _ _ _ c.in_ok-begun.ensures.begun c.in_ok-more.ensures.begun
    c.in_ok-all.ensures.begun in
    rw (item_unlined start, item_unlined zone, item_unlined carry, parts) (grind (arith, common_steps))
