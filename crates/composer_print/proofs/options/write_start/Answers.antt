use Rattle.std.proofs.Common.{◌≡◌, arith, codes, eqb, false}
use Rattle.std.proofs.lemmas.Bool.Decides.{nat_tests}
use Rattle.composer_print.specs.Days.{time_text}
use Rattle.composer_print.specs.Stations.{start_texts}
use Rattle.composer_print.proofs.Lists.{option_line}
use Rattle.composer_print.proofs.options.write_start.Goals as goal

pub returns-in_ok-write_time-in-Some-clause-text :
    goal.returns-in_ok-write_time-in-Some-clause-text
unfolding start_texts
returns-in_ok-write_time-in-Some-clause-text c =
    let other : eqb c.in-Some.time.item 360 ≡ false = grind (arith, nat_tests, c.if-time-eq360.false) in
    rw (c.in-Some.is, other)
    (option_line c.args.out.now.items _ _ _ (codes "STARTOFDAY ") (time_text c.in-Some.time.item) false
    c.in_ok-write_lead-in-Some.ensures c.in_ok-write-in-Some.ensures.bytes c.in_ok-write_time-in-Some.ensures)
