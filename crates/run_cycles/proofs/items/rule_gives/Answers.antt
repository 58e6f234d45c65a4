use Rattle.std.proofs.Common.{◌≡◌, ◌+◌, ◌-◌, ◌||◌, ◌∙◌, true, false, ap, sym}
use Rattle.std.specs.List.{list_any, range_with_len}
use Rattle.lemmas.proofs.Numbers.{range_first, range_none}
use Rattle.run_rules.specs.Days.{rule_has}
use Rattle.run_cycles.proofs.items.rule_gives.Goals as goal

pub returns-then-rule_has : goal.returns-then-rule_has
returns-then-rule_has c =
    let test = rule_has c.args.rule.now c.args.first in
    let day = c.loop-day.day in
    let end = c.args.end in
    let hit : test day ≡ true = sym c.rule_has.ensures ∙ c.if-rule_has.true in
    sym
    (c.loop-day.invariant
    ∙ (ap (list_any test) (range_first day end c.loop-day-test.true)
    ∙ ap (λ b. b || list_any test (range_with_len (day + 1) (end - (day + 1)))) hit))

pub loop-day-preserved : goal.loop-day-preserved
loop-day-preserved c =
    let test = rule_has c.args.rule.now c.args.first in
    let day = c.loop-day.day in
    let end = c.args.end in
    let miss : test day ≡ false = sym c.rule_has.ensures ∙ c.if-rule_has.false in
    c.loop-day.invariant
    ∙ (ap (list_any test) (range_first day end c.loop-day-test.true)
    ∙ ap (λ b. b || list_any test (range_with_len (day + 1) (end - (day + 1)))) miss)

pub returns : goal.returns
returns c =
    sym
    (c.loop-day.invariant
    ∙ ap (list_any (rule_has c.args.rule.now c.args.first)) (range_none c.loop-day.day c.args.end c.loop-day-test.false))
