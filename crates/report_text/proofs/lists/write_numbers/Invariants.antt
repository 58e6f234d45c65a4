use Rattle.std.proofs.Common.{◌≡◌, ◌++◌, drop, map}
use Rattle.std.specs.Fmt.{decimal}
use Rattle.report_text.specs.Lists.{after_commas}
use Rattle.report_text.proofs.lists.write_numbers.Given as goal

abbrev pub invariant-loop-number : goal.invariant-loop-number
invariant-loop-number l =
    l.initial.out.items ++ after_commas (map decimal l.rest)
    ≡ l.out.items ++ after_commas (map decimal (drop l.number-index l.rest))
