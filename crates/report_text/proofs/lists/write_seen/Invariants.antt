use Rattle.std.proofs.Common.{◌≡◌, ◌++◌, drop, map}
use Rattle.report_text.specs.Lists.{after_commas, count_text}
use Rattle.report_text.proofs.lists.write_seen.Given as goal

abbrev pub invariant-loop-count : goal.invariant-loop-count
invariant-loop-count l =
    l.initial.out.items ++ after_commas (map (count_text l.net) l.rest)
    ≡ l.out.items ++ after_commas (map (count_text l.net) (drop l.count-index l.rest))
