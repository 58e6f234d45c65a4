use Rattle.std.proofs.Common.{◌≡◌, ◌++◌, drop, map}
use Rattle.std.specs.Fmt.{decimal}
use Rattle.base_types.specs.declared.StreamDoc.{StreamDoc}
use Rattle.report_text.specs.Lists.{after_commas}
use Rattle.report_text.proofs.lists.write_numbers_of.Given as goal

abbrev pub invariant-loop-stream : goal.invariant-loop-stream
invariant-loop-stream l =
    l.initial.out.items ++ after_commas (map decimal (map (λ (s : StreamDoc). s.no) l.rest))
    ≡ l.out.items ++ after_commas (map decimal (map (λ (s : StreamDoc). s.no) (drop l.stream-index l.rest)))
