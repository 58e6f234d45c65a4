use Rattle.std.proofs.Common.{◌≡◌, ◌++◌, drop, flat_map, map}
use Rattle.std.specs.List.{enumerate_from}
use Rattle.report_text.specs.Summaries.{counted_line}
use Rattle.report_text.proofs.summaries.write_states.Given as goal

abbrev pub invariant-loop-state : goal.invariant-loop-state
invariant-loop-state l =
    (l.place ≡ l.state-index)
    × (l.initial.out.items ++ flat_map (counted_line l.what l.counts) (enumerate_from 0 (map (λ s. s.now) l.states))
    ≡ l.out.items
    ++ flat_map (counted_line l.what l.counts) (enumerate_from l.place (map (λ s. s.now) (drop l.state-index l.states))))
