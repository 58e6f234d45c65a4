use Rattle.std.proofs.Common.{◌≡◌, ◌++◌, drop, flat_map, map}
use Rattle.std.specs.String.{string_bytes}
use Rattle.history_script.specs.Fronts.{record_line}
use Rattle.history_script.proofs.fronts.record_lines.Given as goal

abbrev pub invariant-loop-line : goal.invariant-loop-line
invariant-loop-line l =
    flat_map record_line (map (λ x. x.now) l.texts)
    ≡ string_bytes l.made ++ flat_map record_line (map (λ x. x.now) (drop l.line-index l.texts))
