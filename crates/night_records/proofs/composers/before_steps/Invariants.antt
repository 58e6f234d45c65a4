use Rattle.std.proofs.Common.{◌≡◌, ◌++◌, drop, map}
use Rattle.std.specs.String.{string_bytes}
use Rattle.night_records.specs.Composers.{text_before_steps}
use Rattle.night_records.proofs.composers.before_steps.Given as goal

abbrev pub invariant-loop-line : goal.invariant-loop-line
invariant-loop-line l =
    text_before_steps (map (λ x. x.now) l.texts)
    ≡ string_bytes l.composer ++ text_before_steps (map (λ x. x.now) (drop l.line-index l.texts))
