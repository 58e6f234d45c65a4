use Rattle.std.proofs.Common.{◌≡◌, ◌++◌, drop, map}
use Rattle.std.specs.Option.{option_copied}
use Rattle.std.specs.String.{string_bytes}
use Rattle.node_replies.specs.Shown.{picked}
use Rattle.node_replies.proofs.picks.pick.Given as goal

abbrev pub invariant-loop-line : goal.invariant-loop-line
invariant-loop-line l =
    picked l.kind (option_copied l.pattern) (map (λ x. x.now) l.texts)
    ≡ string_bytes l.out ++ picked l.kind (option_copied l.pattern) (map (λ x. x.now) (drop l.line-index l.texts))
