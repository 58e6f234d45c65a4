use Rattle.std.proofs.Common.{◌≡◌, ◌++◌, drop, map}
use Rattle.std.specs.Option.{option_copied}
use Rattle.plan_builder.specs.Dependencies.{need_of}
use Rattle.plan_builder.proofs.dependencies.put_units.Given as goal

abbrev pub invariant-loop-need : goal.invariant-loop-need
invariant-loop-need l =
    l.initial.deps ++ map (need_of l.names (option_copied l.ws)) l.needs
    ≡ l.deps ++ map (need_of l.names (option_copied l.ws)) (drop l.need-index l.needs)
