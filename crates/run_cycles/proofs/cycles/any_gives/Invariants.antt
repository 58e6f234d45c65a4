use Rattle.std.proofs.Common.{◌≡◌, ◌&&◌, drop}
use Rattle.std.specs.List.{list_any}
use Rattle.composer_parser.specs.declared.Lined.{Lined}
use Rattle.composer_parser.specs.declared.OnDef.{OnDef}
use Rattle.run_cycles.specs.Runs.{is_of}
use Rattle.run_cycles.specs.Shifts.{gives}
use Rattle.run_cycles.proofs.cycles.any_gives.Given as goal

abbrev pub invariant-loop-on : goal.invariant-loop-on
invariant-loop-on l =
    list_any (λ (o : Lined OnDef). is_of l.except o.item && gives l.w l.free l.day o.item) l.ons
    ≡ list_any (λ (o : Lined OnDef). is_of l.except o.item && gives l.w l.free l.day o.item) (drop l.on-index l.ons)
