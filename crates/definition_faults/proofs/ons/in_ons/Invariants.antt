use Rattle.std.proofs.Common.{◌≡◌, drop, flat_map}
use Rattle.composer_parser.specs.declared.OnDef.{OnDef}
use Rattle.composer_parser.specs.declared.Lined.{Lined}
use Rattle.definition_faults.specs.Orders.{earliest, earlier_of, faults_at}
use Rattle.definition_faults.specs.Ons.{on_rows}
use Rattle.definition_faults.proofs.ons.in_ons.Given as goal

abbrev pub invariant-loop-on : goal.invariant-loop-on
invariant-loop-on l =
    earliest (flat_map (λ (o : Lined OnDef). faults_at o.line (on_rows l.names o.item)) l.ons)
    ≡ earlier_of l.first
    (earliest (flat_map (λ (o : Lined OnDef). faults_at o.line (on_rows l.names o.item)) (drop l.on-index l.ons)))
