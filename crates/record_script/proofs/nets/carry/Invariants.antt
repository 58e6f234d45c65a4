use Rattle.std.proofs.Common.{◌≡◌, drop}
use Rattle.model.specs.Types.{Carry}
use Rattle.record_script.specs.Networks as spec
use Rattle.record_script.proofs.nets.carry.Given as goal

abbrev pub invariant-loop-row : goal.invariant-loop-row
invariant-loop-row l = spec.first_or Carry.Yes spec.carry_in l.rows ≡ spec.first_or Carry.Yes spec.carry_in (drop l.row-index l.rows)
