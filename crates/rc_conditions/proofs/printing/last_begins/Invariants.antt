use Rattle.std.proofs.Common.{◌≡◌, ◌≤◌, ◌+◌, List, ◌++◌, length}
use Rattle.base_types.specs.declared.CondOp.{CondOp}
use Rattle.rc_conditions.specs.Expressions.{Expression, postfix}
use Rattle.rc_conditions.proofs.Fronts.{Lacks}
use Rattle.rc_conditions.proofs.printing.last_begins.Given as goal

abbrev pub invariant-loop-missing : goal.invariant-loop-missing
invariant-loop-missing l = record {
  last : (front : List CondOp) (e : Expression) → l.ops ≡ front ++ postfix e → Lacks front l.missing l.rest;
  within : length l.rest ≤ length l.ops;
  few : l.missing + length l.rest ≤ length l.ops + 1;
}

abbrev pub decreases-loop-missing : goal.decreases-loop-missing
decreases-loop-missing l = length l.rest
