use Rattle.std.proofs.Common.{◌≡◌, ◌-◌, length, slice_get}
use Rattle.record_faults.specs.Known.{ends_at_master}
use Rattle.record_faults.proofs.Chains.{chain}
use Rattle.record_faults.proofs.hops.ends_at_master.Given as goal

abbrev pub invariant-loop-place : goal.invariant-loop-place
invariant-loop-place l =
    ends_at_master l.all l.name ≡ chain l.all (length l.all - l._place) (slice_get l.all l.at)
