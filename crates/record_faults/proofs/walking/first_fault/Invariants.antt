use Rattle.std.proofs.Common.{◌≡◌, ℕ, List, [], take, drop}
use Rattle.record_faults.specs.Known.{above_of, has_name, jobs_around}
use Rattle.record_faults.specs.Faults.{fault_from}
use Rattle.record_faults.specs.Noted.{IsSame}
use Rattle.record_faults.proofs.walking.first_fault.Given as goal

abbrev pub invariant-loop-i : goal.invariant-loop-i
invariant-loop-i l =
    record {
      above : IsSame l.above (above_of (take l.i l.rows));
      jobs : (n : List ℕ) → has_name l.jobs n ≡ has_name (jobs_around (take l.i l.rows) (drop l.i l.rows)) n;
      left : fault_from l.named [] l.rows ≡ fault_from l.named (take l.i l.rows) (drop l.i l.rows);
    }
