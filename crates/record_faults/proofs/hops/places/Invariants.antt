use Rattle.std.proofs.Common.{◌≡◌, ℕ, List, drop, length, slice_get, unwrap_or}
use Rattle.record_faults.specs.Hops.{place_in}
use Rattle.record_faults.specs.Known.{station_at}
use Rattle.record_faults.proofs.hops.places.Given as goal

abbrev pub invariant-loop-i : goal.invariant-loop-i
invariant-loop-i l =
    (name : List ℕ) → station_at (drop l.i l.all) name
    ≡ slice_get l.all (unwrap_or (place_in l.places.entries name) (length l.all))
