-- The first service: it is stopped while the file gets its header, and no node is made.
use Rattle.std.proofs.Common.{[], lit≤, ◌≤◌, List, Option, Some, ap, arith, inl, inr, length, refl, subst, sym, ℕ}
use Rattle.message_file.specs.Attaching.{LeftAttaching}
use Rattle.message_file.specs.State.{KeptLeft}
use Rattle.message_file.proofs.Beginning.{torn_few}
use Rattle.outside.specs.Calls.{LinkCalls, SpawnerCalls}
use Rattle.outside.specs.Files.{Torn}
use Rattle.outside.specs.Stops.{LeavesOnly}
use Rattle.outside_mem.specs.Moments.{CrashState, LeftBy, LeftSince, seen_of}
use Rattle.node_inputs.specs.Tellings.{Told}
use Rattle.node_restart.specs.Stopping.{KeptSince}
use Rattle.node_restart.specs.declared.faults.RestartFault.TheVariants.{Disk}
use Rattle.node_restart.proofs.Deciding.{own_filled}
use Rattle.node_service.specs.Serving.{IsUnmade}
use Rattle.node_service.specs.declared.services.ServiceEnd.TheVariants.{Unmade}
use Rattle.service_nights.specs.Served.{HasFailed}
use Rattle.worked_night.specs.Workload.{defs}
use Rattle.worked_services.specs.Served.{empty, found, header, torn}

-- what the disks show
abbrev pub seen : CrashState → Option (List ℕ)
seen c = Some (seen_of c.first c.made)

abbrev pub faults : CrashState → ℕ
faults c = c.calls.faults

abbrev pub moment : CrashState → ℕ
moment c = length c.made

abbrev pub may_leave : CrashState → List ℕ → Type 0
may_leave c = LeftBy c.first c.made

abbrev pub left_since : CrashState → ℕ → List ℕ → Type 0
left_since c = LeftSince c.first c.made

-- objects that tell of no call
abbrev pub no_links : LinkCalls
no_links = record { begun = Some []; arrived = Some []; sent = Some []; replied = Some []; asked = Some [] }

abbrev pub no_jobs : SpawnerCalls
no_jobs = record { started = Some []; killed = Some []; reported = Some [] }

abbrev pub untold : Told
untold = record { link = no_links; jobs = no_jobs; clock = Some []; files = Some [] }

-- at most nine bytes are left at any moment
few : (t : ℕ) (file : List ℕ) → left_since torn t file → length file ≤ 9
few t file (inl write) = torn_few write.0 file write.1 write.2
few t file (inr (le, inl sync)) = omega (arith, ap length sync)
few t file (inr (le, inr (low, first))) = omega (arith, ap length first)

leaves_few : LeavesOnly moment (KeptSince left_since) empty torn (KeptLeft (LeftAttaching 1 (seen empty) (may_leave empty)))
leaves_few = record {
  later = lit≤ tt;
  each = λ left since. (since.0, inl (refl, few (moment empty) since.0 since.1), since.2);
  before = λ t left le since. inr (since.0, inl (refl, few t since.0 since.1), since.2);
}

unmade : IsUnmade seen faults moment may_leave left_since defs 1 Disk empty torn
unmade = record {
  refused = λ place is. cc;
  untouched = λ place is. cc;
  keeps = λ other. absurd (other refl);
  cause = λ is. omega arith;
  later = lit≤ tt;
  any_moment = leaves_few;
  own = λ t le own all file left. absurd (own_filled 1 [] own refl);
}

-- the header was written whole
header_whole : Torn 0 9 [] header
header_whole = record { before = refl; after = refl; no_shorter = lit≤ tt }

pub first_fails : HasFailed seen faults moment may_leave left_since defs 1 empty found
first_fails = record {
  turns = 1;
  end = Unmade Disk;
  new = torn;
  told = untold;
  now = untold;
  serves = (unmade, refl);
  leaves = record {
    file = header;
    reads = refl;
    its = inl ([], refl, header_whole);
    rest = λ left may. subst (left_since torn (moment empty)) (sym may) (inl ([], refl, header_whole));
  };
}
