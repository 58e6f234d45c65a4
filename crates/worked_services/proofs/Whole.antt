-- The services meet each premise.
use Rattle.std.proofs.Common.{[], lit<, ◌<◌, ◌≡◌, None, false, refl, subst, sym, true}
use Rattle.std.specs.List.{list_all}
use Rattle.model.specs.Network.{node_count}
use Rattle.model.specs.Types.{Net}
use Rattle.outside_mem.specs.Moments.{CrashState}
use Rattle.network_runs.specs.Happenings.{Night}
use Rattle.service_nights.specs.Served.{AreServices, BringsWhatWasSent, IsInPlace}
use Rattle.service_nights.specs.Services.{Occurrence, Services, night_of}
use Rattle.worked_night.specs.Workload.{defs}
use Rattle.worked_night.proofs.Days.{net_is}
use Rattle.worked_night.proofs.Heard.{all_front, all_so, is_quiet, none_heard}
use Rattle.worked_night.proofs.Places.{AllMeet, meets_at}
use Rattle.worked_services.specs.Served.{services}
use Rattle.worked_services.proofs.Begun.{faults, first_fails, left_since, may_leave, moment, seen}
use Rattle.worked_services.proofs.Rested.{second_serves}

abbrev InPlace : Services CrashState → Occurrence CrashState → Services CrashState → Type 0
InPlace before one behind = IsInPlace seen faults moment may_leave left_since defs before one behind

all_in_place : AllMeet InPlace [] services
all_in_place = (
  (refl, record { file = []; reads = refl; its = refl; rest = λ left may. may }, first_fails),
  (
    (subst (λ (net : Net). 1 < node_count net) (sym net_is) (lit< tt), refl, refl, second_serves),
    ((_, refl), ((_, refl), ((_, refl), ((_, refl), tt)))),
  ),
)

pub are_services : AreServices seen faults moment may_leave left_since defs services
are_services = record { each = λ before behind one is. meets_at InPlace [] services before behind one all_in_place is }

-- no bytes came
pub bring : BringsWhatWasSent (night_of services)
bring before behind w x past f is some stands is_for =
    absurd (none_heard before w x past f
    (all_so w x false None before (all_front before behind (subst (λ (l : Night). list_all is_quiet l ≡ true) is refl)) tt) some stands)
