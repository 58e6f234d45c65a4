-- The worked night meets each premise.
use Rattle.std.proofs.Common.{[], lit<, lit≤, ◌++◌, ◌<◌, ◌≡◌, ◌≤◌, ◌∷◌, IfSome, List, None, Option, Some, ap, option_map, refl, subst, sym, ℕ}
use Rattle.model.specs.Network.{node_count}
use Rattle.model.specs.Types.{Entry}
use Rattle.workload_defs.specs.Nets.{net_of}
use Rattle.node_inputs.specs.Traces.{Trace, kept_by}
use Rattle.network_runs.specs.Happenings.{Begins, Does, Happening, Night, Stops, kept_at, kept_in, left_at_stop, since, until_stop}
use Rattle.network_runs.specs.Nights.{IsLife, IsNight, IsWritten}
use Rattle.worked_night.specs.Happened.{night}
use Rattle.worked_night.specs.Workload.{defs, net}
use Rattle.worked_night.proofs.Days.{net_is}
use Rattle.worked_night.proofs.Heard.{links}
use Rattle.worked_night.proofs.Places.{AllMeet, meets_at}
use Rattle.worked_night.proofs.Runs.{agent_lives, master_lives, restarted_lives}
use Rattle.worked_night.proofs.Written.{launched_written, plan_written, released_written}

-- what is asked of each happening, by what is before it and behind it
abbrev Meets : Night → Happening → Night → Type 0
Meets before (Begins w entries) behind =
    (w < node_count net) × (since w before ≡ None) × (entries ≡ kept_at w before)
    × IsLife defs w entries (until_stop w behind) (left_at_stop w behind)
Meets before (Does w event) behind = ((past : Trace) × (since w before ≡ Some past)) × IfSome (kept_by event) IsWritten
Meets before (Stops w left) behind = ((past : Trace) × (since w before ≡ Some past)) × IfSome left IsWritten

all_meet : AllMeet Meets [] night
all_meet = (
  (lit< tt, refl, refl, master_lives),
  (
    (lit< tt, refl, refl, agent_lives),
    (
      ((_, refl), tt),
      (
        ((_, refl), tt),
        (
          ((_, refl), plan_written),
          (
            ((_, refl), tt),
            (
              ((_, refl), tt),
              (
                ((_, refl), released_written),
                (
                  ((_, refl), tt),
                  (
                    ((_, refl), tt),
                    (
                      ((_, refl), tt),
                      (
                        ((_, refl), tt),
                        (
                          ((_, refl), launched_written),
                          (
                            ((_, refl), tt),
                            (
                              ((_, refl), tt),
                              (
                                ((_, refl), tt),
                                (
                                  ((_, refl), plan_written),
                                  (
                                    ((_, refl), tt),
                                    (
                                      (lit< tt, refl, refl, restarted_lives),
                                      (
                                        ((_, refl), tt),
                                        (
                                          ((_, refl), tt),
                                          (
                                            ((_, refl), tt),
                                            tt,
                                          ),
                                        ),
                                      ),
                                    ),
                                  ),
                                ),
                              ),
                            ),
                          ),
                        ),
                      ),
                    ),
                  ),
                ),
              ),
            ),
          ),
        ),
      ),
    ),
  ),
)

its_entry : (v w : ℕ) (a b : Entry) → ◌≡◌ {A = Option (ℕ × Entry)} (Some (v, a)) (Some (w, b)) → a ≡ b
its_entry v w a b q = ap entry_in q
  where
    entry_in : Option (ℕ × Entry) → Entry
    entry_in None = a
    entry_in (Some p) = p.1

count_is : node_count (net_of defs) ≡ 2
count_is = ap node_count net_is

begins_meet : (front back : Night) (w : ℕ) (entries : List Entry) → night ≡ front ++ Begins w entries ∷ back
    → Meets front (Begins w entries) back
begins_meet front back w entries is = meets_at Meets [] night front back (Begins w entries) all_meet is

written : (front back : Night) (h : Happening) (v : ℕ) (e : Entry) → night ≡ front ++ h ∷ back → kept_in h ≡ Some (v, e)
    → IsWritten e
written front back (Begins w entries) v e is its = cc
written front back (Does w event) v e is its = go (kept_by event) its (meets_at Meets [] night front back (Does w event) all_meet is).1
  where
    go : (o : Option Entry) → option_map {U = ℕ × Entry} (λ (d : Entry). (w, d)) o ≡ Some (v, e) → IfSome o IsWritten → IsWritten e
    go None q h = cc
    go (Some d) q h = subst IsWritten (its_entry w v d e q) h
written front back (Stops w left) v e is its = go left its (meets_at Meets [] night front back (Stops w left) all_meet is).1
  where
    go : (o : Option Entry) → option_map {U = ℕ × Entry} (λ (d : Entry). (w, d)) o ≡ Some (v, e) → IfSome o IsWritten → IsWritten e
    go None q h = cc
    go (Some d) q h = subst IsWritten (its_entry w v d e q) h

pub is_night : IsNight defs night
is_night = record {
  few = λ front back w entries is. subst (λ (n : ℕ). n ≤ 65536) (sym count_is) (lit≤ tt);
  inside = λ front back w entries is. subst (λ (n : ℕ). w < n) (sym count_is) (begins_meet front back w entries is).0;
  stood = λ front back w entries is. (begins_meet front back w entries is).1;
  files = λ front back w entries is. (begins_meet front back w entries is).2;
  runs = λ front back w entries is. (begins_meet front back w entries is).3;
  acts = λ front back w event is. (meets_at Meets [] night front back (Does w event) all_meet is).0;
  stops = λ front back w left is. (meets_at Meets [] night front back (Stops w left) all_meet is).0;
  links = links;
  written = written;
}
