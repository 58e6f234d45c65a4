-- The steps of a record whose workstations are defined elsewhere stay inside their network.
use Rattle.std.proofs.Common.{◌≡◌, ◌<◌, ℕ, true, false, List, [], ◌∷◌, Option, Some, None, length, refl, ap, sym, subst, arith, bytes_eq, unwrap_or}
use Rattle.std.specs.Prelude.{map}
use Rattle.std.specs.List.{list_any, list_all, position}
use Rattle.model.specs.Network.{node_count}
use Rattle.model.specs.Types.{Net}
use Rattle.record_rows.specs.declared.rows.Row.{Row}
use Rattle.record_faults.specs.Known.{Named, is_station, named_by, unlinked}
use Rattle.record_faults.specs.Faults.{first_fault, lacks_station}
use Rattle.record_script.specs.Numbers.{numbered_by, place_of}
use Rattle.record_script.specs.Steps.{steps_by}
use Rattle.record_script.specs.Inside.{is_inside}
use Rattle.record_script.proofs.Lengths.{place_within}
use Rattle.record_script.proofs.Stepping.{steps_at}
use Rattle.record_script.proofs.Walked.{each_passes}
use Rattle.record_script.proofs.Whole.{any_none}

-- a place among names is one of theirs
place_low : (names : List (List ℕ)) (w : List ℕ) → 0 < length names → place_of names w < length names
place_low names w some = go (position (bytes_eq w) names) refl
  where
    go : (o : Option ℕ) → position (bytes_eq w) names ≡ o → place_of names w < length names
    go None is =
        let place : place_of names w ≡ 0 = ap (λ o. unwrap_or o 0) is in
        omega (arith, place, some)
    go (Some i) is =
        let place : place_of names w ≡ i = ap (λ o. unwrap_or o 0) is in
        let low = place_within (bytes_eq w) names i is in
        omega (arith, place, low)

known_place : (names : List (List ℕ)) (w : List ℕ) → is_station (map unlinked names) w ≡ true → place_of names w < length names
known_place [] w e = absurd (cc)
known_place (n ∷ names) w e = place_low (n ∷ names) w (omega arith)

none_lacking : (n : Named) (rows : List Row) → first_fault n rows ≡ None → list_any (lacks_station n.stations) rows ≡ false
none_lacking n rows e =
    any_none (lacks_station n.stations) rows (λ front back r is. (each_passes n rows front back r e is).station)

pub steps_inside : (names : List (List ℕ)) (net : Net) (rows : List Row) → node_count net ≡ length names
    → first_fault (named_by names) rows ≡ None → list_all (is_inside net) (steps_by names rows) ≡ true
steps_inside names net rows many e =
    steps_at (map unlinked names) (numbered_by names) (node_count net)
    (λ w known. subst (λ c. place_of names w < c) (sym many) (known_place names w known)) 1 rows
    (none_lacking (named_by names) rows e)
