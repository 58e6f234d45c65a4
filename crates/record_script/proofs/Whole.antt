-- What is known of each record that is read: its network is accepted, and its steps stay inside it.
use Rattle.std.proofs.Common.{◌≡◌, ◌⊎◌, ◌<◌, ◌≤◌, ◌+◌, ℕ, suc, Bool, true, false, ◌||◌, not, List, [], ◌∷◌, ◌++◌, Some, None, inl, inr}
use Rattle.std.proofs.Common.{length, refl, ap, sym, ◌∙◌, arith, cond, option_map}
use Rattle.std.specs.Prelude.{filter_map, nat_lt}
use Rattle.std.specs.List.{list_any, list_all, position_or_len}
use Rattle.std.proofs.lemmas.Bool.Decides.{nat_tests}
use Rattle.lemmas.proofs.Booleans.{not_fails}
use Rattle.model.specs.Network.{node_count}
use Rattle.network_tree.specs.Faults.{net_fault}
use Rattle.record_rows.specs.declared.rows.Row.{Row}
use Rattle.record_rows.specs.Rows.{rows_of}
use Rattle.record_faults.specs.declared.places.Place.TheVariants as place
use Rattle.record_faults.specs.Places.{placed_from}
use Rattle.record_faults.specs.Known.{station_name, stations, named_in, is_steps}
use Rattle.record_faults.specs.Faults.{first_fault, lacks_station}
use Rattle.record_script.specs.Numbers.{numbered}
use Rattle.record_script.specs.Networks.{net_with, net_of}
use Rattle.record_script.specs.Scripts.{is_definitions, definitions_line, fault_of, placed}
use Rattle.record_script.specs.Steps.{steps_of}
use Rattle.record_script.specs.Inside.{is_inside}
use Rattle.record_script.proofs.Picked.{last_split}
use Rattle.record_script.proofs.Walked.{each_passes, some_rows}
use Rattle.record_script.proofs.Shapes.{no_steps}
use Rattle.record_script.proofs.Distinct.{few_stations, numbers}
use Rattle.record_script.proofs.Readings.{no_fault}
use Rattle.record_script.proofs.Trees.{Faultless, is_tree, count_is, stations_are}
use Rattle.record_script.proofs.Accepted.{accepted_by}
use Rattle.record_script.proofs.Defined.{new_nodes, new_resources, new_prompts, none_bad}
use Rattle.record_script.proofs.Totals.{totals}
use Rattle.record_script.proofs.Stepping.{steps_low}

-- No element passes.

pub any_none : {A : Type 0} (p : A → Bool) (xs : List A)
    → ((front back : List A) (a : A) → xs ≡ front ++ a ∷ back → p a ≡ false) → list_any p xs ≡ false
any_none p [] each = refl
any_none p (x ∷ xs) each =
    ap (λ b. b || list_any p xs) (each [] xs x refl)
    ∙ any_none p xs (λ front back a e. each (x ∷ front) back a (ap (λ l. x ∷ l) e))

absent : {A : Type 0} (p : A → Bool) (xs : List A) → length xs ≤ position_or_len p xs → list_any p xs ≡ false
absent p [] h = refl
absent p (x ∷ xs) h = go (p x) h (absent p xs)
  where
    go : (b : Bool) → length (x ∷ xs) ≤ cond (not b) (1 + position_or_len p xs) 0
        → (length xs ≤ position_or_len p xs → list_any p xs ≡ false) → (b || list_any p xs) ≡ false
    go true e more = absurd (omega (arith, e))
    go false e more = more (omega (arith, e))

pub no_definitions : (rows : List Row) → definitions_line rows ≡ None → list_any is_definitions rows ≡ false
no_definitions rows e = go (nat_lt (position_or_len is_definitions rows) (length rows)) refl
  where
    go : (b : Bool) → nat_lt (position_or_len is_definitions rows) (length rows) ≡ b → list_any is_definitions rows ≡ false
    go true is =
        absurd (let some : definitions_line rows ≡ Some (position_or_len is_definitions rows + 1) =
        ap (λ b. option_map (λ i. i + 1) (cond b (Some (position_or_len is_definitions rows)) None)) is in cc)
    go false is =
        let past : length rows ≤ position_or_len is_definitions rows = grind (arith, nat_tests) in
        absent is_definitions rows past

-- a record without faults has steps
has_steps : (rows : List Row) → first_fault (named_in rows) rows ≡ None → list_any is_steps rows ≡ true
has_steps rows e = go (last_split rows)
  where
    go : (rows ≡ []) ⊎ ((before : List Row) × (a : Row) × (rows ≡ before ++ a ∷ [])) → list_any is_steps rows ≡ true
    go (inl none) = absurd (some_rows (named_in rows) rows e none)
    go (inr s) =
        let p = each_passes (named_in rows) rows s.0 [] s.1 e s.2 in
        let steps : list_any is_steps (s.0 ++ s.1 ∷ []) ≡ true = not_fails (list_any is_steps (s.0 ++ s.1 ∷ [])) p.whole in
        ap (list_any is_steps) s.2 ∙ steps

-- and so a workstation
has_master : (raw : List Row) → definitions_line (placed_from place.Nothing raw) ≡ None
    → first_fault (named_in (placed_from place.Nothing raw)) (placed_from place.Nothing raw) ≡ None
    → 0 < length (filter_map station_name (placed_from place.Nothing raw))
has_master raw d e = go (filter_map station_name (placed_from place.Nothing raw)) refl
  where
    go : (l : List (List ℕ)) → filter_map station_name (placed_from place.Nothing raw) ≡ l
        → 0 < length (filter_map station_name (placed_from place.Nothing raw))
    go [] is =
        absurd (let none = no_steps raw is (no_definitions (placed_from place.Nothing raw) d) in
        let some = has_steps (placed_from place.Nothing raw) e in cc)
    go (x ∷ l) is = let long : length (filter_map station_name (placed_from place.Nothing raw)) ≡ suc (length l) = ap length is in omega (arith, long)

none_lack : (rows : List Row) → first_fault (named_in rows) rows ≡ None → list_any (lacks_station (stations rows)) rows ≡ false
none_lack rows e =
    any_none (lacks_station (stations rows)) rows
    (λ front back r is. (each_passes (named_in rows) rows front back r e is).station)

pub accepted_of : (text : List ℕ) → fault_of (placed text) ≡ None → net_fault (net_of (placed text)) ≡ None
unfolding net_with
accepted_of text e =
    let raw = rows_of text in
    let rows = placed text in
    let f = no_fault rows e in
    let faultless : Faultless raw = record { none = f.1 } in
    let new = numbers raw f.1 in
    let count = count_is raw faultless in
    let some : 0 < node_count (net_of rows) = let h = has_master raw f.0 f.1 in omega (arith, h, count) in
    let few : node_count (net_of rows) ≤ 256 = let h = few_stations raw f.1 in omega (arith, h, count) in
    accepted_by (net_of rows) (is_tree raw faultless some) some few
    (new_nodes (numbered rows) rows new.stations)
    (new_resources rows (none_lack rows f.1) new.resources)
    (new_prompts rows new.prompts)
    (none_bad rows (node_count (net_of rows)) rows (sym (stations_are raw faultless)) (none_lack rows f.1) (totals text))

pub inside_of : (text : List ℕ) → fault_of (placed text) ≡ None
    → list_all (is_inside (net_of (placed text))) (steps_of (placed text)) ≡ true
inside_of text e =
    let raw = rows_of text in
    let rows = placed text in
    let f = no_fault rows e in
    let faultless : Faultless raw = record { none = f.1 } in
    steps_low rows (node_count (net_of rows)) (sym (stations_are raw faultless)) 1 rows (none_lack rows f.1)
