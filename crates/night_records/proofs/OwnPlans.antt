-- The plans of a record that is read are plans for its network, and so are those of its days.
use Rattle.std.proofs.Common.{◌≡◌, ◌<◌, ◌≤◌, ◌^◌, ℕ, List, Option, None, Some, Ok, Err, Result, arith, false, length, refl, subst, true}
use Rattle.std.proofs.lemmas.Bool.{lt-ltb}
use Rattle.std.specs.List.{AllByRecursion}
use Rattle.std.specs.Option.{option_map_or}
use Rattle.std.specs.Prelude.{IfOk}
use Rattle.composer_parser.specs.declared.Defs.{Defs}
use Rattle.definition_texts.specs.Refusals.{AreChecked}
use Rattle.model.specs.Network.{node_count}
use Rattle.model_laws.proofs.Inside.{IsIn}
use Rattle.network_tree.proofs.Trees.{few}
use Rattle.record_faults.specs.Faults.{first_fault, lacks_station}
use Rattle.record_faults.specs.Known.{is_station, named_in, stations}
use Rattle.record_faults.specs.declared.places.Place.TheVariants as place
use Rattle.record_rows.specs.Rows.{rows_of}
use Rattle.record_rows.specs.declared.rows.Row.{Row}
use Rattle.record_script.proofs.Defined.{named_there}
use Rattle.record_script.proofs.Lengths.{few_rows, placed_length}
use Rattle.record_script.proofs.Readings.{no_fault}
use Rattle.record_script.proofs.Trees.{Faultless, stations_are}
use Rattle.record_script.proofs.Walked.{each_passes}
use Rattle.record_script.proofs.Whole.{any_none}
use Rattle.record_script.specs.Networks.{net_of}
use Rattle.record_script.specs.Numbers.{numbered, ws_no}
use Rattle.record_script.specs.Plans.{plans_of as sections_of}
use Rattle.record_script.specs.Scripts.{fault_of, placed, read_of, script_of}
use Rattle.record_script.specs.declared.Script.{Script}
use Rattle.record_runs.specs.Causes.{told}
use Rattle.record_runs.specs.Never.{ArePlansFor, IsPlanFor}
use Rattle.workload_defs.proofs.Fits.{accepted}
use Rattle.workload_defs.specs.Nets as defined_nets
use Rattle.night_records.specs.Composers.{composer_text}
use Rattle.night_records.specs.Readings.{At, IsRead, defined, defined_record, faulty, plain, refused, without_definitions}
use Rattle.night_records.specs.declared.records.Record.{Record}
use Rattle.night_records.proofs.Drafted.{day_for}
use Rattle.night_records.proofs.Plans.{plans_of}
use Rattle.night_records.proofs.Sections.{none_lack, sections_for}

-- rows without a fault name workstations that are there
all_named : (rows : List Row) → first_fault (named_in rows) rows ≡ None
    → AllByRecursion (λ r. lacks_station (stations rows) r ≡ false) rows
all_named rows e =
    none_lack (stations rows) rows
    (any_none (lacks_station (stations rows)) rows
    (λ front back r is. (each_passes (named_in rows) rows front back r e is).station))

plain_sections : (text : List ℕ) → length text ≤ 2 ^ 31 → fault_of (placed text) ≡ None
    → AllByRecursion (IsPlanFor (net_of (placed text))) (sections_of (placed text))
plain_sections text short e =
    let rows : List Row = placed text in
    let f = no_fault rows e in
    let faultless : Faultless (rows_of text) = record { none = f.1 } in
    let count : length (stations rows) ≡ node_count (net_of rows) = stations_are (rows_of text) faultless in
    let there : (w : List ℕ) → is_station (stations rows) w ≡ true → IsIn (net_of rows) (ws_no (numbered rows) w) =
    λ w known. lt-ltb (ws_no (numbered rows) w) (node_count (net_of rows))
    (subst (λ (n : ℕ). ws_no (numbered rows) w < n) count (named_there rows w known).1) in
    let long : length rows ≡ length (rows_of text) = placed_length place.Nothing (rows_of text) in
    sections_for (stations rows) (numbered rows) (net_of rows) there rows (all_named rows f.1)
    (omega (arith, long, few_rows text, short))

-- a record without definitions
read_parts : (text : List ℕ) (s : Script) → read_of text ≡ Ok s
    → (fault_of (placed text) ≡ None) × (script_of (placed text) ≡ s)
unfolding read_of
read_parts text s = go (fault_of (placed text))
  where
    go : (o : Option At) → option_map_or Err o (Ok (script_of (placed text))) ≡ Ok s
        → (o ≡ None) × (script_of (placed text) ≡ s)
    go None e = (refl, cc)
    go (Some fault) e = absurd (cc)

abbrev IsOwn : Record → Type 0
IsOwn r = ArePlansFor r.script (plans_of r.workload)

plain_own : (text : List ℕ) (r : Result Script At) → length text ≤ 2 ^ 31 → read_of text ≡ r
    → IfOk (without_definitions r) IsOwn
unfolding told
plain_own text (Ok s) short is =
    let parts = read_parts text s is in
    record {
      sections =
          subst (λ (t : Script). AllByRecursion (IsPlanFor t.net) t.plans) parts.1 (plain_sections text short parts.0);
      days = λ n. refl;
    }
plain_own text (Err at_) short is = tt

-- one with definitions
defined_own : (text : List ℕ) (place : ℕ) (d : Defs) → AreChecked (composer_text text place) d
    → IsOwn (defined_record d text)
defined_own text place d checked =
    record { sections = tt; days = day_for d (few (defined_nets.net_of d) (accepted d checked.faultless)).0 }

read_own : (text : List ℕ) (a : Result Record At) → length text ≤ 2 ^ 31 → IsRead text a → IfOk a IsOwn
read_own text _ short (plain none) = plain_own text (read_of text) short refl
read_own text _ short (refused place r is why) = tt
read_own text _ short (faulty place d at_ is checked fault) = tt
read_own text _ short (defined place d is checked none) = defined_own text place d checked

pub own_plans : (text : List ℕ) (r : Record) → length text ≤ 2 ^ 31 → IsRead text (Ok r)
    → ArePlansFor r.script (plans_of r.workload)
own_plans text r short is = read_own text (Ok r) short is
