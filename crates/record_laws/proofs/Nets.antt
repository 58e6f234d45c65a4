-- The network of a record that is read is accepted, and its lines name workstations of it.
use Rattle.std.proofs.Common.{◌≡◌, ℕ, List, Option, None, Some, Result, Ok, Err, IfOk, refl, subst, sym, true}
use Rattle.std.proofs.lemmas.List.{length-map}
use Rattle.std.specs.List.{list_all}
use Rattle.std.specs.Option.{option_map_or}
use Rattle.composer_parser.specs.declared.Defs.{Defs}
use Rattle.definition_texts.specs.Refusals.{AreChecked}
use Rattle.model.specs.Types.{Node}
use Rattle.network_tree.specs.Faults.{net_fault}
use Rattle.record_script.proofs.Elsewhere.{steps_inside}
use Rattle.record_script.proofs.Whole.{accepted_of, inside_of}
use Rattle.record_script.specs.Inside.{is_inside}
use Rattle.record_script.specs.Scripts.{fault_of, placed, read_of, script_of}
use Rattle.record_script.specs.declared.Script.{Script}
use Rattle.workload_defs.proofs.Fits.{accepted}
use Rattle.workload_defs.specs.Nets as defined_nets
use Rattle.night_records.specs.Composers.{composer_text}
use Rattle.night_records.specs.Readings.{At, IsRead, defined, defined_record, faulty, names_of, own_fault, plain, refused}
use Rattle.night_records.specs.Readings.{without_definitions}
use Rattle.night_records.specs.declared.records.Record.{Record}

abbrev pub IsSure : Script → Type 0
IsSure s = (net_fault s.net ≡ None) × (list_all (is_inside s.net) s.steps ≡ true)

by_fault : (text : List ℕ) (o : Option At) → fault_of (placed text) ≡ o → (s : Script)
    → option_map_or Err o (Ok (script_of (placed text))) ≡ Ok s → IsSure s
by_fault text None none s e =
    let same : script_of (placed text) ≡ s = cc in
    subst IsSure same (accepted_of text none, inside_of text none)
by_fault text (Some fault) none s e = absurd (cc)

plain_sure : (text : List ℕ) (r : Result Script At) → read_of text ≡ r
    → IfOk (without_definitions r) (λ (x : Record). IsSure x.script)
unfolding read_of
plain_sure text (Ok s) is = by_fault text (fault_of (placed text)) refl s is
plain_sure text (Err at_) is = tt

defined_sure : (text : List ℕ) (place : ℕ) (d : Defs) → AreChecked (composer_text text place) d
    → own_fault (names_of d) text ≡ None → IsSure (defined_record d text).script
defined_sure text place d checked none = (
  accepted d checked.faultless,
  steps_inside (names_of d) (defined_nets.net_of d) (placed text)
      (sym (length-map (defined_nets.net_of d).nodes (λ (n : Node). n.name))) none,
)

read_sure : (text : List ℕ) (a : Result Record At) → IsRead text a → IfOk a (λ (x : Record). IsSure x.script)
read_sure text _ (plain none) = plain_sure text (read_of text) refl
read_sure text _ (refused place r is why) = tt
read_sure text _ (faulty place d at_ is checked fault) = tt
read_sure text _ (defined place d is checked none) = defined_sure text place d checked none

pub is_sure : (text : List ℕ) (r : Record) → IsRead text (Ok r) → IsSure r.script
is_sure text r is = read_sure text (Ok r) is
