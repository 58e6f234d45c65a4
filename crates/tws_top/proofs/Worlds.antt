-- With which answers a world is handed back.
use Rattle.std.proofs.Common.{◌≡◌, ◌≢◌, ℕ, true, false, List, Option, Some, None, sym, ap, ◌∙◌, refl, arith}
use Rattle.std.specs.Option.{is_some}
use Rattle.input_commands.specs.declared.wishes.Wish.{Wish}
use Rattle.history_script.specs.declared.histories.HistoryText.{HistoryText}
use Rattle.outside.specs.Streams.{Stream}
use Rattle.network_world.specs.Stations.{WorldState}
use Rattle.night_records.specs.declared.Record.{Record}
use Rattle.record_runs.specs.Causes.{told}
use Rattle.replies.specs.declared.statuses.Status.{Status}
use Rattle.input_commands.specs.declared.words.Telling.{Telling}
use Rattle.input_commands.specs.declared.words.Wanted.{Wanted}
use Rattle.input_commands.specs.declared.words.Wanted.TheVariants as wants
use Rattle.input_commands.specs.declared.words.Asked.{Asked}
use Rattle.input_commands.specs.declared.words.Asked.TheVariants as asks
use Rattle.input_commands.specs.Nights.{Night}
use Rattle.replies.specs.Statuses.{number_of}
use Rattle.input_commands.specs.Words.{asked_of, asks_record}
use Rattle.input_commands.specs.Dues.{RunCallsFor, RecordCallsFor, DefinitionsCallFor, CallsFor, ReadCallsFor, Due}
use Rattle.input_commands.specs.Dues.{HistoryCallsFor, AuditCallsFor, IsOf}
use Rattle.input_commands.proofs.Stops.{stop_is_no_success}

-- whether a world is handed back
has_none : (h : Option WorldState) → IsOf h None → is_some h ≡ false
has_none None of = refl
has_none (Some w) of = absurd of

has_some : (h : Option WorldState) (night : Night) → IsOf h (Some night) → is_some h ≡ true
has_some None night of = absurd of
has_some (Some w) night of = refl

-- by 0 and words that ask for a record, and only then
pub record WorldIsFor (asked : Option Asked) (status : ℕ) (handed : Option WorldState) : Type 0 where
  pub there : status ≡ 0 → asks_record asked ≡ true → is_some handed ≡ true
  pub only_0 : is_some handed ≡ true → status ≡ 0
  pub only_records : is_some handed ≡ true → asks_record asked ≡ true

pub no_world : (asked : Option Asked) (status : ℕ) (handed : Option WorldState) → handed ≡ None → status ≢ 0
    → WorldIsFor asked status handed
no_world asked status handed none other = record {
  there = λ e _. absurd (other e);
  only_0 = λ is. let never : false ≡ true = sym (ap (λ (o : Option WorldState). is_some o) none) ∙ is in cc;
  only_records = λ is. let never : false ≡ true = sym (ap (λ (o : Option WorldState). is_some o) none) ∙ is in cc;
}

-- nothing is handed back of an answer without a night, which has a cause of its own or is of no record
without_night : (asked : Option Asked) (status : ℕ) (handed : Option WorldState) → IsOf handed None
    → (status ≡ 0 → asks_record asked ≡ true → ⊥) → WorldIsFor asked status handed
without_night asked status handed of never_both = record {
  there = λ zero is. absurd (never_both zero is);
  only_0 = λ has. let never : false ≡ true = sym (has_none handed of) ∙ has in cc;
  only_records = λ has. let never : false ≡ true = sym (has_none handed of) ∙ has in cc;
}

world_run : (asked : Option Asked) (telling : Telling) (r : Record) (status : Status) (text : List ℕ)
    (night : Option Night) (handed : Option WorldState) → asked ≡ Some (asks.Input (wants.Night telling))
    → RunCallsFor telling r status text night → IsOf handed night → WorldIsFor asked (number_of status) handed
world_run asked telling r status text night handed is (RunCallsFor.stopped line cause run) of =
    without_night asked (number_of status) handed of (λ zero _. stop_is_no_success (told cause) zero)
world_run asked telling r status text night handed is (RunCallsFor.ran x run) of = record {
  there = λ _ _. has_some handed (record { net = r.script.net; world = x }) of;
  only_0 = λ _. refl;
  only_records = λ _. ap asks_record is;
}

world_called : (asked : Option Asked) (telling : Telling) (bytes : List ℕ) (status : Status) (text : List ℕ)
    (night : Option Night) (handed : Option WorldState) → asked ≡ Some (asks.Input (wants.Night telling))
    → RecordCallsFor telling bytes status text night → IsOf handed night → WorldIsFor asked (number_of status) handed
world_called asked telling bytes status text night handed is (RecordCallsFor.no_record line kind e) of =
    without_night asked (number_of status) handed of (λ zero _. let never : ⊥ = omega arith in never)
world_called asked telling bytes status text night handed is (RecordCallsFor.read r e run) of =
    world_run asked telling r status text night handed is run of

definitions_called : (asked : Option Asked) (wish : Wish) (bytes : List ℕ) (status : Status) (text : List ℕ)
    (night : Option Night) (handed : Option WorldState) → asked ≡ Some (asks.Input (wants.Definitions wish))
    → DefinitionsCallFor wish bytes status text night → IsOf handed night → WorldIsFor asked (number_of status) handed
definitions_called asked wish bytes status text night handed is (DefinitionsCallFor.comes o comes) of =
    without_night asked (number_of status) handed of
    (λ _ records. let never : false ≡ true = sym (ap asks_record is) ∙ records in cc)

history_called : (asked : Option Asked) (h : HistoryText) (status : Status) (text : List ℕ) (night : Option Night)
    (handed : Option WorldState) → asked ≡ Some (asks.Input wants.Audit) → HistoryCallsFor h status text night
    → IsOf handed night → WorldIsFor asked (number_of status) handed
history_called asked h status text night handed is (HistoryCallsFor.sound s) of =
    without_night asked (number_of status) handed of
    (λ _ records. let never : false ≡ true = sym (ap asks_record is) ∙ records in cc)
history_called asked h status text night handed is (HistoryCallsFor.not_sound n w) of =
    without_night asked (number_of status) handed of
    (λ _ records. let never : false ≡ true = sym (ap asks_record is) ∙ records in cc)

audit_called : (asked : Option Asked) (bytes : List ℕ) (status : Status) (text : List ℕ) (night : Option Night)
    (handed : Option WorldState) → asked ≡ Some (asks.Input wants.Audit) → AuditCallsFor bytes status text night
    → IsOf handed night → WorldIsFor asked (number_of status) handed
audit_called asked bytes status text night handed is (AuditCallsFor.no_history line kind e) of =
    without_night asked (number_of status) handed of
    (λ _ records. let never : false ≡ true = sym (ap asks_record is) ∙ records in cc)
audit_called asked bytes status text night handed is (AuditCallsFor.read h e called) of =
    history_called asked h status text night handed is called of

world_read : (asked : Option Asked) (wanted : Wanted) (bytes : List ℕ) (status : Status) (text : List ℕ)
    (night : Option Night) (handed : Option WorldState) → asked ≡ Some (asks.Input wanted)
    → CallsFor wanted bytes status text night → IsOf handed night → WorldIsFor asked (number_of status) handed
world_read asked (wants.Night telling) bytes status text night handed is called of =
    world_called asked telling bytes status text night handed is called of
world_read asked (wants.Definitions wish) bytes status text night handed is called of =
    definitions_called asked wish bytes status text night handed is called of
world_read asked wants.Audit bytes status text night handed is called of =
    audit_called asked bytes status text night handed is called of

pub world_due : (words : List (List ℕ)) (old new : Option Stream) (status : Status) (text : List ℕ) (night : Option Night)
    (handed : Option WorldState) → Due words old new status text night → IsOf handed night
    → WorldIsFor (asked_of words) (number_of status) handed
world_due words old new status text night handed (Due.other_words e) of =
    without_night (asked_of words) (number_of status) handed of (λ zero _. let never : ⊥ = omega arith in never)
world_due words old new status text night handed (Due.sampled jobs seed e) of =
    without_night (asked_of words) (number_of status) handed of
    (λ _ records. let never : false ≡ true = sym (ap asks_record e) ∙ records in cc)
world_due words old new status text night handed (Due.by_input w e (ReadCallsFor.too_long takes)) of =
    without_night (asked_of words) (number_of status) handed of (λ zero _. let never : ⊥ = omega arith in never)
world_due words old new status text night handed (Due.by_input w e (ReadCallsFor.read bytes all short called)) of =
    world_read (asked_of words) w bytes status text night handed e called of
