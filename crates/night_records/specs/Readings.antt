-- What a text is: a record of either kind, or its first fault.
use Rattle.std.specs.Prelude.{◌≡◌, ℕ, ◌+◌, [], List, Option, Some, None, Result, Ok, Err, map, nat_le, if◌then◌else◌}
use Rattle.composer_parser.specs.declared.Defs.{Defs}
use Rattle.definition_texts.specs.Refusals.{AreChecked, IsRefused}
use Rattle.definition_texts.specs.declared.Refusal.{Refusal}
use Rattle.definition_texts.specs.declared.RefusalKind.{RefusalKind}
use Rattle.definition_texts.specs.declared.RefusalKind.TheVariants as from
use Rattle.model.specs.Types.{Net, Node}
use Rattle.record_faults.specs.Faults.{first_fault}
use Rattle.record_faults.specs.Known.{named_by}
use Rattle.record_faults.specs.declared.kinds.ScriptKind.{ScriptKind}
use Rattle.record_faults.specs.declared.kinds.ScriptKind.TheVariants as kind
use Rattle.record_script.specs.Scripts.{placed, read_of}
use Rattle.record_script.specs.Steps.{steps_by}
use Rattle.record_script.specs.declared.Script.{Script}
use Rattle.record_script.specs.declared.ScriptFault.{ScriptFault}
use Rattle.record_script.specs.declared.ScriptFault.TheVariants as told
use Rattle.night_records.specs.Composers.{composer_text, definitions_place}
use Rattle.night_records.specs.declared.records.Record.{Record}
use Rattle.workload_defs.specs.Nets.{net_of}

-- the kind of a fault of definitions as that of a record
abbrev pub script_kind : RefusalKind → ScriptKind
script_kind from.BadChar = kind.BadChar
script_kind from.OpenText = kind.OpenText
script_kind from.TooLong = kind.TooLong
script_kind from.Expected = kind.Expected
script_kind from.LeftOut = kind.LeftOut
script_kind from.Duplicate = kind.Duplicate
script_kind from.UnknownName = kind.UnknownName
script_kind from.OutOfRange = kind.OutOfRange
script_kind from.ForeignResource = kind.ForeignResource
script_kind from.FollowsCycle = kind.FollowsCycle
script_kind from.Tree = kind.Tree

-- a line and the kind of its fault
abbrev pub At : Type 0
At = ℕ × ScriptKind

-- a record without definitions
abbrev pub without_definitions : Result Script At → Result Record At
without_definitions (Ok s) = Ok (record { script = s; workload = None })
without_definitions (Err at_) = Err at_

-- The first fault of the lines that are no definitions, where the network has these workstations. A fault of the
-- definitions stands above all that names one.
abbrev pub own_fault : List (List ℕ) → List ℕ → Option At
own_fault names text = first_fault (named_by names) (placed text)

-- the lower of two faults, the record's own where they stand on one line
abbrev pub lower : Option At → At → At
lower None b = b
lower (Some a) b = if nat_le a.0 b.0 then a else b

-- the fault of definitions behind the line at a place, at its line of the record
abbrev pub refusal_at : ℕ → Refusal → At
refusal_at place r = (place + 1 + r.line, script_kind r.kind)

-- the names of the workstations of a network, and of definitions, by their numbers
abbrev pub node_names : Net → List (List ℕ)
node_names net = map (λ (n : Node). n.name) net.nodes

abbrev pub names_of : Defs → List (List ℕ)
names_of d = node_names (net_of d)

-- A record with these definitions: its network is theirs, and it has no plans.
abbrev pub defined_record : Defs → List ℕ → Record
defined_record d text =
    record {
      script = record { net = net_of d; plans = []; steps = steps_by (names_of d) (placed text) };
      workload = Some d;
    }

-- What a text is read to.
pub data IsRead (text : List ℕ) : Result Record At → Type 0 where
  -- It does not begin with definitions.
  plain : definitions_place text ≡ None → IsRead text (without_definitions (read_of text))
  -- Its definitions have a fault, which counts at its line of the record; that of a lower line comes first.
  refused : (place : ℕ) (r : Refusal) → definitions_place text ≡ Some place → IsRefused (composer_text text place) r
      → IsRead text (Err (lower (own_fault [] text) (refusal_at place r)))
  -- Its definitions have none, and another line has one.
  faulty : (place : ℕ) (d : Defs) (at_ : At) → definitions_place text ≡ Some place
      → AreChecked (composer_text text place) d → own_fault (names_of d) text ≡ Some at_ → IsRead text (Err at_)
  -- No line has one.
  defined : (place : ℕ) (d : Defs) → definitions_place text ≡ Some place
      → AreChecked (composer_text text place) d → own_fault (names_of d) text ≡ None
      → IsRead text (Ok (defined_record d text))

-- The line and the kind that are told, but for want of memory: those of this fault, of one that may be there, and those to
-- which the text is read.
abbrev pub IsTold : At → ScriptFault → Type 0
IsTold at_ (told.At line kind_) = at_ ≡ (line, kind_)
IsTold at_ told.NoMemory = Unit {0}

abbrev pub IsToldOf : Option At → ScriptFault → Type 0
IsToldOf found (told.At line kind_) = found ≡ Some (line, kind_)
IsToldOf found told.NoMemory = Unit {0}

abbrev pub Tells : List ℕ → ScriptFault → Type 0
Tells text (told.At line kind_) = IsRead text (Err (line, kind_))
Tells text told.NoMemory = Unit {0}
