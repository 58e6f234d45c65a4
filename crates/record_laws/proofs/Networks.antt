-- The network of each record.
use Rattle.std.proofs.Common.{ℕ, List, IfOk}
use Rattle.std.specs.Prelude.{Result, Ok, Err}
use Rattle.composer_laws.proofs.KeptDefs.{read_defs}
use Rattle.composer_parser.specs.Faults.{last_line_of}
use Rattle.composer_parser.specs.declared.Defs.{Defs}
use Rattle.definition_texts.specs.Refusals.{AreChecked, IsText}
use Rattle.record_script.specs.Scripts.{read_of}
use Rattle.record_script.specs.declared.Script.{Script}
use Rattle.night_records.specs.Composers.{composer_text}
use Rattle.night_records.specs.Readings.{At, IsRead, defined, faulty, plain, refused, without_definitions}
use Rattle.night_records.specs.declared.records.Record.{Record}
use Rattle.workload_defs.specs.Nets.{net_of}
use Rattle.history_laws.specs.Printables.{IsPrintable}
use Rattle.record_laws.proofs.NetworkDefinitions.{defined_printable}
use Rattle.record_laws.proofs.NetworkRecords.{script_printable}
use Rattle.record_laws.proofs.NetworkTexts.{text_utf8}

abbrev Prints : Result Record At → Type 0
Prints x = IfOk x (λ (r : Record). IsPrintable r.script.net)

checked : (bytes : List ℕ) (d : Defs) → AreChecked bytes d → IsPrintable (net_of d)
checked bytes d h =
    defined_printable d (read_defs bytes h.are.tokens (last_line_of bytes) d h.are.has.are h.are.spelled)

without : (x : Result Script At) → IfOk x (λ (s : Script). IsPrintable s.net) → Prints (without_definitions x)
without (Ok s) h = h
without (Err at_) h = tt

reads : (text : List ℕ) (x : Result Record At) → IsText text → IsRead text x → Prints x
reads text _ t (plain none) = without (read_of text) (script_printable text (text_utf8 text t))
reads text _ t (refused place r is h) = tt
reads text _ t (faulty place d at_ is h fault) = tt
reads text _ t (defined place d is h none) = checked (composer_text text place) d h

pub printable : (text : List ℕ) (r : Record) → IsText text → IsRead text (Ok r) → IsPrintable r.script.net
printable text r t h = reads text (Ok r) t h
