-- The history that the run of a record reaches is fit.
use Rattle.std.proofs.Common.{◌≡◌, ◌<◌, ◌≤◌, ◌^◌, ℕ, List, Option, Some, None, Result, Ok, Err, IfOk, arith, length, refl, subst}
use Rattle.std.proofs.lemmas.List.Elements.{All-nil}
use Rattle.std.specs.Option.{option_map_or}
use Rattle.composer_parser.specs.declared.Defs.{Defs}
use Rattle.definition_texts.specs.Refusals.{AreChecked}
use Rattle.model.specs.Fit.{AreFitEntries}
use Rattle.model.specs.World.{World}
use Rattle.record_faults.specs.declared.places.Place.TheVariants as place
use Rattle.record_rows.specs.Rows.{rows_of}
use Rattle.record_runs.specs.Ends.{run_of_script}
use Rattle.record_runs.specs.Lines.{Day}
use Rattle.record_runs.specs.Runs.{done}
use Rattle.record_script.proofs.Lengths.{few_rows, placed_length}
use Rattle.record_script.specs.Numbers.{numbered, numbered_by}
use Rattle.record_script.specs.Scripts.{fault_of, placed, read_of, script_of}
use Rattle.record_script.specs.declared.Script.{Script}
use Rattle.night_records.specs.Composers.{composer_text}
use Rattle.night_records.specs.Days.{ArePlans}
use Rattle.night_records.specs.Readings.{At, IsRead, defined, defined_record, faulty, names_of, plain, refused, without_definitions}
use Rattle.night_records.specs.declared.records.Record.{Record}
use Rattle.draft_laws.proofs.Drafts.{drafts_fit}
use Rattle.record_laws.proofs.ComposerTexts.{composer_text_few}
use Rattle.record_laws.proofs.Days.{days_fit, no_days}
use Rattle.record_laws.proofs.Fits.{AreFitDays, IsFitPlan, IsFitScript}
use Rattle.record_laws.proofs.Plans.{plans_fit}
use Rattle.record_laws.proofs.Rows.{text_fit}
use Rattle.record_laws.proofs.Runs.{run_fit}
use Rattle.record_laws.proofs.Steps.{steps_fit}

-- a record without definitions
read_script : (text : List ℕ) (s : Script) → read_of text ≡ Ok s → script_of (placed text) ≡ s
unfolding read_of
read_script text s = go (fault_of (placed text))
  where
    go : (o : Option At) → option_map_or Err o (Ok (script_of (placed text))) ≡ Ok s → script_of (placed text) ≡ s
    go None e = cc
    go (Some fault) e = absurd (cc)

script_fit : (text : List ℕ) → length text < 2 ^ 32 → IsFitScript (script_of (placed text))
script_fit text short =
    let long : length (placed text) ≡ length (rows_of text) = placed_length place.Nothing (rows_of text) in
    let few : length (placed text) ≤ 4294967296 = omega (arith, short, long, few_rows text) in (
      plans_fit (numbered (placed text)) (placed text) (text_fit text) few,
      steps_fit (numbered (placed text)) (placed text) (text_fit text),
    )

-- the plans and lines of a record are fit, and so is what its days give
abbrev IsFitRecord : Record → Type 0
IsFitRecord r = IsFitScript r.script × ((day : Day) → ArePlans r.workload day → AreFitDays day)

plain_fit : (text : List ℕ) (r : Result Script At) → read_of text ≡ r → length text < 2 ^ 32
    → IfOk (without_definitions r) IsFitRecord
plain_fit text (Ok s) is short = (subst IsFitScript (read_script text s is) (script_fit text short), no_days)
plain_fit text (Err at_) is short = tt

defined_fit : (text : List ℕ) (place : ℕ) (d : Defs) → length text < 2 ^ 32
    → AreChecked (composer_text text place) d → IsFitRecord (defined_record d text)
defined_fit text place d short checked = (
  (All-nil IsFitPlan, steps_fit (numbered_by (names_of d)) (placed text) (text_fit text)),
  λ day are. days_fit d day are
      (λ n drafts. drafts_fit (composer_text text place) d n drafts (omega (arith, short, composer_text_few text place)) checked),
)

read_fit : (text : List ℕ) (a : Result Record At) → length text < 2 ^ 32 → IsRead text a
    → IfOk a IsFitRecord
read_fit text _ short (plain none) = plain_fit text (read_of text) refl short
read_fit text _ short (refused place r is why) = tt
read_fit text _ short (faulty place d at_ is checked fault) = tt
read_fit text _ short (defined place d is checked none) = defined_fit text place d short checked

pub history_fit : (text : List ℕ) (r : Record) (day : Day) (x : World) → length text < 2 ^ 32
    → IsRead text (Ok r) → ArePlans r.workload day → run_of_script day r.script ≡ done x → AreFitEntries x.history
history_fit text r day x short is are same =
    let h : IsFitRecord r = read_fit text (Ok r) short is in run_fit day r.script x (h.1 day are) h.0 same
