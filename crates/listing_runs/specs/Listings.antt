-- What the listing of a day calls for.
use Rattle.std.specs.Prelude.{◌≡◌, ◌∷◌, [], ℕ, List, None, Ok, Option, Some}
use Rattle.std.specs.Io.KnownBytes.{Appends}
use Rattle.composer_parser.specs.declared.Defs.{Defs}
use Rattle.composer_print.specs.Normal.{normal}
use Rattle.definition_texts.specs.Refusals.{AreChecked}
use Rattle.input_commands.specs.Nights.{AreRead, IsRun}
use Rattle.listing_laws.specs.ListingReturns.{script_of_listing, with_next}
use Rattle.model.specs.Types.{Net, StreamDraft}
use Rattle.model.specs.World as model
use Rattle.night_records.specs.declared.Record.{Record}
use Rattle.outside.specs.Streams.{Stream, TakesAll}
use Rattle.plan_builder.specs.Drafts.{AreDrafts}
use Rattle.plan_listing.specs.Listings.{listing_of}
use Rattle.record_runs.specs.Runs as runs
use Rattle.record_script.specs.declared.OneStep.TheVariants.{NextDay}
use Rattle.record_script.specs.declared.StepForm.TheVariants.{One}
use Rattle.workload_defs.specs.Nets.{net_of}

-- the record that a listing is with `$STEPS` and `next` behind it
abbrev pub listed_record : Net → List StreamDraft → Record
listed_record net drafts = record { script = script_of_listing net drafts; workload = None }

-- A record has definitions with the normal form of these, and its one step takes the plan of the day.
pub record PlansDay (d : Defs) (day : ℕ) (r : Record) : Type 0 where
  pub text : List ℕ
  pub is_read : AreRead text (Ok r)
  pub defs : Defs
  pub has : r.workload ≡ Some defs
  pub form : normal defs ≡ normal d
  pub line : ℕ
  pub steps : r.script.steps ≡ record { line = line; form = One (NextDay day) } ∷ []

-- The run of such a record reaches a world exactly where the run of this one does.
abbrev pub ReachesTheSame : Defs → ℕ → Record → Type 0
ReachesTheSame d day own =
    (r : Record) → PlansDay d day r → (x : model.World)
    → (IsRun r (runs.done x) → IsRun own (runs.done x)) × (IsRun own (runs.done x) → IsRun r (runs.done x))

-- With `$STEPS` and `next` behind it, the listing is read as the record of these drafts. So the plan is made of it that a
-- record makes which has the definitions and takes the day.
pub record MakesItsPlan (d : Defs) (day : ℕ) (drafts : List StreamDraft) : Type 0 where
  pub is_record : AreRead (with_next (listing_of (net_of d) drafts)) (Ok (listed_record (net_of d) drafts))
  pub replays : ReachesTheSame d day (listed_record (net_of d) drafts)

-- The listing of a day was written, of definitions to which the input was read, and makes that plan.
pub record WritesRecord (day : ℕ) (old new : Option Stream) (written written' : Option (List ℕ)) : Type 0 where
  pub bytes : List ℕ
  pub defs : Defs
  pub drafts : List StreamDraft
  pub read : TakesAll old new bytes
  pub are : AreChecked bytes defs
  pub are_drafts : AreDrafts defs day drafts
  pub wrote : Appends written written' (listing_of (net_of defs) drafts)
  pub makes : MakesItsPlan defs day drafts
