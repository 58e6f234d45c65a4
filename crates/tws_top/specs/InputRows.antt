-- The statuses one by one, of words that the input alone answers.
use Rattle.std.specs.Prelude.{◌≡◌, ◌≤◌, ℕ, List, Option, Some, None, Ok, Err, length}
use Rattle.std.specs.Io.KnownBytes.{Appends}
use Rattle.base_types.specs.declared.LimitName.TheVariants as limit
use Rattle.composer_parser.specs.declared.Defs.{Defs}
use Rattle.composer_print.specs.Printed.{printed}
use Rattle.input_commands.specs.Replies.{ComesOf}
use Rattle.input_commands.specs.declared.wishes.Outcome.TheVariants as outcome
use Rattle.input_commands.specs.declared.wishes.Wish.{Wish}
use Rattle.definition_texts.specs.Kinds.{word_of}
use Rattle.definition_texts.specs.Refusals.{AreChecked}
use Rattle.definition_texts.specs.declared.Refusal.{Refusal}
use Rattle.event_audit.specs.Items.{IsFirstWrong}
use Rattle.history_script.specs.declared.histories.HistoryKind.{HistoryKind}
use Rattle.history_script.specs.declared.histories.HistoryText.{HistoryText}
use Rattle.outside.specs.Streams.{Stream, TakesAll}
use Rattle.whole_io.specs.Whole.{TakesCount}
use Rattle.model.specs.Sound.{IsSound}
use Rattle.model.specs.Types.{StreamDraft}
use Rattle.model.specs.World as model
use Rattle.network_world.specs.Stations.{WorldState}
use Rattle.network_world.specs.Standing.{StandsFor}
use Rattle.night_records.specs.declared.Record.{Record}
use Rattle.plan_builder.specs.Drafts.{AreDrafts}
use Rattle.plan_builder.specs.Limits.{plan_fault}
use Rattle.plan_listing.specs.Listings.{listing_of}
use Rattle.record_faults.specs.declared.kinds.ScriptKind.{ScriptKind}
use Rattle.record_runs.specs.Causes.{Cause, told}
use Rattle.record_runs.specs.Runs as runs
use Rattle.replies.specs.declared.statuses.Status.TheVariants.{RecordRefused, LimitPassed}
use Rattle.input_commands.specs.declared.words.Telling.{Telling}
use Rattle.replies.specs.Texts.{definitions_line, limit_line, limit_word}
use Rattle.input_commands.specs.Lines.{refused_line, kind_word, stop_status, stop_line}
use Rattle.input_commands.specs.Lines.{history_word, sound_line, not_sound_line}
use Rattle.input_commands.specs.Audits.{AreHistory}
use Rattle.input_commands.specs.Nights.{AreRead, IsRun, told_at}
use Rattle.workload_defs.specs.Nets.{net_of}

-- The input was read to its end as a record whose steps all were taken; what is told of that run was written and nothing
-- else; and the world that is handed back is the one that they made, with a history and starts of its own that are sound.
pub record Tells (telling : Telling) (old new : Option Stream) (written written' : Option (List ℕ))
    (handed : Option WorldState) : Type 0 where
  pub bytes : List ℕ
  pub recorded : Record
  pub reached : model.World
  pub world : WorldState
  pub read : TakesAll old new bytes
  pub short : length bytes ≤ 16777216
  pub is_record : AreRead bytes (Ok recorded)
  pub run : IsRun recorded (runs.done reached)
  pub wrote : Appends written written' (told_at telling recorded.script.net reached)
  pub handed_ : handed ≡ Some world
  pub net_ : world.net ≡ recorded.script.net
  pub stands : StandsFor world reached
  pub sound : IsSound world.net world.journal.history world.journal.starts

-- The bytes are refused with this line: one of them is no line of a record, or has a step that cannot be taken.
pub data IsRefused (bytes : List ℕ) : List ℕ → Type 0 where
  no_record : (line : ℕ) (kind : ScriptKind) → AreRead bytes (Err (line, kind))
      → IsRefused bytes (refused_line line (kind_word kind))
  bad_step : (r : Record) (line : ℕ) (cause : Cause) → AreRead bytes (Ok r) → IsRun r (runs.stopped line cause)
      → stop_status (told cause) ≡ RecordRefused → IsRefused bytes (stop_line line (told cause))

-- The input was read to its end, its bytes are refused, and nothing but the line was written.
pub record Refuses (old new : Option Stream) (written written' : Option (List ℕ)) : Type 0 where
  pub bytes : List ℕ
  pub line : List ℕ
  pub read : TakesAll old new bytes
  pub refused : IsRefused bytes line
  pub wrote : Appends written written' line

-- The input was read to its end as definitions without a fault, and their canonical text was written and nothing else.
pub record Compiles (old new : Option Stream) (written written' : Option (List ℕ)) : Type 0 where
  pub bytes : List ℕ
  pub defs : Defs
  pub read : TakesAll old new bytes
  pub short : length bytes ≤ 16777216
  pub are : AreChecked bytes defs
  pub wrote : Appends written written' (printed defs)

-- The input was read to its end as definitions without a fault, no limit of the plan is passed on the day and each of its
-- times has a moment, and the listing of the day was written and nothing else.
pub record Plans (day : ℕ) (old new : Option Stream) (written written' : Option (List ℕ)) : Type 0 where
  pub bytes : List ℕ
  pub defs : Defs
  pub drafts : List StreamDraft
  pub read : TakesAll old new bytes
  pub short : length bytes ≤ 16777216
  pub are : AreChecked bytes defs
  pub no_fault : plan_fault defs day ≡ None
  pub are_drafts : AreDrafts defs day drafts
  pub wrote : Appends written written' (listing_of (net_of defs) drafts)

-- The input was read to its end, its bytes are refused where this is wished of definitions, and nothing but the line was
-- written.
pub record RefusesDefinitions (wish : Wish) (old new : Option Stream) (written written' : Option (List ℕ)) : Type 0 where
  pub bytes : List ℕ
  pub refusal : Refusal
  pub read : TakesAll old new bytes
  pub refused : ComesOf wish bytes (outcome.Refused refusal)
  pub wrote : Appends written written' (definitions_line refusal.line (word_of refusal.kind))

-- The input was read to its end as a history that is sound, and the numbers of its entries and starts were written and
-- nothing else.
pub record FindsSound (old new : Option Stream) (written written' : Option (List ℕ)) : Type 0 where
  pub bytes : List ℕ
  pub history : HistoryText
  pub read : TakesAll old new bytes
  pub short : length bytes ≤ 16777216
  pub is_history : AreHistory bytes (Ok history)
  pub sound : IsSound history.net history.entries history.starts
  pub wrote : Appends written written' (sound_line (length history.entries) (length history.starts))

-- The input was read to its end as a history that is not sound, and its first wrong item was written and nothing else.
pub record FindsWrong (old new : Option Stream) (written written' : Option (List ℕ)) : Type 0 where
  pub bytes : List ℕ
  pub history : HistoryText
  pub item : ℕ
  pub read : TakesAll old new bytes
  pub is_history : AreHistory bytes (Ok history)
  pub not_sound : IsSound history.net history.entries history.starts → ⊥
  pub first : IsFirstWrong history.net history.entries history.starts item
  pub wrote : Appends written written' (not_sound_line item)

-- The input was read to its end, a line of it is no line of a history, and nothing but the first of these was written.
pub record RefusesHistory (old new : Option Stream) (written written' : Option (List ℕ)) : Type 0 where
  pub bytes : List ℕ
  pub line : ℕ
  pub kind : HistoryKind
  pub read : TakesAll old new bytes
  pub refused : AreHistory bytes (Err (line, kind))
  pub wrote : Appends written written' (refused_line line (history_word kind))

-- The input passes its limit, or a limit is passed in its run or refuses a step of it, or the plan of a day passes one
-- where it is wished of definitions, and nothing but the line was written.
pub data PassesLimit (old new : Option Stream) (written written' : Option (List ℕ)) : Type 0 where
  of_input : TakesCount 16777217 old new
      → Appends written written' (limit_line (limit_word limit.Input) 16777216)
      → PassesLimit old new written written'
  of_run : (bytes : List ℕ) (r : Record) (line : ℕ) (cause : Cause) → TakesAll old new bytes
      → AreRead bytes (Ok r) → IsRun r (runs.stopped line cause) → stop_status (told cause) ≡ LimitPassed → Appends written written' (stop_line line (told cause))
      → PassesLimit old new written written'
  of_plan : (wish : Wish) (bytes : List ℕ) (most : ℕ) → TakesAll old new bytes
      → ComesOf wish bytes (outcome.TooMany most) → Appends written written' (limit_line (limit_word limit.Plan) most)
      → PassesLimit old new written written'
