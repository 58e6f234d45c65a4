-- The lines of the steps.
use Rattle.std.specs.Prelude.{ℕ, Bool, true, false, List, [], ◌∷◌, Option, Some, None, Result, Ok, Err, codes}
use Rattle.std.specs.Prelude.{◌||◌, option_map, if◌then◌else◌}
use Rattle.syntax.specs.Names.{name_of}
use Rattle.syntax.specs.Splits.{first_word, after_word, words_of}
use Rattle.calendars.specs.Written.{date_of}
use Rattle.conman_syntax.specs.declared.lines.Line.{Line}
use Rattle.conman_syntax.specs.declared.lines.Line.TheVariants as line
use Rattle.conman_syntax.specs.Rows.{due_line}
use Rattle.conman_syntax.specs.declared.faults.CommandFault.{CommandFault}
use Rattle.record_rows.specs.Words.{◌>>=◌, ◌is◌, sized, code_of}
use Rattle.record_rows.specs.declared.rows.Ranged.{Ranged}
use Rattle.record_rows.specs.declared.rows.ObjRow.{ObjRow}
use Rattle.record_rows.specs.declared.rows.ObjRow.TheVariants as obj
use Rattle.record_rows.specs.declared.rows.OwnRow.{OwnRow}
use Rattle.record_rows.specs.declared.rows.OwnRow.TheVariants as own
use Rattle.record_rows.specs.declared.rows.CutRow.{CutRow}
use Rattle.record_rows.specs.declared.rows.CutRow.TheVariants as cut
use Rattle.record_rows.specs.declared.rows.StepRow.{StepRow}
use Rattle.record_rows.specs.declared.rows.StepRow.TheVariants as step

-- What stands behind the workstation of a step that is its own.

-- `J RC`
abbrev pub ended_of : List ℕ → Option OwnRow
ended_of rest = sized 32 (first_word rest) >>= λ j. option_map (own.Ended j) (code_of (after_word rest))

-- lines that show, or are for a node itself, give no command
abbrev pub gives_command : Line → Bool
gives_command (line.ShowJobs p) = false
gives_command (line.ShowSchedules p) = false
gives_command (line.ShowCpus p) = false
gives_command (line.ShowPrompts p) = false
gives_command (line.ShowResources p) = false
gives_command (line.Link w) = false
gives_command (line.Unlink w) = false
gives_command line.Shutdown = false
gives_command (line.JNextPlan d) = false
gives_command l = true

-- an operator's line that gives a command
abbrev pub command_of : Result Line CommandFault → Option Line
command_of (Ok l) = if gives_command l then Some l else None
command_of (Err f) = None

-- `turn W T`, `started W J`, `failed W J`, `ended W J RC`, `type W LINE`, behind W
unfoldable pub own_of : List ℕ → List ℕ → Option OwnRow
own_of word rest =
    if word is codes "turn" then option_map own.Turn (sized 64 rest) else
    if word is codes "started" then option_map own.Started (sized 32 rest) else
    if word is codes "failed" then option_map own.Failed (sized 32 rest) else
    if word is codes "ended" then ended_of rest else
    if word is codes "type" then option_map own.Typed (command_of (due_line rest)) else None

-- Steps of one workstation and of two.

-- a step that is a workstation's own
unfoldable pub own_step : List ℕ → List ℕ → Option StepRow
own_step word rest =
    name_of (first_word rest) >>= λ w. option_map (step.Own w) (own_of word (after_word rest))

-- `A B`
abbrev pub pair_of : List ℕ → Option (List ℕ × List ℕ)
pair_of rest = name_of (first_word rest) >>= λ a. name_of (after_word rest) >>= λ b. Some (a, b)

-- `A B K`
abbrev pub packet_of : List (List ℕ) → Option (List ℕ × List ℕ × Ranged ℕ)
packet_of (a ∷ b ∷ k ∷ []) = name_of a >>= λ from. name_of b >>= λ to. sized 32 k >>= λ n. Some (from, to, n)
packet_of words = None

-- `W RC`
unfoldable pub reap_of : List ℕ → Option StepRow
reap_of rest = name_of (first_word rest) >>= λ w. option_map (step.Reap w) (code_of (after_word rest))

-- `job J`, `stream S`
abbrev pub object_of : List ℕ → List ℕ → Option ObjRow
object_of kind n =
    if kind is codes "job" then option_map obj.Job (sized 32 n) else
    if kind is codes "stream" then option_map obj.Stream (sized 32 n) else None

-- `W job J I`, `W stream S I`
unfoldable pub fulfil_of : List (List ℕ) → Option StepRow
fulfil_of (w ∷ kind ∷ n ∷ i ∷ []) =
    name_of w >>= λ at_. object_of kind n >>= λ o. sized 16 i >>= λ d. Some (step.Fulfil at_ o d)
fulfil_of words = None

-- Steps in which workstation w stops: they are steps of w, or the master's `next`.

unfoldable pub own_cut : List ℕ → List ℕ → List ℕ → Option CutRow
own_cut w word rest =
    name_of (first_word rest) >>= λ v. if v is w then option_map cut.Own (own_of word (after_word rest)) else None

-- `deliver A W K`
unfoldable pub packet_cut : List ℕ → List ℕ → Option CutRow
packet_cut w rest = packet_of (words_of rest) >>= λ p. if p.1 is w then Some (cut.Deliver p.0 p.2) else None

unfoldable pub cut_of : List ℕ → List ℕ → Option CutRow
cut_of w text =
    if text is codes "next" then Some cut.Next else
    if first_word text is codes "next" then option_map cut.NextDay (date_of (after_word text)) else
    if first_word text is codes "deliver" then packet_cut w (after_word text) else
    own_cut w (first_word text) (after_word text)

-- `kept`, `lost`
abbrev pub kept_of : List ℕ → Option Bool
kept_of word = if word is codes "kept" then Some true else (if word is codes "lost" then Some false else None)

-- `kept STEP`, `lost STEP`
unfoldable pub crash_in : List ℕ → List ℕ → Option StepRow
crash_in w rest = kept_of (first_word rest) >>= λ k. option_map (step.CrashIn w k) (cut_of w (after_word rest))

-- `W`, `W kept STEP`, `W lost STEP`
unfoldable pub crash_of : List ℕ → Option StepRow
crash_of rest =
    name_of (first_word rest) >>= λ w.
    if first_word rest is rest then Some (step.Crash w) else crash_in w (after_word rest)

-- The table of steps, by the first word and what follows it.
unfoldable pub step_of_word : List ℕ → List ℕ → Option StepRow
step_of_word word rest =
    if word is codes "next" then option_map step.NextDay (date_of rest) else
    if word is codes "link" then option_map (λ p. step.Link p.0 p.1) (pair_of rest) else
    if word is codes "unlink" then option_map (λ p. step.Unlink p.0 p.1) (pair_of rest) else
    if word is codes "deliver" then option_map (λ p. step.Deliver p.0 p.1 p.2) (packet_of (words_of rest)) else
    if word is codes "flow" then option_map (λ p. step.Flow p.0 p.1) (pair_of rest) else
    if word is codes "reap" then reap_of rest else
    if word is codes "crash" then crash_of rest else
    if word is codes "fulfil" then fulfil_of (words_of rest) else
    if word is codes "recover" then option_map step.Recover (name_of rest) else own_step word rest

-- the words of the steps that are a workstation's own
abbrev pub is_own_word : List ℕ → Bool
is_own_word word =
    (word is codes "turn") || (word is codes "type") || (word is codes "ended") || (word is codes "started")
    || (word is codes "failed")

-- the words of the steps that a long record has most of
abbrev pub is_frequent : List ℕ → Bool
is_frequent word =
    (word is codes "flow") || (word is codes "reap") || (word is codes "deliver") || is_own_word word

-- `next` has no word behind it, and no blank
unfoldable pub step_of : List ℕ → Option StepRow
step_of text =
    if text is codes "next" then Some step.Next else step_of_word (first_word text) (after_word text)
