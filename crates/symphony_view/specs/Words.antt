-- How states are told: which of the model's they are, the number of each in Symphony, and its word in a listing.
use Rattle.std.specs.Prelude.{if◌then◌else◌, ℕ, Bool, List, None, Option, Some, codes, false, true}
use Rattle.model.specs.Dependencies.{is_only_shown}
use Rattle.model.specs.States as model
use Rattle.report_text.specs.States.{job_words, stream_words, word_at}
use Rattle.symphony_view.specs.declared.states.JobState.{JobState}
use Rattle.symphony_view.specs.declared.states.JobState.TheVariants as job
use Rattle.symphony_view.specs.declared.states.StreamState.{StreamState}
use Rattle.symphony_view.specs.declared.states.StreamState.TheVariants as stream_
use Rattle.symphony_view.specs.declared.prompts.PromptState.{PromptState}
use Rattle.symphony_view.specs.declared.prompts.PromptState.TheVariants as prompt

-- a job's state by its name
abbrev pub told_job : JobState → model.JobState
told_job job.Hold = model.JobState.Hold
told_job job.Fence = model.JobState.Fence
told_job job.Ready = model.JobState.Ready
told_job job.Intro = model.JobState.Intro
told_job job.Exec = model.JobState.Exec
told_job job.Succ = model.JobState.Succ
told_job job.Abend = model.JobState.Abend
told_job job.Fail = model.JobState.Fail
told_job job.Cancel = model.JobState.Cancel

-- a stream's state by its name
abbrev pub told_stream : StreamState → model.StreamState
told_stream stream_.Hold = model.StreamState.Hold
told_stream stream_.Ready = model.StreamState.Ready
told_stream stream_.Exec = model.StreamState.Exec
told_stream stream_.Stuck = model.StreamState.Stuck
told_stream stream_.Succ = model.StreamState.Succ
told_stream stream_.Abend = model.StreamState.Abend
told_stream stream_.Cancel = model.StreamState.Cancel

-- the states of jobs count from 0 in the order of their words
abbrev pub job_number : model.JobState → ℕ
job_number model.JobState.Hold = 0
job_number model.JobState.Fence = 1
job_number model.JobState.Ready = 2
job_number model.JobState.Intro = 3
job_number model.JobState.Exec = 4
job_number model.JobState.Succ = 5
job_number model.JobState.Abend = 6
job_number model.JobState.Fail = 7
job_number model.JobState.Cancel = 8

-- those of streams likewise
abbrev pub stream_number : model.StreamState → ℕ
stream_number model.StreamState.Hold = 0
stream_number model.StreamState.Ready = 1
stream_number model.StreamState.Exec = 2
stream_number model.StreamState.Stuck = 3
stream_number model.StreamState.Succ = 4
stream_number model.StreamState.Abend = 5
stream_number model.StreamState.Cancel = 6

-- the words are those of the numbers
abbrev pub job_word : model.JobState → List ℕ
job_word state = word_at job_words (job_number state)

abbrev pub stream_word : model.StreamState → List ℕ
stream_word state = word_at stream_words (stream_number state)

-- what a reply says of its prompt
abbrev pub replied : Option Bool → PromptState
replied None = prompt.Waiting
replied (Some true) = prompt.Yes
replied (Some false) = prompt.No

-- a prompt whose text begins with a colon is shown, and another is what was replied
abbrev pub prompt_state : List ℕ → Option Bool → PromptState
prompt_state text reply = if is_only_shown text then prompt.Shown else replied reply

abbrev pub prompt_word : PromptState → List ℕ
prompt_word prompt.Waiting = codes "waiting"
prompt_word prompt.Yes = codes "yes"
prompt_word prompt.No = codes "no"
prompt_word prompt.Shown = codes "shown"

abbrev pub prompt_number : PromptState → ℕ
prompt_number prompt.Waiting = 0
prompt_number prompt.Yes = 1
prompt_number prompt.No = 2
prompt_number prompt.Shown = 3

abbrev pub activity_word : Bool → List ℕ
activity_word true = codes "stopped"
activity_word false = codes "running"

-- what follows in the line of an object that is late
abbrev pub late_word : Bool → List ℕ
late_word true = codes " late"
late_word false = codes ""
