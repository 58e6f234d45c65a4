-- Jobs, streams, resources and prompts by their names, and their states by their words. What is not there has no name.
use Rattle.std.specs.Prelude.{[], ℕ, ◌++◌, Bool, List, None, Option, Some, codes, false, true}
use Rattle.std.specs.Option.{option_map_or}
use Rattle.model.specs.Types.{Dep, Net, Outside, Own, Prompt, PromptDef, Resource, StreamDoc}
use Rattle.model.specs.Words.{nth}
use Rattle.model.specs.History.{View}
use Rattle.model.specs.Catalogue.{StreamJob, job, stream}
use Rattle.model.specs.States.{job_state}
use Rattle.report_text.specs.Names.{name_of}
use Rattle.symphony_view.specs.Words.{job_word}

-- `W#STREAM`
unfoldable pub stream_text : Net → StreamDoc → List ℕ
stream_text net d = name_of net d.ws ++ codes "#" ++ d.name

-- `W#STREAM.JOB`
unfoldable pub job_text : Net → StreamJob → List ℕ
job_text net p = name_of net p.parent.ws ++ codes "#" ++ p.parent.name ++ codes "." ++ p.doc.name

-- those of a number
unfoldable pub stream_name : Net → View → ℕ → List ℕ
stream_name net V s = option_map_or (stream_text net) (stream V s) []

unfoldable pub job_name : Net → View → ℕ → List ℕ
job_name net V j = option_map_or (job_text net) (job V j) []

-- the word of the state of a job of a number
unfoldable pub state_of_job : Net → View → ℕ → List ℕ
state_of_job net V j = option_map_or (λ (p : StreamJob). job_word (job_state net V p)) (job V j) []

-- `W#RESOURCE`
unfoldable pub resource_name : Net → ℕ → List ℕ
resource_name net r =
    option_map_or (λ (q : Resource). name_of net q.ws ++ codes "#" ++ q.name) (nth net.resources r) []

-- `NAME "TEXT"`
unfoldable pub prompt_name : Net → ℕ → List ℕ
prompt_name net p =
    option_map_or (λ (q : PromptDef). q.name ++ codes " \"" ++ q.text ++ codes "\"") (nth net.prompts p) []

-- what was replied
abbrev pub reply_text : Option Bool → List ℕ
reply_text None = codes "no reply"
reply_text (Some true) = codes "the reply was yes"
reply_text (Some false) = codes "the reply was no"

-- the text of a prompt that an object holds, and the path of a file
abbrev pub text_in : Option Dep → List ℕ
text_in (Some (Prompt (Own text))) = text
text_in _ = []

abbrev pub path_in : Option Dep → List ℕ
path_in (Some (Outside path)) = path
path_in _ = []
