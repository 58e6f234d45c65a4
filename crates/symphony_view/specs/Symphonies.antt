-- The bytes of Symphony: what each workstation told, the run, the members with their states and priorities, the
-- resources, and the prompts. Version 2 is for plans with a DEADLINE or a lateness, and tells what is late besides;
-- every other plan has version 1.
use Rattle.std.specs.List.{enumerate_from, list_any}
use Rattle.std.specs.Option.{option_map_or}
use Rattle.std.specs.Prelude.{[], if◌then◌else◌, ℕ, ◌++◌, ◌||◌, Bool, List, codes, false, flat_map, true}
use Rattle.model.specs.Types.{Events, Job, JobDoc, Net, Obj, PromptDef, Resource, Stream, StreamDoc}
use Rattle.model.specs.Words.{below}
use Rattle.model.specs.Network.{node_count}
use Rattle.model.specs.History.{View}
use Rattle.model.specs.Catalogue.{StreamJob, job, members, stream}
use Rattle.model.specs.Facts.{global_reply, launches, total}
use Rattle.model.specs.Dependencies.{used}
use Rattle.model.specs.Readiness.{job_priority, stream_priority}
use Rattle.model.specs.NewPlan.{last_run}
use Rattle.model.specs.States.{is_shown_late, job_state, stream_state}
use Rattle.model.specs.Versions.{doc_has_deadline}
use Rattle.model.specs.Fields.{flag_bytes, list_bytes, u16_bytes, u32_bytes, u64_bytes, u8_bytes}
use Rattle.model.specs.Spelling.{stream_doc_bytes}
use Rattle.symphony_view.specs.Cpus.{cpu_of}
use Rattle.symphony_view.specs.declared.cpus.Cpu.{Cpu}
use Rattle.symphony_view.specs.Words.{job_number, prompt_number, prompt_state, stream_number}

-- how many of a workstation's events are held, its fence and its limit
unfoldable pub settings_bytes : Cpu → List ℕ
settings_bytes c = u32_bytes c.held ++ u8_bytes c.fence ++ u16_bytes c.limit

-- its clock, and whether it is stopped
unfoldable pub clock_bytes : Cpu → List ℕ
clock_bytes c = u64_bytes c.clock ++ flag_bytes c.stopped

unfoldable pub fields_of : Cpu → List ℕ
fields_of c = settings_bytes c ++ clock_bytes c

-- by its events
unfoldable pub cpu_bytes : View → ℕ → List ℕ
cpu_bytes V w = fields_of (cpu_of (V (Events w)))

-- a stream has a DEADLINE of its own or of a job in its document, or it or one of its jobs is late
unfoldable pub is_timed : View → StreamDoc → Bool
is_timed V d =
    doc_has_deadline d || is_shown_late V (Stream d.no)
    || list_any (λ (j : JobDoc). is_shown_late V (Job j.no)) d.jobs

-- a member that is such a stream
unfoldable pub is_timed_member : View → ℕ → Bool
is_timed_member V s = option_map_or (is_timed V) (stream V s) false

-- version 2 is for plans with such a member
unfoldable pub is_second : View → Bool
is_second V = list_any (is_timed_member V) (members V)

-- the version, by whether it is the second; so below where a definition takes a Bool
abbrev pub version_of : Bool → ℕ
version_of true = 2
version_of false = 1

-- whether an object is late, which version 2 alone tells
unfoldable pub late_bytes : Bool → View → Obj → List ℕ
late_bytes second V o = if second then flag_bytes (is_shown_late V o) else []

-- a job's state, its launches, its priority, and whether it is late
unfoldable pub job_bytes : Bool → Net → View → StreamJob → List ℕ
job_bytes second net V p =
    u8_bytes (job_number (job_state net V p)) ++ u32_bytes (launches p.doc.no (V (Events p.doc.ws)))
    ++ u8_bytes (job_priority V p) ++ late_bytes second V (Job p.doc.no)

-- those of a job of a document, by its number: of several with one number the first of the catalogue is told
unfoldable pub numbered_job_bytes : Bool → Net → View → JobDoc → List ℕ
numbered_job_bytes second net V j = option_map_or (job_bytes second net V) (job V j.no) []

-- a stream's document, its state, its priority, whether it is late, and its jobs
unfoldable pub stream_bytes : Bool → Net → View → StreamDoc → List ℕ
stream_bytes second net V d =
    stream_doc_bytes d ++ u8_bytes (stream_number (stream_state net V d)) ++ u8_bytes (stream_priority V d)
    ++ late_bytes second V (Stream d.no) ++ flat_map (numbered_job_bytes second net V) d.jobs

-- those of a member
unfoldable pub member_bytes : Bool → Net → View → ℕ → List ℕ
member_bytes second net V s = option_map_or (stream_bytes second net V) (stream V s) []

-- the units of a resource that are in use, and its total
unfoldable pub resource_bytes : View → ℕ × Resource → List ℕ
resource_bytes V p = u64_bytes (used V p.1.ws p.0) ++ u16_bytes (total p.0 p.1.total (V (Events p.1.ws)))

-- what is known of a prompt
unfoldable pub prompt_bytes : View → ℕ × PromptDef → List ℕ
prompt_bytes V p = u8_bytes (prompt_number (prompt_state p.1.text (global_reply p.0 (V (Events 0)))))

-- the whole Symphony; the run is 0 without a plan
unfoldable pub symphony_of : Net → View → List ℕ
symphony_of net V =
    codes "TWSY" ++ u16_bytes (version_of (is_second V))
    ++ u16_bytes (node_count net) ++ flat_map (cpu_bytes V) (below (node_count net))
    ++ u32_bytes (last_run (V (Events 0)))
    ++ list_bytes (member_bytes (is_second V) net V) (members V)
    ++ list_bytes (resource_bytes V) (enumerate_from 1 net.resources)
    ++ list_bytes (prompt_bytes V) (enumerate_from 1 net.prompts)
