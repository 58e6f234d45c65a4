-- The listing of a plan: its run, the workstations that told something, the resources, the prompts, and the members with
-- their jobs, each a line.
use Rattle.std.specs.Fmt.{decimal}
use Rattle.std.specs.List.{enumerate_from}
use Rattle.std.specs.Option.{option_map_or}
use Rattle.std.specs.Prelude.{[], if◌then◌else◌, ℕ, ◌++◌, ◌==◌, List, codes, flat_map}
use Rattle.model.specs.Types.{Events, Job, JobDoc, Net, PromptDef, Resource, Stream, StreamDoc}
use Rattle.model.specs.Words.{below}
use Rattle.model.specs.Network.{node_count}
use Rattle.model.specs.History.{View}
use Rattle.model.specs.Catalogue.{StreamJob, has_plan, job, members, stream}
use Rattle.model.specs.Facts.{global_reply, launches, total}
use Rattle.model.specs.Dependencies.{used}
use Rattle.model.specs.NewPlan.{last_run}
use Rattle.model.specs.States.{is_shown_late, job_state, stream_state}
use Rattle.report_text.specs.Names.{name_of}
use Rattle.symphony_view.specs.Cpus.{cpu_of}
use Rattle.symphony_view.specs.declared.cpus.Cpu.{Cpu}
use Rattle.symphony_view.specs.Words.{activity_word, job_word, late_word, prompt_state, prompt_word, stream_word}

-- `plan RUN`, or `no plan`
unfoldable pub plan_line : View → List ℕ
plan_line V =
    if has_plan V then codes "plan " ++ decimal (last_run (V (Events 0))) ++ codes "\n" else codes "no plan\n"

-- `cpu W fence F limit L`
unfoldable pub settings_text : List ℕ → Cpu → List ℕ
settings_text name c = codes "cpu " ++ name ++ codes " fence " ++ decimal c.fence ++ codes " limit " ++ decimal c.limit

-- ` clock T running`, or `stopped`
unfoldable pub clock_text : Cpu → List ℕ
clock_text c = codes " clock " ++ decimal c.clock ++ codes " " ++ activity_word c.stopped ++ codes "\n"

-- both, where an event of the workstation is held
unfoldable pub told_line : List ℕ → Cpu → List ℕ
told_line name c = if c.held == 0 then codes "" else settings_text name c ++ clock_text c

-- by the events of the workstation
unfoldable pub cpu_line : Net → View → ℕ → List ℕ
cpu_line net V w = told_line (name_of net w) (cpu_of (V (Events w)))

-- `resource W#R used U total T`
unfoldable pub resource_line : Net → View → ℕ × Resource → List ℕ
resource_line net V p =
    let r = p.1 in
    codes "resource " ++ name_of net r.ws ++ codes "#" ++ r.name ++ codes " used " ++ decimal (used V r.ws p.0)
    ++ codes " total " ++ decimal (total p.0 r.total (V (Events r.ws))) ++ codes "\n"

-- `prompt NAME waiting`, or `yes`, `no`, `shown`
unfoldable pub prompt_line : View → ℕ × PromptDef → List ℕ
prompt_line V p =
    codes "prompt " ++ p.1.name ++ codes " "
    ++ prompt_word (prompt_state p.1.text (global_reply p.0 (V (Events 0)))) ++ codes "\n"

-- `stream NO W#NAME STATE`, and ` late` where it is
unfoldable pub stream_line : Net → View → StreamDoc → List ℕ
stream_line net V d =
    codes "stream " ++ decimal d.no ++ codes " " ++ name_of net d.ws ++ codes "#" ++ d.name ++ codes " "
    ++ stream_word (stream_state net V d) ++ late_word (is_shown_late V (Stream d.no)) ++ codes "\n"

-- `job NO W#STREAM.JOB STATE LAUNCHES`, and ` late` where it is
unfoldable pub job_line : Net → View → StreamJob → List ℕ
job_line net V p =
    codes "job " ++ decimal p.doc.no ++ codes " " ++ name_of net p.parent.ws ++ codes "#" ++ p.parent.name
    ++ codes "." ++ p.doc.name ++ codes " " ++ job_word (job_state net V p) ++ codes " "
    ++ decimal (launches p.doc.no (V (Events p.doc.ws))) ++ late_word (is_shown_late V (Job p.doc.no)) ++ codes "\n"

-- a job of a document, by its number: of several with one number the first of the catalogue is told
unfoldable pub numbered_job_line : Net → View → JobDoc → List ℕ
numbered_job_line net V j = option_map_or (job_line net V) (job V j.no) []

-- a stream and its jobs
unfoldable pub stream_lines : Net → View → StreamDoc → List ℕ
stream_lines net V d = stream_line net V d ++ flat_map (numbered_job_line net V) d.jobs

-- those of a member
unfoldable pub member_lines : Net → View → ℕ → List ℕ
member_lines net V s = option_map_or (stream_lines net V) (stream V s) []

-- the whole listing
unfoldable pub listing_of : Net → View → List ℕ
listing_of net V =
    plan_line V
    ++ flat_map (cpu_line net V) (below (node_count net))
    ++ flat_map (resource_line net V) (enumerate_from 1 net.resources)
    ++ flat_map (prompt_line V) (enumerate_from 1 net.prompts)
    ++ flat_map (member_lines net V) (members V)
