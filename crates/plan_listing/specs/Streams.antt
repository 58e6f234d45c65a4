-- The lines of streams and of their jobs: what differs from the defaults.
use Rattle.std.specs.Prelude.{ℕ, Bool, ◌==◌, List, ◌++◌, length, codes, flat_map, Option, Some, None, if◌then◌else◌}
use Rattle.std.specs.Fmt.{decimal}
use Rattle.model.specs.Types.{Net, Work, Command, Script, Recovery, JobDraft, StreamDraft}
use Rattle.base_types.specs.declared.Recovery.TheVariants.{Stop, Continue, Rerun}
use Rattle.report_text.specs.Names.{name_of}
use Rattle.syntax.specs.Quotes.{quoted_text}
use Rattle.plan_listing.specs.Conditions.{cond_text}
use Rattle.plan_listing.specs.Dependencies.{draft_dep_line}

-- ` prio N` where the priority is not 10, ` limit N` where there is one, and ` carry`
abbrev pub priority_part : ℕ → List ℕ
priority_part n = if n == 10 then codes "" else codes " prio " ++ decimal n

abbrev pub limit_part : Option ℕ → List ℕ
limit_part None = codes ""
limit_part (Some n) = codes " limit " ++ decimal n

abbrev pub carry_mark : Bool → List ℕ
carry_mark carry = if carry then codes " carry" else codes ""

-- `do "TEXT"`, which the empty command has not, or `script "TEXT"`
abbrev pub command_line : List ℕ → List ℕ
command_line text = if length text == 0 then codes "" else codes "do " ++ quoted_text text ++ codes "\n"

abbrev pub work_line : Work → List ℕ
work_line (Command text) = command_line text
work_line (Script path) = codes "script " ++ quoted_text path ++ codes "\n"

-- `logon "TEXT"` where there is one
abbrev pub logon_line : List ℕ → List ℕ
logon_line logon = if length logon == 0 then codes "" else codes "logon " ++ quoted_text logon ++ codes "\n"

-- `succ "COND"` where the condition is not the empty one
abbrev pub cond_line : Bool → List ℕ → List ℕ
cond_line is_default text = if is_default then codes "" else codes "succ " ++ quoted_text text ++ codes "\n"

-- `recovery continue` or `recovery rerun`
abbrev pub recovery_line : Recovery → List ℕ
recovery_line Stop = codes ""
recovery_line Continue = codes "recovery continue\n"
recovery_line Rerun = codes "recovery rerun\n"

-- the first line of a job
unfoldable pub job_head : Net → JobDraft → List ℕ
job_head net j = codes "job " ++ name_of net j.ws ++ codes " " ++ j.name ++ priority_part j.priority ++ codes "\n"

-- what it runs, where its condition has this text
unfoldable pub job_body : JobDraft → List ℕ → List ℕ
job_body j cond =
    work_line j.work ++ logon_line j.logon ++ cond_line (length j.cond == 0) cond ++ recovery_line j.recovery

-- and its dependencies
unfoldable pub job_lines : Net → JobDraft → List ℕ → List ℕ
job_lines net j cond = job_head net j ++ job_body j cond ++ flat_map (draft_dep_line net) j.deps

abbrev pub job_text : Net → JobDraft → List ℕ
job_text net j = job_lines net j (cond_text j.cond)

-- the first line of a stream
unfoldable pub stream_head : Net → StreamDraft → List ℕ
stream_head net s =
    codes "stream " ++ name_of net s.ws ++ codes " " ++ s.name
    ++ priority_part s.priority ++ limit_part s.limit ++ carry_mark s.carry ++ codes "\n"

-- and its dependencies
unfoldable pub stream_lines : Net → StreamDraft → List ℕ
stream_lines net s = stream_head net s ++ flat_map (draft_dep_line net) s.deps

-- with its jobs
unfoldable pub stream_text : Net → StreamDraft → List ℕ
stream_text net s = stream_lines net s ++ flat_map (job_text net) s.jobs
