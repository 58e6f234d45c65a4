-- The plans of a record: drafts of streams with their jobs and dependencies.
use Rattle.std.specs.Prelude.{ℕ, ◌||◌, Bool, List, [], ◌∷◌, Option, Some, None, Result, Ok, Err, map, filter_map, length, nat_lt, if◌then◌else◌}
use Rattle.std.specs.Option.{option_map_or}
use Rattle.model.specs.Types.{StreamDraft, JobDraft, DraftDep, Follows, Plain, Needs, Prompt, Global, Own, At, Until}
use Rattle.model.specs.Types.{Outside, Deadline, Work, Command, Script, CondOp, Recovery}
use Rattle.rc_conditions.specs.Machine.{read_of}
use Rattle.rc_conditions.specs.declared.CondFault.{CondFault}
use Rattle.record_rows.specs.declared.rows.Row.{Row}
use Rattle.record_rows.specs.declared.rows.Row.TheVariants as row
use Rattle.record_rows.specs.declared.rows.PartRow.TheVariants as part
use Rattle.record_rows.specs.declared.rows.DepRow.{DepRow}
use Rattle.record_rows.specs.declared.rows.DepRow.TheVariants as dep
use Rattle.record_rows.specs.declared.rows.StreamRow.{StreamRow}
use Rattle.record_rows.specs.declared.rows.JobRow.{JobRow}
use Rattle.record_faults.specs.Known.{until, begins_stream, is_object, is_plan, is_steps}
use Rattle.record_script.specs.Numbers.{Numbered, numbered, ws_no, resource_no, prompt_no, within}
use Rattle.record_script.specs.Networks.{first_or}

-- What is picked of each row, with the rows behind it.
abbrev pub each : {A : Type 0} → (Row → Option A) → List Row → List (A × List Row)
each pick [] = []
each pick (r ∷ rows) = option_map_or (λ a. (a, rows) ∷ each pick rows) (pick r) (each pick rows)

-- The parts of a job.

abbrev pub work_in : Row → Option Work
work_in (row.Part (part.Command t)) = Some (Command (within [] t))
work_in (row.Part (part.Script t)) = Some (Script (within [] t))
work_in r = None

abbrev pub logon_in : Row → Option (List ℕ)
logon_in (row.Part (part.Logon t)) = Some (within [] t)
logon_in r = None

abbrev pub operations : Result (List CondOp) CondFault → List CondOp
operations (Ok ops) = ops
operations (Err f) = []

-- what a text of at most 4,096 bytes says
abbrev pub condition : List ℕ → List CondOp
condition t = if nat_lt 4096 (length t) then [] else operations (read_of t)

abbrev pub cond_in : Row → Option (List CondOp)
cond_in (row.Part (part.Cond t)) = Some (condition (within [] t))
cond_in r = None

abbrev pub recovery_in : Row → Option Recovery
recovery_in (row.Part (part.Recovery r)) = Some r
recovery_in r = None

-- A dependency of an object on this workstation, in this stream.
unfoldable pub draft_of : Numbered → StreamRow → List ℕ → DepRow → DraftDep
draft_of n s ws (dep.At t) = Plain (At (within 0 t))
draft_of n s ws (dep.Until t passed) = Plain (Until (within 0 t) passed)
draft_of n s ws (dep.Deadline t) = Plain (Deadline (within 0 t))
draft_of n s ws (dep.FollowsStream w name) = Follows (ws_no n w) name None
draft_of n s ws (dep.FollowsJob w name job) = Follows (ws_no n w) name (Some job)
draft_of n s ws (dep.FollowsOwn job) = Follows (ws_no n s.ws) s.name (Some job)
draft_of n s ws (dep.Needs units name) = Plain (Needs (resource_no n (ws, name)) (within 0 units))
draft_of n s ws (dep.AskGlobal name) = Plain (Prompt (Global (prompt_no n name)))
draft_of n s ws (dep.AskOwn t) = Plain (Prompt (Own (within [] t)))
draft_of n s ws (dep.Opens t) = Plain (Outside (within [] t))

abbrev pub dep_in : Numbered → StreamRow → List ℕ → Row → Option DraftDep
dep_in n s ws (row.Dep d) = Some (draft_of n s ws d)
dep_in n s ws r = None

-- A job, with the rows behind it: its own are those up to the next object. Without `do` and `script` it has the empty
-- command, without `logon` the empty user, without `succ` the empty condition, without `recovery` Stop.
unfoldable pub job_draft : Numbered → StreamRow → JobRow → List Row → JobDraft
job_draft n s j behind =
    record {
      ws = ws_no n j.ws;
      name = j.name;
      priority = within 0 j.priority;
      work = first_or (Command []) work_in (until is_object behind);
      logon = first_or [] logon_in (until is_object behind);
      cond = first_or [] cond_in (until is_object behind);
      recovery = first_or Recovery.Stop recovery_in (until is_object behind);
      deps = filter_map (dep_in n s j.ws) (until is_object behind);
    }

abbrev pub job_in : Row → Option JobRow
job_in (row.Job j) = Some j
job_in r = None

abbrev pub stream_in : Row → Option StreamRow
stream_in (row.Stream s) = Some s
stream_in r = None

-- the jobs among rows of a stream
abbrev pub jobs_in : Numbered → StreamRow → List Row → List JobDraft
jobs_in n s rows = map (λ (p : JobRow × List Row). job_draft n s p.0 p.1) (each job_in rows)

-- A stream, with the rows behind it: its own are those up to the next stream or section.
unfoldable pub stream_draft : Numbered → StreamRow → List Row → StreamDraft
stream_draft n s behind =
    record {
      ws = ws_no n s.ws;
      name = s.name;
      priority = within 0 s.priority;
      limit = within None s.limit;
      carry = s.carry;
      deps = filter_map (dep_in n s s.ws) (until is_object (until begins_stream behind));
      jobs = jobs_in n s (until begins_stream behind);
    }

-- the streams among rows of a section
abbrev pub streams_in : Numbered → List Row → List StreamDraft
streams_in n rows = map (λ (p : StreamRow × List Row). stream_draft n p.0 p.1) (each stream_in rows)

abbrev pub ends_section : Row → Bool
ends_section r = is_plan r || is_steps r

abbrev pub section_in : Row → Option (Unit {0})
section_in row.Plan = Some tt
section_in r = None

-- The plans, one for each section, which goes up to the next one or to the steps.
abbrev pub plans_with : Numbered → List Row → List (List StreamDraft)
plans_with n rows =
    map (λ (p : Unit {0} × List Row). streams_in n (until ends_section p.1)) (each section_in rows)

abbrev pub plans_of : List Row → List (List StreamDraft)
plans_of rows = plans_with (numbered rows) rows
