-- Dependencies, documents and drafts as they are read, part by part.
-- The number of a row is the choice that leads to it. Parts that may hold a DEADLINE are told whether the entry's
-- version is the second.
use Rattle.std.specs.Prelude.{◌==◌, ℕ, Bool, List, [], ◌∷◌, Option, nat_le, if◌then◌else◌}
use Rattle.std.specs.Int.{w8}
use Rattle.model.specs.Types.{Feed, Events, Orders, Obj, Job, Stream, OnUntil, Suppr, Cont, Canc, Dep, FollowsJob}
use Rattle.model.specs.Types.{FollowsStream, Needs, Prompt, At, Until, Outside, Global, Own, DraftDep, Follows}
use Rattle.model.specs.Types.{Plain, Work, Command, Script, Recovery, Eq, Ne, Lt, Le, Gt, Ge, CondOp, Cmp, And}
use Rattle.model.specs.Types.{Or, Not, JobDoc, StreamDoc, JobDraft, StreamDraft, Deadline}
use Rattle.entry_codec.specs.declared.reading.documents.Task.{Task}
use Rattle.entry_codec.specs.Read.{Reader, ◌>>=◌, and_then, gives, pair, one, two, three, four}
use Rattle.entry_codec.specs.Fields.{u8_at, u16_at, u32_at, u64_at, i32_at, number_with, text_at, choice_at, flag_at}
use Rattle.entry_codec.specs.Fields.{option_at, items_at, list_at, since_second}

-- the events of one workstation, or the orders of the first for the second
abbrev pub feed_rows : List (ℕ × Reader Feed)
feed_rows = (0, one u16_at Events) ∷ (1, two u16_at u16_at Orders) ∷ []

unfoldable pub feed_at : Reader Feed
feed_at = choice_at feed_rows

-- a job or a stream
abbrev pub obj_rows : List (ℕ × Reader Obj)
obj_rows = (0, one u32_at Job) ∷ (1, one u32_at Stream) ∷ []

unfoldable pub obj_at : Reader Obj
obj_at = choice_at obj_rows

-- what a passed UNTIL does
abbrev pub until_rows : List (ℕ × Reader OnUntil)
until_rows = (0, gives Suppr) ∷ (1, gives Cont) ∷ (2, gives Canc) ∷ []

unfoldable pub until_at : Reader OnUntil
until_at = choice_at until_rows

-- a dependency; a DEADLINE stands in version 2 alone
abbrev pub dep_rows : Bool → List (ℕ × Reader Dep)
dep_rows second =
    (1, one u32_at FollowsJob)
    ∷ (2, one u32_at FollowsStream)
    ∷ (3, two u16_at u16_at Needs)
    ∷ (4, one u16_at (λ p. Prompt (Global p)))
    ∷ (5, one text_at (λ text. Prompt (Own text)))
    ∷ (6, one u64_at At)
    ∷ (7, two u64_at until_at Until)
    ∷ (8, one text_at Outside)
    ∷ since_second second ((9, one u64_at Deadline) ∷ [])

unfoldable pub dep_at : Bool → Reader Dep
dep_at second = choice_at (dep_rows second)

-- 0 and names, or a dependency
unfoldable pub draft_dep_at : Bool → Reader DraftDep
draft_dep_at second bytes p =
    and_then (u8_at bytes p) (λ n.
    if n.0 == 0 then three u16_at text_at (option_at text_at) Follows bytes n.1
    else one (dep_at second) Plain bytes p)

-- an operation of a condition
abbrev pub op_rows : List (ℕ × Reader CondOp)
op_rows =
    (0, one i32_at (Cmp Eq))
    ∷ (1, one i32_at (Cmp Ne))
    ∷ (2, one i32_at (Cmp Lt))
    ∷ (3, one i32_at (Cmp Le))
    ∷ (4, one i32_at (Cmp Gt))
    ∷ (5, one i32_at (Cmp Ge))
    ∷ (6, gives And)
    ∷ (7, gives Or)
    ∷ (8, gives Not)
    ∷ []

unfoldable pub op_at : Reader CondOp
op_at = choice_at op_rows

-- a count of at most 64 in one byte, and the operations
unfoldable pub cond_at : Reader (List CondOp)
cond_at = do
  n ← number_with w8 (λ n. nat_le n 64)
  items_at op_at n

-- what a job runs
abbrev pub work_rows : List (ℕ × Reader Work)
work_rows = (0, one text_at Command) ∷ (1, one text_at Script) ∷ []

unfoldable pub work_at : Reader Work
work_at = choice_at work_rows

-- what follows a bad end
abbrev pub recovery_rows : List (ℕ × Reader Recovery)
recovery_rows = (0, gives Recovery.Stop) ∷ (1, gives Recovery.Continue) ∷ (2, gives Recovery.Rerun) ∷ []

unfoldable pub recovery_at : Reader Recovery
recovery_at = choice_at recovery_rows

-- what documents and drafts begin with: the workstation, the name and the priority
abbrev pub Named : Type 0
Named = (ℕ × List ℕ) × ℕ

abbrev pub named_at : Reader Named
named_at = pair (pair u16_at text_at) u8_at

-- what streams begin with: that, the limit, and whether an unfinished stream is carried
abbrev pub Front : Type 0
Front = (Named × Option ℕ) × Bool

abbrev pub front_at : Reader Front
front_at = pair (pair named_at (option_at u16_at)) flag_at

-- what a job runs, for whom, and what its end means
unfoldable pub task_at : Reader Task
task_at = do
  run ← pair work_at text_at
  ops ← cond_at
  recovery ← recovery_at
  gives (record { work = run.0; logon = run.1; cond = ops; recovery = recovery })

-- a job's document
abbrev pub job_of : ℕ → Named → Task → List Dep → JobDoc
job_of number named task deps =
    record {
      no = number;
      ws = named.0.0;
      name = named.0.1;
      priority = named.1;
      work = task.work;
      logon = task.logon;
      cond = task.cond;
      recovery = task.recovery;
      deps = deps;
    }

unfoldable pub job_at : Bool → Reader JobDoc
job_at second = four u32_at named_at task_at (list_at (dep_at second)) job_of

-- a stream's document
abbrev pub stream_of : ℕ → Front → List Dep → List JobDoc → StreamDoc
stream_of number front deps jobs =
    record {
      no = number;
      ws = front.0.0.0.0;
      name = front.0.0.0.1;
      priority = front.0.0.1;
      limit = front.0.1;
      carry = front.1;
      deps = deps;
      jobs = jobs;
    }

unfoldable pub stream_at : Bool → Reader StreamDoc
stream_at second = four u32_at front_at (list_at (dep_at second)) (list_at (job_at second)) stream_of

-- a job's draft: a document without its number
abbrev pub job_draft_of : Named → Task → List DraftDep → JobDraft
job_draft_of named task deps =
    record {
      ws = named.0.0;
      name = named.0.1;
      priority = named.1;
      work = task.work;
      logon = task.logon;
      cond = task.cond;
      recovery = task.recovery;
      deps = deps;
    }

unfoldable pub job_draft_at : Bool → Reader JobDraft
job_draft_at second = three named_at task_at (list_at (draft_dep_at second)) job_draft_of

-- a stream's draft likewise
abbrev pub stream_draft_of : Front → List DraftDep → List JobDraft → StreamDraft
stream_draft_of front deps jobs =
    record {
      ws = front.0.0.0.0;
      name = front.0.0.0.1;
      priority = front.0.0.1;
      limit = front.0.1;
      carry = front.1;
      deps = deps;
      jobs = jobs;
    }

unfoldable pub stream_draft_at : Bool → Reader StreamDraft
stream_draft_at second =
    three front_at (list_at (draft_dep_at second)) (list_at (job_draft_at second)) stream_draft_of
