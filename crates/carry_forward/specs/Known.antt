-- The streams that a FOLLOWS may name, and the index that is kept of them.
use Rattle.std.specs.Map.{lookup}
use Rattle.std.specs.Borrow.{Bor}
use Rattle.std.specs.Prelude.{ℕ, ◌&&◌, ◌==◌, ◌≡◌, List, Option, find, map, option_map}
use Rattle.std.specs.Str.{bytes_eq}
use Rattle.model.specs.Types.{JobDoc, JobDraft}
use Rattle.model.specs.Equalities.{text_eq}
use Rattle.model.specs.NewPlan.{Named, NamedJob, resolve_job, resolve_stream}
use Rattle.carry_forward.specs.declared.names.Target.{Target}

-- fresh streams, and earlier ones, which count where no fresh one has the name
pub record Known : Type 0 where
  pub fresh : List Named
  pub earlier : List Named

-- a job as names see it
abbrev pub named_job : List ℕ → ℕ → NamedJob
named_job name number = record { name = name; number = number }

-- the jobs of a document as names see them
abbrev pub named_jobs : List JobDoc → List NamedJob
named_jobs docs = map (λ (j : JobDoc). record { name = j.name; number = j.no }) docs

-- and those of a draft, with their numbers
abbrev pub numbered_jobs : List (ℕ × JobDraft) → List NamedJob
numbered_jobs drafts = map (λ (p : ℕ × JobDraft). record { name = p.1.name; number = p.0 }) drafts

-- the number that an index has at a job's name
abbrev pub job_at : List (Bor (List ℕ) × ℕ) → List ℕ → Option ℕ
job_at index name = lookup (λ (k : Bor (List ℕ)). bytes_eq name k.now) index

-- the index has the first job of each name
abbrev pub AreJobsOf : List (Bor (List ℕ) × ℕ) → List NamedJob → Type 0
AreJobsOf index jobs =
    (name : List ℕ) → job_at index name
    ≡ option_map (λ (j : NamedJob). j.number) (find (λ (j : NamedJob). text_eq j.name name) jobs)

-- what a name tells of a stream: its number, and the numbers of its jobs by their names
abbrev pub Told : Type 0
Told = ℕ × (List ℕ → Option ℕ)

abbrev pub told_named : Named → Told
told_named s = (s.number, λ name. resolve_job name s)

abbrev pub told_target : Target → Told
told_target t = (t.number, job_at t.jobs.entries)

-- the target stands for the stream
abbrev pub IsTarget : Target → Named → Type 0
IsTarget t s = told_target t ≡ told_named s

-- what an index has at a workstation and name
abbrev pub told_at : List ((ℕ × Bor (List ℕ)) × Target) → ℕ → List ℕ → Option Told
told_at index w name =
    option_map told_target (lookup (λ (k : ℕ × Bor (List ℕ)). (w == k.0) && bytes_eq name k.1.now) index)

-- the index has the stream that each workstation and name resolves to
abbrev pub IsIndexOf : List ((ℕ × Bor (List ℕ)) × Target) → List Named → List Named → Type 0
IsIndexOf index fresh earlier =
    (w : ℕ) (name : List ℕ) → told_at index w name ≡ option_map told_named (resolve_stream fresh earlier w name)
