-- What the names of workstations, domains, calendars, prompts, resources and jobs stand for: the place of the first
-- definition of that name, counted from 0.
use Rattle.std.specs.Prelude.{ℕ, Bool, ◌&&◌, List, Option, map}
use Rattle.std.specs.List.{position_from}
use Rattle.std.specs.Str.{bytes_eq}
use Rattle.base_types.specs.declared.PromptDef.{PromptDef}
use Rattle.composer_parser.specs.declared.Lined.{Lined}
use Rattle.composer_parser.specs.declared.Defs.{Defs}
use Rattle.composer_parser.specs.declared.CpuDef.{CpuDef}
use Rattle.composer_parser.specs.declared.DomainDef.{DomainDef}
use Rattle.composer_parser.specs.declared.CalendarDef.{CalendarDef}
use Rattle.composer_parser.specs.declared.ResourceDef.{ResourceDef}
use Rattle.composer_parser.specs.declared.JobDef.{JobDef}

-- the place of the first of these names that is this one
abbrev pub first_of : List (List ℕ) → List ℕ → Option ℕ
first_of names name = position_from (bytes_eq name) 0 names

-- and of these names on workstations
abbrev pub is_pair : List ℕ → List ℕ → List ℕ × List ℕ → Bool
is_pair ws name p = bytes_eq ws p.0 && bytes_eq name p.1

abbrev pub first_on : List (List ℕ × List ℕ) → List ℕ → List ℕ → Option ℕ
first_on names ws name = position_from (is_pair ws name) 0 names

-- the names of each kind, in the order of the text
abbrev pub cpu_names : Defs → List (List ℕ)
cpu_names d = map (λ (c : Lined CpuDef). c.item.name) d.cpus

abbrev pub domain_names : Defs → List (List ℕ)
domain_names d = map (λ (x : Lined DomainDef). x.item.name) d.domains

abbrev pub calendar_names : Defs → List (List ℕ)
calendar_names d = map (λ (c : Lined CalendarDef). c.item.name) d.calendars

abbrev pub prompt_names : Defs → List (List ℕ)
prompt_names d = map (λ (p : Lined PromptDef). p.item.name) d.prompts

abbrev pub resource_names : Defs → List (List ℕ × List ℕ)
resource_names d = map (λ (r : Lined ResourceDef). (r.item.ws, r.item.name)) d.resources

abbrev pub job_names : Defs → List (List ℕ × List ℕ)
job_names d = map (λ (j : Lined JobDef). (j.item.ws, j.item.name)) d.jobs

-- what a name stands for
abbrev pub cpu_at : Defs → List ℕ → Option ℕ
cpu_at d name = first_of (cpu_names d) name

abbrev pub domain_at : Defs → List ℕ → Option ℕ
domain_at d name = first_of (domain_names d) name

abbrev pub calendar_at : Defs → List ℕ → Option ℕ
calendar_at d name = first_of (calendar_names d) name

abbrev pub prompt_at : Defs → List ℕ → Option ℕ
prompt_at d name = first_of (prompt_names d) name

abbrev pub resource_at : Defs → List ℕ → List ℕ → Option ℕ
resource_at d ws name = first_on (resource_names d) ws name

abbrev pub job_at : Defs → List ℕ → List ℕ → Option ℕ
job_at d ws name = first_on (job_names d) ws name
