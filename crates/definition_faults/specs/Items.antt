-- The faults of workstations, domains, calendars, prompts, resources and jobs. Each table has what an item is tested for,
-- in the order of the kinds. A name that is defined twice is a fault of the later item, whose name stands for an earlier.
use Rattle.std.specs.Prelude.{ℕ, Bool, false, ◌&&◌, ◌||◌, not, ◌==◌, nat_lt, List, [], ◌∷◌, length, map, is_none, Option}
use Rattle.std.specs.Prelude.{flat_map}
use Rattle.std.specs.List.{enumerate_from, list_any}
use Rattle.std.specs.Option.{option_map_or}
use Rattle.base_types.specs.declared.PromptDef.{PromptDef}
use Rattle.composer_parser.specs.declared.Lined.{Lined}
use Rattle.composer_parser.specs.declared.Defs.{Defs}
use Rattle.composer_parser.specs.declared.CpuDef.{CpuDef}
use Rattle.composer_parser.specs.declared.DomainDef.{DomainDef}
use Rattle.composer_parser.specs.declared.CalendarDef.{CalendarDef}
use Rattle.composer_parser.specs.declared.ResourceDef.{ResourceDef}
use Rattle.composer_parser.specs.declared.JobDef.{JobDef}
use Rattle.model.specs.Words.{below, some_is}
use Rattle.definition_names.specs.Names.{cpu_at, domain_at, calendar_at, prompt_at, resource_at, job_at}
use Rattle.definition_faults.specs.Orders.{faults_at}
use Rattle.definition_faults.specs.Chains.{ends}
use Rattle.definition_faults.specs.declared.kinds.Kind.{Kind}
use Rattle.definition_faults.specs.declared.kinds.Kind.TheVariants.{Duplicate, UnknownName, OutOfRange, Tree}
use Rattle.definition_faults.specs.declared.kinds.Fault.{Fault}

-- the name of the item at this place stands for another, which is the first of that name
abbrev pub is_later : Option ℕ → ℕ → Bool
is_later first i = not (some_is first i)

-- a port is from 1 to 65535
abbrev pub is_bad_port : Option ℕ → Bool
is_bad_port port = option_map_or (λ n. nat_lt n 1 || nat_lt 65535 n) port false

-- a workstation: its name, its domain, its port; the 257th is one too many
abbrev pub cpu_rows : Defs → ℕ → CpuDef → List (Bool × Kind)
cpu_rows d i c =
    (is_later (cpu_at d c.name) i, Duplicate)
    ∷ (is_none (domain_at d c.domain), UnknownName)
    ∷ ((i == 256) || is_bad_port c.port, OutOfRange)
    ∷ []

unfoldable pub cpu_faults : Defs → List Fault
cpu_faults d =
    flat_map (λ (p : ℕ × Lined CpuDef). faults_at p.1.line (cpu_rows d p.0 p.1.item)) (enumerate_from 0 d.cpus)

-- some domain has no parent
abbrev pub has_top : Defs → Bool
has_top d = list_any (λ (x : Lined DomainDef). is_none x.item.parent) d.domains

abbrev pub lacks_parent : Defs → DomainDef → Bool
lacks_parent d x = option_map_or (λ parent. is_none (domain_at d parent)) x.parent false

-- a domain: its name, its manager and its parent, and whether its chain strays
abbrev pub domain_rows : Defs → ℕ → Bool → DomainDef → List (Bool × Kind)
domain_rows d i strays x =
    (is_later (domain_at d x.name) i, Duplicate)
    ∷ (is_none (cpu_at d x.manager) || lacks_parent d x, UnknownName)
    ∷ (strays, Tree)
    ∷ []

-- where some domain has no parent, a chain strays that does not end at such a one
abbrev pub strays : Defs → ℕ → Bool
strays d i = has_top d && not (ends d i)

unfoldable pub domain_faults : Defs → List Fault
domain_faults d =
    flat_map (λ (p : ℕ × Lined DomainDef). faults_at p.1.line (domain_rows d p.0 (strays d p.0) p.1.item))
    (enumerate_from 0 d.domains)

-- a calendar: its name
abbrev pub calendar_rows : Defs → ℕ → CalendarDef → List (Bool × Kind)
calendar_rows d i c = (is_later (calendar_at d c.name) i, Duplicate) ∷ []

unfoldable pub calendar_faults : Defs → List Fault
calendar_faults d =
    flat_map (λ (p : ℕ × Lined CalendarDef). faults_at p.1.line (calendar_rows d p.0 p.1.item))
    (enumerate_from 0 d.calendars)

-- a prompt: its name; the 65,536th is one too many
abbrev pub prompt_rows : Defs → ℕ → PromptDef → List (Bool × Kind)
prompt_rows d i x = (is_later (prompt_at d x.name) i, Duplicate) ∷ (i == 65535, OutOfRange) ∷ []

unfoldable pub prompt_faults : Defs → List Fault
prompt_faults d =
    flat_map (λ (p : ℕ × Lined PromptDef). faults_at p.1.line (prompt_rows d p.0 p.1.item))
    (enumerate_from 0 d.prompts)

-- a resource: its name on its workstation, that workstation, its total; the 65,536th is one too many
abbrev pub resource_rows : Defs → ℕ → ResourceDef → List (Bool × Kind)
resource_rows d i r =
    (is_later (resource_at d r.ws r.name) i, Duplicate)
    ∷ (is_none (cpu_at d r.ws), UnknownName)
    ∷ ((i == 65535) || nat_lt 1024 r.total, OutOfRange)
    ∷ []

unfoldable pub resource_faults : Defs → List Fault
resource_faults d =
    flat_map (λ (p : ℕ × Lined ResourceDef). faults_at p.1.line (resource_rows d p.0 p.1.item))
    (enumerate_from 0 d.resources)

-- a job: its name on its workstation, and that workstation
abbrev pub job_rows : Defs → ℕ → JobDef → List (Bool × Kind)
job_rows d i j =
    (is_later (job_at d j.ws j.name) i, Duplicate) ∷ (is_none (cpu_at d j.ws), UnknownName) ∷ []

unfoldable pub job_faults : Defs → List Fault
job_faults d =
    flat_map (λ (p : ℕ × Lined JobDef). faults_at p.1.line (job_rows d p.0 p.1.item)) (enumerate_from 0 d.jobs)
