-- The grammar of composer definitions.
use Rattle.std.specs.Prelude.{ℕ, List, [], ◌∷◌, ◌++◌, codes, Option, Some, None}
use Rattle.base_types.specs.declared.network.PromptDef.{PromptDef}
use Rattle.base_types.specs.declared.network.Carry.{Carry}
use Rattle.base_types.specs.declared.network.Carry.TheVariants as carries
use Rattle.composer_parser.specs.Kinds.{a_name, a_placed, Spelled}
use Rattle.composer_parser.specs.Grammars.{Grammar, one, many}
use Rattle.composer_parser.specs.Parts.{◌⊛◌, ◌or◌, made, key, text, number, time, date, bytes_of, upper, own_of, lined, always, any_number}
use Rattle.composer_parser.specs.Words.{before}
use Rattle.composer_parser.specs.Stations.{cpu, domain}
use Rattle.composer_parser.specs.Works.{work}
use Rattle.composer_parser.specs.Schedules.{schedule}
use Rattle.composer_parser.specs.declared.definitions.Lined.{Lined}
use Rattle.composer_parser.specs.declared.definitions.Defs.{Defs}
use Rattle.composer_parser.specs.declared.definitions.CalendarDef.{CalendarDef}
use Rattle.composer_parser.specs.declared.definitions.ResourceDef.{ResourceDef}
use Rattle.composer_parser.specs.declared.definitions.JobDef.{JobDef}
use Rattle.composer_parser.specs.declared.definitions.WorkDef.{WorkDef}
use Rattle.composer_parser.specs.declared.options.Options.{Options}
use Rattle.composer_parser.specs.declared.statements.Statement.{Statement}
use Rattle.composer_parser.specs.declared.statements.Statement.TheVariants.{Cpu, Domain, Calendars, Prompts, Resources, Jobs, Schedule}

-- [ $OPTIONS [STARTOFDAY time] [TIMEZONE text] [ENCARRYFORWARD (YES|NO|ALL)] ]
unfoldable pub start_of_day : Grammar (Option (Lined ℕ))
start_of_day = (made (λ l t. Some (lined l t)) ⊛ key (codes "STARTOFDAY") ⊛ time) or made None

unfoldable pub time_zone : Grammar (Option (Lined (List ℕ)))
time_zone = (made (λ l t. Some (lined l t)) ⊛ key (codes "TIMEZONE") ⊛ text) or made None

unfoldable pub carry_word : Grammar Carry
carry_word =
    (made (λ x. carries.Yes) ⊛ key (codes "YES")) or (made (λ x. carries.No) ⊛ key (codes "NO"))
    or (made (λ x. carries.All) ⊛ key (codes "ALL"))

unfoldable pub carry_forward : Grammar (Option (Lined Carry))
carry_forward = (made (λ l c. Some (lined l c)) ⊛ key (codes "ENCARRYFORWARD") ⊛ carry_word) or made None

abbrev pub options_of : Option (Lined ℕ) → Option (Lined (List ℕ)) → Option (Lined Carry) → Options
options_of s z c = record { start = s; zone = z; carry = c }

unfoldable pub options : Grammar Options
options =
    (made (λ x s z c. options_of s z c) ⊛ key (codes "$OPTIONS") ⊛ start_of_day ⊛ time_zone ⊛ carry_forward)
    or made (options_of None None None)

-- $CALENDAR calendar..., with calendar = name [text] date...
unfoldable pub a_text_or_none : Grammar (Option (List ℕ))
a_text_or_none = (made Some ⊛ text) or made None

unfoldable pub dates : Grammar (List ℕ)
dates = any_number date

abbrev pub calendar_of : Spelled → Option (List ℕ) → List ℕ → Lined CalendarDef
calendar_of t x ds = lined t.line (record { name = upper (bytes_of t.shape); text = x; days = ds })

unfoldable pub calendar : Grammar (Lined CalendarDef)
calendar = made calendar_of ⊛ one a_name (λ t. t) ⊛ a_text_or_none ⊛ dates

unfoldable pub calendars : Grammar (List (Lined CalendarDef))
calendars = any_number calendar

-- $PROMPT prompt..., with prompt = name text
abbrev pub prompt_of : Spelled → List ℕ → Lined PromptDef
prompt_of t x = lined t.line (record { name = upper (bytes_of t.shape); text = x })

unfoldable pub prompt_def : Grammar (Lined PromptDef)
prompt_def = made prompt_of ⊛ one a_name (λ t. t) ⊛ text

unfoldable pub prompt_defs : Grammar (List (Lined PromptDef))
prompt_defs = any_number prompt_def

-- $RESOURCE resource..., with resource = ws#name number [text]
abbrev pub resource_of : Spelled → ℕ → Option (List ℕ) → Lined ResourceDef
resource_of t n x =
    lined t.line (record { ws = upper (before 35 (bytes_of t.shape)); name = own_of (bytes_of t.shape); total = n; text = x })

unfoldable pub resource : Grammar (Lined ResourceDef)
resource = made resource_of ⊛ one a_placed (λ t. t) ⊛ number ⊛ a_text_or_none

unfoldable pub resources : Grammar (List (Lined ResourceDef))
resources = any_number resource

-- $JOBS job..., with job = ws#name work
abbrev pub job_of : Spelled → WorkDef → Lined JobDef
job_of t w = lined t.line (record { ws = upper (before 35 (bytes_of t.shape)); name = own_of (bytes_of t.shape); work = w })

unfoldable pub job : Grammar (Lined JobDef)
job = made job_of ⊛ one a_placed (λ t. t) ⊛ work

unfoldable pub jobs : Grammar (List (Lined JobDef))
jobs = any_number job

unfoldable pub cpu_statement : Grammar Statement
cpu_statement = made Cpu ⊛ cpu

unfoldable pub domain_statement : Grammar Statement
domain_statement = made Domain ⊛ domain

unfoldable pub calendar_group : Grammar Statement
calendar_group = made (λ x cs. Calendars cs) ⊛ key (codes "$CALENDAR") ⊛ calendars

unfoldable pub prompt_group : Grammar Statement
prompt_group = made (λ x ps. Prompts ps) ⊛ key (codes "$PROMPT") ⊛ prompt_defs

unfoldable pub resource_group : Grammar Statement
resource_group = made (λ x rs. Resources rs) ⊛ key (codes "$RESOURCE") ⊛ resources

unfoldable pub job_group : Grammar Statement
job_group = made (λ x js. Jobs js) ⊛ key (codes "$JOBS") ⊛ jobs

unfoldable pub schedule_statement : Grammar Statement
schedule_statement = made Schedule ⊛ schedule

-- statement = cpu | domain | $CALENDAR calendar... | $PROMPT prompt... | $RESOURCE resource... | $JOBS job... | schedule
unfoldable pub statement : Grammar Statement
statement =
    cpu_statement or domain_statement or calendar_group or prompt_group or resource_group or job_group
    or schedule_statement

-- the definitions with one statement more
abbrev pub after_statement : Defs → Statement → Defs
after_statement d (Cpu c) = record d { cpus = d.cpus ++ c ∷ [] }
after_statement d (Domain c) = record d { domains = d.domains ++ c ∷ [] }
after_statement d (Calendars cs) = record d { calendars = d.calendars ++ cs }
after_statement d (Prompts ps) = record d { prompts = d.prompts ++ ps }
after_statement d (Resources rs) = record d { resources = d.resources ++ rs }
after_statement d (Jobs js) = record d { jobs = d.jobs ++ js }
after_statement d (Schedule s) = record d { schedules = d.schedules ++ s ∷ [] }

abbrev pub no_defs : ℕ → Defs
no_defs last = record {
  last_line = last;
  start = None;
  zone = None;
  carry = None;
  cpus = [];
  domains = [];
  calendars = [];
  prompts = [];
  resources = [];
  jobs = [];
  schedules = [];
}

unfoldable pub statements : ℕ → Grammar Defs
statements last = many (no_defs last) after_statement always statement (λ d. d)

-- defs = [ $OPTIONS .. ] statement...
abbrev pub with_options : Options → Defs → Defs
with_options o d = record d { start = o.start; zone = o.zone; carry = o.carry }

unfoldable pub defs : ℕ → Grammar Defs
defs last = made with_options ⊛ options ⊛ statements last
