-- The normal form of definitions. It has no lines: each is 0.
use Rattle.std.specs.Prelude.{ℕ, List, [], ◌∷◌, map, filter_map, option_map, Option, Some, None}
use Rattle.composer_parser.specs.declared.definitions.Lined.{Lined}
use Rattle.composer_parser.specs.declared.definitions.Defs.{Defs}
use Rattle.composer_parser.specs.declared.definitions.CpuDef.{CpuDef}
use Rattle.composer_parser.specs.declared.definitions.DomainDef.{DomainDef}
use Rattle.composer_parser.specs.declared.schedules.EntryDef.{EntryDef}
use Rattle.composer_parser.specs.declared.schedules.ScheduleDef.{ScheduleDef}
use Rattle.composer_print.specs.Texts.{unless, item_of}
use Rattle.composer_print.specs.Stations.{unless_utc, unless_yes, normal_cpu}
use Rattle.composer_print.specs.Scopes.{or_home, normal_clauses}
use Rattle.composer_print.specs.Streams.{items}

abbrev pub unlined : {A : Type 0} → A → Lined A
unlined a = record { line = 0; item = a }

abbrev pub bare : {A : Type 0} → Lined A → Lined A
bare l = unlined l.item

abbrev pub all_unlined : {A : Type 0} → List A → List (Lined A)
all_unlined xs = map (λ x. unlined x) xs

-- The master workstation, by its name: the manager of the one domain without a parent. Where there is none or there are
-- several, it is not determined.
abbrev pub unless_under : Option (List ℕ) → List ℕ → Option (List ℕ)
unless_under None manager = Some manager
unless_under (Some parent) manager = None

abbrev pub manager_of : Lined DomainDef → Option (List ℕ)
manager_of d = unless_under d.item.parent d.item.manager

abbrev pub only : List (List ℕ) → Option (List ℕ)
only [] = None
only (m ∷ []) = Some m
only (m ∷ n ∷ ms) = None

unfoldable pub master_of : List (Lined DomainDef) → Option (List ℕ)
master_of ds = only (filter_map manager_of ds)

abbrev pub entry_names : List (Lined EntryDef) → List (List ℕ)
entry_names es = map (λ e. e.item.name) es

-- an entry of a stream on a workstation with jobs of these names
unfoldable pub normal_entry : List (List ℕ) → Option (List ℕ) → Lined EntryDef → Lined EntryDef
normal_entry names home e = unlined (record {
  ws = or_home e.item.ws home;
  name = e.item.name;
  work = e.item.work;
  clauses = all_unlined (normal_clauses names home (or_home e.item.ws home) (items e.item.clauses));
})

-- a stream, which is on the master where it has no workstation
unfoldable pub normal_schedule : Option (List ℕ) → Lined ScheduleDef → Lined ScheduleDef
normal_schedule master s = unlined (record {
  ws = or_home s.item.ws master;
  name = s.item.name;
  free = s.item.free;
  ons = map bare s.item.ons;
  clauses = all_unlined (normal_clauses [] (or_home s.item.ws master) (or_home s.item.ws master) (items s.item.clauses));
  entries = map (normal_entry (entry_names s.item.entries) (or_home s.item.ws master)) s.item.entries;
})

abbrev pub bare_cpu : Lined CpuDef → Lined CpuDef
bare_cpu c = unlined (normal_cpu c.item)

unfoldable pub normal : Defs → Defs
normal d = record {
  last_line = 0;
  start = option_map unlined (unless 360 (item_of d.start));
  zone = option_map unlined (unless_utc (item_of d.zone));
  carry = option_map unlined (unless_yes (item_of d.carry));
  cpus = map bare_cpu d.cpus;
  domains = map bare d.domains;
  calendars = map bare d.calendars;
  prompts = map bare d.prompts;
  resources = map bare d.resources;
  jobs = map bare d.jobs;
  schedules = map (normal_schedule (master_of d.domains)) d.schedules;
}
