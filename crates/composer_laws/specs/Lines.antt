-- Definitions without their lines.
use Rattle.std.specs.Prelude.{map, option_map}
use Rattle.composer_parser.specs.declared.definitions.Defs.{Defs}
use Rattle.composer_parser.specs.declared.schedules.EntryDef.{EntryDef}
use Rattle.composer_parser.specs.declared.schedules.ScheduleDef.{ScheduleDef}
use Rattle.composer_print.specs.Normal.{unlined, bare}

-- entries and streams whose parts stand on no line
abbrev pub bare_entry : EntryDef → EntryDef
bare_entry e = record { ws = e.ws; name = e.name; work = e.work; clauses = map bare e.clauses }

abbrev pub bare_schedule : ScheduleDef → ScheduleDef
bare_schedule s = record {
  ws = s.ws;
  name = s.name;
  free = s.free;
  ons = map bare s.ons;
  clauses = map bare s.clauses;
  entries = map (λ e. unlined (bare_entry e.item)) s.entries;
}

-- definitions of which each line is 0
unfoldable pub without_lines : Defs → Defs
without_lines d = record {
  last_line = 0;
  start = option_map bare d.start;
  zone = option_map bare d.zone;
  carry = option_map bare d.carry;
  cpus = map bare d.cpus;
  domains = map bare d.domains;
  calendars = map bare d.calendars;
  prompts = map bare d.prompts;
  resources = map bare d.resources;
  jobs = map bare d.jobs;
  schedules = map (λ s. unlined (bare_schedule s.item)) d.schedules;
}
