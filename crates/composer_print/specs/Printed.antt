-- The canonical text of definitions.
use Rattle.std.specs.Prelude.{ℕ, List, ◌++◌, flat_map}
use Rattle.composer_parser.specs.declared.definitions.Defs.{Defs}
use Rattle.composer_print.specs.Texts.{item_of}
use Rattle.composer_print.specs.Stations.{options_text, cpu_line, domain_line}
use Rattle.composer_print.specs.Groups.{calendars_text, prompts_text, resources_text, jobs_text}
use Rattle.composer_print.specs.Streams.{schedule_lines}
use Rattle.composer_print.specs.Normal.{normal}

-- the options, the workstations and the domains
unfoldable pub network_text : Defs → List ℕ
network_text d =
    options_text (item_of d.start) (item_of d.zone) (item_of d.carry) ++ flat_map (λ c. cpu_line c.item) d.cpus
    ++ flat_map (λ x. domain_line x.item) d.domains

-- the groups
unfoldable pub groups_text : Defs → List ℕ
groups_text d =
    calendars_text d.calendars ++ prompts_text d.prompts ++ resources_text d.resources ++ jobs_text d.jobs

-- definitions as they stand, each kind behind the one before it
unfoldable pub text_of : Defs → List ℕ
text_of d = network_text d ++ groups_text d ++ flat_map (λ s. schedule_lines s.item) d.schedules

-- the canonical text: that of the normal form
unfoldable pub printed : Defs → List ℕ
printed d = text_of (normal d)
