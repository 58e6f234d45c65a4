-- Calendars, prompts, resources and jobs.
use Rattle.std.specs.Prelude.{ℕ, List, [], ◌∷◌, ◌++◌, codes, flat_map, Option, Some, None}
use Rattle.std.specs.Fmt.{decimal}
use Rattle.base_types.specs.declared.network.PromptDef.{PromptDef}
use Rattle.composer_parser.specs.declared.definitions.Lined.{Lined}
use Rattle.composer_parser.specs.declared.definitions.CalendarDef.{CalendarDef}
use Rattle.composer_parser.specs.declared.definitions.ResourceDef.{ResourceDef}
use Rattle.composer_parser.specs.declared.definitions.JobDef.{JobDef}
use Rattle.syntax.specs.Quotes.{quoted_text}
use Rattle.composer_print.specs.Days.{date_text}
use Rattle.composer_print.specs.Works.{work_text}

-- [text]
unfoldable pub note_text : Option (List ℕ) → List ℕ
note_text None = []
note_text (Some v) = codes " " ++ quoted_text v

-- name [text] date...
abbrev pub day_text : ℕ → List ℕ
day_text day = codes " " ++ date_text day

unfoldable pub calendar_line : CalendarDef → List ℕ
calendar_line c = c.name ++ note_text c.text ++ flat_map day_text c.days ++ codes "\n"

-- name text
unfoldable pub prompt_line : PromptDef → List ℕ
prompt_line p = p.name ++ codes " " ++ quoted_text p.text ++ codes "\n"

-- ws#name number [text]
unfoldable pub resource_line : ResourceDef → List ℕ
resource_line r = r.ws ++ codes "#" ++ r.name ++ codes " " ++ decimal r.total ++ note_text r.text ++ codes "\n"

-- ws#name work
unfoldable pub job_line : JobDef → List ℕ
job_line j = j.ws ++ codes "#" ++ j.name ++ work_text j.work ++ codes "\n"

-- the header of a group, where the group has something
abbrev pub header : {A : Type 0} → List ℕ → List A → List ℕ
header word [] = []
header word (x ∷ xs) = word

abbrev pub calendars_text : List (Lined CalendarDef) → List ℕ
calendars_text cs = header (codes "$CALENDAR\n") cs ++ flat_map (λ c. calendar_line c.item) cs

abbrev pub prompts_text : List (Lined PromptDef) → List ℕ
prompts_text ps = header (codes "$PROMPT\n") ps ++ flat_map (λ p. prompt_line p.item) ps

abbrev pub resources_text : List (Lined ResourceDef) → List ℕ
resources_text rs = header (codes "$RESOURCE\n") rs ++ flat_map (λ r. resource_line r.item) rs

abbrev pub jobs_text : List (Lined JobDef) → List ℕ
jobs_text js = header (codes "$JOBS\n") js ++ flat_map (λ j. job_line j.item) js
