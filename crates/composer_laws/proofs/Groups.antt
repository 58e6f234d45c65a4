-- Groups that are read back.
use Rattle.std.proofs.Common.{◌≡◌, ℕ, true, false, List, [], ◌∷◌, ◌++◌, flat_map, arith, Option, Some, None, refl, ap, sym, ◌∙◌}
use Rattle.std.specs.Fmt.{decimal}
use Rattle.std.proofs.lemmas.List.{map-id}
use Rattle.std.proofs.lemmas.Grind.{common_steps}
use Rattle.base_types.specs.declared.network.PromptDef.{PromptDef}
use Rattle.composer_parser.specs.declared.definitions.CalendarDef.{CalendarDef}
use Rattle.composer_parser.specs.declared.definitions.ResourceDef.{ResourceDef}
use Rattle.composer_parser.specs.declared.definitions.JobDef.{JobDef}
use Rattle.composer_parser.specs.Parts.{date}
use Rattle.composer_parser.specs.Composer as grammar
use Rattle.calendars.specs.Dates.{IsDay}
use Rattle.syntax.specs.Quotes.{quoted_text}
use Rattle.composer_print.specs.Works.{work_text}
use Rattle.composer_print.specs.Groups.{note_text, day_text, calendar_line, prompt_line, resource_line, job_line}
use Rattle.composer_laws.specs.Written.{IsText, Each, WhenGiven, IsCalendar, IsPrompt, IsResource, IsJob}
use Rattle.composer_laws.proofs.Readings.{Reads, made_reads, app, left_reads, right_reads, ended, as_text, weaker}
use Rattle.composer_laws.proofs.Words.{name_begins, text_reads, number_reads, date_reads}
use Rattle.composer_laws.proofs.Scopes.{placed_begins}
use Rattle.composer_laws.proofs.Lists.{list_reads}
use Rattle.composer_laws.proofs.Works.{work_reads}

note_reads : (o : Option (List ℕ)) → WhenGiven IsText o → Reads false false grammar.a_text_or_none (note_text o) (λ x. x ≡ o)
unfolding grammar.a_text_or_none note_text
note_reads None h = right_reads (made_reads false refl)
note_reads (Some v) h = left_reads (app (made_reads false (λ x e. ap Some e)) (text_reads v h))

days_reads : (ds : List ℕ) → Each IsDay ds → Reads false false grammar.dates (flat_map day_text ds) (λ x. x ≡ ds)
unfolding grammar.dates
days_reads ds h = weaker (list_reads (λ v. v) day_text date IsDay refl date_reads ds h) (λ x e. sym (map-id x) ∙ e)

calendar_bytes : (c : CalendarDef) → (c.name ++ note_text c.text) ++ flat_map day_text c.days ++ 10 ∷ [] ≡ calendar_line c
unfolding calendar_line
calendar_bytes c = refl

pub calendar_reads : (c : CalendarDef) → IsCalendar c → Reads true true grammar.calendar (calendar_line c) (λ x. x.item ≡ c)
unfolding grammar.calendar
calendar_reads c h =
    as_text
    (ended
    (app
    (app (app (made_reads true (λ t a x b ds e i. record { name = a i; text = b i; days = e i })) (name_begins c.name h.name))
    (note_reads c.text h.text))
    (days_reads c.days h.days)))
    (calendar_bytes c)

prompt_bytes : (p : PromptDef) → p.name ++ (32 ∷ quoted_text p.text) ++ 10 ∷ [] ≡ prompt_line p
unfolding prompt_line
prompt_bytes p = grind (arith, common_steps)

pub prompt_reads : (p : PromptDef) → IsPrompt p → Reads true true grammar.prompt_def (prompt_line p) (λ x. x.item ≡ p)
unfolding grammar.prompt_def
prompt_reads p h =
    as_text
    (ended
    (app (app (made_reads true (λ t a x b i. record { name = a i; text = b i })) (name_begins p.name h.name)) (text_reads p.text h.text)))
    (prompt_bytes p)

resource_bytes : (r : ResourceDef)
    → (r.ws ++ 35 ∷ r.name) ++ (32 ∷ decimal r.total) ++ note_text r.text ++ 10 ∷ [] ≡ resource_line r
unfolding resource_line
resource_bytes r = grind (arith, common_steps)

pub resource_reads : (r : ResourceDef) → IsResource r
    → Reads true true grammar.resource (resource_line r) (λ x. x.item ≡ r)
unfolding grammar.resource
resource_reads r h =
    as_text
    (ended
    (app
    (app
    (app (made_reads true (λ t a n b x e i. record { ws = a.0 i; name = a.1 i; total = b i; text = e i })) (placed_begins r.ws r.name h.ws h.name))
    (number_reads r.total h.total))
    (note_reads r.text h.text)))
    (resource_bytes r)

job_bytes : (j : JobDef) → (j.ws ++ 35 ∷ j.name) ++ work_text j.work ++ 10 ∷ [] ≡ job_line j
unfolding job_line
job_bytes j = grind (arith, common_steps)

pub job_reads : (j : JobDef) → IsJob j → Reads true true grammar.job (job_line j) (λ x. x.item ≡ j)
unfolding grammar.job
job_reads j h =
    as_text
    (ended
    (app
    (app (made_reads true (λ t a w b i. record { ws = a.0 i; name = a.1 i; work = b i })) (placed_begins j.ws j.name h.ws h.name))
    (work_reads j.work h.work)))
    (job_bytes j)
