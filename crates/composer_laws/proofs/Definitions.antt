-- Definitions that are read back.
use Rattle.std.proofs.Common.{◌≡◌, ℕ, true, false, List, [], ◌∷◌, ◌++◌, map, flat_map, codes, arith, Option, Some, None, option_map, refl, ap, sym, subst, ◌∙◌, append_assoc, append-nil}
use Rattle.std.proofs.lemmas.List.{map-append}
use Rattle.std.proofs.lemmas.Grind.{common_steps}
use Rattle.base_types.specs.declared.network.PromptDef.{PromptDef}
use Rattle.composer_parser.specs.declared.definitions.Lined.{Lined}
use Rattle.composer_parser.specs.declared.definitions.Defs.{Defs}
use Rattle.composer_parser.specs.declared.definitions.CpuDef.{CpuDef}
use Rattle.composer_parser.specs.declared.definitions.DomainDef.{DomainDef}
use Rattle.composer_parser.specs.declared.definitions.CalendarDef.{CalendarDef}
use Rattle.composer_parser.specs.declared.definitions.ResourceDef.{ResourceDef}
use Rattle.composer_parser.specs.declared.definitions.JobDef.{JobDef}
use Rattle.composer_parser.specs.declared.schedules.ScheduleDef.{ScheduleDef}
use Rattle.composer_parser.specs.Reading.{empty}
use Rattle.composer_parser.specs.Parts.{always}
use Rattle.composer_parser.specs.Composer as grammar
use Rattle.composer_parser.specs.Stations as stations
use Rattle.composer_parser.specs.Schedules as streams
use Rattle.composer_print.specs.Texts.{item_of}
use Rattle.composer_print.specs.Stations.{cpu_line, domain_line, options_text}
use Rattle.composer_print.specs.Groups.{calendar_line, prompt_line, resource_line, job_line, calendars_text, prompts_text, resources_text, jobs_text}
use Rattle.composer_print.specs.Streams.{items, schedule_lines}
use Rattle.composer_print.specs.Normal.{unlined, bare}
use Rattle.composer_print.specs.Printed.{text_of, network_text, groups_text}
use Rattle.composer_laws.specs.Written.{Each, IsCpu, IsDomain, IsCalendar, IsPrompt, IsResource, IsJob, IsSchedule, AreDefs}
use Rattle.composer_laws.specs.Lines.{bare_schedule, without_lines}
use Rattle.composer_laws.proofs.Readings.{Reads, Runs, made_reads, app, left_reads, right_reads, ended, as_text, many_reads, no_runs, any_run, more_runs, runs_to}
use Rattle.composer_laws.proofs.Words.{key_begins}
use Rattle.composer_laws.proofs.Lists.{list_reads_by}
use Rattle.composer_laws.proofs.Stations.{cpu_reads, domain_reads}
use Rattle.composer_laws.proofs.Groups.{calendar_reads, prompt_reads, resource_reads, job_reads}
use Rattle.composer_laws.proofs.Streams.{schedule_reads}
use Rattle.composer_laws.proofs.Options.{options_reads}

each_lined : {A : Type 0} (P : A → Type 0) (xs : List (Lined A)) → Each P (items xs) → Each (λ l. P l.item) xs
each_lined P [] h = tt
each_lined P (x ∷ xs) h = (h.0, each_lined P xs h.1)

-- what stands so far, but for lines
abbrev Sofar : List CpuDef → List DomainDef → List CalendarDef → List PromptDef → List ResourceDef → List JobDef
    → List ScheduleDef → Defs → Type 0
Sofar a b c p r j s d =
    (items d.cpus ≡ a) × (items d.domains ≡ b) × (items d.calendars ≡ c) × (items d.prompts ≡ p)
    × (items d.resources ≡ r) × (items d.jobs ≡ j) × (map (λ x. bare_schedule x.item) d.schedules ≡ s)

abbrev Run : List ℕ → (Defs → Type 0) → (Defs → Type 0) → Type 0
Run bytes P Q = Runs true true grammar.after_statement always grammar.statement P bytes Q

-- statements
pub some_statement : empty grammar.statement ≡ false
unfolding grammar.statement grammar.cpu_statement grammar.domain_statement grammar.calendar_group grammar.prompt_group grammar.resource_group grammar.job_group grammar.schedule_statement stations.cpu stations.domain streams.schedule streams.header streams.title
some_statement = refl

pub cpu_statement : (c : CpuDef) → IsCpu c
    → Reads true true grammar.statement (cpu_line c)
    (λ s. (l : Lined CpuDef) × (l.item ≡ c) × ((d : Defs) → grammar.after_statement d s ≡ record d { cpus = d.cpus ++ l ∷ [] }))
unfolding grammar.statement grammar.cpu_statement
cpu_statement c h = left_reads (app (made_reads true (λ l e. (l, e, λ d. refl))) (cpu_reads c h))

domain_statement : (x : DomainDef) → IsDomain x
    → Reads true true grammar.statement (domain_line x)
    (λ s. (l : Lined DomainDef) × (l.item ≡ x) × ((d : Defs) → grammar.after_statement d s ≡ record d { domains = d.domains ++ l ∷ [] }))
unfolding grammar.statement grammar.domain_statement
domain_statement x h = right_reads (left_reads (app (made_reads true (λ l e. (l, e, λ d. refl))) (domain_reads x h)))

pub schedule_statement : (x : ScheduleDef) → IsSchedule x
    → Reads true true grammar.statement (schedule_lines x)
    (λ s. (l : Lined ScheduleDef) × (bare_schedule l.item ≡ bare_schedule x)
    × ((d : Defs) → grammar.after_statement d s ≡ record d { schedules = d.schedules ++ l ∷ [] }))
unfolding grammar.statement grammar.schedule_statement
schedule_statement x h =
    right_reads (right_reads (right_reads (right_reads (right_reads (right_reads
    (app (made_reads true (λ l e. (l, e, λ d. refl))) (schedule_reads x h)))))))

some_calendar : empty grammar.calendar ≡ false
unfolding grammar.calendar
some_calendar = refl

some_prompt : empty grammar.prompt_def ≡ false
unfolding grammar.prompt_def
some_prompt = refl

some_resource : empty grammar.resource ≡ false
unfolding grammar.resource
some_resource = refl

some_job : empty grammar.job ≡ false
unfolding grammar.job
some_job = refl

calendar_statement : (xs : List (Lined CalendarDef)) → Each (λ l. IsCalendar l.item) xs
    → Reads true true grammar.statement (codes "$CALENDAR" ++ 10 ∷ [] ++ flat_map (λ l. calendar_line l.item) xs)
    (λ s. (ls : List (Lined CalendarDef)) × (items ls ≡ items xs) × ((d : Defs) → grammar.after_statement d s ≡ record d { calendars = d.calendars ++ ls }))
unfolding grammar.statement grammar.calendar_group grammar.calendars
calendar_statement xs h =
    right_reads (right_reads (left_reads (app
    (ended (app (made_reads true (λ x a ls e. (ls, e, λ d. refl))) (key_begins (codes "$CALENDAR") refl refl)))
    (list_reads_by (λ l. l.item) (λ l. l.item) (λ l. calendar_line l.item) grammar.calendar (λ l. IsCalendar l.item) some_calendar (λ l k. calendar_reads l.item k) xs h))))

prompt_statement : (xs : List (Lined PromptDef)) → Each (λ l. IsPrompt l.item) xs
    → Reads true true grammar.statement (codes "$PROMPT" ++ 10 ∷ [] ++ flat_map (λ l. prompt_line l.item) xs)
    (λ s. (ls : List (Lined PromptDef)) × (items ls ≡ items xs) × ((d : Defs) → grammar.after_statement d s ≡ record d { prompts = d.prompts ++ ls }))
unfolding grammar.statement grammar.prompt_group grammar.prompt_defs
prompt_statement xs h =
    right_reads (right_reads (right_reads (left_reads (app
    (ended (app (made_reads true (λ x a ls e. (ls, e, λ d. refl))) (key_begins (codes "$PROMPT") refl refl)))
    (list_reads_by (λ l. l.item) (λ l. l.item) (λ l. prompt_line l.item) grammar.prompt_def (λ l. IsPrompt l.item) some_prompt (λ l k. prompt_reads l.item k) xs h)))))

resource_statement : (xs : List (Lined ResourceDef)) → Each (λ l. IsResource l.item) xs
    → Reads true true grammar.statement (codes "$RESOURCE" ++ 10 ∷ [] ++ flat_map (λ l. resource_line l.item) xs)
    (λ s. (ls : List (Lined ResourceDef)) × (items ls ≡ items xs) × ((d : Defs) → grammar.after_statement d s ≡ record d { resources = d.resources ++ ls }))
unfolding grammar.statement grammar.resource_group grammar.resources
resource_statement xs h =
    right_reads (right_reads (right_reads (right_reads (left_reads (app
    (ended (app (made_reads true (λ x a ls e. (ls, e, λ d. refl))) (key_begins (codes "$RESOURCE") refl refl)))
    (list_reads_by (λ l. l.item) (λ l. l.item) (λ l. resource_line l.item) grammar.resource (λ l. IsResource l.item) some_resource (λ l k. resource_reads l.item k) xs h))))))

job_statement : (xs : List (Lined JobDef)) → Each (λ l. IsJob l.item) xs
    → Reads true true grammar.statement (codes "$JOBS" ++ 10 ∷ [] ++ flat_map (λ l. job_line l.item) xs)
    (λ s. (ls : List (Lined JobDef)) × (items ls ≡ items xs) × ((d : Defs) → grammar.after_statement d s ≡ record d { jobs = d.jobs ++ ls }))
unfolding grammar.statement grammar.job_group grammar.jobs
job_statement xs h =
    right_reads (right_reads (right_reads (right_reads (right_reads (left_reads (app
    (ended (app (made_reads true (λ x a ls e. (ls, e, λ d. refl))) (key_begins (codes "$JOBS") refl refl)))
    (list_reads_by (λ l. l.item) (λ l. l.item) (λ l. job_line l.item) grammar.job (λ l. IsJob l.item) some_job (λ l k. job_reads l.item k) xs h)))))))

-- one kind after the other
cpus_run : (done : List CpuDef) (xs : List (Lined CpuDef)) → Each (λ l. IsCpu l.item) xs
    → Run (flat_map (λ l. cpu_line l.item) xs) (λ d. Sofar done [] [] [] [] [] [] d) (λ d. Sofar (done ++ items xs) [] [] [] [] [] [] d)
cpus_run done [] h = runs_to no_runs (λ d e. (e.0 ∙ sym (append-nil done), e.1, e.2, e.3, e.4, e.5, e.6))
cpus_run done (x ∷ xs) h =
    let P : Defs → Type 0 = λ d. Sofar (done ++ x.item ∷ []) [] [] [] [] [] [] d in
    more_runs
    (any_run {Q = P} (cpu_statement x.item h.0) some_statement
    (λ d s e r. subst P (sym (r.2 d))
    (map-append (λ (l : Lined CpuDef). l.item) d.cpus (r.0 ∷ []) ∙ (λ i. e.0 i ++ r.1 i ∷ []), e.1, e.2, e.3, e.4, e.5, e.6))
    (λ d t. refl))
    (runs_to (cpus_run (done ++ x.item ∷ []) xs h.1) (λ d e. (e.0 ∙ append_assoc done (x.item ∷ []) (items xs), e.1, e.2, e.3, e.4, e.5, e.6)))

domains_run : (a : List CpuDef) (done : List DomainDef) (xs : List (Lined DomainDef)) → Each (λ l. IsDomain l.item) xs
    → Run (flat_map (λ l. domain_line l.item) xs) (λ d. Sofar a done [] [] [] [] [] d) (λ d. Sofar a (done ++ items xs) [] [] [] [] [] d)
domains_run a done [] h = runs_to no_runs (λ d e. (e.0, e.1 ∙ sym (append-nil done), e.2, e.3, e.4, e.5, e.6))
domains_run a done (x ∷ xs) h =
    let P : Defs → Type 0 = λ d. Sofar a (done ++ x.item ∷ []) [] [] [] [] [] d in
    more_runs
    (any_run {Q = P} (domain_statement x.item h.0) some_statement
    (λ d s e r. subst P (sym (r.2 d))
    (e.0, map-append (λ (l : Lined DomainDef). l.item) d.domains (r.0 ∷ []) ∙ (λ i. e.1 i ++ r.1 i ∷ []), e.2, e.3, e.4, e.5, e.6))
    (λ d t. refl))
    (runs_to (domains_run a (done ++ x.item ∷ []) xs h.1) (λ d e. (e.0, e.1 ∙ append_assoc done (x.item ∷ []) (items xs), e.2, e.3, e.4, e.5, e.6)))

calendars_run : (a : List CpuDef) (b : List DomainDef) (xs : List (Lined CalendarDef)) → Each (λ l. IsCalendar l.item) xs
    → Run (calendars_text xs) (λ d. Sofar a b [] [] [] [] [] d) (λ d. Sofar a b (items xs) [] [] [] [] d)
calendars_run a b [] h = no_runs
calendars_run a b (x ∷ xs) h =
    let P : Defs → Type 0 = λ d. Sofar a b (items (x ∷ xs)) [] [] [] [] d in
    any_run {Q = P} (calendar_statement (x ∷ xs) h) some_statement
    (λ d s e r. subst P (sym (r.2 d)) (e.0, e.1, map-append (λ (l : Lined CalendarDef). l.item) d.calendars r.0 ∙ (λ k. e.2 k ++ r.1 k), e.3, e.4, e.5, e.6))
    (λ d t. refl)

prompts_run : (a : List CpuDef) (b : List DomainDef) (c : List CalendarDef) (xs : List (Lined PromptDef)) → Each (λ l. IsPrompt l.item) xs
    → Run (prompts_text xs) (λ d. Sofar a b c [] [] [] [] d) (λ d. Sofar a b c (items xs) [] [] [] d)
prompts_run a b c [] h = no_runs
prompts_run a b c (x ∷ xs) h =
    let P : Defs → Type 0 = λ d. Sofar a b c (items (x ∷ xs)) [] [] [] d in
    any_run {Q = P} (prompt_statement (x ∷ xs) h) some_statement
    (λ d s e r. subst P (sym (r.2 d)) (e.0, e.1, e.2, map-append (λ (l : Lined PromptDef). l.item) d.prompts r.0 ∙ (λ k. e.3 k ++ r.1 k), e.4, e.5, e.6))
    (λ d t. refl)

resources_run : (a : List CpuDef) (b : List DomainDef) (c : List CalendarDef) (p : List PromptDef) (xs : List (Lined ResourceDef)) → Each (λ l. IsResource l.item) xs
    → Run (resources_text xs) (λ d. Sofar a b c p [] [] [] d) (λ d. Sofar a b c p (items xs) [] [] d)
resources_run a b c p [] h = no_runs
resources_run a b c p (x ∷ xs) h =
    let P : Defs → Type 0 = λ d. Sofar a b c p (items (x ∷ xs)) [] [] d in
    any_run {Q = P} (resource_statement (x ∷ xs) h) some_statement
    (λ d s e r. subst P (sym (r.2 d)) (e.0, e.1, e.2, e.3, map-append (λ (l : Lined ResourceDef). l.item) d.resources r.0 ∙ (λ k. e.4 k ++ r.1 k), e.5, e.6))
    (λ d t. refl)

jobs_run : (a : List CpuDef) (b : List DomainDef) (c : List CalendarDef) (p : List PromptDef) (r : List ResourceDef) (xs : List (Lined JobDef)) → Each (λ l. IsJob l.item) xs
    → Run (jobs_text xs) (λ d. Sofar a b c p r [] [] d) (λ d. Sofar a b c p r (items xs) [] d)
jobs_run a b c p r [] h = no_runs
jobs_run a b c p r (x ∷ xs) h =
    let P : Defs → Type 0 = λ d. Sofar a b c p r (items (x ∷ xs)) [] d in
    any_run {Q = P} (job_statement (x ∷ xs) h) some_statement
    (λ d s e r. subst P (sym (r.2 d)) (e.0, e.1, e.2, e.3, e.4, map-append (λ (l : Lined JobDef). l.item) d.jobs r.0 ∙ (λ k. e.5 k ++ r.1 k), e.6))
    (λ d t. refl)

schedules_run : (a : List CpuDef) (b : List DomainDef) (c : List CalendarDef) (p : List PromptDef) (r : List ResourceDef)
    (j : List JobDef) (done : List ScheduleDef) (xs : List (Lined ScheduleDef)) → Each (λ l. IsSchedule l.item) xs
    → Run (flat_map (λ l. schedule_lines l.item) xs) (λ d. Sofar a b c p r j done d)
    (λ d. Sofar a b c p r j (done ++ map (λ l. bare_schedule l.item) xs) d)
schedules_run a b c p r j done [] h = runs_to no_runs (λ d e. (e.0, e.1, e.2, e.3, e.4, e.5, e.6 ∙ sym (append-nil done)))
schedules_run a b c p r j done (x ∷ xs) h =
    let P : Defs → Type 0 = λ d. Sofar a b c p r j (done ++ bare_schedule x.item ∷ []) d in
    more_runs
    (any_run {Q = P} (schedule_statement x.item h.0) some_statement
    (λ d s e q. subst P (sym (q.2 d))
    (e.0, e.1, e.2, e.3, e.4, e.5, map-append (λ (l : Lined ScheduleDef). bare_schedule l.item) d.schedules (q.0 ∷ []) ∙ (λ i. e.6 i ++ q.1 i ∷ [])))
    (λ d t. refl))
    (runs_to (schedules_run a b c p r j (done ++ bare_schedule x.item ∷ []) xs h.1)
    (λ d e. (e.0, e.1, e.2, e.3, e.4, e.5, e.6 ∙ append_assoc done (bare_schedule x.item ∷ []) (map (λ l. bare_schedule l.item) xs))))

-- all statements
all_run : (d : Defs) → AreDefs d
    → Run
    (flat_map (λ l. cpu_line l.item) d.cpus ++ (flat_map (λ l. domain_line l.item) d.domains ++ (calendars_text d.calendars
    ++ (prompts_text d.prompts ++ (resources_text d.resources ++ (jobs_text d.jobs ++ flat_map (λ l. schedule_lines l.item) d.schedules))))))
    (λ x. Sofar [] [] [] [] [] [] [] x)
    (λ x. Sofar (items d.cpus) (items d.domains) (items d.calendars) (items d.prompts) (items d.resources) (items d.jobs)
    (map (λ l. bare_schedule l.item) d.schedules) x)
all_run d h =
    let a = items d.cpus in
    let b = items d.domains in
    let c = items d.calendars in
    let p = items d.prompts in
    let r = items d.resources in
    let j = items d.jobs in
    more_runs (cpus_run [] d.cpus (each_lined IsCpu d.cpus h.cpus))
    (more_runs (domains_run a [] d.domains (each_lined IsDomain d.domains h.domains))
    (more_runs (calendars_run a b d.calendars (each_lined IsCalendar d.calendars h.calendars))
    (more_runs (prompts_run a b c d.prompts (each_lined IsPrompt d.prompts h.prompts))
    (more_runs (resources_run a b c p d.resources (each_lined IsResource d.resources h.resources))
    (more_runs (jobs_run a b c p r d.jobs (each_lined IsJob d.jobs h.jobs))
    (schedules_run a b c p r j [] d.schedules (each_lined IsSchedule d.schedules h.schedules)))))))

-- values that differ in their lines alone
same_option : {A : Type 0} (x y : Option (Lined A)) → item_of x ≡ item_of y → option_map bare x ≡ option_map bare y
same_option {A = A} x y e = by_item x ∙ ap (λ (o : Option A). option_map unlined o) e ∙ sym (by_item y)
  where
    by_item : (z : Option (Lined A)) → option_map bare z ≡ option_map unlined (item_of z)
    by_item None = refl
    by_item (Some z) = refl

same_items : {A : Type 0} (xs ys : List (Lined A)) → items xs ≡ items ys → map bare xs ≡ map bare ys
same_items {A = A} xs ys e = by_item xs ∙ ap (λ (zs : List A). map (λ z. unlined z) zs) e ∙ sym (by_item ys)
  where
    by_item : (zs : List (Lined A)) → map bare zs ≡ map (λ z. unlined z) (items zs)
    by_item [] = refl
    by_item (z ∷ zs) = ap (λ us. unlined z.item ∷ us) (by_item zs)

same_schedules : (xs ys : List (Lined ScheduleDef))
    → map (λ l. bare_schedule l.item) xs ≡ map (λ l. bare_schedule l.item) ys
    → map (λ l. unlined (bare_schedule l.item)) xs ≡ map (λ l. unlined (bare_schedule l.item)) ys
same_schedules xs ys e = by_item xs ∙ ap (λ (zs : List ScheduleDef). map (λ z. unlined z) zs) e ∙ sym (by_item ys)
  where
    by_item : (zs : List (Lined ScheduleDef))
        → map (λ l. unlined (bare_schedule l.item)) zs ≡ map (λ z. unlined z) (map (λ l. bare_schedule l.item) zs)
    by_item [] = refl
    by_item (z ∷ zs) = ap (λ us. unlined (bare_schedule z.item) ∷ us) (by_item zs)

text_bytes : (d : Defs)
    → options_text (item_of d.start) (item_of d.zone) (item_of d.carry)
    ++ (flat_map (λ l. cpu_line l.item) d.cpus ++ (flat_map (λ l. domain_line l.item) d.domains ++ (calendars_text d.calendars
    ++ (prompts_text d.prompts ++ (resources_text d.resources ++ (jobs_text d.jobs ++ flat_map (λ l. schedule_lines l.item) d.schedules))))))
    ≡ text_of d
unfolding text_of network_text groups_text
text_bytes d =
    seven (options_text (item_of d.start) (item_of d.zone) (item_of d.carry)) (flat_map (λ l. cpu_line l.item) d.cpus)
    (flat_map (λ l. domain_line l.item) d.domains) (calendars_text d.calendars) (prompts_text d.prompts)
    (resources_text d.resources) (jobs_text d.jobs) (flat_map (λ l. schedule_lines l.item) d.schedules)
  where
    seven : (o a b c p r j s : List ℕ)
        → o ++ (a ++ (b ++ (c ++ (p ++ (r ++ (j ++ s)))))) ≡ o ++ a ++ b ++ (c ++ p ++ r ++ j) ++ s
    seven o a b c p r j s = grind (arith, common_steps)

pub defs_reads : (last : ℕ) (d : Defs) → AreDefs d
    → Reads true true (grammar.defs last) (text_of d) (λ x. without_lines x ≡ without_lines d)
unfolding grammar.defs grammar.statements without_lines
defs_reads last d h =
    as_text
    (app
    (app (made_reads true (λ o a x b i.
    record {
      last_line = 0;
      start = same_option o.start d.start a.0 i;
      zone = same_option o.zone d.zone a.1 i;
      carry = same_option o.carry d.carry a.2 i;
      cpus = same_items x.cpus d.cpus b.0 i;
      domains = same_items x.domains d.domains b.1 i;
      calendars = same_items x.calendars d.calendars b.2 i;
      prompts = same_items x.prompts d.prompts b.3 i;
      resources = same_items x.resources d.resources b.4 i;
      jobs = same_items x.jobs d.jobs b.5 i;
      schedules = same_schedules x.schedules d.schedules b.6 i;
    }))
    (options_reads (item_of d.start) (item_of d.zone) (item_of d.carry) h.start h.zone))
    (many_reads (grammar.no_defs last) (λ x. x) (all_run d h) (refl, refl, refl, refl, refl, refl, refl) (λ x e. e)))
    (text_bytes d)
