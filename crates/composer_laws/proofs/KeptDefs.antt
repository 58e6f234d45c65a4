-- What is known of streams and of whole definitions that are read.
use Rattle.std.proofs.Common.{◌≡◌, ℕ, true, false, List, [], ◌∷◌, ◌++◌, Ok, arith}
use Rattle.base_types.specs.declared.reports.Token.{Token}
use Rattle.composer_lexer.specs.Tokens.{tokens_of}
use Rattle.composer_parser.specs.declared.definitions.Lined.{Lined}
use Rattle.composer_parser.specs.declared.definitions.Defs.{Defs}
use Rattle.composer_parser.specs.Kinds.{a_rule}
use Rattle.composer_parser.specs.Grammars.{Spells}
use Rattle.composer_parser.specs.Schedules as grammar
use Rattle.composer_parser.specs.Composer as whole
use Rattle.composer_parser.specs.Tokens.{all_spelled}
use Rattle.calendars.specs.Dates.{IsDay}
use Rattle.composer_print.specs.Texts.{item_of}
use Rattle.composer_print.specs.Streams.{items}
use Rattle.composer_laws.specs.Written.{IsName, IsText, IsTime, WhenGiven, Each, IsList, IsWork, IsItem, IsCycle, IsOffset, IsOn, IsFree, IsEntry, IsSchedule, AreDefs, IsCpu, IsDomain, IsCalendar, IsPrompt, IsResource, IsJob}
use Rattle.composer_laws.proofs.Good.{all_good}
use Rattle.composer_laws.proofs.Keeps.{Keeps, kept_made, kept_any, kept_app, kept_skip, kept_or, kept_one, kept_more, kept_many, kept_list, kept_commas, kept_left_out}
use Rattle.composer_laws.proofs.Leaves.{kept_name, kept_text, kept_date, kept_time, kept_signed, kept_scoped_token, of_rule}
use Rattle.composer_laws.proofs.Kept.{kept_cpu, kept_domain, kept_work, kept_calendar, kept_prompt, kept_resource, kept_job}
use Rattle.composer_laws.proofs.KeptClauses.{kept_clauses}

-- run cycles
kept_offset : Keeps grammar.offset (λ o. WhenGiven IsOffset o)
unfolding grammar.offset
kept_offset = kept_or (kept_app (kept_app (kept_made (λ s h u a. h)) kept_signed) kept_any) (kept_made tt)

kept_calendar_item : Keeps grammar.calendar_item (λ x. IsItem x)
unfolding grammar.calendar_item
kept_calendar_item = kept_app (kept_app (kept_made (λ n h o k. (h, k))) kept_name) kept_offset

kept_weekday : Keeps grammar.weekday (λ x. IsItem x)
unfolding grammar.weekday
kept_weekday =
    kept_or (kept_app (kept_made (λ x a. omega arith)) kept_any)
    (kept_or (kept_app (kept_made (λ x a. omega arith)) kept_any)
    (kept_or (kept_app (kept_made (λ x a. omega arith)) kept_any)
    (kept_or (kept_app (kept_made (λ x a. omega arith)) kept_any)
    (kept_or (kept_app (kept_made (λ x a. omega arith)) kept_any)
    (kept_or (kept_app (kept_made (λ x a. omega arith)) kept_any) (kept_app (kept_made (λ x a. omega arith)) kept_any))))))

kept_days : Keeps grammar.days (λ x. IsItem x)
unfolding grammar.days
kept_days =
    kept_or (kept_app (kept_made (λ x a. tt)) kept_any)
    (kept_or (kept_app (kept_made (λ x a. tt)) kept_any)
    (kept_or (kept_app (kept_made (λ x a. tt)) kept_any)
    (kept_or (kept_app (kept_made (λ x a. tt)) kept_any) (kept_app (kept_made (λ x a. tt)) kept_any))))

kept_rule : Keeps grammar.rule (λ x. IsItem x)
unfolding grammar.rule
kept_rule = kept_or (kept_one a_rule _ (λ t good ok. of_rule t good ok)) kept_left_out

kept_item : Keeps grammar.item (λ x. IsItem x)
unfolding grammar.item
kept_item =
    kept_or kept_weekday
    (kept_or kept_days (kept_or (kept_app (kept_made (λ d h. h)) kept_date) (kept_or kept_calendar_item kept_rule)))

kept_next_item : Keeps grammar.next_item (λ x. IsItem x)
unfolding grammar.next_item
kept_next_item = kept_app (kept_app (kept_made (λ x a i h. h)) kept_any) kept_item

kept_items : Keeps grammar.items (λ xs. IsList IsItem xs)
unfolding grammar.items
kept_items = kept_commas IsItem kept_item kept_next_item

kept_from : Keeps grammar.valid_from (λ d. WhenGiven IsDay d)
unfolding grammar.valid_from
kept_from = kept_or (kept_app (kept_app (kept_made (λ x a d h. h)) kept_any) kept_date) (kept_made tt)

kept_to : Keeps grammar.valid_to (λ d. WhenGiven IsDay d)
unfolding grammar.valid_to
kept_to = kept_or (kept_app (kept_app (kept_made (λ x a d h. h)) kept_any) kept_date) (kept_made tt)

kept_cycle : Keeps grammar.cycle (λ c. WhenGiven IsCycle c)
unfolding grammar.cycle
kept_cycle =
    kept_or
    (kept_skip
    (kept_app
    (kept_app
    (kept_app (kept_app (kept_made (λ x a n h f k l m. record { name = h; first = k; last = m })) kept_any) kept_name) kept_from)
    kept_to))
    (kept_made tt)

kept_on : Keeps grammar.on (λ l. IsOn l.item)
unfolding grammar.on
kept_on =
    kept_skip
    (kept_app
    (kept_app (kept_app (kept_app (kept_made (λ k a c h xs l s b. record { cycle = h; items = l })) kept_any) kept_cycle) kept_items)
    kept_any)

-- what is known of each is known of what stands on its line
each_item : {A : Type 0} (P : A → Type 0) (xs : List (Lined A)) → Each (λ l. P l.item) xs → Each P (items xs)
each_item P [] h = tt
each_item P (x ∷ xs) h = (h.0, each_item P xs h.1)

kept_ons : Keeps grammar.ons (λ xs. Each IsOn (items xs))
unfolding grammar.ons
kept_ons = kept_more (kept_list (λ l. IsOn l.item) kept_on) (λ xs h. each_item IsOn xs h)

-- streams
kept_free : Keeps grammar.free_days (λ f. WhenGiven IsFree f)
unfolding grammar.free_days
kept_free =
    kept_or (kept_app (kept_app (kept_app (kept_app (kept_made (λ x a n h u b v c. h)) kept_any) kept_name) kept_any) kept_any)
    (kept_made tt)

kept_own_work : Keeps grammar.own_work (λ w. WhenGiven IsWork w)
unfolding grammar.own_work
kept_own_work = kept_or (kept_app (kept_made (λ w h. h)) kept_work) (kept_made tt)

kept_entry : Keeps grammar.entry (λ l. IsEntry l.item)
unfolding grammar.entry
kept_entry =
    kept_app
    (kept_app
    (kept_app (kept_made (λ t h w k cs l. record { ws = h.0; name = h.1; work = k; clauses = l })) kept_scoped_token)
    kept_own_work)
    (kept_clauses false)

kept_entries : Keeps grammar.entries (λ xs. Each IsEntry (items xs))
unfolding grammar.entries
kept_entries = kept_more (kept_list (λ l. IsEntry l.item) kept_entry) (λ xs h. each_item IsEntry xs h)

kept_title : Keeps grammar.title (λ t. WhenGiven IsName t.ws × IsName t.name × WhenGiven IsFree t.free)
unfolding grammar.title
kept_title =
    kept_app
    (kept_skip (kept_app (kept_app (kept_made (λ l a t h f k. (h.0, h.1, k))) kept_any) kept_scoped_token))
    kept_free

kept_header : Keeps grammar.header (λ l. IsSchedule l.item)
unfolding grammar.header
kept_header =
    kept_skip
    (kept_app
    (kept_app (kept_app (kept_made (λ t h os k cs l.
    record { ws = h.0; name = h.1; free = h.2; ons = k; clauses = l; entries = tt })) kept_title) kept_ons)
    (kept_clauses true))

kept_schedule : Keeps grammar.schedule (λ l. IsSchedule l.item)
unfolding grammar.schedule
kept_schedule =
    kept_skip
    (kept_app (kept_app (kept_made (λ s h es k.
    record { ws = h.ws; name = h.name; free = h.free; ons = h.ons; clauses = h.clauses; entries = k })) kept_header) kept_entries)

-- options
kept_start : Keeps whole.start_of_day (λ o. WhenGiven IsTime (item_of o))
unfolding whole.start_of_day
kept_start = kept_or (kept_app (kept_app (kept_made (λ l a t h. h)) kept_any) kept_time) (kept_made tt)

kept_zone : Keeps whole.time_zone (λ o. WhenGiven IsText (item_of o))
unfolding whole.time_zone
kept_zone = kept_or (kept_app (kept_app (kept_made (λ l a t h. h)) kept_any) kept_text) (kept_made tt)

kept_options : Keeps whole.options (λ o. WhenGiven IsTime (item_of o.start) × WhenGiven IsText (item_of o.zone))
unfolding whole.options
kept_options =
    kept_or
    (kept_app
    (kept_app (kept_app (kept_app (kept_made (λ x a s h z k c b. (h, k))) kept_any) kept_start) kept_zone)
    kept_any)
    (kept_made (tt, tt))

-- one statement more
each_more : {A : Type 0} (P : A → Type 0) (xs : List (Lined A)) (l : Lined A) → Each P (items xs) → P l.item → Each P (items (xs ++ l ∷ []))
each_more P [] l h k = (k, tt)
each_more P (x ∷ xs) l h k = (h.0, each_more P xs l h.1 k)

each_both : {A : Type 0} (P : A → Type 0) (xs ys : List (Lined A)) → Each P (items xs) → Each P (items ys) → Each P (items (xs ++ ys))
each_both P [] ys h k = k
each_both P (x ∷ xs) ys h k = (h.0, each_both P xs ys h.1 k)

kept_statement : Keeps whole.statement (λ s. (d : Defs) → AreDefs d → AreDefs (whole.after_statement d s))
unfolding whole.statement whole.cpu_statement whole.domain_statement whole.calendar_group whole.prompt_group whole.resource_group whole.job_group whole.schedule_statement whole.calendars whole.prompt_defs whole.resources whole.jobs
kept_statement =
    kept_or (kept_app (kept_made (λ l h d e. record {
      start = e.start;
      zone = e.zone;
      cpus = each_more IsCpu d.cpus l e.cpus h;
      domains = e.domains;
      calendars = e.calendars;
      prompts = e.prompts;
      resources = e.resources;
      jobs = e.jobs;
      schedules = e.schedules;
    })) kept_cpu)
    (kept_or (kept_app (kept_made (λ l h d e. record {
      start = e.start;
      zone = e.zone;
      cpus = e.cpus;
      domains = each_more IsDomain d.domains l e.domains h;
      calendars = e.calendars;
      prompts = e.prompts;
      resources = e.resources;
      jobs = e.jobs;
      schedules = e.schedules;
    })) kept_domain)
    (kept_or (kept_app (kept_app (kept_made (λ x a ls h d e. record {
      start = e.start;
      zone = e.zone;
      cpus = e.cpus;
      domains = e.domains;
      calendars = each_both IsCalendar d.calendars ls e.calendars (each_item IsCalendar ls h);
      prompts = e.prompts;
      resources = e.resources;
      jobs = e.jobs;
      schedules = e.schedules;
    })) kept_any) (kept_list (λ l. IsCalendar l.item) kept_calendar))
    (kept_or (kept_app (kept_app (kept_made (λ x a ls h d e. record {
      start = e.start;
      zone = e.zone;
      cpus = e.cpus;
      domains = e.domains;
      calendars = e.calendars;
      prompts = each_both IsPrompt d.prompts ls e.prompts (each_item IsPrompt ls h);
      resources = e.resources;
      jobs = e.jobs;
      schedules = e.schedules;
    })) kept_any) (kept_list (λ l. IsPrompt l.item) kept_prompt))
    (kept_or (kept_app (kept_app (kept_made (λ x a ls h d e. record {
      start = e.start;
      zone = e.zone;
      cpus = e.cpus;
      domains = e.domains;
      calendars = e.calendars;
      prompts = e.prompts;
      resources = each_both IsResource d.resources ls e.resources (each_item IsResource ls h);
      jobs = e.jobs;
      schedules = e.schedules;
    })) kept_any) (kept_list (λ l. IsResource l.item) kept_resource))
    (kept_or (kept_app (kept_app (kept_made (λ x a ls h d e. record {
      start = e.start;
      zone = e.zone;
      cpus = e.cpus;
      domains = e.domains;
      calendars = e.calendars;
      prompts = e.prompts;
      resources = e.resources;
      jobs = each_both IsJob d.jobs ls e.jobs (each_item IsJob ls h);
      schedules = e.schedules;
    })) kept_any) (kept_list (λ l. IsJob l.item) kept_job))
    (kept_app (kept_made (λ l h d e. record {
      start = e.start;
      zone = e.zone;
      cpus = e.cpus;
      domains = e.domains;
      calendars = e.calendars;
      prompts = e.prompts;
      resources = e.resources;
      jobs = e.jobs;
      schedules = each_more IsSchedule d.schedules l e.schedules h;
    })) kept_schedule))))))

none : (last : ℕ) → AreDefs (whole.no_defs last)
none last = record {
  start = tt;
  zone = tt;
  cpus = tt;
  domains = tt;
  calendars = tt;
  prompts = tt;
  resources = tt;
  jobs = tt;
  schedules = tt;
}

kept_defs : (last : ℕ) → Keeps (whole.defs last) (λ d. AreDefs d)
unfolding whole.defs whole.statements
kept_defs last =
    kept_app
    (kept_app (kept_made (λ o h d e. record {
      start = h.0;
      zone = h.1;
      cpus = e.cpus;
      domains = e.domains;
      calendars = e.calendars;
      prompts = e.prompts;
      resources = e.resources;
      jobs = e.jobs;
      schedules = e.schedules;
    })) kept_options)
    (kept_many (whole.no_defs last) (λ d. d) AreDefs (none last) kept_statement (λ d s h k. k d h) (λ d h. h))

pub read_defs : (text : List ℕ) (ts : List Token) (last : ℕ) (d : Defs) → tokens_of text ≡ Ok ts
    → Spells (whole.defs last) (all_spelled text ts) d → AreDefs d
read_defs text ts last d e s = (kept_defs last).holds (all_spelled text ts) (all_good text ts e) d s
