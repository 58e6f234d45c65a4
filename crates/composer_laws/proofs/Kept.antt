-- What is known of workstations, domains, works and groups that are read.
use Rattle.std.proofs.Common.{◌≡◌, ◌⊎◌, inl, inr, ℕ, List, Option, refl, sym, subst}
use Rattle.composer_parser.specs.Stations as stations
use Rattle.composer_parser.specs.Works as works
use Rattle.composer_parser.specs.Composer as grammar
use Rattle.calendars.specs.Dates.{IsDay}
use Rattle.composer_laws.specs.Written.{IsName, IsText, IsWord, IsNumber, WhenGiven, Each, IsCpu, IsDomain, IsCommand, IsWork, IsCalendar, IsPrompt, IsResource, IsJob}
use Rattle.composer_parser.specs.Parts.{upper}
use Rattle.composer_laws.proofs.Keeps.{Keeps, kept_made, kept_any, kept_app, kept_skip, kept_or, kept_many, kept_list}
use Rattle.composer_laws.proofs.Leaves.{kept_name, kept_name_token, kept_word, kept_text, kept_value, kept_number, kept_date, kept_placed_token}

kept_port : Keeps stations.port (λ p. WhenGiven IsNumber p)
unfolding stations.port
kept_port = kept_or (kept_app (kept_app (kept_made (λ x a n h. h)) kept_any) kept_number) (kept_made tt)

kept_machine : Keeps stations.machine (λ m. (IsWord m.os × (upper m.os ≡ m.os)) × IsText m.host × WhenGiven IsNumber m.port)
unfolding stations.machine
kept_machine =
    kept_app
    (kept_app
    (kept_app (kept_app (kept_app (kept_made (λ x a os h y b host k p l. (h, k, l))) kept_any) kept_word) kept_any) kept_value)
    kept_port

kept_place : Keeps stations.place (λ p. IsName p.domain)
unfolding stations.place
kept_place =
    kept_app
    (kept_app
    (kept_app (kept_app (kept_app (kept_app (kept_made (λ x a own h y b z c u d m e. h)) kept_any) kept_name) kept_any) kept_any)
    kept_any)
    kept_any

pub kept_cpu : Keeps stations.cpu (λ l. IsCpu l.item)
unfolding stations.cpu
kept_cpu =
    kept_app
    (kept_app
    (kept_app
    (kept_app
    (kept_app
    (kept_app
    (kept_app (kept_made (λ line a own h d b m k p l fs c y e.
    record { name = h; os = k.0.0; high = k.0.1; host = k.1; port = k.2; domain = l })) kept_any)
    kept_name)
    kept_any)
    kept_machine)
    kept_place)
    kept_any)
    kept_any

kept_parent : Keeps stations.parent (λ p. WhenGiven IsName p)
unfolding stations.parent
kept_parent = kept_or (kept_app (kept_app (kept_made (λ x a n h. h)) kept_any) kept_name) (kept_app (kept_made (λ x a. tt)) kept_any)

pub kept_domain : Keeps stations.domain (λ l. IsDomain l.item)
unfolding stations.domain
kept_domain =
    kept_skip
    (kept_app
    (kept_app
    (kept_skip (kept_skip (kept_skip
    (kept_app (kept_app (kept_made (λ line a n h m k p l. record { name = h; manager = k; parent = l })) kept_any) kept_name))))
    kept_name)
    kept_parent)

-- works
kept_command : Keeps works.command (λ w. IsCommand w)
unfolding works.command
kept_command =
    kept_or (kept_app (kept_app (kept_made (λ x a v h. h)) kept_any) kept_value)
    (kept_app (kept_app (kept_made (λ x a v h. h)) kept_any) kept_text)

kept_flag : Keeps works.work_flag
    (λ f. (s : _) → (((works.after_work_flag s f).logon ≡ s.logon) ⊎ WhenGiven IsText (works.after_work_flag s f).logon)
    × (((works.after_work_flag s f).cond ≡ s.cond) ⊎ WhenGiven IsText (works.after_work_flag s f).cond))
unfolding works.work_flag
kept_flag =
    kept_or (kept_app (kept_app (kept_made (λ x a v h s. (inr h, inl refl))) kept_any) kept_value)
    (kept_or (kept_app (kept_app (kept_made (λ x a v h s. (inl refl, inl refl))) kept_any) kept_any)
    (kept_or (kept_app (kept_app (kept_made (λ x a v h s. (inl refl, inl refl))) kept_any) kept_any)
    (kept_or (kept_app (kept_app (kept_made (λ x a v h s. (inl refl, inr h))) kept_any) kept_text)
    (kept_skip (kept_app (kept_app (kept_made (λ x a v h s. (inl refl, inl refl))) kept_any) kept_any)))))

by_choice : (a b : Option (List ℕ)) → WhenGiven IsText b → (a ≡ b) ⊎ WhenGiven IsText a → WhenGiven IsText a
by_choice a b h (inl e) = subst (λ (o : Option (List ℕ)). WhenGiven IsText o) (sym e) h
by_choice a b h (inr k) = k

kept_flags : Keeps works.work_flags (λ s. WhenGiven IsText s.logon × WhenGiven IsText s.cond)
unfolding works.work_flags
kept_flags =
    kept_many works.no_work_flags _ (λ s. WhenGiven IsText s.logon × WhenGiven IsText s.cond) (tt, tt) kept_flag
    (λ s f h k. (by_choice _ s.logon h.0 (k s).0, by_choice _ s.cond h.1 (k s).1)) (λ s h. h)

pub kept_work : Keeps works.work (λ w. IsWork w)
unfolding works.work
kept_work = kept_app (kept_app (kept_made (λ w h s k. record { work = h; logon = k.0; cond = k.1 })) kept_command) kept_flags

-- groups
kept_note : Keeps grammar.a_text_or_none (λ o. WhenGiven IsText o)
unfolding grammar.a_text_or_none
kept_note = kept_or (kept_app (kept_made (λ v h. h)) kept_text) (kept_made tt)

kept_dates : Keeps grammar.dates (λ ds. Each IsDay ds)
unfolding grammar.dates
kept_dates = kept_list IsDay kept_date

pub kept_calendar : Keeps grammar.calendar (λ l. IsCalendar l.item)
unfolding grammar.calendar
kept_calendar =
    kept_app (kept_app (kept_app (kept_made (λ t h x k ds l. record { name = h; text = k; days = l })) kept_name_token) kept_note) kept_dates

pub kept_prompt : Keeps grammar.prompt_def (λ l. IsPrompt l.item)
unfolding grammar.prompt_def
kept_prompt = kept_app (kept_app (kept_made (λ t h x k. record { name = h; text = k })) kept_name_token) kept_text

pub kept_resource : Keeps grammar.resource (λ l. IsResource l.item)
unfolding grammar.resource
kept_resource =
    kept_app
    (kept_app (kept_app (kept_made (λ t h n k x l. record { ws = h.0; name = h.1; total = k; text = l })) kept_placed_token) kept_number)
    kept_note

pub kept_job : Keeps grammar.job (λ l. IsJob l.item)
unfolding grammar.job
kept_job = kept_app (kept_app (kept_made (λ t h w k. record { ws = h.0; name = h.1; work = k })) kept_placed_token) kept_work
