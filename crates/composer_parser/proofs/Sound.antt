-- That the next token always decides, for each grammar over which a loop goes, and for the whole.
use Rattle.std.proofs.Common.{◌≡◌, ◌++◌, ℕ, true, false, List, [], ◌∷◌, refl, ◌∙◌}
use Rattle.std.specs.Prelude.{codes}
use Rattle.std.specs.List.{list_all}
use Rattle.std.proofs.lemmas.List.Folds.{list_all-append}
use Rattle.composer_parser.specs.Kinds.{Kind, keyword, is_reserved, reserved_words, is_placed, is_scoped, is_pred, is_time, is_date, is_plus, is_minus, is_offset}
use Rattle.calendars.specs.Written.{date_of}
use Rattle.calendars.specs.Dates.{day_of}
use Rattle.composer_parser.specs.Groups.{kinds_apart, apart, group_of}
use Rattle.composer_parser.specs.Grammars.{Grammar}
use Rattle.composer_parser.specs.Reading.{decided, empty, tries, goes_on, has}
use Rattle.composer_parser.specs.Answers.{is_sound}
use Rattle.composer_parser.specs.Parts.{description, date}
use Rattle.composer_parser.specs.Stations.{on_or_off, firewall_off, flag, flags, cpu_type, port, machine, place, cpu, star, parent, domain}
use Rattle.composer_parser.specs.Works.{command, recovery_word, no_recovery_job, work_flag, work_flags, work}
use Rattle.composer_parser.specs.Clauses.{plus_days, until_word, on_until, next_pred, preds, units, need, next_need, needs, prompt, next_prompt, prompts, no_qualifier, file, next_file, files, priority, at_clause, until_clause, deadline_clause, priority_clause, limit_clause, carry_clause, follows_clause, needs_clause, prompt_clause, opens_clause, clause, clauses}
use Rattle.composer_parser.specs.Schedules.{offset_unit, offset, calendar_item, weekday, days, rule, item, next_item, items, valid_from, valid_to, cycle, shift, no_times, on_key, on, own_work, entry, ons, entries, minus_sa, minus_su, free_days, title, header, schedule}
use Rattle.composer_parser.specs.Composer.{start_of_day, time_zone, carry_word, carry_forward, options, a_text_or_none, dates, calendar, calendars, prompt_def, prompt_defs, resource, resources, job, jobs}
use Rattle.composer_parser.specs.Composer.{cpu_statement, domain_statement, calendar_group, prompt_group, resource_group, job_group, schedule_statement, statement, statements, defs}

pub flag_decided : decided flag ≡ true
unfolding flag on_or_off firewall_off is_reserved reserved_words is_placed is_scoped is_pred is_time is_date date_of day_of is_plus is_minus is_offset
flag_decided = refl

pub flag_some : empty flag ≡ false
unfolding flag on_or_off firewall_off
flag_some = refl

pub work_flag_decided : decided work_flag ≡ true
unfolding work_flag recovery_word no_recovery_job is_reserved reserved_words is_placed is_scoped is_pred is_time is_date date_of day_of is_plus is_minus is_offset
work_flag_decided = refl

pub work_flag_some : empty work_flag ≡ false
unfolding work_flag recovery_word no_recovery_job
work_flag_some = refl

pub next_pred_decided : decided next_pred ≡ true
unfolding next_pred is_reserved reserved_words is_placed is_scoped is_pred is_time is_date date_of day_of is_plus is_minus is_offset
next_pred_decided = refl

pub next_need_decided : decided next_need ≡ true
unfolding next_need need units is_reserved reserved_words is_placed is_scoped is_pred is_time is_date date_of day_of is_plus is_minus is_offset
next_need_decided = refl

pub next_prompt_decided : decided next_prompt ≡ true
unfolding next_prompt prompt is_reserved reserved_words is_placed is_scoped is_pred is_time is_date date_of day_of is_plus is_minus is_offset
next_prompt_decided = refl

pub next_file_decided : decided next_file ≡ true
unfolding next_file file no_qualifier is_reserved reserved_words is_placed is_scoped is_pred is_time is_date date_of day_of is_plus is_minus is_offset
next_file_decided = refl

pub clause_decided : decided clause ≡ true
unfolding plus_days until_word on_until next_pred preds units need next_need needs prompt next_prompt prompts no_qualifier file next_file files priority at_clause until_clause deadline_clause priority_clause limit_clause carry_clause follows_clause needs_clause prompt_clause opens_clause clause is_reserved reserved_words is_placed is_scoped is_pred is_time is_date date_of day_of is_plus is_minus is_offset
clause_decided = refl

pub clause_some : empty clause ≡ false
unfolding plus_days until_word on_until next_pred preds units need next_need needs prompt next_prompt prompts no_qualifier file next_file files priority at_clause until_clause deadline_clause priority_clause limit_clause carry_clause follows_clause needs_clause prompt_clause opens_clause clause
clause_some = refl

pub next_item_decided : decided next_item ≡ true
unfolding next_item item weekday days rule calendar_item offset offset_unit is_reserved reserved_words is_placed is_scoped is_pred is_time is_date date_of day_of is_plus is_minus is_offset
next_item_decided = refl

pub on_decided : decided on ≡ true
unfolding valid_from valid_to cycle shift no_times on_key on offset_unit offset calendar_item weekday days rule item next_item items description is_reserved reserved_words is_placed is_scoped is_pred is_time is_date date_of day_of is_plus is_minus is_offset
on_decided = refl

pub on_some : empty on ≡ false
unfolding valid_from valid_to cycle shift no_times on_key on offset_unit offset calendar_item weekday days rule item next_item items description
on_some = refl

pub entry_decided : decided entry ≡ true
unfolding own_work entry command recovery_word no_recovery_job work_flag work_flags work plus_days until_word on_until next_pred preds units need next_need needs prompt next_prompt prompts no_qualifier file next_file files priority at_clause until_clause deadline_clause priority_clause limit_clause carry_clause follows_clause needs_clause prompt_clause opens_clause clause clauses is_reserved reserved_words is_placed is_scoped is_pred is_time is_date date_of day_of is_plus is_minus is_offset
entry_decided = refl

pub entry_some : empty entry ≡ false
unfolding own_work entry command recovery_word no_recovery_job work_flag work_flags work plus_days until_word on_until next_pred preds units need next_need needs prompt next_prompt prompts no_qualifier file next_file files priority at_clause until_clause deadline_clause priority_clause limit_clause carry_clause follows_clause needs_clause prompt_clause opens_clause clause clauses
entry_some = refl

pub date_decided : decided date ≡ true
date_decided = refl

pub date_some : empty date ≡ false
date_some = refl

pub calendar_decided : decided calendar ≡ true
unfolding calendar a_text_or_none dates is_reserved reserved_words is_placed is_scoped is_pred is_time is_date date_of day_of is_plus is_minus is_offset
calendar_decided = refl

pub calendar_some : empty calendar ≡ false
unfolding calendar a_text_or_none dates
calendar_some = refl

pub prompt_def_decided : decided prompt_def ≡ true
unfolding prompt_def is_reserved reserved_words is_placed is_scoped is_pred is_time is_date date_of day_of is_plus is_minus is_offset
prompt_def_decided = refl

pub prompt_def_some : empty prompt_def ≡ false
unfolding prompt_def
prompt_def_some = refl

pub resource_decided : decided resource ≡ true
unfolding resource a_text_or_none is_reserved reserved_words is_placed is_scoped is_pred is_time is_date date_of day_of is_plus is_minus is_offset
resource_decided = refl

pub resource_some : empty resource ≡ false
unfolding resource a_text_or_none
resource_some = refl

pub job_decided : decided job ≡ true
unfolding job command recovery_word no_recovery_job work_flag work_flags work is_reserved reserved_words is_placed is_scoped is_pred is_time is_date date_of day_of is_plus is_minus is_offset
job_decided = refl

pub job_some : empty job ≡ false
unfolding job command recovery_word no_recovery_job work_flag work_flags work
job_some = refl

-- the tokens with which statements begin
abbrev pub first_kinds : List Kind
first_kinds =
    keyword (codes "CPUNAME") ∷ keyword (codes "DOMAIN") ∷ keyword (codes "$CALENDAR") ∷ keyword (codes "$PROMPT")
    ∷ keyword (codes "$RESOURCE") ∷ keyword (codes "$JOBS") ∷ keyword (codes "SCHEDULE") ∷ []

-- a statement that begins with this word
abbrev BeginsStatement : {A : Type 0} → Grammar A → List ℕ → Type 0
BeginsStatement g word = record {
  decides : decided g ≡ true;
  some : empty g ≡ false;
  can_be : has g ≡ true;
  first : tries g ≡ keyword word ∷ [];
  ends : kinds_apart (goes_on g) first_kinds ≡ true;
}

cpu_statement_facts : BeginsStatement cpu_statement (codes "CPUNAME")
unfolding cpu_statement on_or_off firewall_off flag flags cpu_type port machine place cpu description is_reserved reserved_words is_placed is_scoped is_pred is_time is_date date_of day_of is_plus is_minus is_offset
cpu_statement_facts = record { decides = refl; some = refl; can_be = refl; first = refl; ends = refl }

domain_statement_facts : BeginsStatement domain_statement (codes "DOMAIN")
unfolding domain_statement star parent domain description is_reserved reserved_words is_placed is_scoped is_pred is_time is_date date_of day_of is_plus is_minus is_offset
domain_statement_facts = record { decides = refl; some = refl; can_be = refl; first = refl; ends = refl }

calendar_group_facts : BeginsStatement calendar_group (codes "$CALENDAR")
unfolding calendar_group calendars calendar a_text_or_none dates is_reserved reserved_words is_placed is_scoped is_pred is_time is_date date_of day_of is_plus is_minus is_offset
calendar_group_facts = record { decides = refl; some = refl; can_be = refl; first = refl; ends = refl }

prompt_group_facts : BeginsStatement prompt_group (codes "$PROMPT")
unfolding prompt_group prompt_defs prompt_def is_reserved reserved_words is_placed is_scoped is_pred is_time is_date date_of day_of is_plus is_minus is_offset
prompt_group_facts = record { decides = refl; some = refl; can_be = refl; first = refl; ends = refl }

resource_group_facts : BeginsStatement resource_group (codes "$RESOURCE")
unfolding resource_group resources resource a_text_or_none is_reserved reserved_words is_placed is_scoped is_pred is_time is_date date_of day_of is_plus is_minus is_offset
resource_group_facts = record { decides = refl; some = refl; can_be = refl; first = refl; ends = refl }

job_group_facts : BeginsStatement job_group (codes "$JOBS")
unfolding job_group jobs job command recovery_word no_recovery_job work_flag work_flags work is_reserved reserved_words is_placed is_scoped is_pred is_time is_date date_of day_of is_plus is_minus is_offset
job_group_facts = record { decides = refl; some = refl; can_be = refl; first = refl; ends = refl }

schedule_statement_facts : BeginsStatement schedule_statement (codes "SCHEDULE")
unfolding schedule_statement ons entries minus_sa minus_su free_days title header schedule own_work entry valid_from valid_to cycle shift no_times on_key on offset_unit offset calendar_item weekday days rule item next_item items command recovery_word no_recovery_job work_flag work_flags work plus_days until_word on_until next_pred preds units need next_need needs prompt next_prompt prompts no_qualifier file next_file files priority at_clause until_clause deadline_clause priority_clause limit_clause carry_clause follows_clause needs_clause prompt_clause opens_clause clause clauses description is_reserved reserved_words is_placed is_scoped is_pred is_time is_date date_of day_of is_plus is_minus is_offset
schedule_statement_facts = record { decides = refl; some = refl; can_be = refl; first = refl; ends = refl }

both_apart : (ks ls : List Kind) → kinds_apart ks first_kinds ≡ true → kinds_apart ls first_kinds ≡ true
    → kinds_apart (ks ++ ls) first_kinds ≡ true
both_apart ks ls a b =
    list_all-append (λ k. list_all (λ l. apart (group_of k) (group_of l)) first_kinds) ks ls ∙ rw (a, b) refl

pub statement_tries : tries statement ≡ first_kinds
unfolding statement
statement_tries = rw (cpu_statement_facts.first, domain_statement_facts.first, calendar_group_facts.first, prompt_group_facts.first, resource_group_facts.first, job_group_facts.first, schedule_statement_facts.first) refl

pub statement_some : empty statement ≡ false
unfolding statement
statement_some = rw (schedule_statement_facts.some, cpu_statement_facts.some, domain_statement_facts.some, calendar_group_facts.some, prompt_group_facts.some, resource_group_facts.some, job_group_facts.some) refl

pub statement_decided : decided statement ≡ true
unfolding statement
statement_decided = rw (cpu_statement_facts.decides, domain_statement_facts.decides, calendar_group_facts.decides, prompt_group_facts.decides, resource_group_facts.decides, job_group_facts.decides, schedule_statement_facts.decides, cpu_statement_facts.some, domain_statement_facts.some, calendar_group_facts.some, prompt_group_facts.some, resource_group_facts.some, job_group_facts.some, cpu_statement_facts.first, domain_statement_facts.first, calendar_group_facts.first, prompt_group_facts.first, resource_group_facts.first, job_group_facts.first, schedule_statement_facts.first) refl

statement_apart : kinds_apart (goes_on statement) first_kinds ≡ true
unfolding statement
statement_apart =
    rw (domain_statement_facts.some, calendar_group_facts.some, prompt_group_facts.some, resource_group_facts.some, job_group_facts.some, schedule_statement_facts.some)
    (both_apart (goes_on cpu_statement) (goes_on domain_statement ++ (goes_on calendar_group ++ (goes_on prompt_group ++ (goes_on resource_group ++ (goes_on job_group ++ (goes_on schedule_statement)))))) cpu_statement_facts.ends (both_apart (goes_on domain_statement) (goes_on calendar_group ++ (goes_on prompt_group ++ (goes_on resource_group ++ (goes_on job_group ++ (goes_on schedule_statement))))) domain_statement_facts.ends (both_apart (goes_on calendar_group) (goes_on prompt_group ++ (goes_on resource_group ++ (goes_on job_group ++ (goes_on schedule_statement)))) calendar_group_facts.ends (both_apart (goes_on prompt_group) (goes_on resource_group ++ (goes_on job_group ++ (goes_on schedule_statement))) prompt_group_facts.ends (both_apart (goes_on resource_group) (goes_on job_group ++ (goes_on schedule_statement)) resource_group_facts.ends (both_apart (goes_on job_group) (goes_on schedule_statement) job_group_facts.ends (schedule_statement_facts.ends)))))))

statements_decided : (last : ℕ) → decided (statements last) ≡ true
unfolding statements
statements_decided last = rw (statement_decided, statement_some, statement_tries, statement_apart) refl

options_facts : (decided options ≡ true) × (has options ≡ true) × (empty options ≡ true)
    × (kinds_apart (goes_on options ++ []) first_kinds ≡ true)
unfolding options start_of_day time_zone carry_word carry_forward is_reserved reserved_words is_time
options_facts = (refl, refl, refl, refl)

statements_tries : (last : ℕ) → tries (statements last) ≡ first_kinds
unfolding statements
statements_tries last = statement_tries

statements_has : (last : ℕ) → has (statements last) ≡ true
unfolding statements
statements_has last = refl

pub defs_sound : (last : ℕ) → is_sound (defs last) ≡ true
unfolding defs
defs_sound last =
    rw (
      options_facts.0,
      options_facts.1,
      options_facts.2,
      statements_decided last,
      statements_has last,
      statements_tries last,
      options_facts.3,
    )
    refl
