-- The canonical text of definitions that were read is UTF-8, line by line.
use Rattle.std.proofs.Common.{ℕ, Bool, true, false, eqb, List, [], ◌∷◌, ◌++◌, codes, Option, Some}
use Rattle.std.proofs.Common.{None, refl, IsUtf8}
use Rattle.base_types.specs.declared.Carry.{Carry}
use Rattle.base_types.specs.declared.Carry.TheVariants as carry
use Rattle.base_types.specs.declared.OnUntil.{OnUntil}
use Rattle.base_types.specs.declared.OnUntil.TheVariants as until
use Rattle.base_types.specs.declared.PromptDef.{PromptDef}
use Rattle.base_types.specs.declared.Recovery.{Recovery}
use Rattle.base_types.specs.declared.Recovery.TheVariants as recovery
use Rattle.base_types.specs.declared.Work.{Work}
use Rattle.base_types.specs.declared.Work.TheVariants.{Command, Script}
use Rattle.calendars.specs.Dates.{IsDay}
use Rattle.composer_parser.specs.declared.CalendarDef.{CalendarDef}
use Rattle.composer_parser.specs.declared.Clause.{Clause}
use Rattle.composer_parser.specs.declared.Clause.TheVariants.{At, Until, Deadline, Priority, Limit, CarryForward}
use Rattle.composer_parser.specs.declared.Clause.TheVariants.{Follows, Needs, Prompt, Opens}
use Rattle.composer_parser.specs.declared.CpuDef.{CpuDef}
use Rattle.composer_parser.specs.declared.CycleDef.{CycleDef}
use Rattle.composer_parser.specs.declared.Defs.{Defs}
use Rattle.composer_parser.specs.declared.DomainDef.{DomainDef}
use Rattle.composer_parser.specs.declared.EntryDef.{EntryDef}
use Rattle.composer_parser.specs.declared.FreeDef.{FreeDef}
use Rattle.composer_parser.specs.declared.JobDef.{JobDef}
use Rattle.composer_parser.specs.declared.Need.{Need}
use Rattle.composer_parser.specs.declared.Offset.{Offset}
use Rattle.composer_parser.specs.declared.OffsetUnit.{OffsetUnit}
use Rattle.composer_parser.specs.declared.OffsetUnit.TheVariants as unit
use Rattle.composer_parser.specs.declared.OnDef.{OnDef}
use Rattle.composer_parser.specs.declared.OnItem.{OnItem}
use Rattle.composer_parser.specs.declared.OnItem.TheVariants.{Weekday, EveryDay, Weekdays, Workdays, FreeDays, Request}
use Rattle.composer_parser.specs.declared.OnItem.TheVariants.{Date, Rule, Calendar}
use Rattle.composer_parser.specs.declared.Pred.{Pred}
use Rattle.composer_parser.specs.declared.PredPart.{PredPart}
use Rattle.composer_parser.specs.declared.PredPart.TheVariants as part
use Rattle.composer_parser.specs.declared.PromptItem.{PromptItem}
use Rattle.composer_parser.specs.declared.PromptItem.TheVariants as ask
use Rattle.composer_parser.specs.declared.ResourceDef.{ResourceDef}
use Rattle.composer_parser.specs.declared.ScheduleDef.{ScheduleDef}
use Rattle.composer_parser.specs.declared.Shift.{Shift}
use Rattle.composer_parser.specs.declared.Shift.TheVariants as shift
use Rattle.composer_parser.specs.declared.WorkDef.{WorkDef}
use Rattle.composer_print.specs.Clauses.{name_text, plus_text, until_text, priority_text, part_text, pred_text}
use Rattle.composer_print.specs.Clauses.{units_text, need_text, prompt_text, moment_text, clause_text, clauses_text}
use Rattle.composer_print.specs.Groups.{note_text, day_text, calendar_line, prompt_line, resource_line, job_line}
use Rattle.composer_print.specs.Groups.{header}
use Rattle.composer_print.specs.Printed.{network_text, groups_text, text_of}
use Rattle.composer_print.specs.Stations.{start_texts, zone_texts, carry_texts, carry_word, ended, options_of}
use Rattle.composer_print.specs.Stations.{options_text, on_or_off, type_word, port_text, link_text, full_text}
use Rattle.composer_print.specs.Stations.{machine_text, place_text, cpu_line, parent_text, domain_line}
use Rattle.composer_print.specs.Streams.{weekday_text, sign_text, unit_text, offset_text, item_text, from_text, to_text}
use Rattle.composer_print.specs.Streams.{cycle_text, shift_text, on_word, on_text, flag_text, free_text, own_work_text}
use Rattle.composer_print.specs.Streams.{items, entry_line, header_line, entry_lines, schedule_lines}
use Rattle.composer_print.specs.Texts.{begun_after, item_of}
use Rattle.composer_print.specs.Works.{command_text, logon_text, cond_text, recovery_text, work_text}
use Rattle.syntax.specs.Quotes.{quoted_text}
use Rattle.composer_laws.specs.Written.{Each, WhenGiven, IsText, IsName, IsNumber, IsTime, IsCpu, IsDomain, IsCalendar}
use Rattle.composer_laws.specs.Written.{IsPrompt, IsResource, IsCommand, IsWork, IsJob, IsPart, IsPred, IsNeed}
use Rattle.composer_laws.specs.Written.{IsPromptItem, IsClause, AreClauses, IsCycle, IsOffset, IsItem, IsOn, IsFree}
use Rattle.composer_laws.specs.Written.{IsEntry, IsSchedule, AreDefs}
use Rattle.composer_laws.proofs.Normals.{each_both}
use Rattle.canonical_laws.proofs.Characters.{AreChars, no_chars, join, choose, plain, word_chars, name_chars}
use Rattle.canonical_laws.proofs.Characters.{quoted_chars, number_chars, time_chars, date_chars, each_chars}
use Rattle.canonical_laws.proofs.Characters.{lined_chars, texts_chars, list_chars}

-- clauses
scope_chars : (ws : Option (List ℕ)) (n : List ℕ) → WhenGiven IsName ws → IsName n → AreChars (name_text ws n)
unfolding name_text
scope_chars None n h k = name_chars n k
scope_chars (Some w) n h k = join (join (name_chars w h) (plain (codes "#") refl)) (name_chars n k)

plus_chars : (o : Option ℕ) → WhenGiven IsNumber o → AreChars (plus_text o)
unfolding plus_text
plus_chars None h = no_chars
plus_chars (Some n) h = join (join (plain (codes " +") refl) (number_chars n h)) (plain (codes " DAYS") refl)

until_chars : (u : OnUntil) → AreChars (until_text u)
unfolding until_text
until_chars until.Suppr = no_chars
until_chars until.Cont = plain (codes " ONUNTIL CONT") refl
until_chars until.Canc = plain (codes " ONUNTIL CANC") refl

priority_chars : (n : ℕ) → IsNumber n → AreChars (priority_text n)
unfolding priority_text
priority_chars n h =
    choose (eqb n 100) (plain (codes "HI") refl) (choose (eqb n 101) (plain (codes "GO") refl) (number_chars n h))

part_chars : (q : PredPart) → IsPart q → AreChars (part_text q)
unfolding part_text
part_chars part.Plain h = no_chars
part_chars part.All h = plain (codes ".@") refl
part_chars (part.Job j) h = join (plain (codes ".") refl) (name_chars j h)

pred_chars : (p : Pred) → IsPred p → AreChars (pred_text p)
unfolding pred_text
pred_chars p h = join (scope_chars p.ws p.name h.ws h.name) (part_chars p.part h.part)

units_chars : (o : Option ℕ) → WhenGiven IsNumber o → AreChars (units_text o)
unfolding units_text
units_chars None h = no_chars
units_chars (Some n) h = join (number_chars n h) (plain (codes " ") refl)

need_chars : (n : Need) → IsNeed n → AreChars (need_text n)
unfolding need_text
need_chars n h = join (units_chars n.units h.units) (scope_chars n.ws n.name h.ws h.name)

ask_chars : (p : PromptItem) → IsPromptItem p → AreChars (prompt_text p)
unfolding prompt_text
ask_chars (ask.Name n) h = name_chars n h
ask_chars (ask.Own v) h = quoted_chars v h

moment_chars : (t : ℕ) (d : Option ℕ) → IsTime t → WhenGiven IsNumber d → AreChars (moment_text t d)
moment_chars t d h k = join (time_chars t h) (plus_chars d k)

clause_chars : (c : Clause) → IsClause c → AreChars (clause_text c)
unfolding clause_text
clause_chars (At t d) h = join (plain (codes " AT ") refl) (moment_chars t d h.0 h.1)
clause_chars (Until t d u) h = join (join (plain (codes " UNTIL ") refl) (moment_chars t d h.0 h.1)) (until_chars u)
clause_chars (Deadline t d) h = join (plain (codes " DEADLINE ") refl) (moment_chars t d h.0 h.1)
clause_chars (Priority n) h = join (plain (codes " PRIORITY ") refl) (priority_chars n h)
clause_chars (Limit n) h = join (plain (codes " LIMIT ") refl) (number_chars n h)
clause_chars CarryForward h = plain (codes " CARRYFORWARD") refl
clause_chars (Follows ps) h =
    list_chars IsPred pred_text pred_chars (codes " FOLLOWS ") (plain (codes " FOLLOWS ") refl) ps h
clause_chars (Needs ns) h = list_chars IsNeed need_text need_chars (codes " NEEDS ") (plain (codes " NEEDS ") refl) ns h
clause_chars (Prompt ps) h =
    list_chars IsPromptItem prompt_text ask_chars (codes " PROMPT ") (plain (codes " PROMPT ") refl) ps h
clause_chars (Opens fs) h =
    list_chars (λ f. IsText f) quoted_text quoted_chars (codes " OPENS ") (plain (codes " OPENS ") refl) fs h

clauses_chars : (stream : Bool) (done cs : List Clause) → AreClauses stream done cs → AreChars (clauses_text cs)
unfolding clauses_text
clauses_chars stream done [] h = no_chars
clauses_chars stream done (c ∷ cs) h = join (clause_chars c h.0) (clauses_chars stream (done ++ c ∷ []) cs h.2)

-- what a job runs
command_chars : (w : Work) → IsCommand w → AreChars (command_text w)
unfolding command_text
command_chars (Script v) h = join (plain (codes " SCRIPTNAME ") refl) (quoted_chars v h)
command_chars (Command v) h = join (plain (codes " DOCOMMAND ") refl) (quoted_chars v h)

logon_chars : (o : Option (List ℕ)) → WhenGiven IsText o → AreChars (logon_text o)
unfolding logon_text
logon_chars None h = no_chars
logon_chars (Some v) h = join (plain (codes " STREAMLOGON ") refl) (quoted_chars v h)

cond_chars : (o : Option (List ℕ)) → WhenGiven IsText o → AreChars (cond_text o)
unfolding cond_text
cond_chars None h = no_chars
cond_chars (Some v) h = join (plain (codes " RCCONDSUCC ") refl) (quoted_chars v h)

recovery_chars : (r : Recovery) → AreChars (recovery_text r)
unfolding recovery_text
recovery_chars recovery.Stop = no_chars
recovery_chars recovery.Continue = plain (codes " RECOVERY CONTINUE") refl
recovery_chars recovery.Rerun = plain (codes " RECOVERY RERUN") refl

work_chars : (w : WorkDef) → IsWork w → AreChars (work_text w)
unfolding work_text
work_chars w h =
    join (join (join (command_chars w.work h.work) (logon_chars w.logon h.logon)) (cond_chars w.cond h.cond))
    (recovery_chars w.recovery)

-- streams
weekday_chars : (n : ℕ) → AreChars (weekday_text n)
unfolding weekday_text
weekday_chars n =
    choose (eqb n 0) (plain (codes "MO") refl)
    (choose (eqb n 1) (plain (codes "TU") refl)
    (choose (eqb n 2) (plain (codes "WE") refl)
    (choose (eqb n 3) (plain (codes "TH") refl)
    (choose (eqb n 4) (plain (codes "FR") refl)
    (choose (eqb n 5) (plain (codes "SA") refl) (choose (eqb n 6) (plain (codes "SU") refl) no_chars))))))

sign_chars : (b : Bool) → AreChars (sign_text b)
sign_chars true = plain (codes " +") refl
sign_chars false = plain (codes " -") refl

unit_chars : (u : OffsetUnit) → AreChars (unit_text u)
unit_chars unit.Days = plain (codes " DAYS") refl
unit_chars unit.Weekdays = plain (codes " WEEKDAYS") refl
unit_chars unit.Workdays = plain (codes " WORKDAYS") refl

offset_chars : (o : Option Offset) → WhenGiven IsOffset o → AreChars (offset_text o)
unfolding offset_text
offset_chars None h = no_chars
offset_chars (Some o) h = join (join (sign_chars o.plus) (number_chars o.n h)) (unit_chars o.unit)

item_chars : (x : OnItem) → IsItem x → AreChars (item_text x)
unfolding item_text
item_chars (Weekday n) h = weekday_chars n
item_chars EveryDay h = plain (codes "EVERYDAY") refl
item_chars Weekdays h = plain (codes "WEEKDAYS") refl
item_chars Workdays h = plain (codes "WORKDAYS") refl
item_chars FreeDays h = plain (codes "FREEDAYS") refl
item_chars Request h = plain (codes "REQUEST") refl
item_chars (Date day) h = date_chars day h
item_chars (Rule v) h = quoted_chars v h.0
item_chars (Calendar n o) h = join (name_chars n h.0) (offset_chars o h.1)

from_chars : (o : Option ℕ) → WhenGiven IsDay o → AreChars (from_text o)
unfolding from_text
from_chars None h = no_chars
from_chars (Some day) h = join (plain (codes " VALIDFROM ") refl) (date_chars day h)

to_chars : (o : Option ℕ) → WhenGiven IsDay o → AreChars (to_text o)
unfolding to_text
to_chars None h = no_chars
to_chars (Some day) h = join (plain (codes " VALIDTO ") refl) (date_chars day h)

cycle_chars : (o : Option CycleDef) → WhenGiven IsCycle o → AreChars (cycle_text o)
unfolding cycle_text
cycle_chars None h = no_chars
cycle_chars (Some c) h =
    join (join (join (plain (codes " RUNCYCLE ") refl) (name_chars c.name h.name)) (from_chars c.first h.first))
    (to_chars c.last h.last)

shift_chars : (o : Option Shift) → AreChars (shift_text o)
unfolding shift_text
shift_chars None = no_chars
shift_chars (Some shift.Ignore) = plain (codes " FDIGNORE") refl
shift_chars (Some shift.Next) = plain (codes " FDNEXT") refl
shift_chars (Some shift.Prev) = plain (codes " FDPREV") refl

on_word_chars : (b : Bool) → AreChars (on_word b)
on_word_chars true = plain (codes " EXCEPT") refl
on_word_chars false = plain (codes " ON") refl

on_chars : (o : OnDef) → IsOn o → AreChars (on_text o)
unfolding on_text
on_chars o h =
    join
    (join (join (on_word_chars o.except) (cycle_chars o.cycle h.cycle))
    (list_chars IsItem item_text item_chars (codes " ") (plain (codes " ") refl) o.items h.items))
    (shift_chars o.shift)

flag_chars : (b : Bool) (w : List ℕ) → AreChars w → AreChars (flag_text b w)
flag_chars true w h = h
flag_chars false w h = no_chars

free_chars : (o : Option FreeDef) → WhenGiven IsFree o → AreChars (free_text o)
unfolding free_text
free_chars None h = no_chars
free_chars (Some f) h =
    join
    (join (join (plain (codes " FREEDAYS ") refl) (name_chars f.name h))
    (flag_chars f.minus_sa (codes " -SA") (plain (codes " -SA") refl)))
    (flag_chars f.minus_su (codes " -SU") (plain (codes " -SU") refl))

own_work_chars : (o : Option WorkDef) → WhenGiven IsWork o → AreChars (own_work_text o)
unfolding own_work_text
own_work_chars None h = no_chars
own_work_chars (Some w) h = work_chars w h

entry_chars : (e : EntryDef) → IsEntry e → AreChars (entry_line e)
unfolding entry_line
entry_chars e h =
    join
    (join (join (scope_chars e.ws e.name h.ws h.name) (own_work_chars e.work h.work))
    (clauses_chars false [] (items e.clauses) h.clauses))
    (plain (codes "\n") refl)

schedule_chars : (s : ScheduleDef) → IsSchedule s → AreChars (schedule_lines s)
unfolding schedule_lines header_line entry_lines
schedule_chars s h =
    join
    (join
    (join
    (join (join (join (plain (codes "SCHEDULE ") refl) (scope_chars s.ws s.name h.ws h.name))
    (free_chars s.free h.free))
    (each_chars (λ o. IsOn o) on_text on_chars (items s.ons) h.ons))
    (clauses_chars true [] (items s.clauses) h.clauses))
    (plain (codes " :\n") refl))
    (join (each_chars (λ e. IsEntry e) entry_line entry_chars (items s.entries) h.entries) (plain (codes "END\n") refl))

-- groups
note_chars : (o : Option (List ℕ)) → WhenGiven IsText o → AreChars (note_text o)
unfolding note_text
note_chars None h = no_chars
note_chars (Some v) h = join (plain (codes " ") refl) (quoted_chars v h)

day_chars : (day : ℕ) → IsDay day → AreChars (day_text day)
day_chars day h = join (plain (codes " ") refl) (date_chars day h)

calendar_chars : (c : CalendarDef) → IsCalendar c → AreChars (calendar_line c)
unfolding calendar_line
calendar_chars c h =
    join
    (join (join (name_chars c.name h.name) (note_chars c.text h.text))
    (each_chars IsDay day_text day_chars c.days h.days))
    (plain (codes "\n") refl)

prompt_chars : (p : PromptDef) → IsPrompt p → AreChars (prompt_line p)
unfolding prompt_line
prompt_chars p h =
    join (join (join (name_chars p.name h.name) (plain (codes " ") refl)) (quoted_chars p.text h.text))
    (plain (codes "\n") refl)

resource_chars : (r : ResourceDef) → IsResource r → AreChars (resource_line r)
unfolding resource_line
resource_chars r h =
    join
    (join
    (join
    (join (join (join (name_chars r.ws h.ws) (plain (codes "#") refl)) (name_chars r.name h.name))
    (plain (codes " ") refl))
    (number_chars r.total h.total))
    (note_chars r.text h.text))
    (plain (codes "\n") refl)

job_chars : (j : JobDef) → IsJob j → AreChars (job_line j)
unfolding job_line
job_chars j h =
    join
    (join (join (join (name_chars j.ws h.ws) (plain (codes "#") refl)) (name_chars j.name h.name))
    (work_chars j.work h.work))
    (plain (codes "\n") refl)

header_chars : {A : Type 0} (w : List ℕ) (xs : List A) → AreChars w → AreChars (header w xs)
header_chars w [] h = no_chars
header_chars w (x ∷ xs) h = h

-- workstations and domains
port_chars : (o : Option ℕ) → WhenGiven IsNumber o → AreChars (port_text o)
unfolding port_text
port_chars None h = no_chars
port_chars (Some n) h = join (plain (codes " TCPADDR ") refl) (number_chars n h)

switch_chars : (b : Bool) → AreChars (on_or_off b)
switch_chars true = plain (codes "ON") refl
switch_chars false = plain (codes "OFF") refl

type_chars : (b : Bool) → AreChars (type_word b)
type_chars true = plain (codes "MANAGER") refl
type_chars false = plain (codes "FTA") refl

link_chars : (o : Option Bool) → AreChars (link_text o)
unfolding link_text
link_chars None = no_chars
link_chars (Some b) = join (plain (codes " AUTOLINK ") refl) (switch_chars b)

full_chars : (o : Option Bool) → AreChars (full_text o)
unfolding full_text
full_chars None = no_chars
full_chars (Some b) = join (plain (codes " FULLSTATUS ") refl) (switch_chars b)

machine_chars : (c : CpuDef) → IsCpu c → AreChars (machine_text c)
unfolding machine_text
machine_chars c h =
    join
    (join
    (join
    (join (join (join (plain (codes "CPUNAME ") refl) (name_chars c.name h.name)) (plain (codes " OS ") refl))
    (word_chars c.os h.os))
    (plain (codes " NODE ") refl))
    (quoted_chars c.host h.host))
    (port_chars c.port h.port)

place_chars : (c : CpuDef) → IsCpu c → AreChars (place_text c)
unfolding place_text
place_chars c h =
    join
    (join
    (join
    (join (join (join (plain (codes " DOMAIN ") refl) (name_chars c.domain h.domain))
    (plain (codes " FOR MAESTRO TYPE ") refl))
    (type_chars c.manager))
    (link_chars c.autolink))
    (full_chars c.full))
    (plain (codes " END\n") refl)

cpu_chars : (c : CpuDef) → IsCpu c → AreChars (cpu_line c)
unfolding cpu_line
cpu_chars c h = join (machine_chars c h) (place_chars c h)

parent_chars : (o : Option (List ℕ)) → WhenGiven IsName o → AreChars (parent_text o)
unfolding parent_text
parent_chars None h = plain (codes " ISMASTER") refl
parent_chars (Some p) h = join (plain (codes " PARENT ") refl) (name_chars p h)

domain_chars : (d : DomainDef) → IsDomain d → AreChars (domain_line d)
unfolding domain_line
domain_chars d h =
    join
    (join
    (join (join (join (plain (codes "DOMAIN ") refl) (name_chars d.name h.name)) (plain (codes " MANAGER ") refl))
    (name_chars d.manager h.manager))
    (parent_chars d.parent h.parent))
    (plain (codes " END\n") refl)

-- options
start_chars : (o : Option ℕ) → WhenGiven IsTime o → Each AreChars (start_texts o)
unfolding start_texts
start_chars None h = tt
start_chars (Some t) h = (join (plain (codes "STARTOFDAY ") refl) (time_chars t h), tt)

zone_chars : (o : Option (List ℕ)) → WhenGiven IsText o → Each AreChars (zone_texts o)
unfolding zone_texts
zone_chars None h = tt
zone_chars (Some z) h = (join (plain (codes "TIMEZONE ") refl) (quoted_chars z h), tt)

carry_word_chars : (c : Carry) → AreChars (carry_word c)
carry_word_chars carry.Yes = plain (codes "YES") refl
carry_word_chars carry.No = plain (codes "NO") refl
carry_word_chars carry.All = plain (codes "ALL") refl

carry_chars : (o : Option Carry) → Each AreChars (carry_texts o)
unfolding carry_texts
carry_chars None = tt
carry_chars (Some c) = (join (plain (codes "ENCARRYFORWARD ") refl) (carry_word_chars c), tt)

ended_chars : (b : Bool) → AreChars (ended b)
ended_chars true = plain (codes "\n") refl
ended_chars false = no_chars

options_chars : (s : Option ℕ) (z : Option (List ℕ)) (c : Option Carry) → WhenGiven IsTime s → WhenGiven IsText z
    → AreChars (options_text s z c)
unfolding options_text options_of
options_chars s z c hs hz =
    let all : List (List ℕ) = start_texts s ++ (zone_texts z ++ carry_texts c) in
    let each : Each AreChars all =
    each_both (λ w. AreChars w) (start_texts s) (zone_texts z ++ carry_texts c) (start_chars s hs)
    (each_both (λ w. AreChars w) (zone_texts z) (carry_texts c) (zone_chars z hz) (carry_chars c)) in
    join
    (texts_chars (codes " ") (codes "$OPTIONS\n") (plain (codes " ") refl)
    (plain (codes "$OPTIONS\n") refl) false all each)
    (ended_chars (begun_after false all))

-- definitions
network_chars : (d : Defs) → AreDefs d → AreChars (network_text d)
unfolding network_text
network_chars d h =
    join
    (join (options_chars (item_of d.start) (item_of d.zone) (item_of d.carry) h.start h.zone)
    (lined_chars (λ c. IsCpu c) cpu_line cpu_chars d.cpus h.cpus))
    (lined_chars (λ x. IsDomain x) domain_line domain_chars d.domains h.domains)

groups_chars : (d : Defs) → AreDefs d → AreChars (groups_text d)
unfolding groups_text
groups_chars d h =
    join
    (join
    (join
    (join (header_chars (codes "$CALENDAR\n") d.calendars (plain (codes "$CALENDAR\n") refl))
    (lined_chars (λ c. IsCalendar c) calendar_line calendar_chars d.calendars h.calendars))
    (join (header_chars (codes "$PROMPT\n") d.prompts (plain (codes "$PROMPT\n") refl))
    (lined_chars (λ p. IsPrompt p) prompt_line prompt_chars d.prompts h.prompts)))
    (join (header_chars (codes "$RESOURCE\n") d.resources (plain (codes "$RESOURCE\n") refl))
    (lined_chars (λ r. IsResource r) resource_line resource_chars d.resources h.resources)))
    (join (header_chars (codes "$JOBS\n") d.jobs (plain (codes "$JOBS\n") refl))
    (lined_chars (λ j. IsJob j) job_line job_chars d.jobs h.jobs))

pub text_utf8 : (d : Defs) → AreDefs d → IsUtf8 (text_of d)
unfolding text_of
text_utf8 d h =
    (join (join (network_chars d h) (groups_chars d h))
    (lined_chars (λ s. IsSchedule s) schedule_lines schedule_chars d.schedules h.schedules)).utf8
