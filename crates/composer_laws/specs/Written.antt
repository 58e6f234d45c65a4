-- What may stand in definitions that a reader gives.
use Rattle.std.specs.Prelude.{◌≡◌, ◌≤◌, ◌<◌, ◌^◌, ℕ, Bool, true, false, not, ◌==◌, List, [], ◌∷◌, ◌++◌, length, Option, Some, None}
use Rattle.std.specs.List.{list_all, list_any}
use Rattle.std.specs.Str.{is_utf8}
use Rattle.calendars.specs.Dates.{IsDay}
use Rattle.composer_lexer.specs.Tokens.{is_word_byte}
use Rattle.composer_parser.specs.Kinds.{is_free_name}
use Rattle.composer_parser.specs.Rules.{is_rule}
use Rattle.composer_parser.specs.Parts.{upper}
use Rattle.base_types.specs.declared.documents.Work.{Work}
use Rattle.base_types.specs.declared.documents.Work.TheVariants.{Command, Script}
use Rattle.base_types.specs.declared.network.PromptDef.{PromptDef}
use Rattle.composer_parser.specs.declared.definitions.Defs.{Defs}
use Rattle.composer_parser.specs.declared.definitions.CpuDef.{CpuDef}
use Rattle.composer_parser.specs.declared.definitions.DomainDef.{DomainDef}
use Rattle.composer_parser.specs.declared.definitions.CalendarDef.{CalendarDef}
use Rattle.composer_parser.specs.declared.definitions.ResourceDef.{ResourceDef}
use Rattle.composer_parser.specs.declared.definitions.WorkDef.{WorkDef}
use Rattle.composer_parser.specs.declared.definitions.JobDef.{JobDef}
use Rattle.composer_parser.specs.declared.clauses.Clause.{Clause}
use Rattle.composer_parser.specs.declared.clauses.Clause.TheVariants.{At, Until, Deadline, Priority, Limit, CarryForward, Follows, Needs, Prompt, Opens}
use Rattle.composer_parser.specs.declared.clauses.Pred.{Pred}
use Rattle.composer_parser.specs.declared.clauses.PredPart.{PredPart}
use Rattle.composer_parser.specs.declared.clauses.PredPart.TheVariants as part
use Rattle.composer_parser.specs.declared.clauses.Need.{Need}
use Rattle.composer_parser.specs.declared.clauses.PromptItem.{PromptItem}
use Rattle.composer_parser.specs.declared.clauses.PromptItem.TheVariants as ask
use Rattle.composer_parser.specs.declared.schedules.OnItem.{OnItem}
use Rattle.composer_parser.specs.declared.schedules.OnItem.TheVariants.{Weekday, Date, Rule, Calendar}
use Rattle.composer_parser.specs.declared.schedules.OnDef.{OnDef}
use Rattle.composer_parser.specs.declared.schedules.Offset.{Offset}
use Rattle.composer_parser.specs.declared.schedules.CycleDef.{CycleDef}
use Rattle.composer_parser.specs.declared.schedules.FreeDef.{FreeDef}
use Rattle.composer_parser.specs.declared.schedules.EntryDef.{EntryDef}
use Rattle.composer_parser.specs.declared.schedules.ScheduleDef.{ScheduleDef}
use Rattle.composer_parser.specs.Clauses.{is_at, is_until, is_deadline, is_priority, is_limit, is_carry}
use Rattle.composer_print.specs.Streams.{items}
use Rattle.composer_print.specs.Texts.{item_of}

-- a property of what is given, and of each of a list
abbrev pub WhenGiven : {A : Type 0} → (A → Type 0) → Option A → Type 0
WhenGiven P None = Unit {0}
WhenGiven P (Some a) = P a

abbrev pub Each : {A : Type 0} → (A → Type 0) → List A → Type 0
Each P [] = Unit {0}
Each P (x ∷ xs) = P x × Each P xs

-- a word, as the language cuts it
pub record IsWord (w : List ℕ) : Type 0 where
  pub bytes : list_all is_word_byte w ≡ true
  pub some : 1 ≤ length w
  pub room : length w ≤ 4096

-- a text: characters without a line feed
abbrev pub is_no_feed : ℕ → Bool
is_no_feed b = not (b == 10)

pub record IsText (v : List ℕ) : Type 0 where
  pub utf8 : is_utf8 v ≡ true
  pub room : length v ≤ 4096
  pub line : list_all is_no_feed v ≡ true

-- a name that is not reserved, in upper case
pub record IsName (n : List ℕ) : Type 0 where
  pub free : is_free_name n ≡ true
  pub high : upper n ≡ n

abbrev pub IsNumber : ℕ → Type 0
IsNumber n = n < 2 ^ 32

abbrev pub IsTime : ℕ → Type 0
IsTime t = t < 1440

-- one thing at least, and each of these
abbrev pub IsList : {A : Type 0} → (A → Type 0) → List A → Type 0
IsList P [] = ⊥
IsList P (x ∷ xs) = P x × Each P xs

-- workstations and domains
pub record IsCpu (c : CpuDef) : Type 0 where
  pub name : IsName c.name
  pub os : IsWord c.os
  pub high : upper c.os ≡ c.os
  pub host : IsText c.host
  pub port : WhenGiven IsNumber c.port
  pub domain : IsName c.domain

pub record IsDomain (d : DomainDef) : Type 0 where
  pub name : IsName d.name
  pub manager : IsName d.manager
  pub parent : WhenGiven IsName d.parent

-- groups
pub record IsCalendar (c : CalendarDef) : Type 0 where
  pub name : IsName c.name
  pub text : WhenGiven IsText c.text
  pub days : Each IsDay c.days

pub record IsPrompt (p : PromptDef) : Type 0 where
  pub name : IsName p.name
  pub text : IsText p.text

pub record IsResource (r : ResourceDef) : Type 0 where
  pub ws : IsName r.ws
  pub name : IsName r.name
  pub total : IsNumber r.total
  pub text : WhenGiven IsText r.text

abbrev pub IsCommand : Work → Type 0
IsCommand (Command v) = IsText v
IsCommand (Script v) = IsText v

pub record IsWork (w : WorkDef) : Type 0 where
  pub work : IsCommand w.work
  pub logon : WhenGiven IsText w.logon
  pub cond : WhenGiven IsText w.cond

pub record IsJob (j : JobDef) : Type 0 where
  pub ws : IsName j.ws
  pub name : IsName j.name
  pub work : IsWork j.work

-- clauses
abbrev pub IsPart : PredPart → Type 0
IsPart part.Plain = Unit {0}
IsPart part.All = Unit {0}
IsPart (part.Job j) = IsName j

pub record IsPred (p : Pred) : Type 0 where
  pub ws : WhenGiven IsName p.ws
  pub name : IsName p.name
  pub part : IsPart p.part

pub record IsNeed (n : Need) : Type 0 where
  pub units : WhenGiven IsNumber n.units
  pub ws : WhenGiven IsName n.ws
  pub name : IsName n.name

abbrev pub IsPromptItem : PromptItem → Type 0
IsPromptItem (ask.Name n) = IsName n
IsPromptItem (ask.Own v) = IsText v

abbrev pub IsClause : Clause → Type 0
IsClause (At t d) = IsTime t × WhenGiven IsNumber d
IsClause (Until t d u) = IsTime t × WhenGiven IsNumber d
IsClause (Deadline t d) = IsTime t × WhenGiven IsNumber d
IsClause (Priority n) = IsNumber n
IsClause (Limit n) = IsNumber n
IsClause CarryForward = Unit {0}
IsClause (Follows ps) = IsList IsPred ps
IsClause (Needs ns) = IsList IsNeed ns
IsClause (Prompt ps) = IsList IsPromptItem ps
IsClause (Opens fs) = IsList IsText fs

-- AT, UNTIL, DEADLINE, PRIORITY, LIMIT and CARRYFORWARD stand not behind one of their kind, and the last two on streams
-- alone.
abbrev pub Stands : Bool → List Clause → Clause → Type 0
Stands stream done (At t d) = list_any is_at done ≡ false
Stands stream done (Until t d u) = list_any is_until done ≡ false
Stands stream done (Deadline t d) = list_any is_deadline done ≡ false
Stands stream done (Priority n) = list_any is_priority done ≡ false
Stands stream done (Limit n) = (stream ≡ true) × (list_any is_limit done ≡ false)
Stands stream done CarryForward = (stream ≡ true) × (list_any is_carry done ≡ false)
Stands stream done c = Unit {0}

abbrev pub AreClauses : Bool → List Clause → List Clause → Type 0
AreClauses stream done [] = Unit {0}
AreClauses stream done (c ∷ cs) = IsClause c × Stands stream done c × AreClauses stream (done ++ c ∷ []) cs

-- streams
pub record IsCycle (c : CycleDef) : Type 0 where
  pub name : IsName c.name
  pub first : WhenGiven IsDay c.first
  pub last : WhenGiven IsDay c.last

abbrev pub IsOffset : Offset → Type 0
IsOffset o = IsNumber o.n

abbrev pub IsItem : OnItem → Type 0
IsItem (Weekday n) = n < 7
IsItem (Date day) = IsDay day
IsItem (Rule v) = IsText v × (is_rule v ≡ true)
IsItem (Calendar n o) = IsName n × WhenGiven IsOffset o
IsItem i = Unit {0}

pub record IsOn (o : OnDef) : Type 0 where
  pub cycle : WhenGiven IsCycle o.cycle
  pub items : IsList IsItem o.items

abbrev pub IsFree : FreeDef → Type 0
IsFree f = IsName f.name

pub record IsEntry (e : EntryDef) : Type 0 where
  pub ws : WhenGiven IsName e.ws
  pub name : IsName e.name
  pub work : WhenGiven IsWork e.work
  pub clauses : AreClauses false [] (items e.clauses)

pub record IsSchedule (s : ScheduleDef) : Type 0 where
  pub ws : WhenGiven IsName s.ws
  pub name : IsName s.name
  pub free : WhenGiven IsFree s.free
  pub ons : Each IsOn (items s.ons)
  pub clauses : AreClauses true [] (items s.clauses)
  pub entries : Each IsEntry (items s.entries)

-- definitions
pub record AreDefs (d : Defs) : Type 0 where
  pub start : WhenGiven IsTime (item_of d.start)
  pub zone : WhenGiven IsText (item_of d.zone)
  pub cpus : Each IsCpu (items d.cpus)
  pub domains : Each IsDomain (items d.domains)
  pub calendars : Each IsCalendar (items d.calendars)
  pub prompts : Each IsPrompt (items d.prompts)
  pub resources : Each IsResource (items d.resources)
  pub jobs : Each IsJob (items d.jobs)
  pub schedules : Each IsSchedule (items d.schedules)
