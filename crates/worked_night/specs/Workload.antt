-- A master and an agent, and a stream of one job on the master that runs every day.
use Rattle.std.specs.Prelude.{[], codes, false, ◌∷◌, List, None, Some, true, ℕ}
use Rattle.base_types.specs.declared.Recovery.TheVariants as recovery
use Rattle.composer_parser.specs.declared.CpuDef.{CpuDef}
use Rattle.composer_parser.specs.declared.Defs.{Defs}
use Rattle.composer_parser.specs.declared.DomainDef.{DomainDef}
use Rattle.composer_parser.specs.declared.EntryDef.{EntryDef}
use Rattle.composer_parser.specs.declared.Lined.{Lined}
use Rattle.composer_parser.specs.declared.OnDef.{OnDef}
use Rattle.composer_parser.specs.declared.OnItem.TheVariants.{EveryDay}
use Rattle.composer_parser.specs.declared.ScheduleDef.{ScheduleDef}
use Rattle.composer_parser.specs.declared.WorkDef.{WorkDef}
use Rattle.model.specs.Types.{Carry, Command, JobDoc, JobDraft, Net, Node, Recovery, StreamDoc, StreamDraft}

abbrev pub at_line : {A : Type 0} → ℕ → A → Lined A
at_line n x = record { line = n; item = x }

-- both in the one domain
abbrev pub cpu : List ℕ → CpuDef
cpu name = record {
  name = name;
  os = codes "OTHER";
  host = codes "h";
  port = None;
  domain = codes "D";
  manager = false;
  autolink = None;
  full = None;
}

abbrev pub domain : DomainDef
domain = record { name = codes "D"; manager = codes "M"; parent = None }

abbrev pub work : WorkDef
work = record { work = Command (codes "true"); logon = None; cond = None; recovery = recovery.Stop }

abbrev pub entry : EntryDef
entry = record { ws = None; name = codes "A"; work = Some work; clauses = [] }

abbrev pub every_day : OnDef
every_day = record { except = false; cycle = None; items = EveryDay ∷ []; shift = None }

abbrev pub schedule : ScheduleDef
schedule = record {
  ws = None;
  name = codes "S";
  free = None;
  ons = at_line 8 every_day ∷ [];
  clauses = [];
  entries = at_line 9 entry ∷ [];
}

abbrev pub defs : Defs
defs = record {
  last_line = 10;
  start = None;
  zone = None;
  carry = None;
  cpus = at_line 1 (cpu (codes "M")) ∷ at_line 3 (cpu (codes "P")) ∷ [];
  domains = at_line 5 domain ∷ [];
  calendars = [];
  prompts = [];
  resources = [];
  jobs = [];
  schedules = at_line 7 schedule ∷ [];
}

-- the network of these
abbrev pub master : Node
master = record { name = codes "M"; hop = None; manager = true; full = false }

abbrev pub agent : Node
agent = record { name = codes "P"; hop = Some 0; manager = false; full = false }

abbrev pub net : Net
net = record { nodes = master ∷ agent ∷ []; resources = []; prompts = []; carry = Carry.Yes }

-- the drafts of each day, and the documents of the first plan
abbrev pub job_draft : JobDraft
job_draft = record {
  ws = 0;
  name = codes "A";
  priority = 10;
  work = Command (codes "true");
  logon = [];
  cond = [];
  recovery = Recovery.Stop;
  deps = [];
}

abbrev pub draft : StreamDraft
draft = record { ws = 0; name = codes "S"; priority = 10; limit = None; carry = false; deps = []; jobs = job_draft ∷ [] }

abbrev pub job_doc : JobDoc
job_doc = record {
  no = 1;
  ws = 0;
  name = codes "A";
  priority = 10;
  work = Command (codes "true");
  logon = [];
  cond = [];
  recovery = Recovery.Stop;
  deps = [];
}

abbrev pub doc : StreamDoc
doc = record { no = 1; ws = 0; name = codes "S"; priority = 10; limit = None; carry = false; deps = []; jobs = job_doc ∷ [] }
