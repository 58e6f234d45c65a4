-- Options, workstations and domains.
use Rattle.std.specs.Prelude.{ℕ, Bool, true, false, List, [], ◌∷◌, ◌++◌, codes, Option, Some, None, if◌then◌else◌}
use Rattle.std.specs.Str.{bytes_eq}
use Rattle.std.specs.Fmt.{decimal}
use Rattle.base_types.specs.declared.network.Carry.{Carry}
use Rattle.base_types.specs.declared.network.Carry.TheVariants.{Yes, No, All}
use Rattle.composer_parser.specs.declared.definitions.CpuDef.{CpuDef}
use Rattle.composer_parser.specs.declared.definitions.DomainDef.{DomainDef}
use Rattle.composer_print.specs.Texts.{texts_from, begun_after, unless}
use Rattle.syntax.specs.Quotes.{quoted_text}
use Rattle.composer_print.specs.Days.{time_text}

-- TIMEZONE is `UTC` where it is not given, and ENCARRYFORWARD is YES
abbrev pub unless_utc : Option (List ℕ) → Option (List ℕ)
unless_utc None = None
unless_utc (Some z) = if bytes_eq z (codes "UTC") then None else Some z

abbrev pub is_yes : Carry → Bool
is_yes Yes = true
is_yes No = false
is_yes All = false

abbrev pub unless_yes : Option Carry → Option Carry
unless_yes None = None
unless_yes (Some c) = if is_yes c then None else Some c

abbrev pub carry_word : Carry → List ℕ
carry_word Yes = codes "YES"
carry_word No = codes "NO"
carry_word All = codes "ALL"

-- [STARTOFDAY time], [TIMEZONE text] and [ENCARRYFORWARD (YES|NO|ALL)]
unfoldable pub start_texts : Option ℕ → List (List ℕ)
start_texts None = []
start_texts (Some t) = (codes "STARTOFDAY " ++ time_text t) ∷ []

unfoldable pub zone_texts : Option (List ℕ) → List (List ℕ)
zone_texts None = []
zone_texts (Some z) = (codes "TIMEZONE " ++ quoted_text z) ∷ []

unfoldable pub carry_texts : Option Carry → List (List ℕ)
carry_texts None = []
carry_texts (Some c) = (codes "ENCARRYFORWARD " ++ carry_word c) ∷ []

-- the end of a line that was begun
abbrev pub ended : Bool → List ℕ
ended true = codes "\n"
ended false = []

-- `$OPTIONS`, and a line with all of them, where there is one
unfoldable pub options_of : List (List ℕ) → List ℕ
options_of options = texts_from (codes " ") (codes "$OPTIONS\n") false options ++ ended (begun_after false options)

unfoldable pub options_text : Option ℕ → Option (List ℕ) → Option Carry → List ℕ
options_text start zone carry = options_of (start_texts start ++ (zone_texts zone ++ carry_texts carry))

-- AUTOLINK is ON where it is not given, and FULLSTATUS is OFF
abbrev pub unless_on : Option Bool → Option Bool
unless_on None = None
unless_on (Some true) = None
unless_on (Some false) = Some false

abbrev pub unless_off : Option Bool → Option Bool
unless_off None = None
unless_off (Some true) = Some true
unless_off (Some false) = None

-- a workstation without the defaults
abbrev pub normal_cpu : CpuDef → CpuDef
normal_cpu c = record {
  name = c.name;
  os = c.os;
  host = c.host;
  port = unless 31111 c.port;
  domain = c.domain;
  manager = c.manager;
  autolink = unless_on c.autolink;
  full = unless_off c.full;
}

abbrev pub on_or_off : Bool → List ℕ
on_or_off true = codes "ON"
on_or_off false = codes "OFF"

abbrev pub type_word : Bool → List ℕ
type_word true = codes "MANAGER"
type_word false = codes "FTA"

unfoldable pub port_text : Option ℕ → List ℕ
port_text None = []
port_text (Some n) = codes " TCPADDR " ++ decimal n

unfoldable pub link_text : Option Bool → List ℕ
link_text None = []
link_text (Some b) = codes " AUTOLINK " ++ on_or_off b

unfoldable pub full_text : Option Bool → List ℕ
full_text None = []
full_text (Some b) = codes " FULLSTATUS " ++ on_or_off b

-- CPUNAME name OS word NODE value [TCPADDR number]
unfoldable pub machine_text : CpuDef → List ℕ
machine_text c =
    codes "CPUNAME " ++ c.name ++ codes " OS " ++ c.os ++ codes " NODE " ++ quoted_text c.host ++ port_text c.port

-- DOMAIN name FOR MAESTRO TYPE (MANAGER | FTA) [AUTOLINK ..] [FULLSTATUS ..] END
unfoldable pub place_text : CpuDef → List ℕ
place_text c =
    codes " DOMAIN " ++ c.domain ++ codes " FOR MAESTRO TYPE " ++ type_word c.manager ++ link_text c.autolink
    ++ full_text c.full ++ codes " END\n"

unfoldable pub cpu_line : CpuDef → List ℕ
cpu_line c = machine_text c ++ place_text c

-- PARENT name | ISMASTER
unfoldable pub parent_text : Option (List ℕ) → List ℕ
parent_text None = codes " ISMASTER"
parent_text (Some p) = codes " PARENT " ++ p

-- DOMAIN name MANAGER name (PARENT name | ISMASTER) END
unfoldable pub domain_line : DomainDef → List ℕ
domain_line d = codes "DOMAIN " ++ d.name ++ codes " MANAGER " ++ d.manager ++ parent_text d.parent ++ codes " END\n"
