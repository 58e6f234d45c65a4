-- CPUNAME and DOMAIN.
use Rattle.std.specs.Prelude.{ℕ, Bool, true, false, ◌&&◌, List, [], ◌∷◌, codes, Option, Some, None, is_some}
use Rattle.composer_parser.specs.Kinds.{keyword, a_word_but, Spelled}
use Rattle.composer_parser.specs.Grammars.{Grammar, left_out, many}
use Rattle.composer_parser.specs.Parts.{◌⊛◌, ◌⊲◌, ◌or◌, made, key, name, upper_word, value, number, description, once}
use Rattle.composer_parser.specs.declared.flags.CpuFlag.{CpuFlag}
use Rattle.composer_parser.specs.declared.flags.CpuFlag.TheVariants.{AutoLink, BehindFirewall, ResolveDep, FullStatus}
use Rattle.composer_parser.specs.declared.flags.CpuFlags.{CpuFlags}
use Rattle.composer_parser.specs.declared.stations.Machine.{Machine}
use Rattle.composer_parser.specs.declared.stations.Place.{Place}
use Rattle.composer_parser.specs.declared.definitions.Lined.{Lined}
use Rattle.composer_parser.specs.declared.definitions.CpuDef.{CpuDef}
use Rattle.composer_parser.specs.declared.definitions.DomainDef.{DomainDef}

-- domain = DOMAIN name [DESCRIPTION text] [*] MANAGER name (PARENT name | ISMASTER) END
abbrev pub domain_of : ℕ → List ℕ → List ℕ → Option (List ℕ) → Lined DomainDef
domain_of line name manager parent =
    record { line = line; item = record { name = name; manager = manager; parent = parent } }

unfoldable pub star : Grammar (Unit {0})
star = (made (λ x. tt) ⊛ key (codes "*")) or made tt

unfoldable pub parent : Grammar (Option (List ℕ))
parent = (made (λ x p. Some p) ⊛ key (codes "PARENT") ⊛ name) or (made (λ x. None) ⊛ key (codes "ISMASTER"))

unfoldable pub domain : Grammar (Lined DomainDef)
domain =
    made domain_of ⊛ key (codes "DOMAIN") ⊛ name ⊲ description ⊲ star ⊲ key (codes "MANAGER") ⊛ name ⊛ parent
    ⊲ key (codes "END")

-- cpuflag = AUTOLINK (ON|OFF) | BEHINDFIREWALL OFF | RESOLVEDEP (ON|OFF) | FULLSTATUS (ON|OFF)   (any order, once each)
unfoldable pub on_or_off : Grammar Bool
on_or_off = (made (λ x. true) ⊛ key (codes "ON")) or (made (λ x. false) ⊛ key (codes "OFF"))

unfoldable pub firewall_off : Grammar (Unit {0})
firewall_off = (made (λ x. tt) ⊛ key (codes "OFF")) or left_out (keyword (codes "ON"))

unfoldable pub flag : Grammar CpuFlag
flag =
    (made (λ x b. AutoLink b) ⊛ key (codes "AUTOLINK") ⊛ on_or_off)
    or (made (λ x y. BehindFirewall) ⊛ key (codes "BEHINDFIREWALL") ⊛ firewall_off)
    or (made (λ x b. ResolveDep) ⊛ key (codes "RESOLVEDEP") ⊛ on_or_off)
    or (made (λ x b. FullStatus b) ⊛ key (codes "FULLSTATUS") ⊛ on_or_off)

-- the flags so far
abbrev pub no_flags : CpuFlags
no_flags = record { autolink = None; firewall = false; resolve = false; full = None }

abbrev pub after_flag : CpuFlags → CpuFlag → CpuFlags
after_flag s (AutoLink b) = record { autolink = Some b; firewall = s.firewall; resolve = s.resolve; full = s.full }
after_flag s BehindFirewall = record { autolink = s.autolink; firewall = true; resolve = s.resolve; full = s.full }
after_flag s ResolveDep = record { autolink = s.autolink; firewall = s.firewall; resolve = true; full = s.full }
after_flag s (FullStatus b) = record { autolink = s.autolink; firewall = s.firewall; resolve = s.resolve; full = Some b }

abbrev pub may_flag : CpuFlags → Spelled → Bool
may_flag s t =
    once (is_some s.autolink) (codes "AUTOLINK") t && (once s.firewall (codes "BEHINDFIREWALL") t
    && (once s.resolve (codes "RESOLVEDEP") t && once (is_some s.full) (codes "FULLSTATUS") t))

unfoldable pub flags : Grammar CpuFlags
flags = many no_flags after_flag may_flag flag (λ s. s)

-- cpu = CPUNAME name [DESCRIPTION text] OS word NODE value [TCPADDR number] DOMAIN name FOR MAESTRO
--       TYPE (MANAGER | FTA) cpuflag... END
unfoldable pub cpu_type : Grammar Bool
cpu_type =
    (made (λ x. true) ⊛ key (codes "MANAGER")) or (made (λ x. false) ⊛ key (codes "FTA")) or left_out (a_word_but (codes "MANAGER" ∷ codes "FTA" ∷ []))

unfoldable pub port : Grammar (Option ℕ)
port = (made (λ x n. Some n) ⊛ key (codes "TCPADDR") ⊛ number) or made None

-- OS word NODE value [TCPADDR number]
unfoldable pub machine : Grammar Machine
machine =
    made (λ x os y host tcp. record { os = os; host = host; port = tcp }) ⊛ key (codes "OS") ⊛ upper_word
    ⊛ key (codes "NODE") ⊛ value ⊛ port

-- DOMAIN name FOR MAESTRO TYPE (MANAGER | FTA)
unfoldable pub place : Grammar Place
place =
    made (λ x own y z u manager. record { domain = own; manager = manager }) ⊛ key (codes "DOMAIN") ⊛ name
    ⊛ key (codes "FOR") ⊛ key (codes "MAESTRO") ⊛ key (codes "TYPE") ⊛ cpu_type

abbrev pub cpu_of : ℕ → List ℕ → Unit {0} → Machine → Place → CpuFlags → ℕ → Lined CpuDef
cpu_of line own x m p fs y =
    record {
      line = line;
      item = record {
        name = own;
        os = m.os;
        host = m.host;
        port = m.port;
        domain = p.domain;
        manager = p.manager;
        autolink = fs.autolink;
        full = fs.full;
      };
    }

unfoldable pub cpu : Grammar (Lined CpuDef)
cpu =
    made cpu_of ⊛ key (codes "CPUNAME") ⊛ name ⊛ description ⊛ machine ⊛ place ⊛ flags ⊛ key (codes "END")
