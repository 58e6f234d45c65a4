-- Workstations and domains that are read back.
use Rattle.std.proofs.Common.{◌≡◌, ℕ, Bool, true, false, List, [], ◌∷◌, ◌++◌, codes, arith, Option, Some, None, refl, ap, ◌∙◌}
use Rattle.std.proofs.lemmas.Grind.{common_steps}
use Rattle.composer_parser.specs.declared.definitions.CpuDef.{CpuDef}
use Rattle.composer_parser.specs.declared.definitions.DomainDef.{DomainDef}
use Rattle.composer_parser.specs.Kinds.{word}
use Rattle.composer_parser.specs.Parts.{description}
use Rattle.composer_parser.specs.Stations as grammar
use Rattle.syntax.specs.Quotes.{quoted_text}
use Rattle.composer_print.specs.Stations.{machine_text, place_text, cpu_line, port_text, link_text, full_text, type_word, on_or_off, parent_text, domain_line}
use Rattle.composer_laws.specs.Written.{IsNumber, IsName, WhenGiven, IsCpu, IsDomain}
use Rattle.composer_laws.proofs.Readings.{Reads, made_reads, app, skip, left_reads, right_reads, many_reads, Runs, no_runs, one_run, more_runs, runs_to, ended, as_text, Opens, app_opens, left_opens, right_opens}
use Rattle.composer_laws.proofs.Words.{Any, key_reads, key_begins, key_opens, name_reads, word_reads, value_reads, number_reads}

-- nothing of what is dropped
pub no_description : Reads false false description [] Any
unfolding description
no_description = right_reads (made_reads false tt)

port_reads : (p : Option ℕ) → WhenGiven IsNumber p → Reads false false grammar.port (port_text p) (λ x. x ≡ p)
unfolding port_text grammar.port
port_reads None h = right_reads (made_reads false refl)
port_reads (Some n) h =
    left_reads (app (app (made_reads false (λ x a m e. ap Some e)) (key_reads (codes "TCPADDR") refl)) (number_reads n h))

machine_reads : (c : CpuDef) → IsCpu c
    → Reads false false grammar.machine
    ((32 ∷ codes "OS") ++ (32 ∷ c.os) ++ (32 ∷ codes "NODE") ++ (32 ∷ quoted_text c.host) ++ port_text c.port)
    (λ m. (m.os ≡ c.os) × (m.host ≡ c.host) × (m.port ≡ c.port))
unfolding grammar.machine
machine_reads c h =
    app
    (app
    (app
    (app (app (made_reads false (λ x a os b y d host e p f. (b, e, f))) (key_reads (codes "OS") refl)) (word_reads c.os h.os h.high))
    (key_reads (codes "NODE") refl))
    (value_reads c.host h.host))
    (port_reads c.port h.port)

type_reads : (b : Bool) → Reads false false grammar.cpu_type (32 ∷ type_word b) (λ x. x ≡ b)
unfolding grammar.cpu_type
type_reads true = left_reads (app (made_reads false (λ x a. refl)) (key_reads (codes "MANAGER") refl))
type_reads false = right_reads (left_reads (app (made_reads false (λ x a. refl)) (key_reads (codes "FTA") refl)))

place_reads : (c : CpuDef) → IsCpu c
    → Reads false false grammar.place
    ((32 ∷ codes "DOMAIN") ++ (32 ∷ c.domain) ++ (32 ∷ codes "FOR") ++ (32 ∷ codes "MAESTRO") ++ (32 ∷ codes "TYPE")
    ++ (32 ∷ type_word c.manager))
    (λ p. (p.domain ≡ c.domain) × (p.manager ≡ c.manager))
unfolding grammar.place
place_reads c h =
    app
    (app
    (app
    (app
    (app (app (made_reads false (λ x a own b y d z e u f m g. (b, g))) (key_reads (codes "DOMAIN") refl)) (name_reads c.domain h.domain))
    (key_reads (codes "FOR") refl))
    (key_reads (codes "MAESTRO") refl))
    (key_reads (codes "TYPE") refl))
    (type_reads c.manager)

switch_reads : (b : Bool) → Reads false false grammar.on_or_off (32 ∷ on_or_off b) (λ x. x ≡ b)
unfolding grammar.on_or_off
switch_reads true = left_reads (app (made_reads false (λ x a. refl)) (key_reads (codes "ON") refl))
switch_reads false = right_reads (app (made_reads false (λ x a. refl)) (key_reads (codes "OFF") refl))

parent_reads : (p : Option (List ℕ)) → WhenGiven IsName p → Reads false false grammar.parent (parent_text p) (λ x. x ≡ p)
unfolding grammar.parent parent_text
parent_reads None h = right_reads (app (made_reads false (λ x a. refl)) (key_reads (codes "ISMASTER") refl))
parent_reads (Some p) h =
    left_reads (app (app (made_reads false (λ x a n e. ap Some e)) (key_reads (codes "PARENT") refl)) (name_reads p h))

no_star : Reads false false grammar.star [] Any
unfolding grammar.star
no_star = right_reads (made_reads false tt)

domain_bytes : (d : DomainDef)
    → codes "DOMAIN" ++ (32 ∷ d.name) ++ [] ++ [] ++ (32 ∷ codes "MANAGER") ++ (32 ∷ d.manager) ++ parent_text d.parent
    ++ (32 ∷ codes "END") ++ 10 ∷ []
    ≡ domain_line d
unfolding domain_line
domain_bytes d = grind (arith, common_steps)

pub domain_reads : (d : DomainDef) → IsDomain d → Reads true true grammar.domain (domain_line d) (λ x. x.item ≡ d)
unfolding grammar.domain
domain_reads d h =
    as_text
    (ended
    (skip
    (app
    (app
    (skip
    (skip
    (skip
    (app
    (app (made_reads true (λ line a n b m e p f. λ i. record { name = b i; manager = e i; parent = f i })) (key_begins (codes "DOMAIN") refl refl))
    (name_reads d.name h.name))
    no_description)
    no_star)
    (key_reads (codes "MANAGER") refl))
    (name_reads d.manager h.manager))
    (parent_reads d.parent h.parent))
    (key_reads (codes "END") refl)))
    (domain_bytes d)

-- the flags so far
auto_opens : (b : Bool) → Opens false false grammar.flag ((32 ∷ codes "AUTOLINK") ++ (32 ∷ on_or_off b)) (word (codes "AUTOLINK"))
    (λ f. (s : _) → ((grammar.after_flag s f).autolink ≡ Some b) × ((grammar.after_flag s f).full ≡ s.full)
    × ((grammar.after_flag s f).firewall ≡ s.firewall) × ((grammar.after_flag s f).resolve ≡ s.resolve))
unfolding grammar.flag
auto_opens b =
    left_opens (app_opens (key_opens (codes "AUTOLINK") refl (λ line v e s. (ap Some e, refl, refl, refl))) (switch_reads b))

full_opens : (b : Bool) → Opens false false grammar.flag ((32 ∷ codes "FULLSTATUS") ++ (32 ∷ on_or_off b)) (word (codes "FULLSTATUS"))
    (λ f. (s : _) → ((grammar.after_flag s f).full ≡ Some b) × ((grammar.after_flag s f).autolink ≡ s.autolink)
    × ((grammar.after_flag s f).firewall ≡ s.firewall) × ((grammar.after_flag s f).resolve ≡ s.resolve))
unfolding grammar.flag
full_opens b =
    right_opens (right_opens (right_opens
    (app_opens (key_opens (codes "FULLSTATUS") refl (λ line v e s. (ap Some e, refl, refl, refl))) (switch_reads b))))

auto_run : (o : Option Bool)
    → Runs false false grammar.after_flag grammar.may_flag grammar.flag
    (λ s. (s.autolink ≡ None) × (s.full ≡ None) × (s.firewall ≡ false) × (s.resolve ≡ false)) (link_text o)
    (λ s. (s.autolink ≡ o) × (s.full ≡ None) × (s.firewall ≡ false) × (s.resolve ≡ false))
unfolding link_text
auto_run None = no_runs
auto_run (Some b) =
    one_run (auto_opens b)
    (λ s f h r. ((r s).0, (r s).1 ∙ h.1, (r s).2 ∙ h.2, (r s).3 ∙ h.3))
    (λ s line h. rw (h.0, h.1, h.2, h.3) refl)

full_run : (link o : Option Bool)
    → Runs false false grammar.after_flag grammar.may_flag grammar.flag
    (λ s. (s.autolink ≡ link) × (s.full ≡ None) × (s.firewall ≡ false) × (s.resolve ≡ false)) (full_text o)
    (λ s. (s.autolink ≡ link) × (s.full ≡ o))
unfolding full_text
full_run link None = runs_to no_runs (λ s h. (h.0, h.1))
full_run None (Some b) =
    one_run (full_opens b) (λ s f h r. ((r s).1 ∙ h.0, (r s).0)) (λ s line h. rw (h.0, h.1, h.2, h.3) refl)
full_run (Some l) (Some b) =
    one_run (full_opens b) (λ s f h r. ((r s).1 ∙ h.0, (r s).0)) (λ s line h. rw (h.0, h.1, h.2, h.3) refl)

flags_reads : (link full : Option Bool) → Reads false false grammar.flags (link_text link ++ full_text full)
    (λ s. (s.autolink ≡ link) × (s.full ≡ full))
unfolding grammar.flags
flags_reads link full =
    many_reads _ _ (more_runs (auto_run link) (full_run link full)) (refl, refl, refl, refl) (λ s h. h)

cpu_bytes : (c : CpuDef)
    → codes "CPUNAME" ++ (32 ∷ c.name) ++ []
    ++ ((32 ∷ codes "OS") ++ (32 ∷ c.os) ++ (32 ∷ codes "NODE") ++ (32 ∷ quoted_text c.host) ++ port_text c.port)
    ++ ((32 ∷ codes "DOMAIN") ++ (32 ∷ c.domain) ++ (32 ∷ codes "FOR") ++ (32 ∷ codes "MAESTRO") ++ (32 ∷ codes "TYPE")
    ++ (32 ∷ type_word c.manager))
    ++ (link_text c.autolink ++ full_text c.full) ++ (32 ∷ codes "END") ++ 10 ∷ []
    ≡ cpu_line c
unfolding cpu_line machine_text place_text
cpu_bytes c = grind (arith, common_steps)

pub cpu_reads : (c : CpuDef) → IsCpu c → Reads true true grammar.cpu (cpu_line c) (λ x. x.item ≡ c)
unfolding grammar.cpu
cpu_reads c h =
    as_text
    (ended
    (app
    (app
    (app
    (app
    (app
    (app
    (app (made_reads true (λ line a n b d u m e p f fs g k l i.
    record {
      name = b i;
      os = e.0 i;
      host = e.1 i;
      port = e.2 i;
      domain = f.0 i;
      manager = f.1 i;
      autolink = g.0 i;
      full = g.1 i;
    })) (key_begins (codes "CPUNAME") refl refl))
    (name_reads c.name h.name))
    no_description)
    (machine_reads c h))
    (place_reads c h))
    (flags_reads c.autolink c.full))
    (key_reads (codes "END") refl)))
    (cpu_bytes c)
