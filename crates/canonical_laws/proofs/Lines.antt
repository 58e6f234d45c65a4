-- A normal form does not depend on lines.
use Rattle.std.proofs.Common.{◌≡◌, ℕ, List, [], map, option_map, Option, Some, None, refl, ap, sym, ◌∙◌}
use Rattle.composer_parser.specs.declared.Lined.{Lined}
use Rattle.composer_parser.specs.declared.Defs.{Defs}
use Rattle.composer_parser.specs.declared.Clause.{Clause}
use Rattle.composer_parser.specs.declared.EntryDef.{EntryDef}
use Rattle.composer_parser.specs.declared.ScheduleDef.{ScheduleDef}
use Rattle.composer_print.specs.Normal.{unlined, all_unlined, bare, bare_cpu, master_of, entry_names, normal_entry}
use Rattle.composer_print.specs.Normal.{normal_schedule, normal}
use Rattle.composer_print.specs.Scopes.{or_home, normal_clauses}
use Rattle.composer_print.specs.Stations.{unless_utc, unless_yes}
use Rattle.composer_print.specs.Streams.{items}
use Rattle.composer_print.specs.Texts.{unless, item_of}
use Rattle.composer_print.proofs.Again.{normal_again}
use Rattle.composer_laws.specs.Lines.{bare_entry, bare_schedule, without_lines}
use Rattle.canonical_laws.proofs.Lists.{kept}
use Rattle.canonical_laws.proofs.Homes.{form_bare}

item_bare : {A : Type 0} (o : Option (Lined A)) → item_of (option_map bare o) ≡ item_of o
item_bare None = refl
item_bare (Some l) = refl

items_bare : (cs : List (Lined Clause)) → items (map bare cs) ≡ items cs
items_bare cs = kept (λ (c : Lined Clause). c.item) (λ (c : Lined Clause). c.item) bare (λ c. refl) cs

abbrev entry_line : Lined EntryDef → Lined EntryDef
entry_line e = unlined (bare_entry e.item)

entry_bare : (names : List (List ℕ)) (home : Option (List ℕ)) (e : Lined EntryDef)
    → normal_entry names home (entry_line e) ≡ normal_entry names home e
unfolding normal_entry
entry_bare names home e =
    λ i. unlined (record {
      ws = or_home e.item.ws home;
      name = e.item.name;
      work = e.item.work;
      clauses = all_unlined (normal_clauses names home (or_home e.item.ws home) (items_bare e.item.clauses i));
    })

schedule_bare : (m : Option (List ℕ)) (s : Lined ScheduleDef)
    → normal_schedule m (unlined (bare_schedule s.item)) ≡ normal_schedule m s
unfolding normal_schedule
schedule_bare m s =
    let home : Option (List ℕ) = or_home s.item.ws m in
    let names : entry_names (map entry_line s.item.entries) ≡ entry_names s.item.entries =
    kept (λ (e : Lined EntryDef). e.item.name) (λ (e : Lined EntryDef). e.item.name) entry_line
    (λ e. refl) s.item.entries in
    let entries : map (normal_entry (entry_names (map entry_line s.item.entries)) home) (map entry_line s.item.entries)
    ≡ map (normal_entry (entry_names s.item.entries) home) s.item.entries =
    ap (λ ns. map (normal_entry ns home) (map entry_line s.item.entries)) names
    ∙ kept (normal_entry (entry_names s.item.entries) home) (normal_entry (entry_names s.item.entries) home) entry_line
    (entry_bare (entry_names s.item.entries) home) s.item.entries in
    λ i. unlined (record {
      ws = home;
      name = s.item.name;
      free = s.item.free;
      ons = kept bare bare bare (λ o. refl) s.item.ons i;
      clauses = all_unlined (normal_clauses [] home home (items_bare s.item.clauses i));
      entries = entries i;
    })

lines_dropped : (d : Defs) → normal (without_lines d) ≡ normal d
unfolding normal without_lines
lines_dropped d =
    let schedules : map (normal_schedule (master_of (map bare d.domains)))
    (map (λ s. unlined (bare_schedule s.item)) d.schedules)
    ≡ map (normal_schedule (master_of d.domains)) d.schedules =
    ap (λ m. map (normal_schedule m) (map (λ s. unlined (bare_schedule s.item)) d.schedules)) (form_bare d.domains)
    ∙ kept (normal_schedule (master_of d.domains)) (normal_schedule (master_of d.domains))
    (λ s. unlined (bare_schedule s.item)) (schedule_bare (master_of d.domains)) d.schedules in
    λ i. record {
      last_line = 0;
      start = option_map unlined (unless 360 (item_bare d.start i));
      zone = option_map unlined (unless_utc (item_bare d.zone i));
      carry = option_map unlined (unless_yes (item_bare d.carry i));
      cpus = kept bare_cpu bare_cpu bare (λ x. refl) d.cpus i;
      domains = kept bare bare bare (λ x. refl) d.domains i;
      calendars = kept bare bare bare (λ x. refl) d.calendars i;
      prompts = kept bare bare bare (λ x. refl) d.prompts i;
      resources = kept bare bare bare (λ x. refl) d.resources i;
      jobs = kept bare bare bare (λ x. refl) d.jobs i;
      schedules = schedules i;
    }

-- definitions that differ in their lines alone have one normal form
pub lines_alone : (d e : Defs) → without_lines d ≡ without_lines e → normal d ≡ normal e
lines_alone d e same = sym (lines_dropped d) ∙ ap normal same ∙ lines_dropped e

-- and so have definitions and what is read from their canonical text
pub read_form : (d e : Defs) → without_lines e ≡ normal d → normal d ≡ normal e
read_form d e same = sym (normal_again d) ∙ sym (ap normal same) ∙ lines_dropped e
