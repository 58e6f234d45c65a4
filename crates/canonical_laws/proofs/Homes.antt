-- The workstations of streams and entries, and what names stand for, in definitions and in their normal form.
use Rattle.std.proofs.Common.{◌≡◌, ℕ, ◌&&◌, List, [], ◌∷◌, map, filter_map, cond, Option, Some, None, refl, ap, sym}
use Rattle.std.proofs.Common.{◌∙◌, slice_get, option_and_then, is_none}
use Rattle.std.specs.List.{cons_option}
use Rattle.std.specs.Option.{option_or, option_map_or}
use Rattle.std.specs.Str.{bytes_eq}
use Rattle.base_types.specs.declared.PromptDef.{PromptDef}
use Rattle.composer_parser.specs.declared.Lined.{Lined}
use Rattle.composer_parser.specs.declared.Defs.{Defs}
use Rattle.composer_parser.specs.declared.CpuDef.{CpuDef}
use Rattle.composer_parser.specs.declared.DomainDef.{DomainDef}
use Rattle.composer_parser.specs.declared.CalendarDef.{CalendarDef}
use Rattle.composer_parser.specs.declared.ResourceDef.{ResourceDef}
use Rattle.composer_parser.specs.declared.JobDef.{JobDef}
use Rattle.composer_parser.specs.declared.EntryDef.{EntryDef}
use Rattle.composer_parser.specs.declared.ScheduleDef.{ScheduleDef}
use Rattle.composer_print.specs.Scopes.{or_home}
use Rattle.composer_print.specs.Normal as form
use Rattle.composer_print.specs.Normal.{bare, bare_cpu, unless_under, only, normal_entry, normal_schedule, normal}
use Rattle.definition_names.specs.Names.{first_of, cpu_names, domain_names, calendar_names, prompt_names}
use Rattle.definition_names.specs.Names.{resource_names, job_names}
use Rattle.definition_names.specs.Stations.{top_domains, only_manager, master_among, master_of, ws_of_stream}
use Rattle.definition_names.specs.Streams.{is_one_ws, is_stream, stream_at, entry_at, entry_of}
use Rattle.canonical_laws.proofs.Lists.{kept, at_place, position_same}

-- the master
abbrev manager : Lined DomainDef → List ℕ
manager x = x.item.manager

top_step : (x : Lined DomainDef) (o : Option (List ℕ)) (ms : List (List ℕ)) (xs : List (Lined DomainDef))
    → ms ≡ map manager xs
    → cons_option (unless_under o x.item.manager) ms ≡ map manager (cond (is_none o) (x ∷ xs) xs)
top_step x None ms xs e = ap (λ l. x.item.manager ∷ l) e
top_step x (Some p) ms xs e = e

tops : (ds : List (Lined DomainDef)) → filter_map form.manager_of ds ≡ map manager (top_domains ds)
tops [] = refl
tops (x ∷ ds) = top_step x x.item.parent (filter_map form.manager_of ds) (top_domains ds) (tops ds)

only_same : (ds : List (Lined DomainDef)) → only (map manager ds) ≡ only_manager ds
only_same [] = refl
only_same (x ∷ []) = refl
only_same (x ∷ y ∷ ds) = refl

pub master_same : (ds : List (Lined DomainDef)) → form.master_of ds ≡ master_among ds
unfolding form.master_of
master_same ds = ap only (tops ds) ∙ only_same (top_domains ds)

managers : (ds : List (Lined DomainDef)) → filter_map form.manager_of (map bare ds) ≡ filter_map form.manager_of ds
managers [] = refl
managers (x ∷ ds) = ap (λ ms. cons_option (form.manager_of x) ms) (managers ds)

pub form_bare : (ds : List (Lined DomainDef)) → form.master_of (map bare ds) ≡ form.master_of ds
unfolding form.master_of
form_bare ds = ap only (managers ds)

master_bare : (ds : List (Lined DomainDef)) → master_among (map bare ds) ≡ master_among ds
master_bare ds = sym (master_same (map bare ds)) ∙ form_bare ds ∙ master_same ds

-- a workstation that is written, or another one
pub home_or : (w h : Option (List ℕ)) → or_home w h ≡ option_or w h
home_or None h = refl
home_or (Some x) h = refl

or_itself : (o : Option (List ℕ)) → option_or o o ≡ o
or_itself None = refl
or_itself (Some x) = refl

-- what was given is not given again
pub home_stays : (w m again given : Option (List ℕ)) → m ≡ given → again ≡ given
    → option_or (or_home w m) again ≡ option_or w given
home_stays (Some x) m again given e f = refl
home_stays None m again given e f = (λ i. option_or (e i) (f i)) ∙ or_itself given

-- the workstation of the stream at a place
abbrev pub home_of : Defs → ℕ → Option (List ℕ)
home_of d n = option_map_or (λ (s : Lined ScheduleDef). ws_of_stream d s.item) (slice_get d.schedules n) (master_of d)

-- names stand for the same in both definitions
pub record Alike (d e : Defs) : Type 0 where
  pub master : master_of e ≡ master_of d
  pub cpus : cpu_names e ≡ cpu_names d
  pub domains : domain_names e ≡ domain_names d
  pub calendars : calendar_names e ≡ calendar_names d
  pub prompts : prompt_names e ≡ prompt_names d
  pub resources : resource_names e ≡ resource_names d
  pub jobs : job_names e ≡ job_names d
  pub streams : (ws : Option (List ℕ)) (name : List ℕ) → stream_at e ws name ≡ stream_at d ws name
  pub entries : (n : ℕ) (name : List ℕ) → entry_of e n name ≡ entry_of d n name
  pub homes : (n : ℕ) → home_of e n ≡ home_of d n

-- streams of a normal form
names_kept : (m : Option (List ℕ)) (s : Lined ScheduleDef) (name : List ℕ)
    → entry_at (normal_schedule m s).item name ≡ entry_at s.item name
unfolding normal_schedule normal_entry
names_kept m s name =
    ap (λ ns. first_of ns name)
    (kept (λ (e : Lined EntryDef). e.item.name) (λ (e : Lined EntryDef). e.item.name)
    (normal_entry (form.entry_names s.item.entries) (or_home s.item.ws m)) (λ e. refl) s.item.entries)

stream_kept : (m again given : Option (List ℕ)) → m ≡ given → again ≡ given → (ws : Option (List ℕ)) (name : List ℕ)
    (s : Lined ScheduleDef) → is_stream again ws name (normal_schedule m s) ≡ is_stream given ws name s
unfolding normal_schedule
stream_kept m again given e f ws name s =
    λ i. is_one_ws ws (home_stays s.item.ws m again given e f i) && bytes_eq name s.item.name

pub home_kept : (m again given : Option (List ℕ)) → m ≡ given → again ≡ given → (s : Lined ScheduleDef)
    → option_or (normal_schedule m s).item.ws again ≡ option_or s.item.ws given
unfolding normal_schedule
home_kept m again given e f s = home_stays s.item.ws m again given e f

pub alike : (d : Defs) → Alike d (normal d)
unfolding normal
alike d =
    let m : Option (List ℕ) = form.master_of d.domains in
    let again : Option (List ℕ) = master_among (map bare d.domains) in
    let given : Option (List ℕ) = master_among d.domains in
    let is : m ≡ given = master_same d.domains in
    let stays : again ≡ given = master_bare d.domains in
    record {
      master = stays;
      cpus = kept (λ (c : Lined CpuDef). c.item.name) (λ (c : Lined CpuDef). c.item.name) bare_cpu (λ c. refl) d.cpus;
      domains =
          kept (λ (x : Lined DomainDef). x.item.name) (λ (x : Lined DomainDef). x.item.name) bare (λ x. refl) d.domains;
      calendars =
          kept (λ (c : Lined CalendarDef). c.item.name) (λ (c : Lined CalendarDef). c.item.name) bare
          (λ c. refl) d.calendars;
      prompts =
          kept (λ (p : Lined PromptDef). p.item.name) (λ (p : Lined PromptDef). p.item.name) bare (λ p. refl) d.prompts;
      resources =
          kept (λ (r : Lined ResourceDef). (r.item.ws, r.item.name))
          (λ (r : Lined ResourceDef). (r.item.ws, r.item.name)) bare
          (λ r. refl) d.resources;
      jobs =
          kept (λ (j : Lined JobDef). (j.item.ws, j.item.name)) (λ (j : Lined JobDef). (j.item.ws, j.item.name)) bare
          (λ j. refl)
          d.jobs;
      streams =
          λ ws name.
          position_same (is_stream again ws name) (is_stream given ws name) (normal_schedule m)
          (stream_kept m again given is stays ws name) 0 d.schedules;
      entries =
          λ n name.
          at_place (normal_schedule m) (λ o. option_and_then (λ (s : Lined ScheduleDef). entry_at s.item name) o)
          (λ o. option_and_then (λ (s : Lined ScheduleDef). entry_at s.item name) o) refl (λ s. names_kept m s name)
          d.schedules n;
      homes =
          λ n.
          at_place (normal_schedule m)
          (λ o. option_map_or (λ (s : Lined ScheduleDef). option_or s.item.ws again) o again)
          (λ o. option_map_or (λ (s : Lined ScheduleDef). option_or s.item.ws given) o given) stays
          (home_kept m again given is stays) d.schedules n;
    }
