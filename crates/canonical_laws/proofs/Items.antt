-- The faults of options, workstations, domains, calendars, prompts, resources and jobs, as they are written and in
-- normal
-- form.
use Rattle.std.proofs.Common.{◌≡◌, ℕ, zero, suc, ◌&&◌, ◌||◌, not, Bool, true, false, cond, eqb, List, [], ◌∷◌, map}
use Rattle.std.proofs.Common.{flat_map, filter_map, length}
use Rattle.std.proofs.Common.{Option, Some, None, refl, ap, sym, ◌∙◌, slice_get, is_none, option_map, option_and_then}
use Rattle.std.proofs.Common.{unwrap_or, codes}
use Rattle.std.proofs.lemmas.List.{length-map}
use Rattle.std.proofs.lemmas.Option.{slice_get-map}
use Rattle.std.specs.List.{cons_option, enumerate_from, list_any}
use Rattle.std.specs.Option.{option_map_or}
use Rattle.std.specs.Prelude.{nat_lt, min}
use Rattle.std.specs.Str.{bytes_eq}
use Rattle.lemmas.proofs.Numbers.{number_tells}
use Rattle.lemmas.proofs.Texts.{text_tells}
use Rattle.composer_parser.specs.declared.Lined.{Lined}
use Rattle.composer_parser.specs.declared.Defs.{Defs}
use Rattle.composer_parser.specs.declared.CpuDef.{CpuDef}
use Rattle.composer_parser.specs.declared.DomainDef.{DomainDef}
use Rattle.composer_print.specs.Normal.{unlined, bare, bare_cpu}
use Rattle.composer_print.specs.Stations.{unless_utc}
use Rattle.composer_print.specs.Texts.{unless, item_of}
use Rattle.plan_times.specs.Zones.{east_of}
use Rattle.definition_names.specs.Names.{first_of, first_on, cpu_at, domain_at}
use Rattle.definition_names.specs.Stations.{top_domains}
use Rattle.definition_faults.specs.Chains.{parent_of, climb, is_top, ends}
use Rattle.definition_faults.specs.Items.{is_later, is_bad_port, cpu_rows, cpu_faults, has_top, strays, domain_rows}
use Rattle.definition_faults.specs.Items.{domain_faults}
use Rattle.definition_faults.specs.Items.{calendar_rows, calendar_faults, prompt_rows, prompt_faults, resource_rows}
use Rattle.definition_faults.specs.Items.{resource_faults, job_rows, job_faults}
use Rattle.definition_faults.specs.Masters.{tree_at, top_faults, master_faults, line_where_other, stray_fault}
use Rattle.definition_faults.specs.Masters.{manager_faults}
use Rattle.definition_faults.specs.Orders.{fault, faults_at}
use Rattle.definition_faults.specs.Ranges.{faults_of_zone, zone_faults}
use Rattle.definition_faults.specs.declared.Fault.{Fault}
use Rattle.definition_faults.specs.declared.Kind.{Kind}
use Rattle.definition_faults.specs.declared.Kind.TheVariants.{Duplicate, UnknownName, OutOfRange, Tree}
use Rattle.canonical_laws.proofs.Lists.{Both, pieces_both, tables_both, moved, at_place, any_same}
use Rattle.canonical_laws.proofs.Forms.{IsForm}

abbrev table : {X : Type 0} → (ℕ → X → List (Bool × Kind)) → List (Lined X) → List Fault
table rows xs = flat_map (λ (p : ℕ × Lined _). faults_at p.1.line (rows p.0 p.1.item)) (enumerate_from 0 xs)

table_both : {X : Type 0} (rows more : ℕ → X → List (Bool × Kind)) (f : Lined X → Lined X)
    → ((k : ℕ) (x : Lined X) → more k (f x).item ≡ rows k x.item) → (xs ys : List (Lined X)) → ys ≡ map f xs
    → Both (table rows xs ≡ []) (table more ys ≡ [])
table_both {X = X} rows more f h xs ys are =
    moved (table rows xs) (table rows xs) (table more (map f xs)) (table more ys) refl
    (ap (λ (l : List (Lined X)). table more l) are)
    (pieces_both (λ (p : ℕ × Lined X). faults_at p.1.line (rows p.0 p.1.item))
    (λ (p : ℕ × Lined X). faults_at p.1.line (more p.0 p.1.item)) f xs
    (λ k x at. tables_both x.line (f x).line (rows k x.item) (more k (f x).item) (h k x)) 0 xs refl)

-- ports
port_test : (n : ℕ) (b : Bool) → eqb n 31111 ≡ b → is_bad_port (cond b None (Some n)) ≡ is_bad_port (Some n)
port_test n true e = sym (ap (λ k. is_bad_port (Some k)) (number_tells n 31111 e))
port_test n false e = refl

port_kept : (port : Option ℕ) → is_bad_port (unless 31111 port) ≡ is_bad_port port
port_kept None = refl
port_kept (Some n) = port_test n (eqb n 31111) refl

-- the time zone
utc_known : is_none (east_of (codes "UTC")) ≡ false
unfolding east_of
utc_known = refl

told_both : (b : Bool) (f g : Fault) → Both (cond b (f ∷ []) [] ≡ []) (cond b (g ∷ []) [] ≡ [])
told_both true f g = (λ e. cc, λ e. cc)
told_both false f g = (λ e. refl, λ e. refl)

zone_test : (z : Lined (List ℕ)) (b : Bool) → bytes_eq z.item (codes "UTC") ≡ b
    → Both (faults_of_zone (Some z) ≡ []) (faults_of_zone (option_map unlined (cond b None (Some z.item))) ≡ [])
zone_test z true e = (
  λ h. refl,
  λ h.
      let known : is_none (east_of z.item) ≡ false =
      ap (λ t. is_none (east_of t)) (text_tells z.item (codes "UTC") e) ∙ utc_known in
      λ i. cond (known i) (fault z.line OutOfRange ∷ []) [],
)
zone_test z false e = told_both (is_none (east_of z.item)) (fault z.line OutOfRange) (fault 0 OutOfRange)

zone_by : (z : Option (Lined (List ℕ)))
    → Both (faults_of_zone z ≡ []) (faults_of_zone (option_map unlined (unless_utc (item_of z))) ≡ [])
zone_by None = (λ h. refl, λ h. refl)
zone_by (Some z) = zone_test z (bytes_eq z.item (codes "UTC")) refl

-- a list that is given
cons_none : {X : Type 0} (o : Option X) (xs : List X) → cons_option o xs ≡ [] → (o ≡ None) × (xs ≡ [])
cons_none None xs e = (refl, e)
cons_none (Some x) xs e = cc

picks_both : {X Y Z : Type 0} (f : X → Option Z) (g : Y → Option Z) (m : X → Y)
    → ((x : X) → Both (f x ≡ None) (g (m x) ≡ None))
    → (xs : List X) → Both (filter_map f xs ≡ []) (filter_map g (map m xs) ≡ [])
picks_both f g m h [] = (λ e. refl, λ e. refl)
picks_both f g m h (x ∷ xs) =
    let more = picks_both f g m h xs in (
      λ e. let t = cons_none (f x) (filter_map f xs) e in λ i. cons_option ((h x).0 t.0 i) (more.0 t.1 i),
      λ e. let t = cons_none (g (m x)) (filter_map g (map m xs)) e in λ i. cons_option ((h x).1 t.0 i) (more.1 t.1 i),
    )

-- managers
stray_test : (x : Lined DomainDef) (c : Lined CpuDef) (b : Bool)
    → Both (option_map tree_at (cond b None (Some (min x.line c.line))) ≡ None)
    (option_map tree_at (cond b None (Some (min 0 0))) ≡ None)
stray_test x c true = (λ e. refl, λ e. refl)
stray_test x c false = (λ e. cc, λ e. cc)

stray_by : (x : Lined DomainDef) (o : Option (Lined CpuDef))
    → Both (option_map tree_at (option_and_then (line_where_other x) o) ≡ None)
    (option_map tree_at (option_and_then (line_where_other (bare x)) (option_map bare_cpu o)) ≡ None)
stray_by x None = (λ e. refl, λ e. refl)
stray_by x (Some c) = stray_test x c (bytes_eq c.item.domain x.item.name)

at_found : (cs : List (Lined CpuDef)) (o : Option ℕ)
    → option_and_then (slice_get (map bare_cpu cs)) o ≡ option_map bare_cpu (option_and_then (slice_get cs) o)
at_found cs None = refl
at_found cs (Some k) = slice_get-map bare_cpu cs k

stray_both : (d e : Defs) → IsForm d e → (x : Lined DomainDef)
    → Both (stray_fault d x ≡ None) (stray_fault e (bare x) ≡ None)
stray_both d e form x =
    let found : option_and_then (slice_get e.cpus) (cpu_at e x.item.manager)
    ≡ option_map bare_cpu (option_and_then (slice_get d.cpus) (cpu_at d x.item.manager)) =
    (λ i. option_and_then (slice_get (form.cpus i)) (first_of (form.names.cpus i) x.item.manager))
    ∙ at_found d.cpus (cpu_at d x.item.manager) in
    let path : stray_fault e (bare x)
    ≡ option_map tree_at
    (option_and_then (line_where_other (bare x))
    (option_map bare_cpu (option_and_then (slice_get d.cpus) (cpu_at d x.item.manager)))) =
    ap (λ o. option_map tree_at (option_and_then (line_where_other (bare x)) o)) found in
    let t = stray_by x (option_and_then (slice_get d.cpus) (cpu_at d x.item.manager)) in
    (λ none. path ∙ t.0 none, λ none. t.1 (sym path ∙ none))

-- the master
top_step : (x : Lined DomainDef) (b : Bool) (xs ys : List (Lined DomainDef)) → ys ≡ map bare xs
    → cond b (bare x ∷ ys) ys ≡ map bare (cond b (x ∷ xs) xs)
top_step x true xs ys e = ap (λ l. bare x ∷ l) e
top_step x false xs ys e = e

tops_bare : (ds : List (Lined DomainDef)) → top_domains (map bare ds) ≡ map bare (top_domains ds)
tops_bare [] = refl
tops_bare (x ∷ ds) = top_step x (is_none x.item.parent) (top_domains ds) (top_domains (map bare ds)) (tops_bare ds)

tops_both : (l m : ℕ) (xs : List (Lined DomainDef)) → Both (top_faults l xs ≡ []) (top_faults m (map bare xs) ≡ [])
tops_both l m [] = (λ e. cc, λ e. cc)
tops_both l m (x ∷ []) = (λ e. refl, λ e. refl)
tops_both l m (x ∷ y ∷ xs) = (λ e. cc, λ e. cc)

-- chains of domains
module _ (d e : Defs) (form : IsForm d e) where
  lengths : length e.domains ≡ length d.domains
  lengths = ap (λ (xs : List (Lined DomainDef)). length xs) form.domains ∙ length-map d.domains bare

  parent_same : (i : ℕ) → parent_of e i ≡ parent_of d i
  parent_same i =
      ap (λ (xs : List (Lined DomainDef)).
      unwrap_or
      (option_and_then (λ (x : Lined DomainDef). option_and_then (domain_at e) x.item.parent) (slice_get xs i)) i)
      form.domains
      ∙ at_place bare
      (λ (o : Option (Lined DomainDef)). unwrap_or
      (option_and_then (λ x. option_and_then (domain_at e) x.item.parent) o) i)
      (λ (o : Option (Lined DomainDef)). unwrap_or
      (option_and_then (λ x. option_and_then (domain_at d) x.item.parent) o) i) refl
      (λ x. λ j. unwrap_or (option_and_then (first_of (form.names.domains j)) x.item.parent) i) d.domains i

  climb_same : (n i : ℕ) → climb e n i ≡ climb d n i
  climb_same zero i = refl
  climb_same (suc n) i = climb_same n (parent_of e i) ∙ ap (climb d n) (parent_same i)

  top_same : (i : ℕ) → is_top e i ≡ is_top d i
  top_same i =
      ap (λ (xs : List (Lined DomainDef)). option_map_or (λ (x : Lined DomainDef). is_none x.item.parent)
      (slice_get xs i) false)
      form.domains
      ∙ at_place bare (λ (o : Option (Lined DomainDef)). option_map_or (λ x. is_none x.item.parent) o false)
      (λ (o : Option (Lined DomainDef)). option_map_or (λ x. is_none x.item.parent) o false) refl
      (λ x. refl) d.domains i

  ends_same : (i : ℕ) → ends e i ≡ ends d i
  ends_same i = top_same (climb e (length e.domains) i)
      ∙ ap (is_top d) (climb_same (length e.domains) i ∙ ap (λ n. climb d n i) lengths)

  tops_there : has_top e ≡ has_top d
  tops_there =
      ap (λ (xs : List (Lined DomainDef)). list_any (λ (x : Lined DomainDef). is_none x.item.parent) xs) form.domains
      ∙ any_same (λ (x : Lined DomainDef). is_none x.item.parent) (λ (x : Lined DomainDef). is_none x.item.parent) bare
      (λ x. refl) d.domains

  strays_same : (i : ℕ) → strays e i ≡ strays d i
  strays_same i = λ j. tops_there j && not (ends_same i j)

  -- the tables
  pub zones_both : Both (zone_faults d ≡ []) (zone_faults e ≡ [])
  unfolding zone_faults
  zones_both =
      moved (faults_of_zone d.zone) (faults_of_zone d.zone)
      (faults_of_zone (option_map unlined (unless_utc (item_of d.zone))))
      (faults_of_zone e.zone) refl (ap faults_of_zone form.zone) (zone_by d.zone)

  pub cpus_both : Both (cpu_faults d ≡ []) (cpu_faults e ≡ [])
  unfolding cpu_faults
  cpus_both =
      table_both (cpu_rows d) (cpu_rows e) bare_cpu
      (λ k x. λ i. (is_later (first_of (form.names.cpus i) x.item.name) k, Duplicate)
      ∷ (is_none (first_of (form.names.domains i) x.item.domain), UnknownName)
      ∷ ((eqb k 256) || port_kept x.item.port i, OutOfRange)
      ∷ []) d.cpus e.cpus form.cpus

  pub domains_both : Both (domain_faults d ≡ []) (domain_faults e ≡ [])
  unfolding domain_faults
  domains_both =
      table_both (λ k x. domain_rows d k (strays d k) x) (λ k x. domain_rows e k (strays e k) x) bare
      (λ k x. λ i. (is_later (first_of (form.names.domains i) x.item.name) k, Duplicate)
      ∷ (
        is_none (first_of (form.names.cpus i) x.item.manager)
            || option_map_or (λ parent. is_none (first_of (form.names.domains i) parent)) x.item.parent false,
        UnknownName,
      )
      ∷ (strays_same k i, Tree)
      ∷ []) d.domains e.domains form.domains

  pub managers_both : Both (manager_faults d ≡ []) (manager_faults e ≡ [])
  unfolding manager_faults
  managers_both =
      moved (filter_map (stray_fault d) d.domains) (filter_map (stray_fault d) d.domains)
      (filter_map (stray_fault e) (map bare d.domains)) (filter_map (stray_fault e) e.domains) refl
      (ap (λ (xs : List (Lined DomainDef)). filter_map (stray_fault e) xs) form.domains)
      (picks_both (stray_fault d) (stray_fault e) bare (stray_both d e form) d.domains)

  pub masters_both : Both (master_faults d ≡ []) (master_faults e ≡ [])
  unfolding master_faults
  masters_both =
      moved (top_faults d.last_line (top_domains d.domains)) (top_faults d.last_line (top_domains d.domains))
      (top_faults e.last_line (map bare (top_domains d.domains))) (top_faults e.last_line (top_domains e.domains)) refl
      (ap (λ (xs : List (Lined DomainDef)). top_faults e.last_line (top_domains xs)) form.domains
      ∙ ap (top_faults e.last_line) (tops_bare d.domains))
      (tops_both d.last_line e.last_line (top_domains d.domains))

  pub calendars_both : Both (calendar_faults d ≡ []) (calendar_faults e ≡ [])
  unfolding calendar_faults
  calendars_both =
      table_both (calendar_rows d) (calendar_rows e) bare
      (λ k x. λ i. (is_later (first_of (form.names.calendars i) x.item.name) k, Duplicate) ∷ []) d.calendars e.calendars
      form.calendars

  pub prompts_both : Both (prompt_faults d ≡ []) (prompt_faults e ≡ [])
  unfolding prompt_faults
  prompts_both =
      table_both (prompt_rows d) (prompt_rows e) bare
      (λ k x. λ i. (is_later (first_of (form.names.prompts i) x.item.name) k, Duplicate) ∷
      (eqb k 65535, OutOfRange) ∷ [])
      d.prompts e.prompts form.prompts

  pub resources_both : Both (resource_faults d ≡ []) (resource_faults e ≡ [])
  unfolding resource_faults
  resources_both =
      table_both (resource_rows d) (resource_rows e) bare
      (λ k x. λ i. (is_later (first_on (form.names.resources i) x.item.ws x.item.name) k, Duplicate)
      ∷ (is_none (first_of (form.names.cpus i) x.item.ws), UnknownName)
      ∷ ((eqb k 65535) || nat_lt 1024 x.item.total, OutOfRange)
      ∷ []) d.resources e.resources form.resources

  pub jobs_both : Both (job_faults d ≡ []) (job_faults e ≡ [])
  unfolding job_faults
  jobs_both =
      table_both (job_rows d) (job_rows e) bare
      (λ k x. λ i. (is_later (first_on (form.names.jobs i) x.item.ws x.item.name) k, Duplicate)
      ∷ (is_none (first_of (form.names.cpus i) x.item.ws), UnknownName)
      ∷ []) d.jobs e.jobs form.jobs
