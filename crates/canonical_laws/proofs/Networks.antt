-- The network, the addresses and the free days of definitions are those of their normal form.
use Rattle.std.proofs.Common.{◌≡◌, ◌+◌, ℕ, not, Bool, true, false, cond, eqb, List, [], ◌∷◌, ◌++◌, map, filter, length}
use Rattle.std.proofs.Common.{Option, Some, None, refl, ap, sym, ◌∙◌, slice_get, option_map, option_and_then, unwrap_or}
use Rattle.std.proofs.lemmas.List.{map-append, length-map}
use Rattle.std.specs.List.{enumerate_from, list_any}
use Rattle.std.specs.Option.{option_map_or}
use Rattle.std.specs.Str.{bytes_eq}
use Rattle.lemmas.proofs.Numbers.{number_tells}
use Rattle.base_types.specs.declared.Carry.{Carry}
use Rattle.base_types.specs.declared.Carry.TheVariants.{Yes, No, All}
use Rattle.base_types.specs.declared.PromptDef.{PromptDef}
use Rattle.composer_parser.specs.declared.Lined.{Lined}
use Rattle.composer_parser.specs.declared.Defs.{Defs}
use Rattle.composer_parser.specs.declared.CalendarDef.{CalendarDef}
use Rattle.composer_parser.specs.declared.CpuDef.{CpuDef}
use Rattle.composer_parser.specs.declared.DomainDef.{DomainDef}
use Rattle.composer_parser.specs.declared.ScheduleDef.{ScheduleDef}
use Rattle.composer_print.specs.Normal as forms
use Rattle.composer_print.specs.Normal.{unlined, bare, bare_cpu, normal_schedule, normal}
use Rattle.composer_print.specs.Stations.{unless_yes, unless_off, normal_cpu}
use Rattle.composer_print.specs.Texts.{unless, item_of}
use Rattle.definition_names.specs.Names.{first_of, domain_at, calendar_names}
use Rattle.definition_names.specs.Streams.{is_one_ws}
use Rattle.model.specs.Words.{ascending}
use Rattle.workload_defs.specs.Stations.{is_that, those, stations, number_among, number_of}
use Rattle.workload_defs.specs.Nets.{manager_of, parent_of, manages, hop_of, node_of, resource_among, carry_of, net_of}
use Rattle.workload_defs.specs.Nets.{peer_of, peers_of}
use Rattle.workload_defs.specs.Days.{days_of, free_calendar, has_free_sa, has_free_su, free_of_stream, free_of}
use Rattle.canonical_laws.proofs.Lists.{kept, at_place, position_same, any_same}
use Rattle.canonical_laws.proofs.Forms.{IsForm}

filter_mapped : {A B : Type 0} (q : B → Bool) (p : A → Bool) (f : A → B) → ((x : A) → q (f x) ≡ p x) → (xs : List A)
    → filter q (map f xs) ≡ map f (filter p xs)
filter_mapped q p f h [] = refl
filter_mapped q p f h (x ∷ xs) = (λ i. cond (h x i) (f x ∷ filter_mapped q p f h xs i) (filter_mapped q p f h xs i))
    ∙ go (p x)
  where
    go : (b : Bool)
        → cond b (f x ∷ map f (filter p xs)) (map f (filter p xs)) ≡ map f (cond b (x ∷ filter p xs) (filter p xs))
    go true = refl
    go false = refl

-- defaults
full_kept : (o : Option Bool) → unwrap_or (unless_off o) false ≡ unwrap_or o false
full_kept None = refl
full_kept (Some true) = refl
full_kept (Some false) = refl

port_test : (n : ℕ) (b : Bool) → eqb n 31111 ≡ b → unwrap_or (cond b None (Some n)) 31111 ≡ n
port_test n true e = sym (number_tells n 31111 e)
port_test n false e = refl

port_kept : (o : Option ℕ) → unwrap_or (unless 31111 o) 31111 ≡ unwrap_or o 31111
port_kept None = refl
port_kept (Some n) = port_test n (eqb n 31111) refl

carry_by : (c : Option (Lined Carry))
    → option_map_or (λ (l : Lined Carry). l.item) (option_map unlined (unless_yes (item_of c))) Yes
    ≡ option_map_or (λ (l : Lined Carry). l.item) c Yes
carry_by None = refl
carry_by (Some c) = go c.item
  where
    go : (k : Carry) → option_map_or (λ (l : Lined Carry). l.item) (option_map unlined (unless_yes (Some k))) Yes ≡ k
    go Yes = refl
    go No = refl
    go All = refl

-- a domain that a name stands for
domain_by : {B : Type 0} (k : Lined DomainDef → B) → ((x : Lined DomainDef) → k (bare x) ≡ k x)
    → (ds : List (Lined DomainDef))
    (o : Option ℕ)
    → option_map k (option_and_then (slice_get (map bare ds)) o) ≡ option_map k (option_and_then (slice_get ds) o)
domain_by k h ds None = refl
domain_by k h ds (Some n) = at_place bare (λ o. option_map k o) (λ o. option_map k o) refl (λ x. ap Some (h x)) ds n

parent_by : (ds : List (Lined DomainDef)) (o : Option ℕ)
    → option_and_then (λ (x : Lined DomainDef). x.item.parent) (option_and_then (slice_get (map bare ds)) o)
    ≡ option_and_then (λ (x : Lined DomainDef). x.item.parent) (option_and_then (slice_get ds) o)
parent_by ds None = refl
parent_by ds (Some n) =
    at_place bare (λ o. option_and_then (λ (x : Lined DomainDef). x.item.parent) o)
    (λ o. option_and_then (λ (x : Lined DomainDef). x.item.parent) o) refl (λ x. refl) ds n

module _ (d e : Defs) (form : IsForm d e) where
  -- workstations
  cpus_are : map (λ (c : Lined CpuDef). c.item) e.cpus ≡ map normal_cpu (map (λ (c : Lined CpuDef). c.item) d.cpus)
  cpus_are =
      ap (λ (cs : List (Lined CpuDef)). map (λ (c : Lined CpuDef). c.item) cs) form.cpus
      ∙ kept (λ (c : Lined CpuDef). c.item) (λ (c : Lined CpuDef). normal_cpu c.item) bare_cpu (λ c. refl) d.cpus
      ∙ sym (kept normal_cpu (λ (c : Lined CpuDef). normal_cpu c.item) (λ (c : Lined CpuDef). c.item)
      (λ c. refl) d.cpus)

  that_same : (b : Bool) (c : CpuDef) → is_that e b (normal_cpu c) ≡ is_that d b c
  that_same true c = ap (λ m. is_one_ws m (Some c.name)) form.names.master
  that_same false c = ap (λ m. not (is_one_ws m (Some c.name))) form.names.master

  those_same : (b : Bool) → those e b e.cpus ≡ map normal_cpu (those d b d.cpus)
  those_same b =
      ap (filter (is_that e b)) cpus_are
      ∙ filter_mapped (is_that e b) (is_that d b) normal_cpu (that_same b) (map (λ (c : Lined CpuDef). c.item) d.cpus)

  stations_same : stations e ≡ map normal_cpu (stations d)
  unfolding stations
  stations_same =
      (λ i. those_same true i ++ those_same false i)
      ∙ sym (map-append normal_cpu (those d true d.cpus) (those d false d.cpus))

  pub number_same : (name : List ℕ) → number_of e name ≡ number_of d name
  number_same name =
      ap (λ cs. number_among cs name) stations_same
      ∙ position_same (λ (c : CpuDef). bytes_eq name c.name) (λ (c : CpuDef). bytes_eq name c.name) normal_cpu
      (λ c. refl) 0
      (stations d)

  -- the network
  manages_same : (c : CpuDef) → manages e (normal_cpu c) ≡ manages d c
  manages_same c =
      ap (λ (xs : List (Lined DomainDef)). list_any (λ (x : Lined DomainDef). bytes_eq x.item.manager c.name) xs)
      form.domains
      ∙ any_same (λ (x : Lined DomainDef). bytes_eq x.item.manager c.name)
      (λ (x : Lined DomainDef). bytes_eq x.item.manager c.name) bare (λ x. refl) d.domains

  manager_same : (name : List ℕ) → manager_of e name ≡ manager_of d name
  manager_same name =
      (λ i. option_map (λ (x : Lined DomainDef). x.item.manager)
      (option_and_then (slice_get (form.domains i)) (first_of (form.names.domains i) name)))
      ∙ domain_by (λ (x : Lined DomainDef). x.item.manager) (λ x. refl) d.domains (domain_at d name)

  parent_same : (name : List ℕ) → parent_of e name ≡ parent_of d name
  parent_same name =
      (λ i. option_and_then (λ (x : Lined DomainDef). x.item.parent)
      (option_and_then (slice_get (form.domains i)) (first_of (form.names.domains i) name)))
      ∙ parent_by d.domains (domain_at d name)

  hop_same : (c : CpuDef) → hop_of e (normal_cpu c) ≡ hop_of d c
  hop_same c =
      λ i. option_and_then (λ name. number_same name i)
      (cond (manages_same c i) (option_and_then (λ name. manager_same name i) (parent_same c.domain i))
      (manager_same c.domain i))

  node_same : (c : CpuDef) → node_of e (normal_cpu c) ≡ node_of d c
  node_same c = λ i. record { name = c.name; hop = hop_same c i; manager = manages_same c i; full = full_kept c.full i }

  pub nets_same : net_of e ≡ net_of d
  unfolding net_of
  nets_same =
      let nodes : map (node_of e) (stations e) ≡ map (node_of d) (stations d) =
      ap (map (node_of e)) stations_same ∙ kept (node_of e) (node_of d) normal_cpu node_same (stations d) in
      let resources : map (resource_among (stations e)) e.resources ≡ map (resource_among (stations d)) d.resources =
      ap (map (resource_among (stations e))) form.resources
      ∙ kept (resource_among (stations e)) (resource_among (stations d)) bare
      (λ r. λ i. record { ws = unwrap_or (number_same r.item.ws i) 0; name = r.item.name; total = r.item.total })
      d.resources in
      let prompts : map (λ (p : Lined PromptDef). p.item) e.prompts ≡ map (λ (p : Lined PromptDef). p.item) d.prompts =
      ap (map (λ (p : Lined PromptDef). p.item)) form.prompts
      ∙ kept (λ (p : Lined PromptDef). p.item) (λ (p : Lined PromptDef). p.item) bare (λ p. refl) d.prompts in
      let carry : carry_of e ≡ carry_of d =
      ap (λ (c : Option (Lined Carry)). option_map_or (λ (l : Lined Carry). l.item) c Yes) form.carry
      ∙ carry_by d.carry in
      λ i. record { nodes = nodes i; resources = resources i; prompts = prompts i; carry = carry i }

  -- the addresses
  peers_by : (k : ℕ) (cs : List CpuDef)
      → map peer_of (enumerate_from k (map normal_cpu cs)) ≡ map peer_of (enumerate_from k cs)
  peers_by k [] = refl
  peers_by k (c ∷ cs) = λ i. record { ws = k; host = c.host; port = port_kept c.port i } ∷ peers_by (k + 1) cs i

  pub peers_same : peers_of e ≡ peers_of d
  peers_same = ap (λ (cs : List CpuDef). map peer_of (enumerate_from 0 cs)) stations_same ∙ peers_by 0 (stations d)

  -- the days of calendars, and free days
  pub days_same : (name : List ℕ) → days_of e name ≡ days_of d name
  days_same name =
      (λ i. option_map_or (λ (c : Lined CalendarDef). c.item.days)
      (option_and_then (slice_get (form.calendars i)) (first_of (form.names.calendars i) name)) [])
      ∙ go (first_of (calendar_names d) name)
    where
      go : (o : Option ℕ)
          → option_map_or (λ (c : Lined CalendarDef). c.item.days)
          (option_and_then (slice_get (map bare d.calendars)) o) []
          ≡ option_map_or (λ (c : Lined CalendarDef). c.item.days) (option_and_then (slice_get d.calendars) o) []
      go None = refl
      go (Some n) =
          at_place bare (λ o. option_map_or (λ (c : Lined CalendarDef). c.item.days) o [])
          (λ o. option_map_or (λ (c : Lined CalendarDef). c.item.days) o []) refl (λ c. refl) d.calendars n

  pub free_stream_same : (m : Option (List ℕ)) (s : Lined ScheduleDef)
      → free_of_stream e (normal_schedule m s).item ≡ free_of_stream d s.item
  unfolding normal_schedule
  free_stream_same m s =
      λ i. record {
        dates = ascending (days_same (free_calendar s.item) i);
        sa = has_free_sa s.item;
        su = has_free_su s.item;
      }

  pub free_same : (n : ℕ) → free_of e n ≡ free_of d n
  free_same n =
      ap (λ (ss : List (Lined ScheduleDef)). option_map (λ (s : Lined ScheduleDef). free_of_stream e s.item)
      (slice_get ss n))
      form.schedules
      ∙ at_place (normal_schedule (forms.master_of d.domains))
      (λ o. option_map (λ (s : Lined ScheduleDef). free_of_stream e s.item) o)
      (λ o. option_map (λ (s : Lined ScheduleDef). free_of_stream d s.item) o) refl
      (λ s. ap Some (free_stream_same (forms.master_of d.domains) s)) d.schedules n

  pub count_same : length e.schedules ≡ length d.schedules
  count_same =
      ap (λ (ss : List (Lined ScheduleDef)). length ss) form.schedules
      ∙ length-map d.schedules (normal_schedule (forms.master_of d.domains))
