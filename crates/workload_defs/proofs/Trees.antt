-- The network of definitions in which the tables tell no fault is a tree.
use Rattle.std.proofs.Common.{◌≡◌, ◌<◌, ℕ, zero, suc, Bool, true, false, List, [], ◌∷◌, ◌++◌, Option, Some, None}
use Rattle.std.proofs.Common.{◌&&◌, length, refl, ap, sym, subst, ◌∙◌, arith, bytes_eq, cond, is_none, map, not, option_map, option_and_then, slice_get}
use Rattle.std.proofs.lemmas.List.{length-map}
use Rattle.std.proofs.lemmas.Option.{slice_get_within}
use Rattle.std.specs.Option.{option_map_or}
use Rattle.std.specs.Prelude.{unwrap_or}
use Rattle.lemmas.proofs.Lists.{get_in_front, got_below}
use Rattle.lemmas.proofs.Texts.{text_tells}
use Rattle.composer_parser.specs.declared.CpuDef.{CpuDef}
use Rattle.composer_parser.specs.declared.Defs.{Defs}
use Rattle.composer_parser.specs.declared.DomainDef.{DomainDef}
use Rattle.composer_parser.specs.declared.Lined.{Lined}
use Rattle.base_types.specs.declared.Node.{Node}
use Rattle.model.specs.Types.{Net}
use Rattle.model.specs.Network.{IsTree, hop, is_manager, node_count}
use Rattle.network_tree.proofs.Climbs.{up}
use Rattle.definition_names.specs.Names.{domain_at}
use Rattle.definition_faults.specs.Chains as chains
use Rattle.definition_faults.specs.Items.{has_top}
use Rattle.workload_defs.specs.Nets.{domain_of, hop_name, hop_of, manager_of, manages, net_of, node_of, parent_of}
use Rattle.workload_defs.specs.Stations.{is_master, is_that, number_of, stations, those}
use Rattle.workload_defs.proofs.Apart.{apart_at}
use Rattle.network_tree.proofs.Chains.{ends_there, short}
use Rattle.workload_defs.proofs.Clean.{IsClean, good_cpu, good_domain, one_top}
use Rattle.workload_defs.proofs.Lists.{any_at, filtered, from_any, from_filtered, from_mapped, mapped}
use Rattle.workload_defs.proofs.Numbers.{HasNumber, at_number, from_station, have_one_name, is_top_manager}
use Rattle.workload_defs.proofs.Numbers.{managed_domain, named}
use Rattle.workload_defs.proofs.Numbers.{number_known, stations_apart, text_is, top, top_is, top_manager_is}

module _ (d : Defs) where
  -- a node for each workstation
  pub node_there : (n : ℕ) (c : CpuDef) → slice_get (stations d) n ≡ Some c → slice_get (net_of d).nodes n ≡ Some (node_of d c)
  unfolding net_of
  node_there n c e = mapped (node_of d) (stations d) n c e

  pub from_node : (n : ℕ) (a : Node) → slice_get (net_of d).nodes n ≡ Some a → (c : CpuDef) × (slice_get (stations d) n ≡ Some c) × (node_of d c ≡ a)
  unfolding net_of
  from_node n a e = from_mapped (node_of d) (stations d) n a e

  pub hop_at : (n : ℕ) (c : CpuDef) → slice_get (stations d) n ≡ Some c → hop (net_of d) n ≡ hop_of d c
  hop_at n c e = ap (option_and_then (λ (a : Node). a.hop)) (node_there n c e)

  pub manager_at : (n : ℕ) (c : CpuDef) → slice_get (stations d) n ≡ Some c → is_manager (net_of d) n ≡ manages d c
  manager_at n c e = ap (λ o. option_map_or (λ (a : Node). a.manager) o false) (node_there n c e)

  -- a domain by its name
  domain_there : (name : List ℕ) (i : ℕ) → domain_at d name ≡ Some i
      → (x : Lined DomainDef) × (slice_get d.domains i ≡ Some x) × (domain_of d name ≡ Some x)
  domain_there name i e =
      let own = named (λ (x : Lined DomainDef). x.item.name) d.domains name i e in
      (own.0, own.1, ap (option_and_then (slice_get d.domains)) e ∙ own.1)

  domain_itself : (name : List ℕ) (i : ℕ) (x : Lined DomainDef) → domain_at d name ≡ Some i → slice_get d.domains i ≡ Some x
      → domain_of d name ≡ Some x
  domain_itself name i x e at_ = ap (option_and_then (slice_get d.domains)) e ∙ at_

  -- who is the manager of a domain manages
  manages_it : (i : ℕ) (x : Lined DomainDef) (c : CpuDef) → slice_get d.domains i ≡ Some x → c.name ≡ x.item.manager
      → manages d c ≡ true
  manages_it i x c at_ called =
      any_at (λ (y : Lined DomainDef). bytes_eq y.item.manager c.name) d.domains i x at_
      (text_is x.item.manager c.name (sym called))

  -- and who manages is the manager of some domain
  manages_one : (c : CpuDef) → manages d c ≡ true
      → (i : ℕ) × ((x : Lined DomainDef) × (slice_get d.domains i ≡ Some x) × (c.name ≡ x.item.manager))
  manages_one c e =
      let t = from_any (λ (y : Lined DomainDef). bytes_eq y.item.manager c.name) d.domains e in
      (t.0, (t.1.0, t.1.1, sym (text_tells t.1.0.item.manager c.name t.1.2)))

module _ (d : Defs) (clean : IsClean d) where
  abbrev net : Net
  net = net_of d

  -- the hop of the manager of a domain with a parent, and of a workstation that manages none
  record IsAbove (n : ℕ) (i : ℕ) : Type 0 where
    place : ℕ
    domain : Lined DomainDef
    number : ℕ
    cpu : CpuDef
    stands : slice_get d.domains place ≡ Some domain
    is_place : place ≡ i
    is_hop : hop net n ≡ Some number
    at_ : slice_get (stations d) number ≡ Some cpu
    called : cpu.name ≡ domain.item.manager

  hop_named : (n : ℕ) (c : CpuDef) (i : ℕ) (x : Lined DomainDef) → slice_get (stations d) n ≡ Some c
      → slice_get d.domains i ≡ Some x → hop_name d c ≡ Some x.item.manager → IsAbove n i
  hop_named n c i x stands_ at_ e =
      let good = good_domain d clean i x at_ in
      let known = number_known d clean x.item.manager good.manager_place good.managed in
      record {
        place = i;
        domain = x;
        number = known.number;
        cpu = known.cpu;
        stands = at_;
        is_place = refl;
        is_hop = hop_at d n c stands_ ∙ ap (option_and_then (number_of d)) e ∙ known.is_number;
        at_ = known.stands;
        called = known.called;
      }

  -- a workstation that manages no domain stands below the manager of its own
  below_own : (n : ℕ) (c : CpuDef) → slice_get (stations d) n ≡ Some c → manages d c ≡ false → (i : ℕ) × IsAbove n i
  below_own n c stands_ none =
      let own = from_station d clean n c stands_ in
      let good = good_cpu d clean own.0 own.1.0 own.1.1 in
      let of_ : domain_at d c.domain ≡ Some good.domain_place =
      subst (λ (e : CpuDef). domain_at d e.domain ≡ Some good.domain_place) own.1.2 good.in_domain in
      let x = domain_there d c.domain good.domain_place of_ in
      let name : hop_name d c ≡ Some x.0.item.manager =
      ap (λ b. cond b (option_and_then (manager_of d) (parent_of d c.domain)) (manager_of d c.domain)) none
      ∙ ap (option_map (λ (y : Lined DomainDef). y.item.manager)) x.2 in
      (good.domain_place, hop_named n c good.domain_place x.0 stands_ x.1 name)

  -- the manager of a domain stands below that of the parent
  hop_of_manager : (n : ℕ) (c : CpuDef) (i : ℕ) (x : Lined DomainDef) → slice_get (stations d) n ≡ Some c
      → slice_get d.domains i ≡ Some x → c.name ≡ x.item.manager
      → hop_name d c ≡ option_and_then (manager_of d) x.item.parent
  hop_of_manager n c i x stands_ at_ called =
      let good = good_domain d clean i x at_ in
      let of_ : domain_of d x.item.name ≡ Some x = domain_itself d x.item.name i x good.own_place at_ in
      let own : c.domain ≡ x.item.name = managed_domain d clean i x n c at_ stands_ called in
      let parent : parent_of d c.domain ≡ x.item.parent =
      ap (parent_of d) own ∙ ap (option_and_then (λ (y : Lined DomainDef). y.item.parent)) of_ in
      ap (λ b. cond b (option_and_then (manager_of d) (parent_of d c.domain)) (manager_of d c.domain))
      (manages_it d i x c at_ called)
      ∙ ap (option_and_then (manager_of d)) parent

  below_parent : (n : ℕ) (c : CpuDef) (i : ℕ) (x : Lined DomainDef) (p : List ℕ) → slice_get (stations d) n ≡ Some c
      → slice_get d.domains i ≡ Some x → c.name ≡ x.item.manager → x.item.parent ≡ Some p
      → (j : ℕ) × (domain_at d p ≡ Some j) × IsAbove n j
  below_parent n c i x p stands_ at_ called has =
      let good = good_domain d clean i x at_ in
      let j = good.parent p has in
      let y = domain_there d p j.0 j.1 in
      let name : hop_name d c ≡ Some y.0.item.manager =
      hop_of_manager n c i x stands_ at_ called
      ∙ ap (option_and_then (manager_of d)) has
      ∙ ap (option_map (λ (z : Lined DomainDef). z.item.manager)) y.2 in
      (j.0, j.1, hop_named n c j.0 y.0 stands_ y.1 name)

  -- The master.

  top_place : (i : ℕ) × (slice_get d.domains i ≡ Some (top d clean)) × (is_none (top d clean).item.parent ≡ true)
  top_place =
      from_filtered (λ (y : Lined DomainDef). is_none y.item.parent) d.domains 0 (top d clean)
      (ap (λ l. slice_get l 0) (one_top d clean).1)

  no_parent : (o : Option (List ℕ)) → is_none o ≡ true → o ≡ None
  no_parent None e = refl
  no_parent (Some p) e = cc

  master_known : HasNumber d clean (top d clean).item.manager
  master_known =
      let good = good_domain d clean top_place.0 (top d clean) top_place.1 in
      number_known d clean (top d clean).item.manager good.manager_place good.managed

  master_first : (c : CpuDef) × (slice_get (stations d) 0 ≡ Some c) × (is_master d c ≡ true)
  unfolding stations
  master_first =
      let known = master_known in
      let good = good_domain d clean top_place.0 (top d clean) top_place.1 in
      let own = named (λ (c : Lined CpuDef). c.item.name) d.cpus (top d clean).item.manager good.manager_place good.managed in
      let item_ = mapped (λ (c : Lined CpuDef). c.item) d.cpus good.manager_place own.0 own.1 in
      let f = filtered (is_that d true) (map (λ (c : Lined CpuDef). c.item) d.cpus) good.manager_place own.0.item item_
      (top_manager_is d clean own.0.item own.2) in
      go own.0.item (those d true d.cpus) refl f.0 f.1
    where
      go : (x : CpuDef) (l : List CpuDef) → those d true d.cpus ≡ l → (k : ℕ) → slice_get l k ≡ Some x
          → (c : CpuDef) × (slice_get (those d true d.cpus ++ those d false d.cpus) 0 ≡ Some c) × (is_master d c ≡ true)
      go x [] is k e = cc
      go x (c ∷ l) is k e =
          let first : slice_get (those d true d.cpus) 0 ≡ Some c = ap (λ m. slice_get m 0) is in (
            c,
            get_in_front (those d true d.cpus) (those d false d.cpus) 0 c first,
            (from_filtered (is_that d true) (map (λ (e : Lined CpuDef). e.item) d.cpus) 0 c first).2,
          )

  -- the master alone has the number 0
  first_alone : (n : ℕ) (c : CpuDef) → slice_get (stations d) n ≡ Some c → is_master d c ≡ true → n ≡ 0
  first_alone zero c e is = refl
  first_alone (suc n) c e is =
      let first = master_first in
      let other : have_one_name c first.0 ≡ false =
      apart_at have_one_name (stations d) (stations_apart d clean) (suc n) 0 c first.0 (omega arith) e first.1 in
      let same : bytes_eq c.name first.0.name ≡ true =
      text_is c.name first.0.name (is_top_manager d clean c is ∙ sym (is_top_manager d clean first.0 first.2)) in
      absurd (cc)

  at_top : (i : ℕ) (x : Lined DomainDef) (n : ℕ) (c : CpuDef) → slice_get d.domains i ≡ Some x → x.item.parent ≡ None
      → slice_get (stations d) n ≡ Some c → c.name ≡ x.item.manager → n ≡ 0
  at_top i x n c at_ none stands_ called =
      let same : x ≡ top d clean = top_is d clean i x at_ none in
      first_alone n c stands_ (top_manager_is d clean c (called ∙ ap (λ (y : Lined DomainDef). y.item.manager) same))

  -- Chains.

  parent_is : (i : ℕ) (x : Lined DomainDef) (p : List ℕ) (j : ℕ) → slice_get d.domains i ≡ Some x → x.item.parent ≡ Some p
      → domain_at d p ≡ Some j → chains.parent_of d i ≡ j
  parent_is i x p j at_ has is =
      ap (λ o. unwrap_or (option_and_then (λ (y : Lined DomainDef). option_and_then (domain_at d) y.item.parent) o) i) at_
      ∙ (ap (λ o. unwrap_or (option_and_then (domain_at d) o) i) has ∙ ap (λ o. unwrap_or o i) is)

  top_itself : (i : ℕ) (x : Lined DomainDef) → slice_get d.domains i ≡ Some x → chains.is_top d i ≡ is_none x.item.parent
  top_itself i x at_ = ap (λ o. option_map_or (λ (y : Lined DomainDef). is_none y.item.parent) o false) at_

  -- from the manager of a domain whose chain ends the hops lead to the master
  rises : (steps i : ℕ) (x : Lined DomainDef) (n : ℕ) (c : CpuDef) → slice_get d.domains i ≡ Some x
      → slice_get (stations d) n ≡ Some c → c.name ≡ x.item.manager → chains.is_top d (chains.climb d steps i) ≡ true
      → (j : ℕ) × (up net j n ≡ Some 0)
  rises zero i x n c at_ stands_ called end =
      let none = no_parent x.item.parent (sym (top_itself i x at_) ∙ end) in
      (0, ap Some (at_top i x n c at_ none stands_ called))
  rises (suc steps) i x n c at_ stands_ called end = go x.item.parent refl (rises steps)
    where
      go : (o : Option (List ℕ)) → x.item.parent ≡ o
          → ((i : ℕ) (x : Lined DomainDef) (n : ℕ) (c : CpuDef) → slice_get d.domains i ≡ Some x
          → slice_get (stations d) n ≡ Some c → c.name ≡ x.item.manager → chains.is_top d (chains.climb d steps i) ≡ true
          → (j : ℕ) × (up net j n ≡ Some 0))
          → (j : ℕ) × (up net j n ≡ Some 0)
      go None none more = (0, ap Some (at_top i x n c at_ none stands_ called))
      go (Some p) has more =
          let up_ = below_parent n c i x p stands_ at_ called has in
          let b = up_.2 in
          let parent : chains.parent_of d i ≡ b.place =
          parent_is i x p up_.0 at_ has up_.1 ∙ sym b.is_place in
          let further =
          more b.place b.domain b.number b.cpu b.stands b.at_ b.called
          (subst (λ k. chains.is_top d (chains.climb d steps k) ≡ true) parent end) in
          (suc further.0, ap (option_and_then (up net further.0)) b.is_hop ∙ further.1)

  not_strayed : (b e : Bool) → (b && not e) ≡ false → b ≡ true → e ≡ true
  not_strayed b true h g = refl
  not_strayed true false h g = cc
  not_strayed false false h g = cc

  some_top : has_top d ≡ true
  some_top =
      any_at (λ (y : Lined DomainDef). is_none y.item.parent) d.domains top_place.0 (top d clean) top_place.1 top_place.2

  chain_ends : (i : ℕ) (x : Lined DomainDef) → slice_get d.domains i ≡ Some x → chains.ends d i ≡ true
  chain_ends i x at_ =
      let good = good_domain d clean i x at_ in
      not_strayed (has_top d) (chains.ends d i) good.kept some_top

  leads : (n : ℕ) (c : CpuDef) → slice_get (stations d) n ≡ Some c → (j : ℕ) × (up net j n ≡ Some 0)
  leads n c stands_ = go (manages d c) refl
    where
      go : (b : Bool) → manages d c ≡ b → (j : ℕ) × (up net j n ≡ Some 0)
      go true is =
          let own = manages_one d c is in
          rises (length d.domains) own.0 own.1.0 n c own.1.1 stands_ own.1.2 (chain_ends own.0 own.1.0 own.1.1)
      go false is =
          let b = (below_own n c stands_ is).1 in
          let more =
          rises (length d.domains) b.place b.domain b.number b.cpu b.stands b.at_ b.called (chain_ends b.place b.domain b.stands) in
          (suc more.0, ap (option_and_then (up net more.0)) b.is_hop ∙ more.1)

  -- The tree.

  pub count_is : node_count net ≡ length (stations d)
  unfolding net_of
  count_is = length-map (stations d) (node_of d)

  station_at : (w : ℕ) → w < node_count net → (c : CpuDef) × (slice_get (stations d) w ≡ Some c)
  station_at w low = let is = count_is in got_below (stations d) w (omega (arith, low, is))

  hop_inside : (a b : ℕ) → hop net a ≡ Some b → b < node_count net
  hop_inside a b e = go (slice_get net.nodes a) refl
    where
      go : (o : Option Node) → slice_get net.nodes a ≡ o → b < node_count net
      go None none =
          let stuck : hop net a ≡ None = ap (option_and_then (λ (n : Node). n.hop)) none in
          absurd (cc)
      go (Some n) some =
          let c = from_node d a n some in
          let of_ : option_and_then (number_of d) (hop_name d c.0) ≡ Some b = sym (hop_at d a c.0 c.1) ∙ e in
          within (hop_name d c.0) of_
        where
          within : (o : Option (List ℕ)) → option_and_then (number_of d) o ≡ Some b → b < node_count net
          within None h = cc
          within (Some name) h =
              let m = at_number d clean name b h in
              let low = slice_get_within (stations d) b m.0 m.1 in
              let is = count_is in
              omega (arith, low, is)

  managed_hop : (w : ℕ) (i : ℕ) → IsAbove w i → option_map_or (is_manager net) (hop net w) false ≡ true
  managed_hop w i b =
      ap (λ o. option_map_or (is_manager net) o false) b.is_hop
      ∙ (manager_at d b.number b.cpu b.at_ ∙ manages_it d b.place b.domain b.cpu b.stands b.called)

  hangs : (w : ℕ) → 0 < w → w < node_count net → option_map_or (is_manager net) (hop net w) false ≡ true
  hangs w some low = let c = station_at w low in go c.0 c.1 (manages d c.0) refl
    where
      go : (c : CpuDef) → slice_get (stations d) w ≡ Some c → (b : Bool) → manages d c ≡ b
          → option_map_or (is_manager net) (hop net w) false ≡ true
      go c stands_ false is = let b = below_own w c stands_ is in managed_hop w b.0 b.1
      go c stands_ true is =
          let own = manages_one d c is in
          by_parent own.0 own.1.0 own.1.1 own.1.2 own.1.0.item.parent refl
        where
          by_parent : (i : ℕ) (x : Lined DomainDef) → slice_get d.domains i ≡ Some x → c.name ≡ x.item.manager
              → (o : Option (List ℕ)) → x.item.parent ≡ o → option_map_or (is_manager net) (hop net w) false ≡ true
          by_parent i x at_ called None none =
              let first : w ≡ 0 = at_top i x w c at_ none stands_ called in
              absurd (omega (arith, first, some))
          by_parent i x at_ called (Some p) has =
              let b = below_parent w c i x p stands_ at_ called has in
              managed_hop w b.0 b.2

  root : hop net 0 ≡ None
  root =
      let first = master_first in
      let called : first.0.name ≡ (top d clean).item.manager = is_top_manager d clean first.0 first.2 in
      hop_at d 0 first.0 first.1
      ∙ ap (option_and_then (number_of d))
      (hop_of_manager 0 first.0 top_place.0 (top d clean) first.1 top_place.1 called
      ∙ ap (option_and_then (manager_of d)) (no_parent (top d clean).item.parent top_place.2))

  root_manages : is_manager net 0 ≡ true
  root_manages =
      let first = master_first in
      manager_at d 0 first.0 first.1
      ∙ manages_it d top_place.0 (top d clean) first.0 top_place.1 (is_top_manager d clean first.0 first.2)

  pub some_stations : 0 < node_count net
  some_stations =
      let first = master_first in
      let low = slice_get_within (stations d) 0 first.0 first.1 in
      let is = count_is in
      omega (arith, low, is)

  pub is_tree : IsTree net
  is_tree =
      record {
        top = root;
        managed = root_manages;
        hops = hangs;
        ends = λ w low.
            let c = station_at w low in
            let way = leads w c.0 c.1 in
            ends_there net root way.0 (node_count net) w (short net root hop_inside way.0 w low way.1) way.1;
      }
