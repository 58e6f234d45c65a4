-- The numbers of definitions in which the tables tell no fault fit, and their network is accepted.
use Rattle.std.proofs.Common.{◌≡◌, ℕ, ◌+◌, ◌<◌, ◌≤◌, ◌^◌, Bool, true, false, cond, not, List, [], ◌∷◌, All, filter, get_or, length, map}
use Rattle.std.proofs.Common.{Bor, Option, Some, None, IfSome, ap, arith, refl, subst, sym, ◌∙◌}
use Rattle.std.proofs.lemmas.Bool.Decides.{nat_tests}
use Rattle.std.proofs.lemmas.List.{length-append, length-map}
use Rattle.std.proofs.lemmas.List.Elements.{All-append, All-filter, All-map}
use Rattle.std.proofs.lemmas.Option.{slice_get-get_or}
use Rattle.std.specs.Prelude.{nat_lt}
use Rattle.lemmas.proofs.Booleans.{neither}
use Rattle.composer_parser.specs.declared.CpuDef.{CpuDef}
use Rattle.composer_parser.specs.declared.Defs.{Defs}
use Rattle.composer_parser.specs.declared.Lined.{Lined}
use Rattle.composer_parser.specs.declared.ResourceDef.{ResourceDef}
use Rattle.definition_faults.specs.Faults.{IsFaultless}
use Rattle.definition_faults.specs.Items.{is_bad_port}
use Rattle.network_tree.specs.Faults.{net_fault}
use Rattle.workload_defs.specs.Nets.{HasPort, net_of}
use Rattle.workload_defs.specs.Stations.{is_master, is_that, stations, those}
use Rattle.workload_defs.specs.Tables.{cpus_seen}
use Rattle.workload_defs.proofs.Accepted.{accepted_by}
use Rattle.workload_defs.proofs.Clean.{IsClean, good_cpu, good_resource}
use Rattle.workload_defs.proofs.DefinedNets.{few_cpus, few_prompts, few_resources, good_resources, nodes_apart, prompts_apart, resources_apart}
use Rattle.workload_defs.proofs.Faultless.{clean}
use Rattle.workload_defs.proofs.Trees.{count_is, is_tree, some_stations}

split : (d : Defs) (xs : List CpuDef) → length (filter (is_that d true) xs) + length (filter (is_that d false) xs) ≡ length xs
split d [] = refl
split d (x ∷ xs) = go (is_master d x) (split d xs)
  where
    go : (b : Bool) → length (filter (is_that d true) xs) + length (filter (is_that d false) xs) ≡ length xs
        → length (cond b (x ∷ filter (is_that d true) xs) (filter (is_that d true) xs))
        + length (cond (not b) (x ∷ filter (is_that d false) xs) (filter (is_that d false) xs))
        ≡ length (x ∷ xs)
    go true h = omega (arith, h)
    go false h = omega (arith, h)

-- each workstation has one number
pub all_numbered : (d : Defs) → length (stations d) ≡ length d.cpus
unfolding stations
all_numbered d =
    length-append (those d true d.cpus) (those d false d.cpus)
    ∙ (split d (map (λ (c : Lined CpuDef). c.item) d.cpus) ∙ length-map d.cpus (λ (c : Lined CpuDef). c.item))

module _ (d : Defs) (clean : IsClean d) where
  pub few_stations : length (stations d) ≤ 256
  few_stations =
      let few = few_cpus d clean in
      let all = all_numbered d in
      omega (arith, few, all)

  port_fits : (o : Option ℕ) → is_bad_port o ≡ false → IfSome o (λ n. n < 2 ^ 16)
  port_fits None h = tt
  port_fits (Some n) h =
      let high : nat_lt 65535 n ≡ false = (neither (nat_lt n 1) (nat_lt 65535 n) h).1 in
      let low : n ≤ 65535 = grind (arith, nat_tests) in
      omega (arith, low)

  ports : All (λ (c : Lined CpuDef). HasPort c.item) d.cpus
  ports = λ i e low. port_fits (get_or d.cpus i e).item.port ((good_cpu d clean i (get_or d.cpus i e) (slice_get-get_or d.cpus i e low)).port)

  -- ports fit their type
  pub ports_fit : All (λ (c : CpuDef). HasPort c) (stations d)
  unfolding stations
  ports_fit =
      let all = All-map HasPort (λ (c : Lined CpuDef). c.item) d.cpus ports in
      All-append HasPort (those d true d.cpus) (those d false d.cpus)
      (All-filter (is_that d true) HasPort (map (λ (c : Lined CpuDef). c.item) d.cpus) all)
      (All-filter (is_that d false) HasPort (map (λ (c : Lined CpuDef). c.item) d.cpus) all)

  -- totals are at most 1,024
  pub totals_fit : All (λ (r : Lined ResourceDef). r.item.total ≤ 1024) d.resources
  totals_fit = λ i e low.
      let high : nat_lt 1024 (get_or d.resources i e).item.total ≡ false =
      (good_resource d clean i (get_or d.resources i e) (slice_get-get_or d.resources i e low)).total in
      grind (arith, nat_tests)

  -- the network is accepted
  pub net_accepted : net_fault (net_of d) ≡ None
  net_accepted =
      let few = few_stations in
      let count = count_is d clean in
      accepted_by (net_of d) (is_tree d clean) (some_stations d clean) (omega (arith, few, count)) (nodes_apart d clean)
      (few_resources d clean) (resources_apart d clean) (few_prompts d clean) (prompts_apart d clean)
      (good_resources d clean)

-- a list of all workstations
pub few_listed : (d : Defs) → IsFaultless d → (refs : List (Bor CpuDef)) → cpus_seen refs ≡ stations d → length refs ≤ 256
few_listed d sound refs are =
    let few = few_stations d (clean d sound) in
    let all = length-map refs (λ (c : Bor CpuDef). c.now) in
    let same = ap length are in
    omega (arith, few, all, same)

pub accepted : (d : Defs) → IsFaultless d → net_fault (net_of d) ≡ None
accepted d sound = net_accepted d (clean d sound)

pub listed_ports_fit : (d : Defs) → IsFaultless d → (refs : List (Bor CpuDef)) → cpus_seen refs ≡ stations d
    → All (λ (c : CpuDef). HasPort c) (cpus_seen refs)
listed_ports_fit d sound refs are = subst (λ (l : List CpuDef). All (λ (c : CpuDef). HasPort c) l) (sym are) (ports_fit d (clean d sound))

pub defined_totals_fit : (d : Defs) → IsFaultless d → All (λ (r : Lined ResourceDef). r.item.total ≤ 1024) d.resources
defined_totals_fit d sound = totals_fit d (clean d sound)
