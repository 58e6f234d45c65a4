-- The network of definitions in which the tables tell no fault is accepted.
use Rattle.std.proofs.Common.{◌≡◌, ◌<◌, ◌≤◌, ℕ, true, false, Some}
use Rattle.std.proofs.Common.{length, refl, ap, sym, subst, ◌∙◌, inl, inr, arith, bytes_eq, eqb, map, slice_get}
use Rattle.std.proofs.lemmas.Bool.Decides.{eqb_tells, nat_tests}
use Rattle.std.proofs.lemmas.List.{length-map}
use Rattle.std.proofs.lemmas.Option.{slice_get_within}
use Rattle.std.specs.List.{list_any}
use Rattle.std.specs.Prelude.{nat_le, nat_lt, unwrap_or}
use Rattle.lemmas.proofs.Booleans.{and_parts}
use Rattle.lemmas.proofs.Numbers.{number_tells}
use Rattle.lemmas.proofs.Texts.{text_tells}
use Rattle.base_types.specs.declared.PromptDef.{PromptDef}
use Rattle.base_types.specs.declared.Resource.{Resource}
use Rattle.composer_parser.specs.declared.CpuDef.{CpuDef}
use Rattle.composer_parser.specs.declared.Defs.{Defs}
use Rattle.composer_parser.specs.declared.Lined.{Lined}
use Rattle.composer_parser.specs.declared.ResourceDef.{ResourceDef}
use Rattle.model.specs.Network.{node_count}
use Rattle.network_tree.specs.Faults.{are_one_prompt, are_one_resource, have_one_name, is_bad_resource}
use Rattle.definition_names.specs.Names.{prompt_at, resource_at}
use Rattle.workload_defs.specs.Nets.{net_of, node_of, resource_among}
use Rattle.workload_defs.specs.Stations.{stations}
use Rattle.workload_defs.proofs.Apart.{AreApart, apart_by_places, mapped_apart}
use Rattle.workload_defs.proofs.Clean.{IsClean, good_cpu, good_prompt, good_resource}
use Rattle.workload_defs.proofs.Lists.{ends_by, from_mapped, not_any, one_there}
use Rattle.workload_defs.proofs.Numbers.{HasNumber, at_number, number_known, stations_apart}
use Rattle.workload_defs.proofs.Numbers as numbers
use Rattle.workload_defs.proofs.Trees.{count_is}

not_itself : (n : ℕ) → eqb n n ≡ false → ⊥
not_itself n e = elim (eqb_tells n n) [ inl t ↦ (let on : eqb n n ≡ true = t.0 in cc) | inr t ↦ t.1 refl ]

module _ (d : Defs) (clean : IsClean d) where
  pub nodes_apart : AreApart have_one_name (net_of d).nodes
  unfolding net_of
  nodes_apart =
      mapped_apart (node_of d) numbers.have_one_name have_one_name (stations d) (λ a b. refl) (stations_apart d clean)

  -- Resources.

  -- a resource that is defined is of a workstation with a number, which no other has
  known_ws : (i : ℕ) (r : Lined ResourceDef) → slice_get d.resources i ≡ Some r → HasNumber d clean r.item.ws
  known_ws i r e = let good = good_resource d clean i r e in number_known d clean r.item.ws good.ws_place good.on_ws

  ws_is : (i : ℕ) (r : Lined ResourceDef) → slice_get d.resources i ≡ Some r
      → (h : HasNumber d clean r.item.ws) → (resource_among (stations d) r).ws ≡ h.number
  ws_is i r e h = ap (λ o. unwrap_or o 0) h.is_number

  one_resource : (i j : ℕ) (a b : Resource) → slice_get (map (resource_among (stations d)) d.resources) i ≡ Some a
      → slice_get (map (resource_among (stations d)) d.resources) j ≡ Some b → are_one_resource a b ≡ true → i ≡ j
  one_resource i j a b h g e =
      let one = from_mapped (resource_among (stations d)) d.resources i a h in
      let other = from_mapped (resource_among (stations d)) d.resources j b g in
      let same = and_parts (eqb a.ws b.ws) (bytes_eq a.name b.name) e in
      let ha = known_ws i one.0 one.1 in
      let hb = known_ws j other.0 other.1 in
      let na : a.ws ≡ ha.number = sym (ap (λ (r : Resource). r.ws) one.2) ∙ ws_is i one.0 one.1 ha in
      let nb : b.ws ≡ hb.number = sym (ap (λ (r : Resource). r.ws) other.2) ∙ ws_is j other.0 other.1 hb in
      let number : ha.number ≡ hb.number = sym na ∙ (number_tells a.ws b.ws same.0 ∙ nb) in
      let there_ : slice_get (stations d) hb.number ≡ Some ha.cpu =
      subst (λ n. slice_get (stations d) n ≡ Some ha.cpu) number ha.stands in
      let cpu : ha.cpu ≡ hb.cpu = one_there (stations d) hb.number ha.cpu hb.cpu there_ hb.stands in
      let ws : one.0.item.ws ≡ other.0.item.ws = sym ha.called ∙ (ap (λ (c : CpuDef). c.name) cpu ∙ hb.called) in
      let name : one.0.item.name ≡ other.0.item.name =
      ap (λ (r : Resource). r.name) one.2 ∙ (text_tells a.name b.name same.1 ∙ sym (ap (λ (r : Resource). r.name) other.2)) in
      let lower : resource_at d one.0.item.ws one.0.item.name ≡ Some i = (good_resource d clean i one.0 one.1).own_place in
      let upper : resource_at d other.0.item.ws other.0.item.name ≡ Some j = (good_resource d clean j other.0 other.1).own_place in
      let both : resource_at d one.0.item.ws one.0.item.name ≡ resource_at d other.0.item.ws other.0.item.name =
      ap (λ w. resource_at d w one.0.item.name) ws ∙ ap (resource_at d other.0.item.ws) name in
      cc

  pub resources_apart : AreApart are_one_resource (net_of d).resources
  unfolding net_of
  resources_apart =
      apart_by_places are_one_resource (map (resource_among (stations d)) d.resources) one_resource

  good_one : (i : ℕ) (a : Resource) → slice_get (map (resource_among (stations d)) d.resources) i ≡ Some a
      → is_bad_resource (net_of d) a ≡ false
  good_one i a h =
      let one = from_mapped (resource_among (stations d)) d.resources i a h in
      let known = known_ws i one.0 one.1 in
      let ws : a.ws ≡ known.number = sym (ap (λ (r : Resource). r.ws) one.2) ∙ ws_is i one.0 one.1 known in
      let low : known.number < length (stations d) = slice_get_within (stations d) known.number known.cpu known.stands in
      let count : node_count (net_of d) ≡ length (stations d) = count_is d clean in
      let inside : nat_le (node_count (net_of d)) a.ws ≡ false =
      (let under : a.ws < node_count (net_of d) = omega (arith, ws, low, count) in grind (arith, nat_tests)) in
      let total : nat_lt 1024 a.total ≡ false =
      ap (nat_lt 1024) (sym (ap (λ (r : Resource). r.total) one.2)) ∙ (good_resource d clean i one.0 one.1).total in
      rw (inside, total) refl

  pub good_resources : list_any (is_bad_resource (net_of d)) (net_of d).resources ≡ false
  unfolding net_of
  good_resources = not_any (is_bad_resource (net_of d)) (map (resource_among (stations d)) d.resources) good_one

  pub few_resources : length (net_of d).resources ≤ 65535
  unfolding net_of
  few_resources =
      let most : length d.resources ≤ 65535 =
      ends_by d.resources 65535 (λ r e. not_itself 65535 ((good_resource d clean 65535 r e).not_many)) in
      omega (arith, most, length-map d.resources (resource_among (stations d)))

  -- Prompts.

  one_prompt : (i j : ℕ) (a b : PromptDef) → slice_get (map (λ (p : Lined PromptDef). p.item) d.prompts) i ≡ Some a
      → slice_get (map (λ (p : Lined PromptDef). p.item) d.prompts) j ≡ Some b → are_one_prompt a b ≡ true → i ≡ j
  one_prompt i j a b h g e =
      let one = from_mapped (λ (p : Lined PromptDef). p.item) d.prompts i a h in
      let other = from_mapped (λ (p : Lined PromptDef). p.item) d.prompts j b g in
      let lower : prompt_at d a.name ≡ Some i =
      subst (λ (p : PromptDef). prompt_at d p.name ≡ Some i) one.2 ((good_prompt d clean i one.0 one.1).own_place) in
      let upper : prompt_at d b.name ≡ Some j =
      subst (λ (p : PromptDef). prompt_at d p.name ≡ Some j) other.2 ((good_prompt d clean j other.0 other.1).own_place) in
      let same : prompt_at d a.name ≡ prompt_at d b.name = ap (prompt_at d) (text_tells a.name b.name e) in
      cc

  pub prompts_apart : AreApart are_one_prompt (net_of d).prompts
  unfolding net_of
  prompts_apart = apart_by_places are_one_prompt (map (λ (p : Lined PromptDef). p.item) d.prompts) one_prompt

  pub few_prompts : length (net_of d).prompts ≤ 65535
  unfolding net_of
  few_prompts =
      let most : length d.prompts ≤ 65535 =
      ends_by d.prompts 65535 (λ p e. not_itself 65535 ((good_prompt d clean 65535 p e).not_many)) in
      omega (arith, most, length-map d.prompts (λ (p : Lined PromptDef). p.item))

  pub few_cpus : length d.cpus ≤ 256
  few_cpus = ends_by d.cpus 256 (λ c e. not_itself 256 ((good_cpu d clean 256 c e).not_many))
