-- A network without faults has no more workstations, resources and prompts than their numbers tell.
use Rattle.std.proofs.Common.{ℕ, ◌||◌, ◌≡◌, ◌≤◌, Bool, None, Option, arith, false, length, nat_lt}
use Rattle.std.proofs.Common.{refl, true}
use Rattle.std.proofs.lemmas.Bool.Decides.{nat_tests}
use Rattle.std.specs.List.{AllByRecursion, list_any}
use Rattle.lemmas.proofs.Options.{then_none}
use Rattle.network_tree.proofs.Trees.{in_range, none_there}
use Rattle.model.specs.Network.{node_count}
use Rattle.model.specs.Types.{Net}
use Rattle.network_tree.specs.Repeats.{has_repeat}
use Rattle.network_tree.specs.Faults.{are_one_prompt, are_one_resource, is_bad_resource}
use Rattle.network_tree.specs.Faults.{net_fault, net_faults}
use Rattle.network_tree.specs.declared.faults.NetFault.{NetFault}
use Rattle.network_tree.specs.declared.faults.NetFault.TheVariants.{TooMany}

parts : (a b c d e : Bool) → (a || b || c || d || e) ≡ false → (a ≡ false) × (b ≡ false)
parts true b c d e h = cc
parts false true c d e h = cc
parts false false c d e h = (refl, refl)

at_most : (m n : ℕ) → nat_lt m n ≡ false → n ≤ m
at_most m n h = grind (arith, nat_tests)

pub few_nodes : (net : Net) → net_fault net ≡ None → length net.nodes ≤ 256
unfolding net_fault
few_nodes net none =
    let all : AllByRecursion (λ (o : Option NetFault). o ≡ None) (net_faults net) = none_there (net_faults net) none in
    at_most 256 (node_count net) (then_none (nat_lt 256 (node_count net)) TooMany all.1.0)

few_both : (net : Net) → net_fault net ≡ None
    → (nat_lt 65535 (length net.resources) ≡ false) × (nat_lt 65535 (length net.prompts) ≡ false)
few_both net none =
    parts (nat_lt 65535 (length net.resources)) (nat_lt 65535 (length net.prompts))
    (list_any (is_bad_resource net) net.resources) (has_repeat are_one_resource net.resources)
    (has_repeat are_one_prompt net.prompts) (in_range net none)

pub few_resources : (net : Net) → net_fault net ≡ None → length net.resources ≤ 65535
few_resources net none = at_most 65535 (length net.resources) (few_both net none).0

pub few_prompts : (net : Net) → net_fault net ≡ None → length net.prompts ≤ 65535
few_prompts net none = at_most 65535 (length net.prompts) (few_both net none).1
