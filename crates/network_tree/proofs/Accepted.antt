-- What the parts of a check find in a tree, and when they find nothing.
use Rattle.std.proofs.Common.{Bool, None, Option, ap, arith, eqb, false, inl, inr, option_map, refl, ℕ, ◌+◌, ◌<◌, ◌∙◌}
use Rattle.std.proofs.Common.{◌∷◌, [], ◌≡◌, ◌≤◌}
use Rattle.std.proofs.lemmas.Bool.Decides.{eqb_tells, nat_tests}
use Rattle.std.specs.Bool.{then_some}
use Rattle.std.specs.Prelude.{nat_lt}
use Rattle.model.specs.Network.{IsTree, node_count}
use Rattle.model.specs.Types.{Net}
use Rattle.network_tree.specs.Faults.{first_there, first_ws, has_bad_hop, is_out_of_range, misses_the_master, net_fault}
use Rattle.network_tree.specs.Faults.{repeats_a_name}
use Rattle.network_tree.specs.declared.faults.NetFault.{NetFault}
use Rattle.network_tree.specs.declared.faults.NetFault.TheVariants.{BadHop, Duplicate, Empty, OutOfRange, TooMany, Tree}
use Rattle.network_tree.proofs.Belows.{find_nothing}

-- a tree has no bad hop
pub no_bad_hop : (u : Net) → IsTree u → first_ws u (has_bad_hop u) ≡ None
no_bad_hop u t = find_nothing (has_bad_hop u) 0 (node_count u) (λ w _ low. good w low)
  where
    good : (w : ℕ) → w < 0 + node_count u → has_bad_hop u w ≡ false
    good w low =
        elim (eqb_tells w 0) [
          | inl e ↦ rw (e.1, t.top, t.managed) refl
          | inr e ↦ rw (e.0, t.hops w (omega (arith, e.1)) (omega (arith, low))) refl
        ]

-- no node of a tree misses the master
pub no_miss : (u : Net) → IsTree u → first_ws u (misses_the_master u) ≡ None
no_miss u t =
    find_nothing (misses_the_master u) 0 (node_count u)
    (λ w _ low. rw (t.ends w (omega (arith, low))) refl)

-- the faults by their parts
abbrev fault_by : Bool → Bool → Option ℕ → Option ℕ → Option ℕ → Bool → Option NetFault
fault_by empty many twice bad missed out =
    first_there
    (then_some empty Empty ∷ then_some many TooMany ∷ option_map Duplicate twice ∷ option_map BadHop bad
    ∷ option_map Tree missed ∷ then_some out OutOfRange ∷ [])

-- a tree of few nodes whose names stand once each and whose numbers are in range has no fault
pub no_fault : (net : Net) → IsTree net → 0 < node_count net → node_count net ≤ 256
    → first_ws net (repeats_a_name net) ≡ None → is_out_of_range net ≡ false → net_fault net ≡ None
unfolding net_fault
no_fault net t some few twice out =
    let empty : eqb (node_count net) 0 ≡ false = grind (arith, nat_tests) in
    let many : nat_lt 256 (node_count net) ≡ false = grind (arith, nat_tests) in
    ap (λ b. fault_by b (nat_lt 256 (node_count net)) (first_ws net (repeats_a_name net)) (first_ws net (has_bad_hop net))
    (first_ws net (misses_the_master net)) (is_out_of_range net)) empty
    ∙ ap (λ b. fault_by false b (first_ws net (repeats_a_name net)) (first_ws net (has_bad_hop net))
    (first_ws net (misses_the_master net)) (is_out_of_range net)) many
    ∙ ap (λ o. fault_by false false o (first_ws net (has_bad_hop net)) (first_ws net (misses_the_master net))
    (is_out_of_range net)) twice
    ∙ ap (λ o. fault_by false false None o (first_ws net (misses_the_master net)) (is_out_of_range net)) (no_bad_hop net t)
    ∙ ap (λ o. fault_by false false None None o (is_out_of_range net)) (no_miss net t)
    ∙ ap (λ b. fault_by false false None None None b) out
