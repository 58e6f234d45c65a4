-- The net that a switch makes has no fault where the one before had none.
use Rattle.std.proofs.Common.{◌≡◌, ◌∷◌, [], ℕ, Bool, List, None, Option, Some, ap, eqb, false}
use Rattle.std.proofs.Common.{length, map, option_map, refl, slice_get, sym, take, ◌∙◌}
use Rattle.std.proofs.Common.{◌||◌, find, nat_lt}
use Rattle.std.specs.Prelude.{nat_le}
use Rattle.std.proofs.lemmas.List.{take-map}
use Rattle.std.proofs.lemmas.Option.{slice_get-map}
use Rattle.std.specs.Bool.{then_some}
use Rattle.std.specs.List.{list_any}
use Rattle.std.specs.Option.{option_map_or}
use Rattle.std.specs.Str.{bytes_eq}
use Rattle.network_tree.proofs.Accepted.{no_bad_hop, no_miss}
use Rattle.model.specs.Types.{Events, Net, Node, Obeyed, PromptDef, Resource, SwitchMgr}
use Rattle.model.specs.History.{View}
use Rattle.model.specs.Words.{below}
use Rattle.model.specs.Network.{IsTree, node_count}
use Rattle.model.specs.Facts.{commands}
use Rattle.model.specs.PresentNet.{net_after, net_by, present_net, switched, taken_over}
use Rattle.model_laws.proofs.PresentNets.{IsOneBut, by_one, by_tree, one_count, switched_tree}
use Rattle.network_tree.specs.Repeats.{has_repeat}
use Rattle.network_tree.specs.Faults.{are_one_prompt, are_one_resource, first_there, first_ws, has_bad_hop}
use Rattle.network_tree.specs.Faults.{have_one_name, is_out_of_range, misses_the_master, net_fault}
use Rattle.network_tree.specs.Faults.{repeats_a_name}
use Rattle.network_tree.specs.declared.faults.NetFault.{NetFault}
use Rattle.network_tree.specs.declared.faults.NetFault.TheVariants.{BadHop, Duplicate, Empty, OutOfRange, TooMany}
use Rattle.network_tree.specs.declared.faults.NetFault.TheVariants.{Tree}
use Rattle.network_tree.proofs.Trees.{tree}

abbrev names : List Node → List (List ℕ)
names ns = map (λ (n : Node). n.name) ns

-- a name that stands before is one of the names
named : (x : List ℕ) (ns : List Node)
    → list_any (λ (n : Node). bytes_eq x n.name) ns ≡ list_any (bytes_eq x) (names ns)
named x [] = refl
named x (n ∷ ns) = ap (λ (b : Bool). bytes_eq x n.name || b) (named x ns)

repeats_by_names : (ns : List Node) (w : ℕ)
    → option_map_or (λ (n : Node). list_any (have_one_name n) (take w ns)) (slice_get ns w) false
    ≡ option_map_or (λ (x : List ℕ). list_any (bytes_eq x) (take w (names ns))) (slice_get (names ns) w) false
repeats_by_names ns w =
    rw (slice_get-map (λ (n : Node). n.name) ns w, take-map (λ (n : Node). n.name) w ns) (go (slice_get ns w))
  where
    go : (o : Option Node)
        → option_map_or (λ (n : Node). list_any (have_one_name n) (take w ns)) o false
        ≡ option_map_or (λ (x : List ℕ). list_any (bytes_eq x) (names (take w ns)))
        (option_map (λ (n : Node). n.name) o) false
    go None = refl
    go (Some n) = named n.name (take w ns)

repeats_same : (net u : Net) → names u.nodes ≡ names net.nodes → (w : ℕ)
    → repeats_a_name u w ≡ repeats_a_name net w
repeats_same net u e w =
    repeats_by_names u.nodes w
    ∙ ap (λ (xs : List (List ℕ)). option_map_or (λ (x : List ℕ). list_any (bytes_eq x) (take w xs)) (slice_get xs w)
    false) e
    ∙ sym (repeats_by_names net.nodes w)

find_same : (p q : ℕ → Bool) → ((w : ℕ) → p w ≡ q w) → (xs : List ℕ) → find p xs ≡ find q xs
find_same p q same [] = refl
find_same p q same (x ∷ xs) = rw (same x, find_same p q same xs) refl

-- the faults by their parts
abbrev fault_of : ℕ → Option ℕ → Option ℕ → Option ℕ → Bool → Option NetFault
fault_of n twice bad missed out =
    first_there
    (then_some (eqb n 0) Empty ∷ then_some (nat_lt 256 n) TooMany ∷ option_map Duplicate twice ∷ option_map BadHop bad
    ∷ option_map Tree missed ∷ then_some out OutOfRange ∷ [])

-- ranges by what they read of a net
abbrev out_by : ℕ → List Resource → List PromptDef → Bool
out_by count resources prompts =
    nat_lt 65535 (length resources)
    || nat_lt 65535 (length prompts)
    || list_any (λ (r : Resource). nat_le count r.ws || nat_lt 1024 r.total) resources
    || has_repeat are_one_resource resources
    || has_repeat are_one_prompt prompts

range_same : (net u : Net) → node_count u ≡ node_count net → u.resources ≡ net.resources → u.prompts ≡ net.prompts
    → is_out_of_range u ≡ is_out_of_range net
range_same net u n r p =
    ap (λ (k : ℕ). out_by k u.resources u.prompts) n ∙ ap (λ (rs : List Resource). out_by (node_count net) rs u.prompts) r
    ∙ ap (out_by (node_count net) net.resources) p

faults_same : (net u : Net) → IsOneBut net u → IsTree net → IsTree u → net_fault u ≡ net_fault net
unfolding net_fault
faults_same net u h t s =
    let n : node_count u ≡ node_count net = one_count net u h in
    let twice : first_ws u (repeats_a_name u) ≡ first_ws net (repeats_a_name net) =
    ap (λ (k : ℕ). find (repeats_a_name u) (below k)) n
    ∙ find_same (repeats_a_name u) (repeats_a_name net) (repeats_same net u h.names) (below (node_count net)) in
    let bad : first_ws u (has_bad_hop u) ≡ first_ws net (has_bad_hop net) = no_bad_hop u s ∙ sym (no_bad_hop net t) in
    let missed : first_ws u (misses_the_master u) ≡ first_ws net (misses_the_master net) =
    no_miss u s ∙ sym (no_miss net t) in
    let out : is_out_of_range u ≡ is_out_of_range net = range_same net u n h.resources_ h.prompts_ in
    ap (λ (k : ℕ). fault_of k (first_ws u (repeats_a_name u)) (first_ws u (has_bad_hop u))
    (first_ws u (misses_the_master u)) (is_out_of_range u)) n
    ∙ ap (λ (o : Option ℕ). fault_of (node_count net) o (first_ws u (has_bad_hop u))
    (first_ws u (misses_the_master u)) (is_out_of_range u)) twice
    ∙ ap (λ (o : Option ℕ). fault_of (node_count net) (first_ws net (repeats_a_name net)) o
    (first_ws u (misses_the_master u)) (is_out_of_range u)) bad
    ∙ ap (λ (o : Option ℕ). fault_of (node_count net) (first_ws net (repeats_a_name net))
    (first_ws net (has_bad_hop net)) o (is_out_of_range u)) missed
    ∙ ap (λ (b : Bool). fault_of (node_count net) (first_ws net (repeats_a_name net))
    (first_ws net (has_bad_hop net)) (first_ws net (misses_the_master net)) b) out

-- one switch is what one obeyed command leaves
one_switch : (net : Net) (w : ℕ) → IsOneBut net (switched net w)
unfolding net_by commands
one_switch net w = by_one net (Obeyed 0 1 (SwitchMgr w) ∷ [])

pub switched_accepted : (net : Net) (w : ℕ) → net_fault net ≡ None → net_fault (switched net w) ≡ None
switched_accepted net w none =
    let t : IsTree net = tree net none in
    faults_same net (switched net w) (one_switch net w) t (switched_tree net w t) ∙ none

pub present_accepted : (net : Net) (V : View) → net_fault net ≡ None → net_fault (present_net net V) ≡ None
present_accepted net V none =
    let t : IsTree net = tree net none in
    faults_same net (present_net net V) (by_one net (V (Events 0))) t (by_tree net (V (Events 0)) t) ∙ none

pub after_is_switched : (net : Net) (w m : ℕ) → taken_over net w ≡ Some m → switched net w ≡ net_after net w m
unfolding switched
after_is_switched net w m e = rw e refl

-- the net that a switch makes is accepted
pub after_is_accepted : (net : Net) (w m : ℕ) → net_fault net ≡ None → taken_over net w ≡ Some m
    → net_fault (net_after net w m) ≡ None
after_is_accepted net w m none e =
    sym (ap net_fault (after_is_switched net w m e)) ∙ switched_accepted net w none
