-- The network that is read has the same workstations, by their numbers and by their names.
use Rattle.std.proofs.Common.{◌≡◌, ◌<◌, ◌+◌, ℕ, zero, suc, false, not, cond, List, [], ◌∷◌, ◌++◌, Some, None, length, slice_get, map}
use Rattle.std.proofs.Common.{Option, refl, ap, sym, ◌∙◌, arith, bytes_eq, length-append, option_map}
use Rattle.std.specs.List.{list_any, position_or_len, prefix_len}
use Rattle.std.specs.Option.{option_map_or}
use Rattle.std.proofs.lemmas.List.{length-map}
use Rattle.lemmas.proofs.Booleans.{neither}
use Rattle.lemmas.proofs.Lists.{got_below}
use Rattle.lemmas.proofs.Texts.{text_itself}
use Rattle.model.specs.Network.{node_count}
use Rattle.model.specs.Types.{Net, Node}
use Rattle.network_tree.specs.Faults.{have_one_name, net_fault}
use Rattle.report_text.specs.Names.{name_of}
use Rattle.record_script.proofs.Trees.{bytes_sym}
use Rattle.history_script.specs.Histories.{ws_of}
use Rattle.history_laws.specs.Printables.{as_printed, node_as_printed}
use Rattle.history_laws.proofs.Accepted.{accepted}
use Rattle.history_laws.proofs.Histories.{found_by}
use Rattle.history_laws.proofs.Named.{cut, name_there}

pub count_printed : (net : Net) → node_count (as_printed net) ≡ node_count net
count_printed net = length-map net.nodes node_as_printed

got_mapped : {A B : Type 0} (f : A → B) (xs : List A) (w : ℕ) → slice_get (map f xs) w ≡ option_map f (slice_get xs w)
got_mapped f [] w = refl
got_mapped f (x ∷ xs) zero = refl
got_mapped f (x ∷ xs) (suc w) = got_mapped f xs w

pub name_printed : (net : Net) (w : ℕ) → name_of (as_printed net) w ≡ name_of net w
unfolding name_of
name_printed net w =
    ap (λ o. option_map_or (λ (n : Node). n.name) o []) (got_mapped node_as_printed net.nodes w) ∙ go (slice_get net.nodes w)
  where
    go : (o : Option Node)
        → option_map_or (λ (n : Node). n.name) (option_map node_as_printed o) [] ≡ option_map_or (λ (n : Node). n.name) o []
    go None = refl
    go (Some n) = refl

place_there : (n : Node) (before behind : List Node) → list_any (have_one_name n) before ≡ false
    → position_or_len (λ (x : Node). bytes_eq x.name n.name) (map node_as_printed (before ++ n ∷ behind)) ≡ length before
place_there n [] behind free =
    ap (λ t. cond (not t) (1 + prefix_len (λ (x : Node). not (bytes_eq x.name n.name)) (map node_as_printed behind)) 0)
    (text_itself n.name)
place_there n (b ∷ before) behind free =
    let parts = neither (bytes_eq n.name b.name) (list_any (have_one_name n) before) free in
    ap (λ t. cond (not t)
    (1 + prefix_len (λ (x : Node). not (bytes_eq x.name n.name)) (map node_as_printed (before ++ n ∷ behind))) 0)
    (bytes_sym n.name b.name false parts.0)
    ∙ ap (λ k. 1 + k) (place_there n before behind parts.1) ∙ omega arith

ws_there : (n : Node) (before behind : List Node) → list_any (have_one_name n) before ≡ false
    → (nodes : List Node) → nodes ≡ map node_as_printed (before ++ n ∷ behind)
    → position_or_len (λ (x : Node). bytes_eq x.name n.name) nodes ≡ length before
ws_there n before behind free nodes is =
    ap (position_or_len (λ (x : Node). bytes_eq x.name n.name)) is ∙ place_there n before behind free

-- the name of a workstation is found at its number
pub ws_of_name : (net : Net) → net_fault net ≡ None → (w : ℕ) → w < node_count net
    → ws_of (as_printed net) (name_of net w) ≡ Some w
ws_of_name net none w low =
    let a = accepted net none in
    let g = got_below net.nodes w low in
    let c = cut net.nodes w g.0 g.1 in
    ap (ws_of (as_printed net)) (name_there net w g.0 g.1)
    ∙ found_by (position_or_len (λ (x : Node). bytes_eq x.name g.0.name) (map node_as_printed net.nodes)) w
    (length (map node_as_printed net.nodes))
    (ws_there g.0 c.0 c.1 (a.names.once c.0 c.1 g.0 c.2) (map node_as_printed net.nodes) (ap (map node_as_printed) c.2) ∙ c.3)
    (let long = count_printed net in omega (arith, long, low))
