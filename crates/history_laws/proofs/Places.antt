-- Workstations are found by their names.
use Rattle.std.proofs.Common.{◌≡◌, ◌<◌, ◌+◌, ℕ, zero, suc, Bool, true, false, cond, not, ltb, List, [], ◌∷◌, length}
use Rattle.std.proofs.Common.{take, map, Option, Some, None, slice_get, refl, ap, sym, subst, ◌∙◌, arith, bytes_eq}
use Rattle.std.specs.List.{AllByRecursion, list_any, position, position_or_len, prefix_len}
use Rattle.std.specs.Option.{option_map_or}
use Rattle.std.proofs.lemmas.Bool.{lt-ltb, or_parts}
use Rattle.std.proofs.lemmas.List.{length-map}
use Rattle.std.proofs.lemmas.Option.{slice_get_within}
use Rattle.std.proofs.lemmas.Slice.Eq.{bytes_eq-Decides}
use Rattle.lemmas.proofs.Texts.{bytes_turned}
use Rattle.lemmas.proofs.Lists.{all_get, got_below}
use Rattle.history_laws.proofs.Named.{name_there}
use Rattle.network_tree.proofs.Trees.{none_repeats}
use Rattle.model.specs.Network.{node_count}
use Rattle.model.specs.Types.{Net, Node}
use Rattle.network_tree.specs.Faults.{have_one_name, net_fault}
use Rattle.report_text.specs.Names.{name_of}
use Rattle.history_script.specs.Histories.{ws_of}
use Rattle.history_laws.specs.Printables.{IsKeptName, IsNamedNode, as_printed, node_as_printed}

-- The first that passes.

place_here : {A : Type 0} (p : A → Bool) (xs : List A) (w : ℕ) (x : A) → slice_get xs w ≡ Some x
    → list_any p (take w xs) ≡ false → p x ≡ true → position_or_len p xs ≡ w
place_here p [] w x here none passes = absurd (cc)
place_here p (y ∷ xs) zero x here none passes =
    let same : y ≡ x = cc in
    ap (λ t. cond (not t) (1 + prefix_len (λ z. not (p z)) xs) 0) (ap p same ∙ passes)
place_here p (y ∷ xs) (suc w) x here none passes =
    let parts = or_parts (p y) (list_any p (take w xs)) none in
    let one_more : 1 + w ≡ suc w = omega arith in
    ap (λ t. cond (not t) (1 + prefix_len (λ z. not (p z)) xs) 0) parts.0
    ∙ ap (λ k. 1 + k) (place_here p xs w x here parts.1 passes) ∙ one_more

position_is : {A : Type 0} (p : A → Bool) (xs : List A) (w : ℕ) (x : A) → slice_get xs w ≡ Some x
    → list_any p (take w xs) ≡ false → p x ≡ true → position p xs ≡ Some w
position_is p xs w x here none passes =
    ap (λ k. cond (ltb k (length xs)) (Some k) None) (place_here p xs w x here none passes)
    ∙ ap (λ b. cond b (Some w) None) (lt-ltb w (length xs) (slice_get_within xs w x here))

prefix_mapped : {A B : Type 0} (p : B → Bool) (f : A → B) (xs : List A)
    → prefix_len p (map f xs) ≡ prefix_len (λ x. p (f x)) xs
prefix_mapped p f [] = refl
prefix_mapped p f (x ∷ xs) = ap (λ k. cond (p (f x)) (1 + k) 0) (prefix_mapped p f xs)

position_mapped : {A B : Type 0} (p : B → Bool) (f : A → B) (xs : List A)
    → position p (map f xs) ≡ position (λ x. p (f x)) xs
position_mapped p f xs =
    ap (λ k. cond (ltb k (length (map f xs))) (Some k) None) (prefix_mapped (λ x. not (p x)) f xs)
    ∙ ap (λ n. cond (ltb (position_or_len (λ x. p (f x)) xs) n) (Some (position_or_len (λ x. p (f x)) xs)) None)
    (length-map xs f)

-- No name stands twice.

-- Workstations by their names.

pub ws_named : (net : Net) → net_fault net ≡ None → (w : ℕ) (n : Node) → slice_get net.nodes w ≡ Some n
    → ws_of net n.name ≡ Some w
ws_named net none w n here =
    let free : list_any (have_one_name n) (take w net.nodes) ≡ false =
    sym (ap (λ (o : Option Node). option_map_or (λ x. list_any (have_one_name x) (take w net.nodes)) o false) here)
    ∙ none_repeats net none w (slice_get_within net.nodes w n here) in
    let turned : list_any (λ (m : Node). bytes_eq m.name n.name) (take w net.nodes) ≡ list_any (have_one_name n) (take w net.nodes) =
    λ i. list_any (λ (m : Node). bytes_turned m.name n.name i) (take w net.nodes) in
    position_is (λ (m : Node). bytes_eq m.name n.name) net.nodes w n here (turned ∙ free)
    ((bytes_eq-Decides n.name n.name).1 refl)

pub ws_printed : (net : Net) (name : List ℕ) → ws_of (as_printed net) name ≡ ws_of net name
ws_printed net name = position_mapped (λ (n : Node). bytes_eq n.name name) node_as_printed net.nodes

-- the workstation of a number, by its name
pub record IsFound (net : Net) (w : ℕ) : Type 0 where
  pub kept : IsKeptName (name_of net w)
  pub is : ws_of (as_printed net) (name_of net w) ≡ Some w

pub found : (net : Net) → net_fault net ≡ None → AllByRecursion IsNamedNode net.nodes → (w : ℕ) → w < node_count net
    → IsFound net w
found net none all w low = go (got_below net.nodes w low)
  where
    go : (n : Node) × (slice_get net.nodes w ≡ Some n) → IsFound net w
    go (n, here) =
        let name = name_there net w n here in
        record {
          kept = subst IsKeptName (sym name) (all_get IsNamedNode net.nodes w n all here);
          is = ap (ws_of (as_printed net)) name ∙ ws_printed net n.name ∙ ws_named net none w n here;
        }
