-- The names of an accepted network, and its workstations as a record defines them.
use Rattle.std.proofs.Common.{◌≡◌, ◌<◌, ◌+◌, ℕ, zero, suc, Bool, true, false, ◌&&◌, ◌||◌, not, cond, eqb, List, [], ◌∷◌, ◌++◌}
use Rattle.std.proofs.Common.{Option, Some, None, length, slice_get, refl, ap, sym, subst, ◌∙◌, arith, length-append, map}
use Rattle.std.proofs.Common.{option_and_then, option_map, unwrap_or, bytes_eq}
use Rattle.std.specs.Prelude.{nat_lt}
use Rattle.std.specs.List.{AllByRecursion, list_any, position_or_len, prefix_len}
use Rattle.std.specs.Option.{option_map_or}
use Rattle.std.proofs.lemmas.Bool.Decides.{nat_tests}
use Rattle.std.proofs.lemmas.List.{length-map}
use Rattle.std.proofs.lemmas.Slice.Eq.{bytes_eq-Decides}
use Rattle.lemmas.proofs.Booleans.{neither, or_true}
use Rattle.lemmas.proofs.Texts.{text_itself}
use Rattle.lemmas.proofs.Lists.{all_get, got_below}
use Rattle.model.specs.Network.{hop, is_manager, node_count}
use Rattle.model.specs.Types.{Net, Node, Resource}
use Rattle.network_tree.specs.Faults.{are_one_resource, have_one_name}
use Rattle.network_tree.proofs.Climbs.{up}
use Rattle.network_tree.proofs.Trees.{hop_inside, manager_within}
use Rattle.network_tree.proofs.Trees as ways
use Rattle.report_text.specs.Names.{name_of}
use Rattle.record_faults.specs.Known.{Key, Station, ends_at_master, is_station, key_eq, reaches, station_at}
use Rattle.record_faults.specs.Known as known
use Rattle.record_script.specs.Numbers.{place_of}
use Rattle.network_tree.proofs.Chains.{short}
use Rattle.record_script.proofs.Trees.{bytes_sym}
use Rattle.history_laws.specs.Printables.{IsKeptName, IsNamedNode}
use Rattle.history_laws.proofs.Accepted.{Accepted, IsGood}

-- both sides of a place
pub cut : {A : Type 0} (xs : List A) (w : ℕ) (a : A) → slice_get xs w ≡ Some a
    → (before : List A) × (behind : List A) × (xs ≡ before ++ a ∷ behind) × (length before ≡ w)
cut [] w a e = absurd (cc)
cut (x ∷ xs) zero a e = let same : x ≡ a = cc in ([], xs, ap (λ y. y ∷ xs) same, refl)
cut (x ∷ xs) (suc w) a e = let c = cut xs w a e in (x ∷ c.0, c.1, ap (λ l. x ∷ l) c.2, ap suc c.3)

-- A workstation as a record defines it, and its name.
abbrev pub title : Net → Node → Station
title net n = record { name = n.name; hop = option_map (name_of net) n.hop; manager = n.manager }

abbrev pub label : Node → List ℕ
label n = n.name

pub name_there : (net : Net) (w : ℕ) (n : Node) → slice_get net.nodes w ≡ Some n → name_of net w ≡ n.name
unfolding name_of
name_there net w n e = ap (λ o. option_map_or (λ (x : Node). x.name) o []) e

-- One whose name does not stand before is found by its name.

find_there : (net : Net) (n : Node) (before behind : List Node) → list_any (have_one_name n) before ≡ false
    → station_at (map (title net) (before ++ n ∷ behind)) n.name ≡ Some (title net n)
find_there net n [] behind free =
    ap (λ t. cond t (Some (title net n)) (station_at (map (title net) behind) n.name)) (text_itself n.name)
find_there net n (b ∷ before) behind free =
    let parts = neither (bytes_eq n.name b.name) (list_any (have_one_name n) before) free in
    ap (λ t. cond t (Some (title net b)) (station_at (map (title net) (before ++ n ∷ behind)) n.name))
    (bytes_sym n.name b.name false parts.0)
    ∙ find_there net n before behind parts.1

any_there : (net : Net) (n : Node) (before behind : List Node) → is_station (map (title net) (before ++ n ∷ behind)) n.name ≡ true
any_there net n [] behind = ap (λ t. t || is_station (map (title net) behind) n.name) (text_itself n.name)
any_there net n (b ∷ before) behind =
    ap (λ t. bytes_eq b.name n.name || t) (any_there net n before behind) ∙ or_true (bytes_eq b.name n.name)

place_there : (n : Node) (before behind : List Node) → list_any (have_one_name n) before ≡ false
    → position_or_len (bytes_eq n.name) (map label (before ++ n ∷ behind)) ≡ length before
place_there n [] behind free =
    ap (λ t. cond (not t) (1 + prefix_len (λ x. not (bytes_eq n.name x)) (map label behind)) 0) (text_itself n.name)
place_there n (b ∷ before) behind free =
    let parts = neither (bytes_eq n.name b.name) (list_any (have_one_name n) before) free in
    ap (λ t. cond (not t) (1 + prefix_len (λ x. not (bytes_eq n.name x)) (map label (before ++ n ∷ behind))) 0) parts.0
    ∙ ap (λ k. 1 + k) (place_there n before behind parts.1) ∙ omega arith

number_by : (p long at_ : ℕ) → p ≡ at_ → at_ < long → unwrap_or (cond (nat_lt p long) (Some p) None) 0 ≡ at_
number_by p long at_ is low =
    let there : nat_lt p long ≡ true = grind (arith, nat_tests) in
    ap (λ b. unwrap_or (cond b (Some p) None) 0) there ∙ is

number_there : (n : Node) (before behind : List Node) → list_any (have_one_name n) before ≡ false
    → place_of (map label (before ++ n ∷ behind)) n.name ≡ length before
number_there n before behind free =
    let long = length-map (before ++ n ∷ behind) label in
    let all = length-append before (n ∷ behind) in
    number_by (position_or_len (bytes_eq n.name) (map label (before ++ n ∷ behind))) (length (map label (before ++ n ∷ behind)))
    (length before) (place_there n before behind free) (omega (arith, long, all))

-- a resource as a record names it
abbrev pub key_of : Net → Resource → Key
key_of net r = (name_of net r.ws, r.name)

module _ (net : Net) (a : Accepted net) where
  pub found : (w : ℕ) (n : Node) → slice_get net.nodes w ≡ Some n
      → station_at (map (title net) net.nodes) (name_of net w) ≡ Some (title net n)
  found w n e =
      let c = cut net.nodes w n e in
      ap (station_at (map (title net) net.nodes)) (name_there net w n e)
      ∙ ap (λ l. station_at (map (title net) l) n.name) c.2
      ∙ find_there net n c.0 c.1 (a.names.once c.0 c.1 n c.2)

  pub known_name : (w : ℕ) → w < node_count net → is_station (map (title net) net.nodes) (name_of net w) ≡ true
  known_name w low =
      let g = got_below net.nodes w low in
      let c = cut net.nodes w g.0 g.1 in
      ap (is_station (map (title net) net.nodes)) (name_there net w g.0 g.1)
      ∙ ap (λ l. is_station (map (title net) l) g.0.name) c.2 ∙ any_there net g.0 c.0 c.1

  pub number : (w : ℕ) → w < node_count net → place_of (map label net.nodes) (name_of net w) ≡ w
  number w low =
      let g = got_below net.nodes w low in
      let c = cut net.nodes w g.0 g.1 in
      ap (place_of (map label net.nodes)) (name_there net w g.0 g.1)
      ∙ ap (λ l. place_of (map label l) g.0.name) c.2
      ∙ number_there g.0 c.0 c.1 (a.names.once c.0 c.1 g.0 c.2) ∙ c.3

  -- no two of one name
  one_number : (v w : ℕ) → v < node_count net → w < node_count net → name_of net v ≡ name_of net w → v ≡ w
  one_number v w low high same = sym (number v low) ∙ ap (place_of (map label net.nodes)) same ∙ number w high

  pub manages : (w : ℕ) → is_manager net w ≡ true → known.is_manager (map (title net) net.nodes) (name_of net w) ≡ true
  manages w e =
      let g = got_below net.nodes w (manager_within net w e) in
      ap (λ o. option_map_or (λ (s : Station). s.manager) o false) (found w g.0 g.1)
      ∙ sym (ap (λ o. option_map_or (λ (n : Node). n.manager) o false) g.1) ∙ e

  -- Chains of hops.

  hop_is : (w : ℕ) (n : Node) → slice_get net.nodes w ≡ Some n → hop net w ≡ n.hop
  hop_is w n e = ap (option_and_then (λ (x : Node). x.hop)) e

  reaches_by : (k w : ℕ) (n : Node) (o : Option ℕ) → slice_get net.nodes w ≡ Some n → hop net w ≡ o
      → reaches (map (title net) net.nodes) (suc k) (name_of net w)
      ≡ option_map_or (reaches (map (title net) net.nodes) k) (option_map (name_of net) o) true
  reaches_by k w n o e is =
      ap (λ q. option_map_or (λ (s : Station). option_map_or (reaches (map (title net) net.nodes) k) s.hop true) q false) (found w n e)
      ∙ ap (λ q. option_map_or (reaches (map (title net) net.nodes) k) (option_map (name_of net) q) true) (sym (hop_is w n e) ∙ is)

  reach : (j k w : ℕ) → up net j w ≡ Some 0 → j < k → w < node_count net
      → reaches (map (title net) net.nodes) k (name_of net w) ≡ true
  reach j zero w e less low = absurd (omega (arith, less))
  reach zero (suc k) w e less low =
      let top : w ≡ 0 = cc in
      let g = got_below net.nodes w low in
      reaches_by k w g.0 None g.1 (ap (hop net) top ∙ a.tree.top)
  reach (suc j) (suc k) w e less low = go (hop net w) refl (λ h. reach j k h)
    where
      go : (o : Option ℕ) → hop net w ≡ o
          → ((h : ℕ) → up net j h ≡ Some 0 → j < k → h < node_count net
          → reaches (map (title net) net.nodes) k (name_of net h) ≡ true)
          → reaches (map (title net) net.nodes) (suc k) (name_of net w) ≡ true
      go None is each =
          let stuck : up net (suc j) w ≡ None = ap (option_and_then (up net j)) is in absurd (cc)
      go (Some h) is each =
          let on : up net j h ≡ Some 0 = sym (ap (option_and_then (up net j)) is) ∙ e in
          let g = got_below net.nodes w low in
          reaches_by k w g.0 (Some h) g.1 is ∙ each h on (omega (arith, less)) (hop_inside net a.tree w h is)

  pub ends : (w : ℕ) → w < node_count net → ends_at_master (map (title net) net.nodes) (name_of net w) ≡ true
  ends w low =
      let r = ways.reaches net a.tree w low in
      let less = short net a.tree.top (hop_inside net a.tree) r.0 w low r.1 in
      reach r.0 (length (map (title net) net.nodes)) w r.1
      (let long = length-map net.nodes (title net) in omega (arith, less, long)) low

  -- Resources are different by workstation and name.

  pair_other : (v w : ℕ) (m n : List ℕ) → v < node_count net → w < node_count net
      → (eqb v w && bytes_eq m n) ≡ false → (bytes_eq (name_of net v) (name_of net w) && bytes_eq m n) ≡ false
  pair_other v w m n low high other = go (bytes_eq (name_of net v) (name_of net w)) refl
    where
      go : (b : Bool) → bytes_eq (name_of net v) (name_of net w) ≡ b
          → (bytes_eq (name_of net v) (name_of net w) && bytes_eq m n) ≡ false
      go true is =
          let same : v ≡ w = one_number v w low high ((bytes_eq-Decides (name_of net v) (name_of net w)).0 is) in
          let equal : eqb v w ≡ true = grind (arith, nat_tests) in
          ap (λ b. b && bytes_eq m n) is ∙ sym (ap (λ b. b && bytes_eq m n) equal) ∙ other
      go false is = ap (λ b. b && bytes_eq m n) is

  pub keys_other : (r : Resource) (before : List Resource) → r.ws < node_count net → AllByRecursion (IsGood net) before
      → list_any (are_one_resource r) before ≡ false → list_any (key_eq (key_of net r)) (map (key_of net) before) ≡ false
  keys_other r [] low all free = refl
  keys_other r (q ∷ before) low all free =
      let parts = neither (are_one_resource r q) (list_any (are_one_resource r) before) free in
      ap (λ b. b || list_any (key_eq (key_of net r)) (map (key_of net) before))
      (pair_other r.ws q.ws r.name q.name low all.0.ws parts.0)
      ∙ keys_other r before low all.1 parts.1

-- A name of the network is one of the language.
pub kept_at : (net : Net) → AllByRecursion IsNamedNode net.nodes → (w : ℕ) → w < node_count net → IsKeptName (name_of net w)
kept_at net all w low =
    let g = got_below net.nodes w low in
    subst IsKeptName (sym (name_there net w g.0 g.1)) (all_get IsNamedNode net.nodes w g.0 all g.1)
