-- The network of a record without faults is accepted: a tree, whose names stand once each, within its ranges.
use Rattle.std.proofs.Common.{◌≡◌, ◌<◌, ◌+◌, ℕ, zero, suc, Bool, true, false, ◌&&◌, not, List, [], ◌∷◌, ◌++◌, Option, Some, None}
use Rattle.std.proofs.Common.{length, refl, ap, sym, subst, ◌∙◌, arith, bytes_eq, option_map, option_and_then, slice_get, unwrap_or, cond}
use Rattle.std.specs.Prelude.{filter_map, find, map, nat_lt}
use Rattle.std.specs.List.{cons_option, position_or_len}
use Rattle.std.specs.Option.{option_map_or}
use Rattle.std.proofs.lemmas.List.Elements.{filter_map-append}
use Rattle.std.proofs.lemmas.Slice.Eq.{bytes_eq-Decides}
use Rattle.std.proofs.lemmas.Bool.Decides.{nat_tests}
use Rattle.std.proofs.lemmas.Option.{slice_get_within}
use Rattle.model.specs.Types.{Net, Node}
use Rattle.model.specs.Network.{IsTree, hop, is_manager, node_count}
use Rattle.network_tree.proofs.Climbs.{up}
use Rattle.record_rows.specs.declared.rows.Row.{Row}
use Rattle.record_rows.specs.declared.rows.StationRow.{StationRow}
use Rattle.record_rows.specs.declared.rows.Row.TheVariants as row
use Rattle.record_faults.specs.declared.places.Place.TheVariants as place
use Rattle.record_faults.specs.Places.{placed_from}
use Rattle.record_faults.specs.Known.{Station, station_of, station_at, station_name, reaches, ends_at_master, named_in, stations}
use Rattle.record_faults.specs.Known as known
use Rattle.record_faults.specs.Faults.{first_fault, is_bad_tree}
use Rattle.record_script.specs.Numbers.{Numbered, numbered, ws_no, place_of}
use Rattle.record_script.specs.Networks.{node_of, net_with, net_of}
use Rattle.record_script.proofs.Picked.{around, same_length}
use Rattle.network_tree.proofs.Chains.{short, ends_there}
use Rattle.record_script.proofs.Shapes.{above_master, first_is_master}
use Rattle.record_script.proofs.Walked.{Passes, each_passes}

-- Lists.

pub got_there : {A : Type 0} (xs ys : List A) (b : A) → slice_get (xs ++ b ∷ ys) (length xs) ≡ Some b
got_there [] ys b = refl
got_there (x ∷ xs) ys b = got_there xs ys b

pub split_at : {A : Type 0} (xs : List A) (w : ℕ) → w < length xs
    → (before : List A) × (a : A) × (behind : List A) × (xs ≡ before ++ a ∷ behind) × (length before ≡ w)
split_at [] w h = absurd (omega (arith, h))
split_at (x ∷ xs) zero h = ([], x, xs, refl, refl)
split_at (x ∷ xs) (suc w) h =
    let s = split_at xs w (omega (arith, h)) in
    (x ∷ s.0, s.1, s.2, ap (λ l. x ∷ l) s.3, ap suc s.4)

-- what another picks of the same row stands at the same place
pub picked_there : {X A B : Type 0} (f : X → Option A) (g : X → Option B)
    → ((r : X) → length (cons_option (f r) []) ≡ length (cons_option (g r) []))
    → (rows above below : List X) (here : X) (w : ℕ) (b : B) → rows ≡ above ++ here ∷ below
    → length (filter_map f above) ≡ w → g here ≡ Some b → slice_get (filter_map g rows) w ≡ Some b
picked_there f g each rows above below here w b whole at_ is =
    let long : length (filter_map g above) ≡ w = sym (same_length f g each above) ∙ at_ in
    let all : filter_map g rows ≡ filter_map g above ++ b ∷ filter_map g below =
    ap (filter_map g) whole ∙ filter_map-append g above (here ∷ below)
    ∙ ap (λ o. filter_map g above ++ cons_option o (filter_map g below)) is in
    ap (λ l. slice_get l w) all
    ∙ ap (λ k. slice_get (filter_map g above ++ b ∷ filter_map g below) k) (sym long)
    ∙ got_there (filter_map g above) (filter_map g below) b

-- equal texts, whichever stands first
pub bytes_sym : (a b : List ℕ) (x : Bool) → bytes_eq a b ≡ x → bytes_eq b a ≡ x
bytes_sym a b true e =
    let same : a ≡ b = (bytes_eq-Decides a b).0 e in
    subst (λ c. bytes_eq b c ≡ true) (sym same) ((bytes_eq-Decides b b).1 refl)
bytes_sym a b false e = go (bytes_eq b a) refl
  where
    go : (y : Bool) → bytes_eq b a ≡ y → bytes_eq b a ≡ false
    go false h = h
    go true h =
        let same : b ≡ a = (bytes_eq-Decides b a).0 h in
        let back : bytes_eq a b ≡ true = (bytes_eq-Decides a b).1 (sym same) in
        absurd (cc)

abbrev pub station_title : Station → List ℕ
station_title s = s.name

-- who is found by the name stands at the place of the name
found_at : (all : List Station) (name : List ℕ) (st : Station)
    → find (λ (s : Station). bytes_eq s.name name) all ≡ Some st
    → (position_or_len (bytes_eq name) (map station_title all) < length all)
    × (slice_get all (position_or_len (bytes_eq name) (map station_title all)) ≡ Some st)
found_at [] name st e = absurd (cc)
found_at (s ∷ all) name st e = go (bytes_eq s.name name) refl (found_at all name st)
  where
    go : (b : Bool) → bytes_eq s.name name ≡ b
        → (find (λ (t : Station). bytes_eq t.name name) all ≡ Some st
        → (position_or_len (bytes_eq name) (map station_title all) < length all)
        × (slice_get all (position_or_len (bytes_eq name) (map station_title all)) ≡ Some st))
        → (position_or_len (bytes_eq name) (station_title s ∷ map station_title all) < length (s ∷ all))
        × (slice_get (s ∷ all) (position_or_len (bytes_eq name) (station_title s ∷ map station_title all)) ≡ Some st)
    go true is each =
        let same : Some s ≡ Some st = sym (ap (λ b. cond b (Some s) (find (λ (t : Station). bytes_eq t.name name) all)) is) ∙ e in
        let at_ : position_or_len (bytes_eq name) (station_title s ∷ map station_title all) ≡ 0 =
        ap (λ b. cond (not b) (1 + position_or_len (bytes_eq name) (map station_title all)) 0) (bytes_sym s.name name true is) in
        (omega (arith, at_), ap (slice_get (s ∷ all)) at_ ∙ same)
    go false is each =
        let less : find (λ (t : Station). bytes_eq t.name name) all ≡ Some st =
        sym (ap (λ b. cond b (Some s) (find (λ (t : Station). bytes_eq t.name name) all)) is) ∙ e in
        let more = each less in
        let at_ : position_or_len (bytes_eq name) (station_title s ∷ map station_title all) ≡ suc (position_or_len (bytes_eq name) (map station_title all)) =
        ap (λ b. cond (not b) (1 + position_or_len (bytes_eq name) (map station_title all)) 0) (bytes_sym s.name name false is)
        ∙ omega arith in
        (omega (arith, at_, more.0), ap (slice_get (s ∷ all)) at_ ∙ more.1)

placed_name : (names : List (List ℕ)) (name : List ℕ) → position_or_len (bytes_eq name) names < length names
    → place_of names name ≡ position_or_len (bytes_eq name) names
placed_name names name low =
    let there : nat_lt (position_or_len (bytes_eq name) names) (length names) ≡ true = grind (arith, nat_tests) in
    ap (λ b. unwrap_or (cond b (Some (position_or_len (bytes_eq name) names)) None) 0) there

title_each : (r : Row) → station_name r ≡ option_map station_title (station_of r)
title_each (row.Master n) = refl
title_each (row.Station s) = refl
title_each r = refl

map_picked : (rows : List Row) → filter_map station_name rows ≡ map station_title (filter_map station_of rows)
map_picked [] = refl
map_picked (r ∷ rows) =
    ap (λ o. cons_option o (filter_map station_name rows)) (title_each r) ∙ go (station_of r) (map_picked rows)
  where
    go : (o : Option Station) → filter_map station_name rows ≡ map station_title (filter_map station_of rows)
        → cons_option (option_map station_title o) (filter_map station_name rows)
        ≡ map station_title (cons_option o (filter_map station_of rows))
    go None h = h
    go (Some s) h = ap (λ l. s.name ∷ l) h

length-map_title : (all : List Station) → length (map station_title all) ≡ length all
length-map_title [] = refl
length-map_title (s ∷ all) = ap suc (length-map_title all)

-- the number of a name whose workstation is found
pub found_no : (rows : List Row) (name : List ℕ) (st : Station) → station_at (stations rows) name ≡ Some st
    → (ws_no (numbered rows) name < length (stations rows))
    × (slice_get (stations rows) (ws_no (numbered rows) name) ≡ Some st)
found_no rows name st e =
    let at_ = found_at (stations rows) name st e in
    let names = map_picked rows in
    let low : position_or_len (bytes_eq name) (map station_title (stations rows)) < length (map station_title (stations rows)) =
    subst (λ n. position_or_len (bytes_eq name) (map station_title (stations rows)) < n)
    (sym (length-map_title (stations rows))) at_.0 in
    let no : ws_no (numbered rows) name ≡ position_or_len (bytes_eq name) (map station_title (stations rows)) =
    ap (λ l. place_of l name) names ∙ placed_name (map station_title (stations rows)) name low in
    (subst (λ n. n < length (stations rows)) (sym no) at_.0, ap (slice_get (stations rows)) no ∙ at_.1)

-- A record without faults.
pub record Faultless (raw : List Row) : Type 0 where
  pub none : first_fault (named_in (placed_from place.Nothing raw)) (placed_from place.Nothing raw) ≡ None

abbrev pub rows_of_raw : List Row → List Row
rows_of_raw raw = placed_from place.Nothing raw

-- what stands at a number: the workstation by its row, and the node
record Both (rows : List Row) (w : ℕ) : Type 0 where
  station : Station
  node : Node
  in_stations : slice_get (stations rows) w ≡ Some station
  in_nodes : slice_get (net_of rows).nodes w ≡ Some node
  hops : node.hop ≡ option_map (ws_no (numbered rows)) station.hop
  manages : node.manager ≡ station.manager
  root : station.hop ≡ None → (w ≡ 0) × (station.manager ≡ true)
  tree : (h : List ℕ) → station.hop ≡ Some h
      → (0 < w) × (known.is_manager (stations rows) h ≡ true) × (ends_at_master (stations rows) h ≡ true)

station_each : (r : Row) → length (cons_option (station_name r) []) ≡ length (cons_option (station_of r) [])
station_each (row.Master n) = refl
station_each (row.Station s) = refl
station_each r = refl

pub node_each : (n : Numbered) (r : Row) → length (cons_option (station_name r) []) ≡ length (cons_option (node_of n r) [])
node_each n (row.Master m) = refl
node_each n (row.Station s) = refl
node_each n r = refl

both_true : (a b : Bool) → not (a && b) ≡ false → (a ≡ true) × (b ≡ true)
both_true true true e = (refl, refl)
both_true true false e = absurd (cc)
both_true false b e = absurd (cc)

nodes_are : (rows : List Row) → (net_of rows).nodes ≡ filter_map (node_of (numbered rows)) rows
unfolding net_with
nodes_are rows = refl

-- no other workstation than the master is the first
below_master : (raw above below : List Row) (s : StationRow) (w : ℕ) → rows_of_raw raw ≡ above ++ row.Station s ∷ below
    → length (filter_map station_name above) ≡ w → 0 < w
below_master raw above below s w whole at_ = go (filter_map station_name above) refl
  where
    go : (l : List (List ℕ)) → filter_map station_name above ≡ l → 0 < w
    go [] e =
        let other : row.Station s ≡ row.Master s.name = first_is_master raw above below (row.Station s) s.name whole e refl in
        absurd (cc)
    go (x ∷ l) e = let long : length (filter_map station_name above) ≡ suc (length l) = ap length e in omega (arith, long, at_)

both_by : (raw above below : List Row) (here : Row) (a : List ℕ) (w : ℕ) → rows_of_raw raw ≡ above ++ here ∷ below
    → length (filter_map station_name above) ≡ w → station_name here ≡ Some a
    → Passes (named_in (rows_of_raw raw)) (record { above = above; here = here; below = below })
    → Both (rows_of_raw raw) w
unfolding is_bad_tree
both_by raw above below (row.Master m) a w whole at_ is p =
    let rows = rows_of_raw raw in
    let top : w ≡ 0 = sym at_ ∙ ap length (above_master raw above below m whole) in
    record {
      station = record { name = m; hop = None; manager = true };
      node = record { name = m; hop = None; manager = true; full = false };
      in_stations = picked_there station_name station_of station_each rows above below (row.Master m) w _ whole at_ refl;
      in_nodes = ap (λ l. slice_get l w) (nodes_are rows)
          ∙ picked_there station_name (node_of (numbered rows)) (node_each (numbered rows)) rows above below (row.Master m) w _ whole at_ refl;
      hops = refl;
      manages = refl;
      root = λ e. (top, refl);
      tree = λ h e. absurd (cc);
    }
both_by raw above below (row.Station s) a w whole at_ is p =
    let rows = rows_of_raw raw in
    let good = both_true (known.is_manager (stations rows) s.hop) (ends_at_master (stations rows) s.hop) p.tree in
    record {
      station = record { name = s.name; hop = Some s.hop; manager = s.manager };
      node = record { name = s.name; hop = Some (ws_no (numbered rows) s.hop); manager = s.manager; full = s.full };
      in_stations = picked_there station_name station_of station_each rows above below (row.Station s) w _ whole at_ refl;
      in_nodes = ap (λ l. slice_get l w) (nodes_are rows)
          ∙ picked_there station_name (node_of (numbered rows)) (node_each (numbered rows)) rows above below (row.Station s) w _ whole at_ refl;
      hops = refl;
      manages = refl;
      root = λ e. absurd (cc);
      tree = λ h e.
          let same : s.hop ≡ h = cc in (
            below_master raw above below s w whole at_,
            subst (λ x. known.is_manager (stations rows) x ≡ true) same good.0,
            subst (λ x. ends_at_master (stations rows) x ≡ true) same good.1,
          );
    }
both_by raw above below r a w whole at_ is p = absurd (cc)

both : (raw : List Row) → Faultless raw → (w : ℕ) → w < length (filter_map station_name (rows_of_raw raw)) → Both (rows_of_raw raw) w
both raw f w low =
    let rows = rows_of_raw raw in
    let s = split_at (filter_map station_name rows) w low in
    let a = around station_name rows s.0 s.2 s.1 s.3 in
    both_by raw a.above a.below a.here s.1 w a.whole (ap length a.front ∙ s.4) a.picked
    (each_passes (named_in rows) rows a.above a.below a.here f.none a.whole)

same_some : {A : Type 0} (o : Option A) (a b : A) → o ≡ Some a → o ≡ Some b → a ≡ b
same_some o a b e h = cc

module _ (raw : List Row) (f : Faultless raw) where
  abbrev rows : List Row
  rows = rows_of_raw raw

  abbrev net : Net
  net = net_of rows

  abbrev no : List ℕ → ℕ
  no name = ws_no (numbered rows) name

  pub count_is : node_count net ≡ length (filter_map station_name rows)
  count_is =
      ap length (nodes_are rows)
      ∙ sym (same_length station_name (node_of (numbered rows)) (node_each (numbered rows)) rows)

  pub stations_are : length (stations rows) ≡ node_count net
  stations_are = sym (same_length station_name station_of station_each rows) ∙ sym count_is

  at_no : (w : ℕ) → w < node_count net → Both rows w
  at_no w low = both raw f w (subst (λ n. w < n) count_is low)

  hop_at : (w : ℕ) (b : Both rows w) → hop net w ≡ option_map no b.station.hop
  hop_at w b = ap (option_and_then (λ (n : Node). n.hop)) b.in_nodes ∙ b.hops

  -- a name that is found, by its number
  named_both : (name : List ℕ) (st : Station) → station_at (stations rows) name ≡ Some st
      → (no name < node_count net) × ((b : Both rows (no name)) → b.station ≡ st)
  named_both name st e =
      let at_ = found_no rows name st e in (
        subst (λ n. no name < n) stations_are at_.0,
        λ b. same_some (slice_get (stations rows) (no name)) b.station st b.in_stations at_.1,
      )

  manager_in : (name : List ℕ) → known.is_manager (stations rows) name ≡ true
      → (no name < node_count net) × (is_manager net (no name) ≡ true)
  manager_in name e = go (station_at (stations rows) name) refl
    where
      go : (o : Option Station) → station_at (stations rows) name ≡ o
          → (no name < node_count net) × (is_manager net (no name) ≡ true)
      go None is = absurd (let none : known.is_manager (stations rows) name ≡ false = ap (λ q. option_map_or (λ (s : Station). s.manager) q false) is in cc)
      go (Some st) is =
          let manages : st.manager ≡ true = sym (ap (λ q. option_map_or (λ (s : Station). s.manager) q false) is) ∙ e in
          let there = named_both name st is in
          let b = at_no (no name) there.0 in (
            there.0,
            ap (λ q. option_map_or (λ (n : Node). n.manager) q false) b.in_nodes ∙ b.manages
                ∙ ap (λ (s : Station). s.manager) (there.1 b) ∙ manages,
          )

  up_by : (n : ℕ) (name : List ℕ) → reaches (stations rows) n name ≡ true → (j : ℕ) × (up net j (no name) ≡ Some 0)
  up_by zero name e = absurd (cc)
  up_by (suc n) name e = go (station_at (stations rows) name) refl (up_by n)
    where
      on : (h : Option (List ℕ)) → option_map_or (reaches (stations rows) n) h true ≡ true
          → ((v : List ℕ) → reaches (stations rows) n v ≡ true → (j : ℕ) × (up net j (no v) ≡ Some 0))
          → (b : Both rows (no name)) → b.station.hop ≡ h → (j : ℕ) × (up net j (no name) ≡ Some 0)
      on None r each b is = (0, ap Some (b.root is).0)
      on (Some h) r each b is =
          let further = each h r in
          (suc further.0, ap (option_and_then (up net further.0)) (hop_at (no name) b ∙ ap (option_map no) is) ∙ further.1)

      go : (o : Option Station) → station_at (stations rows) name ≡ o
          → ((v : List ℕ) → reaches (stations rows) n v ≡ true → (j : ℕ) × (up net j (no v) ≡ Some 0))
          → (j : ℕ) × (up net j (no name) ≡ Some 0)
      go None is each = absurd (let none : reaches (stations rows) (suc n) name ≡ false = ap (λ q. option_map_or (λ (s : Station). option_map_or (reaches (stations rows) n) s.hop true) q false) is in cc)
      go (Some st) is each =
          let there = named_both name st is in
          let b = at_no (no name) there.0 in
          on st.hop (sym (ap (λ q. option_map_or (λ (s : Station). option_map_or (reaches (stations rows) n) s.hop true) q false) is) ∙ e)
          each b (ap (λ (s : Station). s.hop) (there.1 b))

  to_master : (w : ℕ) → w < node_count net → (j : ℕ) × (up net j w ≡ Some 0)
  to_master w low = go (at_no w low).station.hop refl
    where
      go : (h : Option (List ℕ)) → (at_no w low).station.hop ≡ h → (j : ℕ) × (up net j w ≡ Some 0)
      go None is = (0, ap Some ((at_no w low).root is).0)
      go (Some h) is =
          let further = up_by (length (stations rows)) h ((at_no w low).tree h is).2 in
          (suc further.0, ap (option_and_then (up net further.0)) (hop_at w (at_no w low) ∙ ap (option_map no) is) ∙ further.1)

  hop_inside : (a b : ℕ) → hop net a ≡ Some b → b < node_count net
  hop_inside a b e = go (slice_get net.nodes a) refl
    where
      go : (o : Option Node) → slice_get net.nodes a ≡ o → b < node_count net
      go None is = absurd (let none : hop net a ≡ None = ap (option_and_then (λ (n : Node). n.hop)) is in cc)
      go (Some nd) is =
          let low = slice_get_within net.nodes a nd is in
          let both_ = at_no a low in
          on both_ both_.station.hop refl (sym (hop_at a both_) ∙ e)
        where
          on : (c : Both rows a) (h : Option (List ℕ)) → c.station.hop ≡ h → option_map no c.station.hop ≡ Some b → b < node_count net
          on c None same found = absurd (let none : option_map no c.station.hop ≡ None = ap (option_map no) same in cc)
          on c (Some h) same found =
              let some : Some (no h) ≡ Some b = sym (ap (option_map no) same) ∙ found in
              let is_b : no h ≡ b = cc in
              subst (λ n. n < node_count net) is_b (manager_in h (c.tree h same).1).0

  root_hop : 0 < node_count net → (hop net 0 ≡ None) × (is_manager net 0 ≡ true)
  root_hop low = go (at_no 0 low).station.hop refl
    where
      go : (h : Option (List ℕ)) → (at_no 0 low).station.hop ≡ h → (hop net 0 ≡ None) × (is_manager net 0 ≡ true)
      go None is = (
        hop_at 0 (at_no 0 low) ∙ ap (option_map no) is,
        ap (λ q. option_map_or (λ (n : Node). n.manager) q false) (at_no 0 low).in_nodes ∙ (at_no 0 low).manages ∙ ((at_no 0 low).root is).1,
      )
      go (Some h) is = absurd (omega (arith, ((at_no 0 low).tree h is).0))

  hop_manages : (w : ℕ) → 0 < w → w < node_count net → option_map_or (is_manager net) (hop net w) false ≡ true
  hop_manages w above low = go (at_no w low).station.hop refl
    where
      go : (h : Option (List ℕ)) → (at_no w low).station.hop ≡ h → option_map_or (is_manager net) (hop net w) false ≡ true
      go None is = absurd (omega (arith, above, ((at_no w low).root is).0))
      go (Some h) is =
          ap (λ q. option_map_or (is_manager net) q false) (hop_at w (at_no w low) ∙ ap (option_map no) is)
          ∙ (manager_in h ((at_no w low).tree h is).1).1

  pub is_tree : 0 < node_count net → IsTree net
  is_tree some =
      record {
        top = (root_hop some).0;
        managed = (root_hop some).1;
        hops = hop_manages;
        ends = λ w low.
            let j = to_master w low in
            ends_there net (root_hop some).0 j.0 (node_count net) w
            (short net (root_hop some).0 hop_inside j.0 w low j.1) j.1;
      }
