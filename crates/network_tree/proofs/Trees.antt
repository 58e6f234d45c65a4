-- What a net without faults is: a tree, in which there is a way from each workstation to each other.
use Rattle.std.proofs.Common.{◌≡◌, ◌≢◌, ◌⊎◌, ◌<◌, ◌≤◌, ℕ, [], ◌∷◌, ◌||◌, Bool, List, None, Option, Some, ap}
use Rattle.std.proofs.Common.{arith, drop, eqb, false, if◌then◌else◌, inl, inr, is_some, not, option_and_then}
use Rattle.std.proofs.Common.{refl, slice_get, subst, suc, sym, true, zero, ◌∙◌}
use Rattle.std.proofs.lemmas.Bool.Decides.{eqb_tells, nat_tests}
use Rattle.std.proofs.lemmas.Option.{slice_get_within}
use Rattle.std.specs.List.{AllByRecursion}
use Rattle.std.specs.Option.{option_map_or, option_or}
use Rattle.lemmas.proofs.Booleans.{neither_left, neither_right, not_fails}
use Rattle.lemmas.proofs.Options.{map_none, then_none}
use Rattle.model.specs.Network.{IsTree, are_neighbours, chain, climb, hop, is_behind, is_manager, node_count, one_before}
use Rattle.model.specs.Network.{towards}
use Rattle.model.specs.Types.{Net, Node}
use Rattle.model.specs.Words.{has, last_or, some_is}
use Rattle.network_tree.specs.Faults.{first_there, has_bad_hop, misses_the_master, net_fault, net_faults}
use Rattle.network_tree.specs.declared.faults.NetFault.{NetFault}
use Rattle.network_tree.proofs.Belows.{nothing_found}
use Rattle.network_tree.proofs.Climbs.{above, above_up, before_has, before_hop, has_up, last_has, no_return, up}
use Rattle.network_tree.specs.Faults.{is_out_of_range, repeats_a_name}
use Rattle.network_tree.specs.declared.faults.NetFault.TheVariants.{OutOfRange}

pub none_there : {X : Type 0} (os : List (Option X)) → first_there os ≡ None
    → AllByRecursion (λ (o : Option X). o ≡ None) os
none_there [] h = tt
none_there (None ∷ os) h = (refl, none_there os h)
none_there (Some x ∷ os) h = cc

pub few : (net : Net) → net_fault net ≡ None → (0 < node_count net) × (node_count net ≤ 256)
unfolding net_fault
few net none =
    let all : AllByRecursion (λ (o : Option NetFault). o ≡ None) (net_faults net) = none_there (net_faults net) none in
    let some : eqb (node_count net) 0 ≡ false = then_none (eqb (node_count net) 0) _ all.0 in
    (grind (arith, nat_tests), grind (arith, nat_tests, then_none _ _ all.1.0))

no_bad_hop : (net : Net) → net_fault net ≡ None → (w : ℕ) → w < node_count net → has_bad_hop net w ≡ false
unfolding net_fault
no_bad_hop net none w low =
    let all : AllByRecursion (λ (o : Option NetFault). o ≡ None) (net_faults net) = none_there (net_faults net) none in
    nothing_found (has_bad_hop net) 0 (node_count net) w (map_none _ _ all.1.1.1.0) (omega arith) (omega arith)

none_missed : (net : Net) → net_fault net ≡ None → (w : ℕ) → w < node_count net → last_or w (chain net w) ≡ 0
unfolding net_fault
none_missed net none w low =
    let all : AllByRecursion (λ (o : Option NetFault). o ≡ None) (net_faults net) = none_there (net_faults net) none in
    let missed : misses_the_master net w ≡ false =
    nothing_found (misses_the_master net) 0 (node_count net) w (map_none _ _ all.1.1.1.1.0) (omega arith)
    (omega arith) in
    let at : eqb (last_or w (chain net w)) 0 ≡ true = not_fails _ missed in
    grind (arith, nat_tests)

not_there : {X : Type 0} (o : Option X) → is_some o ≡ false → o ≡ None
not_there None h = refl
not_there (Some x) h = cc

-- the fourth and the fifth fault are all that a tree lacks
pub tree : (net : Net) → net_fault net ≡ None → IsTree net
tree net none =
    record {
      top = not_there (hop net 0) (neither_left (is_some (hop net 0)) _ (no_bad_hop net none 0 (few net none).0));
      managed =
          not_fails _ (neither_right (is_some (hop net 0)) _ (no_bad_hop net none 0 (few net none).0));
      hops =
          λ w above low.
          elim (eqb_tells w 0) [
            | inl e ↦ absurd (omega (arith, e.1, above))
            | inr e ↦
                not_fails _ (sym (ap (λ b. if b then is_some (hop net w) || not (is_manager net w)
                else not (option_map_or (is_manager net) (hop net w) false)) e.0) ∙ no_bad_hop net none w low)
          ];
      ends = none_missed net none;
    }

module _ (net : Net) where
  -- who has a hop is inside
  pub hop_within : (w h : ℕ) → hop net w ≡ Some h → w < node_count net
  hop_within w h e = go (slice_get net.nodes w) refl e
    where
      go : (o : Option Node) → slice_get net.nodes w ≡ o → option_and_then (λ (n : Node). n.hop) o ≡ Some h
          → w < node_count net
      go None at f = cc
      go (Some n) at f = slice_get_within net.nodes w n at

  -- a manager is inside
  pub manager_within : (w : ℕ) → is_manager net w ≡ true → w < node_count net
  manager_within w e = go (slice_get net.nodes w) refl e
    where
      go : (o : Option Node) → slice_get net.nodes w ≡ o → option_map_or (λ (n : Node). n.manager) o false ≡ true
          → w < node_count net
      go None at f = cc
      go (Some n) at f = slice_get_within net.nodes w n at

  -- the way is the one before a in the chain, else the hop of a
  pub way_is : (a b : ℕ) → a ≢ b → towards net a b ≡ option_or (one_before a (chain net b)) (hop net a)
  way_is a b apart =
      elim (eqb_tells a b) [
        | inl e ↦ absurd (apart e.1)
        | inr e ↦
            rw (e.0, ← before_has a (chain net b))
            (go (one_before a (chain net b)))
      ]
    where
      go : (o : Option ℕ) → (if is_some o then o else hop net a) ≡ option_or o (hop net a)
      go None = refl
      go (Some x) = refl

  -- a way leads to a neighbour
  pub way_to_neighbour : (a b x : ℕ) → a ≢ b → towards net a b ≡ Some x
      → (hop net a ≡ Some x) ⊎ (hop net x ≡ Some a)
  way_to_neighbour a b x apart e = go (one_before a (chain net b)) refl (sym (way_is a b apart) ∙ e)
    where
      go : (o : Option ℕ) → one_before a (chain net b) ≡ o → option_or o (hop net a) ≡ Some x
          → (hop net a ≡ Some x) ⊎ (hop net x ≡ Some a)
      go None at f = inl f
      go (Some y) at f = inr (before_hop net (node_count net) b a x (at ∙ f))

  pub are_so : (a x : ℕ) → (hop net a ≡ Some x) ⊎ (hop net x ≡ Some a) → are_neighbours net a x ≡ true
  are_so a x (inl e) = rw (e, itself x) refl
    where
      itself : (v : ℕ) → eqb v v ≡ true
      itself v = grind (arith, nat_tests)
  are_so a x (inr e) = rw (e, itself a) (go (some_is (hop net a) x))
    where
      itself : (v : ℕ) → eqb v v ≡ true
      itself v = grind (arith, nat_tests)

      go : (b : Bool) → (b || true) ≡ true
      go true = refl
      go false = refl

module _ (net : Net) (t : IsTree net) where
  -- every other one has a manager as its hop
  pub hop_there : (w : ℕ) → w < node_count net → w ≢ 0
      → (h : ℕ) × (hop net w ≡ Some h) × (is_manager net h ≡ true)
  hop_there w low other = go (hop net w) refl (t.hops w (omega (arith, other)) low)
    where
      go : (o : Option ℕ) → hop net w ≡ o → option_map_or (is_manager net) o false ≡ true
          → (h : ℕ) × (hop net w ≡ Some h) × (is_manager net h ≡ true)
      go None at f = cc
      go (Some h) at f = (h, at, f)

  -- a hop is a manager
  pub hop_manager : (w h : ℕ) → hop net w ≡ Some h → is_manager net h ≡ true
  hop_manager w h e =
      let other : w ≢ 0 =
      λ z. (let h0 : hop net 0 ≡ Some h = subst (λ v. hop net v ≡ Some h) z e in let r = t.top in cc) in
      let there = hop_there w (hop_within net w h e) other in
      let same : there.0 ≡ h = (let f = there.1 in cc) in
      subst (λ v. is_manager net v ≡ true) same there.2

  -- and is inside
  pub hop_inside : (w h : ℕ) → hop net w ≡ Some h → h < node_count net
  hop_inside w h e = manager_within net h (hop_manager w h e)

  -- the master is above everyone
  pub reaches : (w : ℕ) → w < node_count net → (j : ℕ) × (up net j w ≡ Some 0)
  reaches w low =
      elim (last_has w 0 (chain net w) (t.ends w low)) [
        | inl e ↦ (0, ap Some e)
        | inr e ↦ has_up net (node_count net) w 0 e
      ]

  pub not_back : (i w : ℕ) → w < node_count net → up net (suc i) w ≡ Some w → ⊥
  not_back i w low back = let r = reaches w low in no_return net t.top r.0 i w r.1 back

  -- nobody is behind itself
  pub not_behind_itself : (m w : ℕ) → w < node_count net → has (drop 1 (climb net m w)) w ≡ false
  not_behind_itself m w low = go (has (drop 1 (climb net m w)) w) refl
    where
      go : (b : Bool) → has (drop 1 (climb net m w)) w ≡ b → has (drop 1 (climb net m w)) w ≡ false
      go true e = absurd (let u = above_up net m w w e in not_back u.0 w low u.1)
      go false e = e

  -- everyone but the master is behind it
  pub behind_master : (b : ℕ) → b < node_count net → b ≢ 0 → is_behind net b 0 ≡ true
  behind_master b low other = go (node_count net) (t.ends b low) (omega (arith, low))
    where
      go : (m : ℕ) → last_or b (climb net m b) ≡ 0 → 0 < m → has (drop 1 (climb net m b)) 0 ≡ true
      go zero e some = absurd (omega arith)
      go (suc m) e some =
          elim (last_has b 0 (above net m (hop net b)) e) [ inl f ↦ absurd (other f) | inr f ↦ f ]

  -- there is a way from each to each other
  pub way_there : (a b : ℕ) → a < node_count net → b < node_count net → a ≢ b
      → (x : ℕ) × (towards net a b ≡ Some x)
  way_there a b low_a low_b apart = go (one_before a (chain net b)) refl
    where
      go : (o : Option ℕ) → one_before a (chain net b) ≡ o → (x : ℕ) × (towards net a b ≡ Some x)
      go (Some x) e = (x, way_is net a b apart ∙ ap (λ o. option_or o (hop net a)) e)
      go None e =
          let none : is_behind net b a ≡ false = sym (before_has a (chain net b)) ∙ ap is_some e in
          let other : a ≢ 0 =
          λ z. (let above : is_behind net b a ≡ true =
          subst (λ v. is_behind net b v ≡ true) (sym z) (behind_master b low_b (λ y. apart (z ∙ sym y))) in cc) in
          let there = hop_there a low_a other in
          (there.0, way_is net a b apart ∙ (ap (λ o. option_or o (hop net a)) e ∙ there.1))

  -- a way stays inside
  pub way_inside : (a b x : ℕ) → a ≢ b → towards net a b ≡ Some x → x < node_count net
  way_inside a b x apart e =
      elim (way_to_neighbour net a b x apart e) [
        | inl f ↦ hop_inside a x f
        | inr f ↦ hop_within net x a f
      ]

  -- one is behind m where the way from m to it is not the hop of m
  pub behind_tells : (n m : ℕ) → n < node_count net → m < node_count net → n ≢ m
      → ((is_behind net n m ≡ true) × (towards net m n ≡ hop net m → ⊥))
      ⊎ ((is_behind net n m ≡ false) × (towards net m n ≡ hop net m))
  behind_tells n m low_n low_m apart = go (one_before m (chain net n)) refl
    where
      way : towards net m n ≡ option_or (one_before m (chain net n)) (hop net m)
      way = way_is net m n (λ e. apart (sym e))

      go : (o : Option ℕ) → one_before m (chain net n) ≡ o
          → ((is_behind net n m ≡ true) × (towards net m n ≡ hop net m → ⊥))
          ⊎ ((is_behind net n m ≡ false) × (towards net m n ≡ hop net m))
      go None e =
          inr (sym (before_has m (chain net n)) ∙ ap is_some e, way ∙ ap (λ o. option_or o (hop net m)) e)
      go (Some c) e =
          inl (
            sym (before_has m (chain net n)) ∙ ap is_some e,
            λ f.
                let to : hop net m ≡ Some c = sym f ∙ (way ∙ ap (λ o. option_or o (hop net m)) e) in
                let back : hop net c ≡ Some m = before_hop net (node_count net) n m c e in
                not_back 1 m low_m (ap (option_and_then (up net 1)) to ∙ ap (option_and_then (up net 0)) back),
          )

-- no node of an accepted network repeats a name
pub none_repeats : (net : Net) → net_fault net ≡ None → (w : ℕ) → w < node_count net → repeats_a_name net w ≡ false
unfolding net_fault
none_repeats net none w low =
    let all : AllByRecursion (λ (o : Option NetFault). o ≡ None) (net_faults net) = none_there (net_faults net) none in
    nothing_found (repeats_a_name net) 0 (node_count net) w (map_none _ _ all.1.1.0) (omega arith) (omega arith)

-- an accepted network is in range
pub in_range : (net : Net) → net_fault net ≡ None → is_out_of_range net ≡ false
unfolding net_fault
in_range net none =
    let all : AllByRecursion (λ (o : Option NetFault). o ≡ None) (net_faults net) = none_there (net_faults net) none in
    then_none (is_out_of_range net) OutOfRange all.1.1.1.1.1.0
