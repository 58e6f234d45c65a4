-- At rest each holds what it wants, and each order has come to whom it is for.
use Rattle.std.proofs.Common.{◌≡◌, ◌≢◌, ℕ, zero, suc, ◌+◌, ◌<◌, ◌≤◌, Bool, true, false, ◌&&◌, not, inl, inr}
use Rattle.std.proofs.Common.{[], length, take, refl, ap, sym, subst, ◌∙◌, arith, Option, Some, None}
use Rattle.std.proofs.Common.{if◌then◌else◌}
use Rattle.std.proofs.Math.Seq.{take-length}
use Rattle.std.proofs.lemmas.Bool.{eq-eqb}
use Rattle.std.proofs.lemmas.Bool.Decides.{eqb_tells}
use Rattle.std.proofs.lemmas.List.{length-take}
use Rattle.std.specs.List.{list_any}
use Rattle.std.specs.Option.{option_map_or}
use Rattle.std.specs.Prelude.{eqb}
use Rattle.lemmas.proofs.Booleans.{and_made, contrary_of, or_made_left, or_made_right}
use Rattle.model.specs.Types.{Events, Feed, Net, Orders}
use Rattle.model.specs.Words.{below, has, numbers_from, some_is}
use Rattle.model.specs.Network.{IsTree, are_neighbours, chain, climb, hop, is_behind, node_count, one_before, towards}
use Rattle.model.specs.History.{View, list_of}
use Rattle.model.specs.PresentNet.{net_by}
use Rattle.model.specs.Forwarding.{forwards, is_under, wants}
use Rattle.model.specs.World.{World, view_at}
use Rattle.model.specs.Invariant.{Invariant}
use Rattle.model_laws.proofs.PresentNets.{by_one, by_tree, one_count}
use Rattle.model_laws.proofs.Ranks.{depth, depth_falls, hop_inside, hung, managed_hop, manager_inside, ranked}
use Rattle.rest_laws.specs.Rest.{HoldsAll, IsAtRest, net_at}
use Rattle.rest_laws.proofs.Chains.{HasHop, IsBefore, before_there, has_hop, or_rest, top_behind_none}
use Rattle.rest_laws.proofs.Chains.{under_hop, under_is, under_self, under_top}
use Rattle.rest_laws.proofs.Quiets.{IsFeed, acked_all}
use Rattle.rest_laws.proofs.Wants.{same_wants}

some_is_it : (o : Option ℕ) (q : ℕ) → o ≡ Some q → some_is o q ≡ true
some_is_it o q e = rw e (eq-eqb q q refl)

any_number : (p : ℕ → Bool) (from n w : ℕ) → from ≤ w → w < from + n → p w ≡ true
    → list_any p (numbers_from from n) ≡ true
any_number p from zero w low high h = absurd (omega (arith, low, high))
any_number p from (suc n) w low high h =
    elim (eqb_tells from w) [
      | inl e ↦ or_made_left (p from) _ (subst (λ (i : ℕ). p i ≡ true) (sym e.1) h)
      | inr e ↦ or_made_right (p from) _ (any_number p (from + 1) n w (omega (arith, low, e.1)) (omega (arith, high)) h)
    ]

any_below : (p : ℕ → Bool) (n w : ℕ) → w < n → p w ≡ true → list_any p (below n) ≡ true
any_below p n w low h = any_number p 0 n w (omega arith) (omega (arith, low)) h

-- neighbours, and what they pass on
near_up : (N : Net) (n m : ℕ) → hop N n ≡ Some m → are_neighbours N n m ≡ true
near_up N n m e = or_made_left (some_is (hop N n) m) _ (some_is_it (hop N n) m e)

near_down : (N : Net) (n m : ℕ) → hop N m ≡ Some n → are_neighbours N n m ≡ true
near_down N n m e = or_made_right (some_is (hop N n) m) _ (some_is_it (hop N m) n e)

goes_up : (N : Net) (V : View) (n m y : ℕ) → hop N n ≡ Some m → is_under N y n ≡ true
    → forwards N V n m (Events y) ≡ true
unfolding forwards
goes_up N V n m y e under =
    or_made_left (some_is (hop N n) m && is_under N y n) _
    (and_made (some_is (hop N n) m) (is_under N y n) (some_is_it (hop N n) m e) under)

goes_down : (N : Net) (V : View) (n m y w : ℕ) → hop N m ≡ Some n → is_under N y m ≡ false → w < node_count N
    → is_under N w m ≡ true → wants N V w y ≡ true → forwards N V n m (Events y) ≡ true
unfolding forwards
goes_down N V n m y w e not_under low under want =
    or_made_right (some_is (hop N n) m && is_under N y n) _
    (and_made (some_is (hop N m) n) _ (some_is_it (hop N m) n e)
    (and_made (not (is_under N y m)) _ (rw not_under refl)
    (any_below (λ v. is_under N v m && wants N V v y) (node_count N) w low
    (and_made (is_under N w m) (wants N V w y) under want))))

goes_on : (N : Net) (V : View) (n m a b : ℕ) → eqb b n ≡ false → towards N n b ≡ Some m
    → forwards N V n m (Orders a b) ≡ true
unfolding forwards
goes_on N V n m a b other way =
    and_made (not (eqb b n)) _ (rw other refl) (some_is_it (towards N n b) m way)

pub wants_master : (N : Net) (V : View) (v : ℕ) → wants N V v 0 ≡ true
unfolding wants
wants_master N V v = refl

other_false : (a b : ℕ) → a ≢ b → eqb a b ≡ false
other_false a b h = elim (eqb_tells a b) [ inl e ↦ absurd (h e.1) | inr e ↦ e.0 ]

-- the way of an order
way_down : (N : Net) (u b c : ℕ) → eqb u b ≡ false → is_behind N b u ≡ true → one_before u (chain N b) ≡ Some c
    → towards N u b ≡ Some c
way_down N u b c other behind is = go (eqb u b) (is_behind N b u) other behind
  where
    go : (p q : Bool) → p ≡ false → q ≡ true
        → (if p then None else (if q then one_before u (chain N b) else hop N u)) ≡ Some c
    go true q h k = cc
    go false true h k = is
    go false false h k = cc

way_up : (N : Net) (u b c : ℕ) → eqb u b ≡ false → is_behind N b u ≡ false → hop N u ≡ Some c
    → towards N u b ≡ Some c
way_up N u b c other behind is = go (eqb u b) (is_behind N b u) other behind
  where
    go : (p q : Bool) → p ≡ false → q ≡ false
        → (if p then None else (if q then one_before u (chain N b) else hop N u)) ≡ Some c
    go true q h k = cc
    go false false h k = is
    go false true h k = cc

module _ (net : Net) (readings : ℕ → ℕ) (x : World) (tree : IsTree net) (inv : Invariant net x)
    (rest : IsAtRest net readings x) where
  abbrev T : Net
  T = net_at net x 0

  tree_T : IsTree T
  tree_T = by_tree net (view_at x 0 (Events 0)) tree

  counts : (v : ℕ) → node_count (net_at net x v) ≡ node_count net
  counts v = one_count net (net_at net x v) (by_one net (view_at x v (Events 0)))

  feed_there : (v : ℕ) (f : Feed) → IsFeed net f → IsFeed (net_at net x v) f
  feed_there v (Events y) h = omega (arith, h, counts v)
  feed_there v (Orders a b) h = (omega (arith, h.0, counts v), omega (arith, h.1, counts v))

  held_length : (v : ℕ) (f : Feed) → length (view_at x v f) ≡ x.holdings v f
  held_length v f = omega (arith, length-take (x.holdings v f) (list_of x.history f), inv.within v f)

  pub full_view : (v : ℕ) (f : Feed) → HoldsAll x v f → view_at x v f ≡ list_of x.history f
  full_view v f h = ap (λ n. take n (list_of x.history f)) h ∙ take-length (list_of x.history f)

  -- who holds all of a feed that it passes on sees to it that its neighbour does
  passes : (n m : ℕ) → n < node_count net → m < node_count net → are_neighbours (net_at net x n) n m ≡ true
      → (f : Feed) → IsFeed net f → forwards (net_at net x n) (view_at x n) n m f ≡ true → HoldsAll x n f
      → HoldsAll x m f
  passes n m n_in m_in near f f_in fw h =
      let a : length (view_at x n f) ≤ (x.sessions n).acked m f =
      acked_all net x n (readings n) (rest.quiet n n_in) m (omega (arith, m_in, counts n)) near
      (rest.linked n m n_in m_in near) f (feed_there n f f_in) fw in
      omega (arith, a, held_length n f, inv.acked_there n m f, inv.within m f, h)

  -- all hold the master's events, and so see its network
  same_by : (v : ℕ) → HoldsAll x v (Events 0) → net_at net x v ≡ T
  same_by v h =
      ap (λ l. net_by net l)
      (full_view v (Events 0) h ∙ sym (full_view 0 (Events 0) (inv.own 0 (Events 0) refl)))

  told : (k v : ℕ) → v < node_count net → depth T v ≤ k → HoldsAll x v (Events 0)
  told zero v v_in small =
      absurd (omega (arith, small, (ranked T tree_T).positive v (omega (arith, v_in, counts 0))))
  told (suc k) v v_in small =
      elim (eqb_tells v 0) [
        | inl e ↦ subst (λ (i : ℕ). HoldsAll x i (Events 0)) (sym e.1) (inv.own 0 (Events 0) refl)
        | inr e ↦ below_top e.1
            (has_hop T tree_T v (omega (arith, v_in, counts 0)) e.1) (λ p in_ s. told k p in_ s)
      ]
    where
      below_top : v ≢ 0 → HasHop T tree_T v
          → ((p : ℕ) → p < node_count net → depth T p ≤ k → HoldsAll x p (Events 0)) → HoldsAll x v (Events 0)
      below_top other up more =
          let p_in : up.to < node_count net = omega (arith, up.inside, counts 0) in
          let above : HoldsAll x up.to (Events 0) =
          more up.to p_in (omega (arith, depth_falls T tree_T v up.to up.is, small)) in
          let same : T ≡ net_at net x up.to = sym (same_by up.to above) in
          passes up.to v p_in v_in
          (subst (λ (N : Net). are_neighbours N up.to v ≡ true) same (near_down T up.to v up.is)) (Events 0)
          (omega (arith, v_in))
          (subst (λ (N : Net). forwards N (view_at x up.to) up.to v (Events 0) ≡ true) same
          (goes_down T (view_at x up.to) up.to v 0 v up.is not_under (omega (arith, v_in, counts 0))
          (under_self T tree_T v) (wants_master T (view_at x up.to) v)))
          above
        where
          not_under : is_under T 0 v ≡ false
          not_under = rw (other_false 0 v (λ e. other (sym e)), top_behind_none T tree_T v) refl

  pub all_told : (v : ℕ) → v < node_count net → HoldsAll x v (Events 0)
  all_told v v_in = told (depth T v) v v_in (omega arith)

  pub same_net : (v : ℕ) → v < node_count net → net_at net x v ≡ T
  same_net v v_in = same_by v (all_told v v_in)

  -- so each passes on what this one network says
  passes_on : (n m : ℕ) → n < node_count net → m < node_count net → are_neighbours T n m ≡ true
      → (f : Feed) → IsFeed net f → forwards T (view_at x n) n m f ≡ true → HoldsAll x n f → HoldsAll x m f
  passes_on n m n_in m_in near f f_in fw h =
      passes n m n_in m_in (subst (λ (N : Net). are_neighbours N n m ≡ true) (sym (same_net n n_in)) near) f f_in
      (subst (λ (N : Net). forwards N (view_at x n) n m f ≡ true) (sym (same_net n n_in)) fw) h

  -- a workstation's events go up to all above it
  rises : (k y u v : ℕ) → y < node_count net → u < node_count net → is_under T y u ≡ true
      → HoldsAll x u (Events y) → has (climb T k u) v ≡ true → HoldsAll x v (Events y)
  rises zero y u v y_in u_in under h among = cc
  rises (suc k) y u v y_in u_in under h among =
      elim (eqb_tells u v) [
        | inl e ↦ subst (λ (i : ℕ). HoldsAll x i (Events y)) e.1 h
        | inr e ↦ go (hop T u) refl (or_rest (eqb u v) _ e.0 among)
            (λ q in_ un hold am. rises k y q v y_in in_ un hold am)
      ]
    where
      go : (o : Option ℕ) → hop T u ≡ o → has (option_map_or (climb T k) o []) v ≡ true
          → ((q : ℕ) → q < node_count net → is_under T y q ≡ true → HoldsAll x q (Events y)
          → has (climb T k q) v ≡ true → HoldsAll x v (Events y))
          → HoldsAll x v (Events y)
      go None e am more = cc
      go (Some q) e am more =
          let u_there : u < node_count T = omega (arith, u_in, counts 0) in
          let q_there : q < node_count T = manager_inside T q (managed_hop T (hung T tree_T) u q u_there e) in
          let q_in : q < node_count net = omega (arith, q_there, counts 0) in
          more q q_in (under_hop T tree_T y u q (omega (arith, y_in, counts 0)) under e)
          (passes_on u q u_in q_in (near_up T u q e) (Events y) (omega (arith, y_in))
          (goes_up T (view_at x u) u q y e under) h)
          am

  held_above : (y v : ℕ) → y < node_count net → is_under T y v ≡ true → HoldsAll x v (Events y)
  held_above y v y_in under =
      rises (node_count T) y y v y_in y_in (under_self T tree_T y) (inv.own y (Events y) refl)
      (under_is T tree_T y v (omega (arith, y_in, counts 0)) ∙ under)

  -- all above a workstation know what it wants
  known_above : (v n y : ℕ) → v < node_count net → n < node_count net → is_under T v n ≡ true
      → wants T (view_at x v) v y ≡ wants T (view_at x n) v y
  known_above v n y v_in n_in under =
      same_wants (view_at x v) (view_at x n)
      (full_view v (Events 0) (all_told v v_in) ∙ sym (full_view n (Events 0) (all_told n n_in))) v
      (full_view v (Events v) (inv.own v (Events v) refl)
      ∙ sym (full_view n (Events v) (held_above v n v_in under)))
      T y

  -- and so pass it down
  falls : (v y : ℕ) → v < node_count net → y < node_count net → wants T (view_at x v) v y ≡ true → (k u : ℕ)
      → u < node_count net → depth T u ≤ k → is_under T v u ≡ true → HoldsAll x u (Events y)
  falls v y v_in y_in want zero u u_in small under =
      absurd (omega (arith, small, (ranked T tree_T).positive u (omega (arith, u_in, counts 0))))
  falls v y v_in y_in want (suc k) u u_in small under =
      go (is_under T y u) refl (λ p in_ s un. falls v y v_in y_in want k p in_ s un)
    where
      go : (b : Bool) → is_under T y u ≡ b
          → ((p : ℕ) → p < node_count net → depth T p ≤ k → is_under T v p ≡ true → HoldsAll x p (Events y))
          → HoldsAll x u (Events y)
      go true e more = held_above y u y_in e
      go false e more =
          let other : u ≢ 0 = λ z. contrary_of (is_under T y u)
          (subst (λ (i : ℕ). is_under T y i ≡ true) (sym z) (under_top T tree_T y (omega (arith, y_in, counts 0)))) e in
          let up : HasHop T tree_T u = has_hop T tree_T u (omega (arith, u_in, counts 0)) other in
          let p_in : up.to < node_count net = omega (arith, up.inside, counts 0) in
          let v_there : v < node_count T = omega (arith, v_in, counts 0) in
          let over : is_under T v up.to ≡ true = under_hop T tree_T v u up.to v_there under up.is in
          passes_on up.to u p_in u_in (near_down T up.to u up.is) (Events y) (omega (arith, y_in))
          (goes_down T (view_at x up.to) up.to u y v up.is e v_there under
          (sym (known_above v up.to y v_in p_in over) ∙ want))
          (more up.to p_in (omega (arith, depth_falls T tree_T u up.to up.is, small)) over)

  pub wanted_held : (v y : ℕ) → v < node_count net → y < node_count net
      → wants (net_at net x v) (view_at x v) v y ≡ true → HoldsAll x v (Events y)
  wanted_held v y v_in y_in want =
      falls v y v_in y_in (subst (λ (N : Net). wants N (view_at x v) v y ≡ true) (same_net v v_in) want)
      (depth T v) v v_in (omega arith) (under_self T tree_T v)

  -- an order goes down to whom it is for, once it stands above
  goes_to : (a b : ℕ) → a < node_count net → b < node_count net → (k u : ℕ) → u < node_count net
      → node_count T < depth T u + k → is_under T b u ≡ true → HoldsAll x u (Orders a b) → HoldsAll x b (Orders a b)
  goes_to a b a_in b_in zero u u_in big under h =
      absurd (omega (arith, big, (ranked T tree_T).low u))
  goes_to a b a_in b_in (suc k) u u_in big under h =
      elim (eqb_tells b u) [
        | inl e ↦ subst (λ (i : ℕ). HoldsAll x i (Orders a b)) (sym e.1) h
        | inr e ↦ go e.1 (or_rest (eqb b u) _ e.0 under)
            (λ c in_ g un hold. goes_to a b a_in b_in k c in_ g un hold)
      ]
    where
      go : b ≢ u → is_behind T b u ≡ true
          → ((c : ℕ) → c < node_count net → node_count T < depth T c + k → is_under T b c ≡ true
          → HoldsAll x c (Orders a b) → HoldsAll x b (Orders a b))
          → HoldsAll x b (Orders a b)
      go other behind more =
          let next : IsBefore T (chain T b) u = before_there T (node_count T) b u behind in
          let c_in : next.who < node_count net = omega (arith, hop_inside T next.who u next.hops, counts 0) in
          more next.who c_in (omega (arith, big, depth_falls T tree_T next.who u next.hops))
          (sym (under_is T tree_T b next.who (omega (arith, b_in, counts 0))) ∙ next.among)
          (passes_on u next.who u_in c_in (near_down T u next.who next.hops) (Orders a b) (a_in, b_in)
          (goes_on T (view_at x u) u next.who a b (other_false b u other)
          (way_down T u b next.who (other_false u b (λ z. other (sym z))) behind next.is))
          h)

  -- and up to the first that stands above
  climbs_to : (a b : ℕ) → a < node_count net → b < node_count net → (k u : ℕ) → u < node_count net → depth T u ≤ k
      → HoldsAll x u (Orders a b) → HoldsAll x b (Orders a b)
  climbs_to a b a_in b_in zero u u_in small h =
      absurd (omega (arith, small, (ranked T tree_T).positive u (omega (arith, u_in, counts 0))))
  climbs_to a b a_in b_in (suc k) u u_in small h =
      go (eqb b u) (is_behind T b u) refl refl (λ q in_ s hold. climbs_to a b a_in b_in k q in_ s hold)
    where
      go : (c d : Bool) → eqb b u ≡ c → is_behind T b u ≡ d
          → ((q : ℕ) → q < node_count net → depth T q ≤ k → HoldsAll x q (Orders a b) → HoldsAll x b (Orders a b))
          → HoldsAll x b (Orders a b)
      go true d e f more =
          goes_to a b a_in b_in (suc (node_count T)) u u_in (omega arith) (or_made_left (eqb b u) _ e) h
      go false true e f more =
          goes_to a b a_in b_in (suc (node_count T)) u u_in (omega arith) (or_made_right (eqb b u) _ f) h
      go false false e f more =
          let none : is_under T b u ≡ false = rw (e, f) refl in
          let other : u ≢ 0 = λ z. contrary_of (is_under T b u)
          (subst (λ (i : ℕ). is_under T b i ≡ true) (sym z) (under_top T tree_T b (omega (arith, b_in, counts 0))))
          none in
          let differ : b ≢ u = λ z. contrary_of (eqb b u) (eq-eqb b u z) e in
          let up : HasHop T tree_T u = has_hop T tree_T u (omega (arith, u_in, counts 0)) other in
          let q_in : up.to < node_count net = omega (arith, up.inside, counts 0) in
          more up.to q_in (omega (arith, depth_falls T tree_T u up.to up.is, small))
          (passes_on u up.to u_in q_in (near_up T u up.to up.is) (Orders a b) (a_in, b_in)
          (goes_on T (view_at x u) u up.to a b e
          (way_up T u b up.to (other_false u b (λ z. differ (sym z))) f up.is))
          h)

  pub orders_held : (a b : ℕ) → a < node_count net → b < node_count net → HoldsAll x b (Orders a b)
  orders_held a b a_in b_in =
      climbs_to a b a_in b_in (depth T a) a a_in (omega arith) (inv.own a (Orders a b) refl)
