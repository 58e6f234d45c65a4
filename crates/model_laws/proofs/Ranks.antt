-- Trees of workstations: a rank falls from each to its hop, and where there is a rank, each chain ends at the master.
use Rattle.std.proofs.Common.{◌≡◌, ℕ, zero, suc, ◌<◌, ◌≤◌, true, false, List, [], ◌∷◌, length, refl, ap}
use Rattle.std.proofs.Common.{sym, subst, ◌∙◌, arith, Option, Some, None}
use Rattle.std.proofs.lemmas.Option.{slice_get_within}
use Rattle.std.specs.Option.{option_map_or}
use Rattle.std.specs.Prelude.{slice_get, option_and_then}
use Rattle.model.specs.Types.{Net, Node}
use Rattle.model.specs.Words.{last_or}
use Rattle.model.specs.Network.{IsTree, chain, climb, hop, is_manager, node_count}

-- the parts of a tree that do not speak of chains
pub record IsHung (net : Net) : Type 0 where
  pub top : hop net 0 ≡ None
  pub managed : is_manager net 0 ≡ true
  pub hops : (w : ℕ) → 0 < w → w < node_count net → option_map_or (is_manager net) (hop net w) false ≡ true

pub hung : (net : Net) → IsTree net → IsHung net
hung net t = record { top = t.top; managed = t.managed; hops = t.hops }

-- a hop is a manager, and stands in the network
pub managed_hop : (net : Net) → IsHung net → (w m : ℕ) → w < node_count net → hop net w ≡ Some m
    → is_manager net m ≡ true
managed_hop net h zero m low e = absurd (none_some (sym h.top ∙ e))
  where
    none_some : None ≡ Some m → ⊥
    none_some k = cc
managed_hop net h (suc w) m low e =
    subst (λ (o : Option ℕ). option_map_or (is_manager net) o false ≡ true) e (h.hops (suc w) (omega arith) low)

pub manager_inside : (net : Net) (m : ℕ) → is_manager net m ≡ true → m < node_count net
manager_inside net m h = go (slice_get net.nodes m) refl h
  where
    go : (o : Option Node) → slice_get net.nodes m ≡ o → option_map_or (λ (n : Node). n.manager) o false ≡ true
        → m < node_count net
    go None e k = cc
    go (Some n) e k = slice_get_within net.nodes m n e

pub hop_inside : (net : Net) (w m : ℕ) → hop net w ≡ Some m → w < node_count net
hop_inside net w m h = go (slice_get net.nodes w) refl h
  where
    go : (o : Option Node) → slice_get net.nodes w ≡ o → option_and_then (λ (n : Node). n.hop) o ≡ Some m
        → w < node_count net
    go None e k = cc
    go (Some n) e k = slice_get_within net.nodes w n e

-- a chain that ended is not longer with more room for it
climb_more : (net : Net) → hop net 0 ≡ None → (k w : ℕ) → last_or w (climb net (suc k) w) ≡ 0
    → climb net (suc (suc k)) w ≡ climb net (suc k) w
climb_more net top zero w e = go (hop net w) refl
  where
    none_some : (m : ℕ) → None ≡ Some m → ⊥
    none_some m g = cc

    go : (o : Option ℕ) → hop net w ≡ o
        → (w ∷ option_map_or (climb net 1) o []) ≡ (w ∷ option_map_or (climb net 0) o [])
    go None h = refl
    go (Some m) h =
        let at_0 : w ≡ 0 = last_alone (hop net w) e in
        absurd (none_some m (sym top ∙ subst (λ (v : ℕ). hop net v ≡ Some m) at_0 h))
      where
        last_alone : (o : Option ℕ) → last_or w (w ∷ option_map_or (climb net 0) o []) ≡ 0 → w ≡ 0
        last_alone None l = l
        last_alone (Some n) l = l
climb_more net top (suc k) w e = go (hop net w) refl e (λ m l. climb_more net top k m l)
  where
    go : (o : Option ℕ) → hop net w ≡ o → last_or w (w ∷ option_map_or (climb net (suc k)) o []) ≡ 0
        → ((m : ℕ) → last_or m (climb net (suc k) m) ≡ 0 → climb net (suc (suc k)) m ≡ climb net (suc k) m)
        → (w ∷ option_map_or (climb net (suc (suc k))) o []) ≡ (w ∷ option_map_or (climb net (suc k)) o [])
    go None h l more = refl
    go (Some m) h l more = ap (λ (xs : List ℕ). w ∷ xs) (more m l)

-- the length of its chain, less one, is a rank: it falls to the hop
climb_length : (net : Net) (k w : ℕ) → length (climb net k w) ≤ k
climb_length net zero w = omega arith
climb_length net (suc k) w = go (hop net w) (climb_length net k)
  where
    go : (o : Option ℕ) → ((m : ℕ) → length (climb net k m) ≤ k)
        → length (w ∷ option_map_or (climb net k) o []) ≤ suc k
    go None h = omega arith
    go (Some m) h = omega (arith, h m)

climb_falls : (net : Net) → hop net 0 ≡ None → (k w m : ℕ) → last_or w (climb net (suc (suc k)) w) ≡ 0
    → hop net w ≡ Some m → length (climb net (suc (suc k)) m) < length (climb net (suc (suc k)) w)
climb_falls net top k w m e h =
    rw h
    (let l : last_or m (climb net (suc k) m) ≡ 0 =
    subst (λ (o : Option ℕ). last_or w (w ∷ option_map_or (climb net (suc k)) o []) ≡ 0) h e in
    let same : length (climb net (suc (suc k)) m) ≡ length (climb net (suc k) m) =
    ap length (climb_more net top k m l) in
    omega (arith, same))

pub depth : Net → ℕ → ℕ
depth net w = length (chain net w)

pub depth_falls : (net : Net) → IsTree net → (w m : ℕ) → hop net w ≡ Some m → depth net m < depth net w
unfolding depth
depth_falls net t w m h = go (node_count net) refl
  where
    none_some : (i : ℕ) → None ≡ Some i → ⊥
    none_some i g = cc

    low : w < node_count net
    low = hop_inside net w m h

    not_top : w ≡ 0 → ⊥
    not_top e = none_some m (sym t.top ∙ subst (λ (v : ℕ). hop net v ≡ Some m) e h)

    go : (n : ℕ) → node_count net ≡ n → length (climb net n m) < length (climb net n w)
    go zero e = absurd (omega (arith, low, e))
    go (suc zero) e = absurd (not_top (omega (arith, low, e)))
    go (suc (suc k)) e =
        climb_falls net t.top k w m (subst (λ (n : ℕ). last_or w (climb net n w) ≡ 0) e (t.ends w low)) h

-- a rank that falls from each workstation to its hop, and is at most the number of workstations
pub record Ranked (net : Net) (r : ℕ → ℕ) : Type 0 where
  pub low : (w : ℕ) → r w ≤ node_count net
  pub positive : (w : ℕ) → w < node_count net → 0 < r w
  pub falls : (w m : ℕ) → hop net w ≡ Some m → r m < r w

pub ranked : (net : Net) → IsTree net → Ranked net (depth net)
unfolding depth
ranked net t =
    record {
      low = λ w. climb_length net (node_count net) w;
      positive = λ w in_. climb_some (node_count net) w (omega (arith, in_));
      falls = λ w m h. depth_falls net t w m h;
    }
  where
    climb_some : (k w : ℕ) → 0 < k → 0 < length (climb net k w)
    climb_some zero w p = absurd (omega (arith, p))
    climb_some (suc k) w p = omega arith

-- where there is a rank, each chain ends at the master
pub climb_ends : (net : Net) (r : ℕ → ℕ) → IsHung net → Ranked net r → (k w : ℕ) → w < node_count net → r w ≤ k
    → 0 < r w → last_or w (climb net k w) ≡ 0
climb_ends net r h rank zero w low small big = absurd (omega (arith, small, big))
climb_ends net r h rank (suc k) w low small big =
    go (hop net w) refl (λ m in_ s b. climb_ends net r h rank k m in_ s b)
  where
    none_true : false ≡ true → ⊥
    none_true e = cc

    top_alone : (v : ℕ) → v < node_count net → hop net v ≡ None → v ≡ 0
    top_alone zero in_ e = refl
    top_alone (suc v) in_ e =
        absurd (none_true (subst (λ (o : Option ℕ). option_map_or (is_manager net) o false ≡ true) e
        (h.hops (suc v) (omega arith) in_)))

    last_more : (m j : ℕ) → 0 < j → last_or w (climb net j m) ≡ last_or m (climb net j m)
    last_more m zero p = absurd (omega (arith, p))
    last_more m (suc j) p = refl

    go : (o : Option ℕ) → hop net w ≡ o
        → ((m : ℕ) → m < node_count net → r m ≤ k → 0 < r m → last_or m (climb net k m) ≡ 0)
        → last_or w (w ∷ option_map_or (climb net k) o []) ≡ 0
    go None e later = top_alone w low e
    go (Some m) e later =
        let fall : r m < r w = rank.falls w m e in
        let in_ : m < node_count net = manager_inside net m (managed_hop net h w m low e) in
        ends_or_not (r m) refl fall in_ later
      where
        ends_or_not : (d : ℕ) → r m ≡ d → r m < r w → m < node_count net
            → ((m : ℕ) → m < node_count net → r m ≤ k → 0 < r m → last_or m (climb net k m) ≡ 0)
            → last_or w (climb net k m) ≡ 0
        ends_or_not zero d fall in_ later = absurd (omega (arith, rank.positive m in_, d))
        ends_or_not (suc d) is fall in_ later =
            last_more m k (omega (arith, fall, small, is))
            ∙ later m in_ (omega (arith, fall, small)) (omega (arith, is))
