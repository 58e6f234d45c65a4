-- Who is behind one that manages no domain: nobody.
use Rattle.std.proofs.Common.{◌≡◌, ◌≢◌, ◌∷◌, ◌+◌, ◌<◌, ◌≤◌, ◌∙◌, [], ℕ, Bool, List, None, Option, Some, ap, arith, false, inl, inr}
use Rattle.std.proofs.Common.{length, refl, suc, sym, true, zero}
use Rattle.std.proofs.lemmas.Bool.Decides.{eqb_tells}
use Rattle.std.specs.List.{list_any}
use Rattle.std.specs.Option.{option_map_or}
use Rattle.std.specs.Prelude.{◌&&◌, ◌||◌, ◌==◌, drop, not, option_and_then, slice_get}
use Rattle.lemmas.proofs.Booleans.{or_false}
use Rattle.model.specs.Types.{Events, Net, Node}
use Rattle.model.specs.Words.{below, has, numbers_from, some_is}
use Rattle.model.specs.Network.{IsTree, climb, hop, is_behind, is_manager, node_count}
use Rattle.model.specs.History.{View}
use Rattle.model.specs.Forwarding.{forwards, is_under, wants}

neither : (a b c d : Bool) → b ≡ false → c ≡ false → ((a && b) || (c && d)) ≡ false
neither true b c d h k = rw (h, k) refl
neither false b c d h k = rw k refl

neither_way : (a b c d e : Bool) → a ≡ false → e ≡ false → ((a && b) || (c && (d && e))) ≡ false
neither_way a b true true e h k = rw h k
neither_way a b true false e h k = rw h refl
neither_way a b false d e h k = rw h refl

-- a workstation with a hop is one of the network
inside : {X : Type 0} (g : Node → Option X) (nodes : List Node) (w : ℕ) (x : X)
    → option_and_then g (slice_get nodes w) ≡ Some x → w < length nodes
inside g [] w x e = cc
inside g (n ∷ nodes) zero x e = omega arith
inside g (n ∷ nodes) (suc w) x e = let h = inside g nodes w x e in omega (arith, h)

-- each hop manages a domain
hop_manages : (net : Net) → IsTree net → (w m : ℕ) → hop net w ≡ Some m → is_manager net m ≡ true
hop_manages net tree zero m e = absurd (let q : None ≡ Some m = sym tree.top ∙ e in cc)
hop_manages net tree (suc w) m e =
    sym (ap (λ (o : Option ℕ). option_map_or (is_manager net) o false) e)
    ∙ tree.hops (suc w) (omega arith) (inside (λ (n : Node). n.hop) net.nodes (suc w) m e)

-- who stands above one in its chain manages a domain
above : (net : Net) → IsTree net → (k w m : ℕ) → has (option_map_or (climb net k) (hop net w) []) m ≡ true
    → is_manager net m ≡ true
above net tree zero w m h = go (hop net w) h
  where
    go : (o : Option ℕ) → has (option_map_or (climb net zero) o []) m ≡ true → is_manager net m ≡ true
    go None t = cc
    go (Some up) t = cc
above net tree (suc k) w m h = go (hop net w) refl h (λ v t. above net tree k v m t)
  where
    go : (o : Option ℕ) → hop net w ≡ o → has (option_map_or (climb net (suc k)) o []) m ≡ true
        → ((v : ℕ) → has (option_map_or (climb net k) (hop net v) []) m ≡ true → is_manager net m ≡ true)
        → is_manager net m ≡ true
    go None e t further = cc
    go (Some up) e t further =
        elim (eqb_tells up m) [
          | inl s ↦ hop_manages net tree w m (e ∙ ap Some s.1)
          | inr s ↦ further up
              (ap (λ (b : Bool). b || has (option_map_or (climb net k) (hop net up) []) m) (sym s.0) ∙ t)
        ]

climbed : (net : Net) → IsTree net → (n w m : ℕ) → has (drop 1 (climb net n w)) m ≡ true → is_manager net m ≡ true
climbed net tree zero w m h = cc
climbed net tree (suc k) w m h = above net tree k w m h

nobody_behind : (net : Net) → IsTree net → (m : ℕ) → is_manager net m ≡ false → (v : ℕ) → is_behind net v m ≡ false
nobody_behind net tree m h v = go (is_behind net v m) refl
  where
    go : (b : Bool) → is_behind net v m ≡ b → b ≡ false
    go false e = refl
    go true e = absurd (let q : true ≡ false = sym (climbed net tree (node_count net) v m e) ∙ h in cc)

none_from : (P : ℕ → Bool) (i k : ℕ) → ((v : ℕ) → i ≤ v → P v ≡ false) → list_any P (numbers_from i k) ≡ false
none_from P i zero h = refl
none_from P i (suc k) h =
    ap (λ (b : Bool). b || list_any P (numbers_from (i + 1) k)) (h i (omega arith))
    ∙ none_from P (i + 1) k (λ v g. h v (omega (arith, g)))

one_from : (P W : ℕ → Bool) (m : ℕ) → ((v : ℕ) → P v ≡ ((v == m) && W v)) → (i k : ℕ) → i ≤ m → m < i + k
    → list_any P (numbers_from i k) ≡ W m
one_from P W m h i zero low high = absurd (omega (arith, low, high))
one_from P W m h i (suc k) low high =
    elim (eqb_tells i m) [
      | inl e ↦ (λ j. (h i ∙ ap (λ (b : Bool). b && W i) e.0 ∙ ap W e.1) j || none_from P (i + 1) k (later e.1) j)
          ∙ or_false (W m)
      | inr e ↦ ap (λ (b : Bool). b || list_any P (numbers_from (i + 1) k)) (h i ∙ ap (λ (b : Bool). b && W i) e.0)
          ∙ one_from P W m h (i + 1) k (apart e.1) (omega (arith, high))
    ]
  where
    apart : (i ≡ m → ⊥) → i + 1 ≤ m
    apart e = omega (arith, low, e)

    later : i ≡ m → (v : ℕ) → i + 1 ≤ v → P v ≡ false
    later e v g =
        elim (eqb_tells v m) [
          | inl s ↦ absurd (omega (arith, g, e, s.1))
          | inr s ↦ h v ∙ ap (λ (b : Bool). b && W v) s.0
        ]

-- of those who are m or behind it, only m itself counts
pub only_itself : (net : Net) (W : ℕ → Bool) (m : ℕ) → IsTree net → is_manager net m ≡ false → m < node_count net
    → list_any (λ v. ((v == m) || is_behind net v m) && W v) (below (node_count net)) ≡ W m
only_itself net W m tree h inside =
    one_from (λ v. ((v == m) || is_behind net v m) && W v) W m
    (λ v. ap (λ (b : Bool). ((v == m) || b) && W v) (nobody_behind net tree m h v)
    ∙ ap (λ (b : Bool). b && W v) (or_false (v == m)))
    0 (node_count net) (omega arith) (omega (arith, inside))

-- one that manages no domain passes on its own events alone
pub own_alone : (net : Net) (V : View) (n m x : ℕ) → IsTree net → is_manager net n ≡ false → x ≢ n
    → forwards net V n m (Events x) ≡ false
unfolding forwards
own_alone net V n m x tree h other =
    neither (some_is (hop net n) m) (is_under net x n) (some_is (hop net m) n)
    (not (is_under net x m) && list_any (λ v. is_under net v m && wants net V v x) (below (node_count net)))
    (λ i. apart i || nobody_behind net tree n h x i) (go (hop net m) refl)
  where
    apart : (x == n) ≡ false
    apart = elim (eqb_tells x n) [ inl e ↦ absurd (other e.1) | inr e ↦ e.0 ]

    go : (o : Option ℕ) → hop net m ≡ o → some_is o n ≡ false
    go None e = refl
    go (Some up) e =
        elim (eqb_tells up n) [
          | inl s ↦ absurd (let q : true ≡ false = sym (hop_manages net tree m n (e ∙ ap Some s.1)) ∙ h in cc)
          | inr s ↦ s.0
        ]

-- events do not go down to one whom nobody is behind, and who does not want them
pub not_down : (net : Net) (V : View) (n m x : ℕ) → IsTree net → is_manager net m ≡ false → m < node_count net
    → some_is (hop net n) m ≡ false → wants net V m x ≡ false → forwards net V n m (Events x) ≡ false
unfolding forwards
not_down net V n m x tree h inside up unwanted =
    let nobody : list_any (λ v. is_under net v m && wants net V v x) (below (node_count net)) ≡ false =
    only_itself net (λ v. wants net V v x) m tree h inside ∙ unwanted in
    neither_way (some_is (hop net n) m) (is_under net x n) (some_is (hop net m) n) (not (is_under net x m))
    (list_any (λ v. is_under net v m && wants net V v x) (below (node_count net))) up nobody
