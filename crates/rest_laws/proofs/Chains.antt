-- Chains of hops in a tree: who stands in them, who comes before whom, and what lies on the way.
use Rattle.std.proofs.Common.{◌≡◌, ◌≢◌, ℕ, zero, suc, ◌<◌, Bool, true, false, ◌||◌, inl, inr, List, []}
use Rattle.std.proofs.Common.{◌∷◌, refl, ap, sym, subst, ◌∙◌, arith, Option, Some, None}
use Rattle.std.proofs.lemmas.Bool.{eq-eqb}
use Rattle.std.proofs.lemmas.Bool.Decides.{eqb_tells}
use Rattle.std.specs.Option.{option_map_or}
use Rattle.std.specs.Prelude.{drop, eqb}
use Rattle.lemmas.proofs.Booleans.{contrary, or_made_left, or_made_right}
use Rattle.model.specs.Types.{Net}
use Rattle.model.specs.Words.{has, last_or}
use Rattle.model.specs.Network.{IsTree, chain, climb, hop, is_behind, is_manager, node_count, one_before}
use Rattle.model.specs.Forwarding.{is_under}
use Rattle.model_laws.proofs.Ranks.{manager_inside}

pub or_rest : (a b : Bool) → a ≡ false → (a || b) ≡ true → b ≡ true
or_rest true b h k = cc
or_rest false b h k = k

no_some : (q : ℕ) → None ≡ Some q → ⊥
no_some q e = cc

some_one : (p q : ℕ) → Some p ≡ Some q → p ≡ q
some_one p q e = cc

-- in a chain that ends at the master, the hop of each stands behind
pub hop_behind : (net : Net) → hop net 0 ≡ None → (k v w q : ℕ) → last_or v (climb net k v) ≡ 0
    → has (climb net k v) w ≡ true → hop net w ≡ Some q → has (drop 1 (climb net k v)) q ≡ true
hop_behind net top zero v w q e h g = absurd (contrary h refl)
hop_behind net top (suc zero) v w q e h g = absurd (go (hop net v) refl e h)
  where
    go : (o : Option ℕ) → hop net v ≡ o → last_or v (v ∷ option_map_or (climb net 0) o []) ≡ 0
        → (eqb v w || has (option_map_or (climb net 0) o []) w) ≡ true → ⊥
    go None f e h =
        elim (eqb_tells v w) [
          | inl k ↦ no_some q (sym f ∙ subst (λ (i : ℕ). hop net i ≡ Some q) (sym k.1) g)
          | inr k ↦ contrary (or_rest (eqb v w) false k.0 h) refl
        ]
    go (Some p) f e h =
        elim (eqb_tells v w) [
          | inl k ↦ no_some q (sym top ∙ subst (λ (i : ℕ). hop net i ≡ Some q) (sym k.1 ∙ e) g)
          | inr k ↦ contrary (or_rest (eqb v w) false k.0 h) refl
        ]
hop_behind net top (suc (suc k)) v w q e h g =
    go (hop net v) refl e h (λ p e h. hop_behind net top (suc k) p w q e h g)
  where
    go : (o : Option ℕ) → hop net v ≡ o → last_or v (v ∷ option_map_or (climb net (suc k)) o []) ≡ 0
        → (eqb v w || has (option_map_or (climb net (suc k)) o []) w) ≡ true
        → ((p : ℕ) → last_or p (climb net (suc k) p) ≡ 0 → has (climb net (suc k) p) w ≡ true
        → has (drop 1 (climb net (suc k) p)) q ≡ true)
        → has (option_map_or (climb net (suc k)) o []) q ≡ true
    go None f e h more =
        elim (eqb_tells v w) [
          | inl i ↦ absurd (no_some q (sym f ∙ subst (λ (i : ℕ). hop net i ≡ Some q) (sym i.1) g))
          | inr i ↦ absurd (contrary (or_rest (eqb v w) false i.0 h) refl)
        ]
    go (Some p) f e h more =
        elim (eqb_tells v w) [
          | inl i ↦ or_made_left (eqb p q) _ (eq-eqb p q (some_one p q (sym f ∙ subst (λ (i : ℕ). hop net i ≡ Some q)
              (sym i.1) g)))
          | inr i ↦ or_made_right (eqb p q) _ (more p e (or_rest (eqb v w) _ i.0 h))
        ]

-- the one before u in a chain in which u stands behind: its hop is u
pub record IsBefore (net : Net) (xs : List ℕ) (u : ℕ) : Type 0 where
  pub who : ℕ
  pub is : one_before u xs ≡ Some who
  pub among : has xs who ≡ true
  pub hops : hop net who ≡ Some u

one_here : (w p u : ℕ) (xs : List ℕ) → eqb p u ≡ true → one_before u (w ∷ p ∷ xs) ≡ Some w
one_here w p u xs e = rw e refl

one_later : (w p u : ℕ) (xs : List ℕ) → eqb p u ≡ false → one_before u (w ∷ p ∷ xs) ≡ one_before u (p ∷ xs)
one_later w p u xs e = rw e refl

pub before_there : (net : Net) (k w u : ℕ) → has (drop 1 (climb net k w)) u ≡ true → IsBefore net (climb net k w) u
before_there net zero w u h = absurd (contrary h refl)
before_there net (suc zero) w u h = absurd (go (hop net w) h)
  where
    go : (o : Option ℕ) → has (option_map_or (climb net 0) o []) u ≡ true → ⊥
    go None h = contrary h refl
    go (Some p) h = contrary h refl
before_there net (suc (suc k)) w u h = go (hop net w) refl h (λ p h. before_there net (suc k) p u h)
  where
    go : (o : Option ℕ) → hop net w ≡ o → has (option_map_or (climb net (suc k)) o []) u ≡ true
        → ((p : ℕ) → has (drop 1 (climb net (suc k) p)) u ≡ true → IsBefore net (climb net (suc k) p) u)
        → IsBefore net (w ∷ option_map_or (climb net (suc k)) o []) u
    go None f h more = absurd (contrary h refl)
    go (Some p) f h more =
        elim (eqb_tells p u) [
          | inl i ↦ record {
            who = w;
            is = one_here w p u (option_map_or (climb net k) (hop net p) []) i.0;
            among = or_made_left (eqb w w) _ (eq-eqb w w refl);
            hops = f ∙ ap Some i.1;
          }
          | inr i ↦ let b : IsBefore net (climb net (suc k) p) u = more p (or_rest (eqb p u) _ i.0 h) in
              record {
                who = b.who;
                is = one_later w p u (option_map_or (climb net k) (hop net p) []) i.0 ∙ b.is;
                among = or_made_right (eqb w b.who) _ b.among;
                hops = b.hops;
              }
        ]

-- a workstation's chain begins with it
chain_parts : (net : Net) (k v m : ℕ) → 0 < k
    → has (climb net k v) m ≡ (eqb v m || has (drop 1 (climb net k v)) m)
chain_parts net zero v m low = absurd (omega (arith, low))
chain_parts net (suc k) v m low = refl

last_among : (d x : ℕ) (xs : List ℕ) → has (x ∷ xs) (last_or d (x ∷ xs)) ≡ true
last_among d x [] = or_made_left (eqb x x) false (eq-eqb x x refl)
last_among d x (y ∷ ys) = or_made_right (eqb x (last_or x (y ∷ ys))) _ (last_among x y ys)

climb_last : (net : Net) (k v : ℕ) → 0 < k → has (climb net k v) (last_or v (climb net k v)) ≡ true
climb_last net zero v low = absurd (omega (arith, low))
climb_last net (suc k) v low = last_among v v (option_map_or (climb net k) (hop net v) [])

module _ (net : Net) (tree : IsTree net) where
  pub under_self : (v : ℕ) → is_under net v v ≡ true
  under_self v = or_made_left (eqb v v) _ (eq-eqb v v refl)

  pub under_is : (v m : ℕ) → v < node_count net → has (chain net v) m ≡ is_under net v m
  under_is v m low = chain_parts net (node_count net) v m (omega (arith, low))

  pub under_hop : (v w q : ℕ) → v < node_count net → is_under net v w ≡ true → hop net w ≡ Some q
      → is_under net v q ≡ true
  under_hop v w q low h g =
      or_made_right (eqb v q) _
      (hop_behind net tree.top (node_count net) v w q (tree.ends v low) (under_is v w low ∙ h) g)

  pub under_top : (v : ℕ) → v < node_count net → is_under net v 0 ≡ true
  under_top v low =
      sym (under_is v 0 low)
      ∙ subst (λ (i : ℕ). has (chain net v) i ≡ true) (tree.ends v low)
      (climb_last net (node_count net) v (omega (arith, low)))

  -- nobody stands behind the master
  pub top_behind_none : (m : ℕ) → is_behind net 0 m ≡ false
  top_behind_none m = go (node_count net)
    where
      go : (k : ℕ) → has (drop 1 (climb net k 0)) m ≡ false
      go zero = refl
      go (suc k) = rw tree.top refl

  -- all others have a hop
  pub record HasHop (v : ℕ) : Type 0 where
    pub to : ℕ
    pub is : hop net v ≡ Some to
    pub inside : to < node_count net

  pub has_hop : (v : ℕ) → v < node_count net → v ≢ 0 → HasHop v
  has_hop v low other = go (hop net v) refl (tree.hops v (omega (arith, other)) low)
    where
      go : (o : Option ℕ) → hop net v ≡ o → option_map_or (is_manager net) o false ≡ true → HasHop v
      go None e h = absurd (contrary h refl)
      go (Some q) e h = record { to = q; is = e; inside = manager_inside net q h }
