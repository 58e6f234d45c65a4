-- Chains of hops, step by step.
use Rattle.std.proofs.Common.{◌≡◌, ℕ, [], ◌∷◌, ◌||◌, Bool, List, None, Option, Some, ap, drop, eqb, false}
use Rattle.std.proofs.Common.{if◌then◌else◌, inl, inr, is_some, option_and_then, refl, subst, suc, sym}
use Rattle.std.proofs.Common.{true, zero, ◌∙◌, ◌⊎◌, ◌<◌, ◌≤◌, arith}
use Rattle.std.proofs.lemmas.Bool.Decides.{eqb_tells}
use Rattle.std.specs.Option.{option_map_or}
use Rattle.model.specs.Network.{climb, hop, one_before}
use Rattle.model.specs.Types.{Net}
use Rattle.model.specs.Words.{has, last_or}

-- k hops above w
abbrev pub up : Net → ℕ → ℕ → Option ℕ
up net zero w = Some w
up net (suc k) w = option_and_then (up net k) (hop net w)

-- the chain of one that may be there
abbrev pub above : Net → ℕ → Option ℕ → List ℕ
above net m o = option_map_or (climb net m) o []

module _ (net : Net) where
  -- the last hop may be made first
  pub up_last : (k w : ℕ) → up net (suc k) w ≡ option_and_then (hop net) (up net k w)
  up_last zero w = go (hop net w)
    where
      go : (o : Option ℕ) → option_and_then (up net 0) o ≡ o
      go None = refl
      go (Some h) = refl
  up_last (suc k) w = go (hop net w) (up_last k)
    where
      go : (o : Option ℕ) → ((h : ℕ) → up net (suc k) h ≡ option_and_then (hop net) (up net k h))
          → option_and_then (up net (suc k)) o ≡ option_and_then (hop net) (option_and_then (up net k) o)
      go None each = refl
      go (Some h) each = each h

  -- from whom the master is above, nobody comes back to itself
  pub no_return : hop net 0 ≡ None → (j i w : ℕ) → up net j w ≡ Some 0 → up net (suc i) w ≡ Some w → ⊥
  no_return root zero i w ends back =
      let at : w ≡ 0 = cc in
      let stuck : up net (suc i) 0 ≡ None = ap (option_and_then (up net i)) root in
      let again : up net (suc i) 0 ≡ Some 0 = subst (λ v. up net (suc i) v ≡ Some v) at back in
      cc
  no_return root (suc j) i w ends back = go (hop net w) refl (no_return root j i)
    where
      go : (o : Option ℕ) → hop net w ≡ o → ((h : ℕ) → up net j h ≡ Some 0 → up net (suc i) h ≡ Some h → ⊥) → ⊥
      go None e each =
          let stuck : up net (suc i) w ≡ None = ap (option_and_then (up net i)) e in
          cc
      go (Some h) e each =
          let higher : up net j h ≡ Some 0 = sym (ap (option_and_then (up net j)) e) ∙ ends in
          let round : up net i h ≡ Some w = sym (ap (option_and_then (up net i)) e) ∙ back in
          let more : up net (suc i) h ≡ Some h = up_last i h ∙ (ap (option_and_then (hop net)) round ∙ e) in
          each h higher more

  -- who stands in a chain is so many hops above
  pub has_up : (m w x : ℕ) → has (climb net m w) x ≡ true → (k : ℕ) × (up net k w ≡ Some x)
  has_up zero w x h = cc
  has_up (suc m) w x h =
      elim (eqb_tells w x) [
        | inl e ↦ (0, ap Some e.1)
        | inr e ↦
            let there =
            go (hop net w)
            (subst (λ b. (b || has (above net m (hop net w)) x) ≡ true) e.0 h)
            (λ v. has_up m v x) in
            (suc there.0, there.1)
      ]
    where
      go : (o : Option ℕ) → has (above net m o) x ≡ true
          → ((v : ℕ) → has (climb net m v) x ≡ true → (k : ℕ) × (up net k v ≡ Some x))
          → (k : ℕ) × (option_and_then (up net k) o ≡ Some x)
      go None h each = cc
      go (Some v) h each = each v h

  -- and who stands behind its first place at least one
  pub above_up : (m w x : ℕ) → has (drop 1 (climb net m w)) x ≡ true → (k : ℕ) × (up net (suc k) w ≡ Some x)
  above_up zero w x h = cc
  above_up (suc m) w x h = go (hop net w) h
    where
      go : (o : Option ℕ) → has (above net m o) x ≡ true → (k : ℕ) × (option_and_then (up net k) o ≡ Some x)
      go None h = cc
      go (Some v) h = has_up m v x h

  -- the one before a has the hop a
  pub before_hop : (m w a c : ℕ) → one_before a (climb net m w) ≡ Some c → hop net c ≡ Some a
  before_hop zero w a c h = cc
  before_hop (suc zero) w a c h = go (hop net w) h
    where
      go : (o : Option ℕ) → one_before a (w ∷ above net 0 o) ≡ Some c → hop net c ≡ Some a
      go None h = cc
      go (Some v) h = cc
  before_hop (suc (suc m)) w a c h = go (hop net w) refl h (λ v. before_hop (suc m) v a c)
    where
      go : (o : Option ℕ) → hop net w ≡ o → one_before a (w ∷ above net (suc m) o) ≡ Some c
          → ((v : ℕ) → one_before a (climb net (suc m) v) ≡ Some c → hop net c ≡ Some a)
          → hop net c ≡ Some a
      go None e h each = cc
      go (Some v) e h each =
          elim (eqb_tells v a) [
            | inl t ↦
                let first : Some w ≡ Some c =
                sym (ap (λ b. if b then Some w else one_before a (climb net (suc m) v)) t.0) ∙ h in
                let same : w ≡ c = cc in
                subst (λ x. hop net x ≡ Some a) same (e ∙ ap Some t.1)
            | inr t ↦ each v (sym (ap (λ b. if b then Some w else one_before a (climb net (suc m) v)) t.0) ∙ h)
          ]

-- one stands before a where a stands behind the first place
pub before_has : (a : ℕ) (xs : List ℕ) → is_some (one_before a xs) ≡ has (drop 1 xs) a
before_has a [] = refl
before_has a (x ∷ []) = refl
before_has a (x ∷ y ∷ ys) = go (eqb y a) (before_has a (y ∷ ys))
  where
    go : (b : Bool) → is_some (one_before a (y ∷ ys)) ≡ has ys a
        → is_some (if b then Some x else one_before a (y ∷ ys)) ≡ (b || has ys a)
    go true h = refl
    go false h = h

-- the last of a list stands in it
pub last_has : (d v : ℕ) (xs : List ℕ) → last_or d xs ≡ v → (d ≡ v) ⊎ (has xs v ≡ true)
last_has d v [] h = inl h
last_has d v (x ∷ xs) h =
    elim (last_has x v xs h) [
      | inl e ↦ inr (elim (eqb_tells x v) [ inl t ↦ rw t.0 refl | inr t ↦ absurd (t.1 e) ])
      | inr e ↦ inr (go (eqb x v) e)
    ]
  where
    go : (b : Bool) → has xs v ≡ true → (b || has xs v) ≡ true
    go true h = refl
    go false h = h

module _ (net : Net) where
  -- a walk of one place is at its last one
  pub last_end : (m w : ℕ) → m ≤ 1 → last_or w (climb net m w) ≡ w
  last_end zero w h = refl
  last_end (suc zero) w h = go (hop net w)
    where
      go : (o : Option ℕ) → last_or w (w ∷ above net 0 o) ≡ w
      go None = refl
      go (Some v) = refl
  last_end (suc (suc m)) w h = absurd (omega arith)

  -- so is one at a workstation without a hop
  pub last_none : (m w : ℕ) → hop net w ≡ None → last_or w (climb net m w) ≡ w
  last_none zero w h = refl
  last_none (suc m) w h = ap (λ o. last_or w (w ∷ above net m o)) h

  -- the last place is that of the walk from the hop
  pub last_more : (m k w h : ℕ) → m ≡ suc k → 0 < k → hop net w ≡ Some h
      → last_or w (climb net m w) ≡ last_or h (climb net k h)
  last_more m zero w h is some e = absurd (omega arith)
  last_more m (suc k) w h is some e =
      ap (λ v. last_or w (climb net v w)) is ∙ ap (λ o. last_or w (w ∷ above net (suc k) o)) e
