-- What the calls of a network answer, as the definitions say it.
use Rattle.std.proofs.Common.{◌≡◌, ◌≢◌, ◌<◌, ℕ, List, None, Option, Some, ap, arith, map, refl}
use Rattle.std.proofs.Common.{option_and_then, slice_get, sym, unwrap_or, ◌∙◌, IfSome, IsNone, IsTrue, eqb}
use Rattle.std.proofs.Common.{inl, inr}
use Rattle.std.proofs.Common.{false, is_some, not, true}
use Rattle.std.proofs.lemmas.Bool.Decides.{eqb_tells, nat_tests}
use Rattle.std.proofs.lemmas.List.FromFn.{get_or-map-range_with_len, length-map-range_with_len}
use Rattle.std.proofs.lemmas.Option.{slice_get-get_or}
use Rattle.std.specs.List.{range_with_len}
use Rattle.std.specs.Option.{option_eq}
use Rattle.model_laws.proofs.Numbers.{numbers-range}
use Rattle.model.specs.Network.{IsTree, are_neighbours, hop, is_behind, is_manager, node_count, towards}
use Rattle.model.specs.Types.{Net}
use Rattle.model.specs.Words.{below}
use Rattle.network_tree.specs.Ways.{row, table, way}
use Rattle.network_tree.proofs.Trees.{are_so, hop_inside, hop_manager, hop_there, way_inside, way_there}
use Rattle.network_tree.proofs.Trees.{behind_tells, way_to_neighbour}

-- an item of a list over the numbers below
below_at : {X : Type 0} (f : ℕ → X) (n k : ℕ) → k < n → slice_get (map f (below n)) k ≡ Some (f k)
below_at f n k low =
    ap (λ l. slice_get (map f l) k) (numbers-range 0 n)
    ∙ (slice_get-get_or (map f (range_with_len 0 n)) k (f k) (omega (arith, length-map-range_with_len f 0 n))
    ∙ ap Some (get_or-map-range_with_len f 0 n k k (f k) low (omega arith)))

module _ (net : Net) (t : IsTree net) where
  -- the table has the ways
  pub looked_up : (a b : ℕ) → a < node_count net → b < node_count net → a ≢ b
      → option_and_then (λ (r : List ℕ). slice_get r a) (slice_get (table net) b) ≡ towards net a b
  looked_up a b low_a low_b apart =
      let there = way_there net t a b low_a low_b apart in
      let n = node_count net in
      ap (option_and_then (λ (r : List ℕ). slice_get r a)) (below_at (row net) n b low_b)
      ∙ (below_at (λ v. way net v b) n a low_a
      ∙ (ap (λ o. Some (unwrap_or o a)) there.1 ∙ sym there.1))

  -- the master alone has no hop
  pub no_hop : (w : ℕ) → w < node_count net → (IsNone (hop net w) → w ≡ 0) × (w ≡ 0 → IsNone (hop net w))
  no_hop w low =
      elim (eqb_tells w 0) [
        | inl e ↦ (λ h. e.1, λ z. ap is_some (ap (hop net) z ∙ t.top))
        | inr e ↦
            let there : is_some (hop net w) ≡ true = ap is_some (hop_there net t w low e.1).1 in
            (λ h. (cc), λ z. absurd (e.1 z))
      ]

  pub hop_in : (w : ℕ) → IfSome (hop net w) (λ h. h < node_count net)
  hop_in w = go (hop net w) refl
    where
      go : (o : Option ℕ) → hop net w ≡ o → IfSome o (λ h. h < node_count net)
      go None e = tt
      go (Some h) e = hop_inside net t w h e

  pub hop_manages : (w : ℕ) → IfSome (hop net w) (λ h. IsTrue (is_manager net h))
  hop_manages w = go (hop net w) refl
    where
      go : (o : Option ℕ) → hop net w ≡ o → IfSome o (λ h. IsTrue (is_manager net h))
      go None e = tt
      go (Some h) e = hop_manager net t w h e

  -- there is no way from one to itself
  stays : (a b : ℕ) → eqb a b ≡ true → towards net a b ≡ None
  stays a b e = rw e refl

  pub no_way : (a b : ℕ) → a < node_count net → b < node_count net
      → (IsNone (towards net a b) → a ≡ b) × (a ≡ b → IsNone (towards net a b))
  no_way a b low_a low_b =
      elim (eqb_tells a b) [
        | inl e ↦ (λ h. e.1, λ z. ap is_some (stays a b e.0))
        | inr e ↦
            let there : is_some (towards net a b) ≡ true = ap is_some (way_there net t a b low_a low_b e.1).1 in
            (λ h. (cc), λ z. absurd (e.1 z))
      ]

  pub way_in : (a b : ℕ) → IfSome (towards net a b) (λ x. x < node_count net)
  way_in a b = go (towards net a b) refl
    where
      go : (o : Option ℕ) → towards net a b ≡ o → IfSome o (λ x. x < node_count net)
      go None e = tt
      go (Some x) e =
          elim (eqb_tells a b) [
            | inl h ↦ absurd (let none = stays a b h.0 in cc)
            | inr h ↦ way_inside net t a b x h.1 e
          ]

  pub way_near : (a b : ℕ) → IfSome (towards net a b) (λ x. IsTrue (are_neighbours net a x))
  way_near a b = go (towards net a b) refl
    where
      go : (o : Option ℕ) → towards net a b ≡ o → IfSome o (λ x. IsTrue (are_neighbours net a x))
      go None e = tt
      go (Some x) e =
          elim (eqb_tells a b) [
            | inl h ↦ absurd (let none = stays a b h.0 in cc)
            | inr h ↦ are_so net a x (way_to_neighbour net a b x h.1 e)
          ]

  -- one is behind m where the way from m to it is not the hop of m
  pub behind_is : (n m : ℕ) → n < node_count net → m < node_count net → n ≢ m
      → not (option_eq eqb (towards net m n) (hop net m)) ≡ is_behind net n m
  behind_is n m low_n low_m apart =
      elim (behind_tells net t n m low_n low_m apart) [
        | inl e ↦ ap not (unlike (towards net m n) (hop net m) e.1) ∙ sym e.0
        | inr e ↦ ap not (alike (towards net m n) (hop net m) e.1) ∙ sym e.0
      ]
    where
      alike : (o p : Option ℕ) → o ≡ p → option_eq eqb o p ≡ true
      alike None None h = refl
      alike None (Some y) h = cc
      alike (Some x) None h = cc
      alike (Some x) (Some y) h = let k : x ≡ y = cc in grind (arith, nat_tests)

      unlike : (o p : Option ℕ) → (o ≡ p → ⊥) → option_eq eqb o p ≡ false
      unlike None None h = absurd (h refl)
      unlike None (Some y) h = refl
      unlike (Some x) None h = refl
      unlike (Some x) (Some y) h =
          elim (eqb_tells x y) [ inl e ↦ absurd (h (ap Some e.1)) | inr e ↦ e.0 ]
