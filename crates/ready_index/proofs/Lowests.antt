-- The first of a set of numbers that passes a test, and the lowest own member that does.
use Rattle.std.proofs.Common.{[], ℕ, ◌<◌, ◌≤◌, ◌∙◌, ◌∷◌, ◌≡◌, ◌⊎◌, Bool, List, None, Option, Some, ap, arith, cond}
use Rattle.std.proofs.Common.{false, filter, find, inl, inr, map, refl, subst, sym, true}
use Rattle.std.proofs.lemmas.Bool.Decides.{nat_tests}
use Rattle.std.specs.Prelude.{◌==◌, ◌||◌, nat_lt, not}
use Rattle.model_laws.proofs.Decisions.{stream_number}
use Rattle.model.specs.Types.{StreamDoc}
use Rattle.model.specs.Words.{least, lesser}
use Rattle.model.specs.History.{View}
use Rattle.model.specs.Catalogue.{catalogue, is_member, stream, streams_of}
use Rattle.model.specs.OwnMembers.{own_numbers, own_streams}
use Rattle.ready_index.specs.Lists.{Among, InOrder}
use Rattle.ready_index.proofs.Elements.{filter_has, filter_keeps, filter_none, found_among, found_true, map_among}

-- the least of some numbers is one of them
least_among : (xs : List ℕ) (y : ℕ) → least xs ≡ Some y → Among y xs
least_among [] y e = cc
least_among (z ∷ zs) y e = go (least zs) refl (least_among zs y) e
  where
    go : (o : Option ℕ) → least zs ≡ o → (least zs ≡ Some y → Among y zs) → Some (lesser z o) ≡ Some y
        → Among y (z ∷ zs)
    go None f ih g = let t : y ≡ z = cc in inl t
    go (Some u) f ih g = by (nat_lt u z) refl
      where
        by : (b : Bool) → nat_lt u z ≡ b → Among y (z ∷ zs)
        by true t =
            let q : lesser z (Some u) ≡ u = ap (λ (c : Bool). cond c u z) t in
            let r : Some y ≡ Some u = sym g ∙ ap Some q in
            let v : y ≡ u = cc in inr (ih (f ∙ ap Some (sym v)))
        by false t =
            let q : lesser z (Some u) ≡ z = ap (λ (c : Bool). cond c u z) t in
            let r : Some y ≡ Some z = sym g ∙ ap Some q in
            let v : y ≡ z = cc in inl v

-- what is among some numbers, and above none of them, is the least
lowest_is : (xs : List ℕ) (m : ℕ) → Among m xs → ((x : ℕ) → Among x xs → m ≤ x) → least xs ≡ Some m
lowest_is [] m here low = absurd here
lowest_is (x ∷ xs) m here low = go (least xs) refl here (λ k. lowest_is xs m k (λ y h. low y (inr h)))
  where
    below : (a b : ℕ) → a ≤ b → cond (nat_lt b a) b a ≡ a
    below a b h = grind (arith, nat_tests)

    least_of : (b a : ℕ) → a ≤ b → cond (nat_lt a b) a b ≡ a
    least_of b a h = grind (arith, nat_tests)

    go : (o : Option ℕ) → least xs ≡ o → Among m (x ∷ xs) → (Among m xs → least xs ≡ Some m)
        → Some (lesser x o) ≡ Some m
    go None e (inl s) ih = ap Some (sym s)
    go None e (inr k) ih = let t : None ≡ Some m = sym e ∙ ih k in cc
    go (Some y) e (inl s) ih =
        ap (λ (n : ℕ). Some (cond (nat_lt y n) y n)) (sym s)
        ∙ ap Some (below m y (low y (inr (least_among xs y e))))
    go (Some y) e (inr k) ih =
        let t : Some y ≡ Some m = sym e ∙ ih k in
        let same : y ≡ m = cc in
        ap (λ (n : ℕ). Some (cond (nat_lt n x) n x)) same ∙ ap Some (least_of x m (low x (inl refl)))

module _ (P : ℕ → Bool) where
  found_first : (ks : List ℕ) (m : ℕ) → InOrder ◌<◌ ks → find P ks ≡ Some m → (y : ℕ) → Among y ks → P y ≡ true
      → m ≤ y
  found_first [] m ordered e y here h = absurd here
  found_first (k ∷ ks) m ordered e y here h =
      go (P k) refl e here (λ f g. found_first ks m ordered.1 f y g h)
    where
      go : (b : Bool) → P k ≡ b → cond b (Some k) (find P ks) ≡ Some m → Among y (k ∷ ks)
          → (find P ks ≡ Some m → Among y ks → m ≤ y) → m ≤ y
      go true t f (inl s) ih = let q : k ≡ m = cc in omega (arith, q, s)
      go true t f (inr g) ih = let q : k ≡ m = cc in let low : k < y = ordered.0 y g in omega (arith, q, low)
      go false t f (inl s) ih = absurd (let q : P k ≡ true = ap P (sym s) ∙ h in cc)
      go false t f (inr g) ih = ih f g

  none_found : (ks : List ℕ) → find P ks ≡ None → (y : ℕ) → Among y ks → P y ≡ false
  none_found [] e y here = absurd here
  none_found (k ∷ ks) e y here = go (P k) refl e here (λ f g. none_found ks f y g)
    where
      go : (b : Bool) → P k ≡ b → cond b (Some k) (find P ks) ≡ None → Among y (k ∷ ks)
          → (find P ks ≡ None → Among y ks → P y ≡ false) → P y ≡ false
      go true t f g ih = cc
      go false t f (inl s) ih = ap P s ∙ t
      go false t f (inr g) ih = ih f g

  -- the first of ascending numbers that passes is the least of those that pass
  pub first_lowest : (ks xs : List ℕ) → InOrder ◌<◌ ks → ((y : ℕ) → P y ≡ true → Among y ks)
      → ((y : ℕ) → P y ≡ true → Among y xs) → find P ks ≡ least (filter P xs)
  first_lowest ks xs ordered known owned = go (find P ks) refl
    where
      nobody : find P ks ≡ None → (y : ℕ) → P y ≡ false
      nobody e y = by (P y) refl
        where
          by : (b : Bool) → P y ≡ b → b ≡ false
          by true t = absurd (let f : P y ≡ false = none_found ks e y (known y t) in cc)
          by false t = refl

      go : (o : Option ℕ) → find P ks ≡ o → o ≡ least (filter P xs)
      go None e = sym (ap least (filter_none P xs (λ y k. nobody e y)))
      go (Some m) e =
          sym
          (lowest_is (filter P xs) m
          (filter_keeps P xs m (owned m (found_true P ks m e)) (found_true P ks m e))
          (λ y k. let h = filter_has P xs y k in found_first ks m ordered e y (known y h.1) h.1))

-- a member of w that is found by its number is an own member
pub own_among : (V : View) (w s : ℕ) (d : StreamDoc) → stream V s ≡ Some d → (d.ws == w) ≡ true
    → is_member V d.no ≡ true → Among s (own_numbers V w)
unfolding own_streams streams_of stream
own_among V w s d found owned member =
    let here : Among d (catalogue V) = found_among (λ (e : StreamDoc). e.no == s) (catalogue V) d found in
    let mine : Among d (filter (λ (e : StreamDoc). e.ws == w) (catalogue V)) =
    filter_keeps (λ (e : StreamDoc). e.ws == w) (catalogue V) d here owned in
    subst (λ (n : ℕ). Among n (own_numbers V w)) (stream_number V s d found)
    (map_among (λ (e : StreamDoc). e.no) (own_streams V w) d
    (filter_keeps (λ (e : StreamDoc). is_member V e.no) (filter (λ (e : StreamDoc). e.ws == w) (catalogue V)) d mine member))

-- one half of what neither is
pub not_or_left : (a b : Bool) → not (a || b) ≡ true → not a ≡ true
not_or_left true b h = cc
not_or_left false b h = refl
