-- Whether all readings are less than one, told by the greatest of them.
use Rattle.std.proofs.Common.{[], ℕ, ◌&&◌, ◌+◌, ◌<◌, ◌∙◌, ◌∷◌, ◌≡◌, ◌≤◌, ◌⊎◌, Bool, List, None, Option, Some, add-one, ap, arith}
use Rattle.std.proofs.Common.{cond, drop, false, filter_map, inl, inr, nat_lt, not, refl, slice_get, subst, sym, true}
use Rattle.std.proofs.lemmas.Bool.{le-ltb, ltb-false, ltb-true}
use Rattle.std.specs.Bool.{Decides}
use Rattle.std.specs.List.{list_all, list_any}
use Rattle.std.specs.Prelude.{◌||◌}
use Rattle.lemmas.proofs.Booleans.{and_false}
use Rattle.model_laws.proofs.Times.{above_greatest}
use Rattle.model.specs.Types.{Body, Clock, Entry, Events}
use Rattle.model.specs.Words.{greatest, nth}
use Rattle.model.specs.History.{list_of}
use Rattle.model.specs.Facts.{now, reading}
use Rattle.model.specs.Sound.{IsInTime}
use Rattle.event_audit.specs.Times.{is_reading}
use Rattle.event_audit.proofs.Behind.{left_some}

-- one is less than the other, or not
less_or_not : (a b : ℕ) → ((nat_lt a b ≡ true) × (a < b)) ⊎ ((nat_lt a b ≡ false) × (b ≤ a))
less_or_not a b = go (nat_lt a b) refl
  where
    go : (t : Bool) → nat_lt a b ≡ t → ((nat_lt a b ≡ true) × (a < b)) ⊎ ((nat_lt a b ≡ false) × (b ≤ a))
    go true h = inl (h, ltb-true a b h)
    go false h = inr (h, ltb-false a b h)

not_all_less : (t : ℕ) (xs : List ℕ) → 0 < t → t ≤ greatest xs → list_all (λ u. nat_lt u t) xs ≡ false
not_all_less t [] some h = absurd (omega (arith, some, h))
not_all_less t (x ∷ xs) some h = elim (less_or_not x (greatest xs)) [
  | inl l ↦ let same : cond (nat_lt x (greatest xs)) (greatest xs) x ≡ greatest xs = rw l.0 refl in
      ap (λ (b : Bool). nat_lt x t && b) (not_all_less t xs some (omega (arith, h, same))) ∙ and_false (nat_lt x t)
  | inr l ↦ let same : cond (nat_lt x (greatest xs)) (greatest xs) x ≡ x = rw l.0 refl in
      ap (λ (b : Bool). b && list_all (λ u. nat_lt u t) xs) (le-ltb x t (omega (arith, h, same)))
]

-- all readings are less than t where the greatest is, and not where that is t or more and t is not 0
pub after_now : (t : ℕ) (events : List Body) → now events < t
    → list_all (λ u. nat_lt u t) (filter_map reading events) ≡ true
unfolding now
after_now t events h = above_greatest t (filter_map reading events) h

pub not_after_now : (t : ℕ) (events : List Body) → 0 < t → t ≤ now events
    → list_all (λ u. nat_lt u t) (filter_map reading events) ≡ false
unfolding now
not_after_now t events some h = not_all_less t (filter_map reading events) some h

pub later_so : (before : List Entry) (w t n : ℕ) → n ≡ now (list_of before (Events w)) → n < t
    → Decides true (IsInTime before w (Clock t))
later_so before w t n is less =
    let h : now (list_of before (Events w)) < t = subst (λ (m : ℕ). m < t) is less in (
      λ e. after_now t (list_of before (Events w)) h,
      λ e. refl,
    )

pub not_later_so : (before : List Entry) (w t n : ℕ) → n ≡ now (list_of before (Events w)) → 0 < t → t ≤ n
    → Decides false (IsInTime before w (Clock t))
not_later_so before w t n is some h =
    let other = not_after_now t (list_of before (Events w)) some (subst (λ (m : ℕ). t ≤ m) is h) in (
      λ e. cc,
      λ e. cc,
    )

-- a reading of 0 is later than none, where there is none
none_below : (events : List Body)
    → list_all (λ u. nat_lt u 0) (filter_map reading events) ≡ not (list_any is_reading events)
none_below [] = refl
none_below (b ∷ bs) = go (reading b) refl (none_below bs)
  where
    go : (o : Option ℕ) → reading b ≡ o
        → list_all (λ u. nat_lt u 0) (filter_map reading bs) ≡ not (list_any is_reading bs)
        → list_all (λ u. nat_lt u 0) (filter_map reading (b ∷ bs)) ≡ not (list_any is_reading (b ∷ bs))
    go None e h = rw e h
    go (Some u) e h = rw (e, le-ltb u 0 (omega arith)) refl

pub first_so : (before : List Entry) (w t : ℕ) (r : Bool) → t ≡ 0
    → r ≡ list_any is_reading (list_of before (Events w)) → Decides (not r) (IsInTime before w (Clock t))
first_so before w t r zero_ e =
    let same : list_all (λ u. nat_lt u t) (filter_map reading (list_of before (Events w))) ≡ not r =
    ap (λ (m : ℕ). list_all (λ u. nat_lt u m) (filter_map reading (list_of before (Events w)))) zero_
    ∙ none_below (list_of before (Events w)) ∙ ap not (sym e) in (
      λ h. same ∙ h,
      λ h. sym same ∙ h,
    )

next_place : (events : List Body) (n : ℕ) (b : Body) → nth events (n + 1) ≡ Some b → slice_get events n ≡ Some b
next_place events n b e = subst (λ (i : ℕ). nth events i ≡ Some b) (add-one n) e

-- the walk over a list, one further
pub reading_found : (events : List Body) (n : ℕ) (b : Body) (all : Bool) → nth events (n + 1) ≡ Some b
    → is_reading b ≡ true → all ≡ list_any is_reading (drop n events) → true ≡ all
reading_found events n b all there yes_ e =
    sym (e ∙ ap (list_any is_reading) (left_some events n b (next_place events n b there))
    ∙ ap (λ (t : Bool). t || list_any is_reading (drop (n + 1) events)) yes_)

pub reading_passed : (events : List Body) (n : ℕ) (b : Body) (all : Bool) → nth events (n + 1) ≡ Some b
    → is_reading b ≡ false → all ≡ list_any is_reading (drop n events)
    → all ≡ list_any is_reading (drop (n + 1) events)
reading_passed events n b all there no_ e =
    e ∙ ap (list_any is_reading) (left_some events n b (next_place events n b there))
    ∙ ap (λ (t : Bool). t || list_any is_reading (drop (n + 1) events)) no_
