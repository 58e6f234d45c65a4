-- What is told of a launch, one body further.
use Rattle.std.proofs.Common.{[], ℕ, ◌++◌, ◌∙◌, ◌∷◌, ◌≡◌, ◌≢◌, Bool, List, Some, ap, eqb, false, inl, inr}
use Rattle.std.proofs.Common.{refl, sym, true}
use Rattle.std.proofs.lemmas.Bool.Decides.{eqb_tells}
use Rattle.std.specs.List.{list_any}
use Rattle.std.specs.Prelude.{◌&&◌, ◌||◌}
use Rattle.lemmas.proofs.Booleans.{true_or}
use Rattle.lemmas.proofs.Lists.{any_with}
use Rattle.lemmas.proofs.Numbers.{number_itself}
use Rattle.model.specs.Types.{Added, Body, Clock, Declined, Ended, Failed, Fulfilled, Late, Launched, Lost, NewPlan}
use Rattle.model.specs.Types.{Obeyed, Order, Released, Started, StreamEnded, UntilPassed}
use Rattle.model.specs.Facts.{is_start_of, is_started}
use Rattle.owner_rows.specs.Subjects.{start_in}

started_by : (b : Body) (q : ℕ × ℕ) → start_in b ≡ Some q → is_start_of q.0 q.1 b ≡ true
started_by (Started j n) q h =
    let e : (j, n) ≡ q = cc in
    ap (λ (p : ℕ × ℕ). eqb p.0 j && eqb p.1 n) (sym e) ∙ (λ i. number_itself j i && number_itself n i)
started_by (NewPlan run cut carried docs) q h = cc
started_by (Added a k doc) q h = cc
started_by (Clock t) q h = cc
started_by (Released s seen) q h = cc
started_by (StreamEnded s seen) q h = cc
started_by (UntilPassed p i mark) q h = cc
started_by (Launched j n seen) q h = cc
started_by (Failed j n) q h = cc
started_by (Ended j n rc good) q h = cc
started_by (Lost j n) q h = cc
started_by (Fulfilled p i) q h = cc
started_by (Obeyed a k c) q h = cc
started_by (Declined a k why) q h = cc
started_by (Order c) q h = cc
started_by (Late p i) q h = cc

or_false : (a : Bool) → a ≡ (a || false)
or_false true = refl
or_false false = refl

pub start_told : (events : List Body) (b : Body) (q : ℕ × ℕ) → start_in b ≡ Some q
    → true ≡ is_started q.0 q.1 (events ++ b ∷ [])
unfolding is_started
start_told events b q h =
    true_or (list_any (is_start_of q.0 q.1) events)
    ∙ ap (λ (t : Bool). list_any (is_start_of q.0 q.1) events || t) (sym (started_by b q h))
    ∙ sym (any_with (is_start_of q.0 q.1) events b)

silent : (b : Body) (q : ℕ × ℕ) → start_in b ≢ Some q → false ≡ is_start_of q.0 q.1 b
silent (Started j n) q h =
    elim (eqb_tells q.0 j) [
      | inl e ↦ elim (eqb_tells q.1 n) [
        | inl f ↦ absurd (h (λ i. Some (sym e.1 i, sym f.1 i)))
        | inr f ↦ sym ((λ i. eqb q.0 j && f.0 i) ∙ both (eqb q.0 j))
      ]
      | inr e ↦ sym (ap (λ (t : Bool). t && eqb q.1 n) e.0)
    ]
  where
    both : (t : Bool) → (t && false) ≡ false
    both true = refl
    both false = refl
silent (NewPlan run cut carried docs) q h = refl
silent (Added a k doc) q h = refl
silent (Clock t) q h = refl
silent (Released s seen) q h = refl
silent (StreamEnded s seen) q h = refl
silent (UntilPassed p i mark) q h = refl
silent (Launched j n seen) q h = refl
silent (Failed j n) q h = refl
silent (Ended j n rc good) q h = refl
silent (Lost j n) q h = refl
silent (Fulfilled p i) q h = refl
silent (Obeyed a k c) q h = refl
silent (Declined a k why) q h = refl
silent (Order c) q h = refl
silent (Late p i) q h = refl

pub start_quiet : (events : List Body) (b : Body) (q : ℕ × ℕ) (told : Bool) → start_in b ≢ Some q
    → told ≡ is_started q.0 q.1 events → told ≡ is_started q.0 q.1 (events ++ b ∷ [])
unfolding is_started
start_quiet events b q told h e =
    e ∙ or_false (list_any (is_start_of q.0 q.1) events)
    ∙ ap (λ (t : Bool). list_any (is_start_of q.0 q.1) events || t) (silent b q h)
    ∙ sym (any_with (is_start_of q.0 q.1) events b)
