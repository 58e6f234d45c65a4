-- A job's last launch, after one more entry that is no launch of the job.
use Rattle.std.proofs.Common.{◌≡◌, ℕ, ◌≤◌, Bool, true, false, ◌&&◌, ◌||◌, not, List, [], ◌∷◌, ◌++◌, refl, sym, subst}
use Rattle.std.proofs.Common.{arith, Option, Some, None}
use Rattle.std.proofs.lemmas.Bool.{eq-eqb}
use Rattle.std.proofs.lemmas.List.Elements.{filter_map-append}
use Rattle.std.specs.Bool.{then_some}
use Rattle.std.specs.List.{list_any}
use Rattle.std.specs.Option.{option_map_or}
use Rattle.std.specs.Prelude.{filter_map, is_none, is_some, option_and_then, option_map, slice_get}
use Rattle.lemmas.proofs.Lists.{any_with, no_first}
use Rattle.lemmas.proofs.Options.{some_same}
use Rattle.model.specs.Types.{Body, Started}
use Rattle.model.specs.Facts.{LastLaunch, end_of, first_end, is_last_started, is_launch_of, is_open, is_start_of, last_launch}
use Rattle.model.specs.Facts.{open_launch}
use Rattle.model.specs.Outcomes.{Outcome}
use Rattle.rest_laws.specs.Left.{done}
use Rattle.rest_laws.proofs.Falls.{last_launch_other, more}
use Rattle.launches_at_rest.specs.Tells.{awaits_start}

module _ (j : ℕ) where
  -- of a launch: it has no end, and its start was not told
  abbrev pub is_fresh : LastLaunch → Bool
  is_fresh l = is_none (first_end j l.number l.later) && not (list_any (is_start_of j l.number) l.later)

  awaits_is : (L : List Body) → awaits_start j L ≡ option_map_or is_fresh (last_launch j L) false
  unfolding is_open open_launch is_last_started
  awaits_is L = go (last_launch j L)
    where
      one : (n : ℕ) (a c : Bool) → (is_some (then_some a n) && not c) ≡ (a && not c)
      one n true c = refl
      one n false c = refl

      go : (o : Option LastLaunch)
          → (is_some (option_and_then (λ (l : LastLaunch). then_some (is_none (first_end j l.number l.later)) l.number) o)
          && not (option_map_or (λ (l : LastLaunch). list_any (is_start_of j l.number) l.later) o false))
          ≡ option_map_or is_fresh o false
      go None = refl
      go (Some l) = one l.number (is_none (first_end j l.number l.later)) (list_any (is_start_of j l.number) l.later)

  fresh_low : (l : LastLaunch) (b : Body) → done (is_fresh (more b l)) ≤ done (is_fresh l)
  fresh_low l b =
      rw (filter_map-append (end_of j l.number) l.later (b ∷ []), any_with (is_start_of j l.number) l.later b)
      (go (filter_map (end_of j l.number) l.later) (filter_map (end_of j l.number) (b ∷ []))
      (list_any (is_start_of j l.number) l.later) (is_start_of j l.number b))
    where
      go : (xs ys : List Outcome) (a c : Bool)
          → done (is_none (slice_get (xs ++ ys) 0) && not (a || c)) ≤ done (is_none (slice_get xs 0) && not a)
      go [] [] true c = omega arith
      go [] [] false true = omega arith
      go [] [] false false = omega arith
      go [] (y ∷ ys) a c = omega arith
      go (x ∷ xs) ys a c = omega arith

  -- no entry but a launch makes the job wait for a start
  pub awaits_low : (L : List Body) (b : Body) → is_launch_of j b ≡ false
      → done (awaits_start j (L ++ b ∷ [])) ≤ done (awaits_start j L)
  awaits_low L b none =
      rw (awaits_is (L ++ b ∷ []), awaits_is L, last_launch_other j L b none) (go (last_launch j L))
    where
      go : (o : Option LastLaunch)
          → done (option_map_or is_fresh (option_map (more b) o) false) ≤ done (option_map_or is_fresh o false)
      go None = omega arith
      go (Some l) = fresh_low l b

  numbered : (l : LastLaunch) (n : ℕ) (c : Bool) → then_some c l.number ≡ Some n → (l.number ≡ n) × (c ≡ true)
  numbered l n true e = (some_same l.number n e, refl)
  numbered l n false e = cc

  -- the start of the open launch is told, and no more awaited
  pub start_told : (n : ℕ) (L : List Body) → open_launch j L ≡ Some n → awaits_start j (L ++ Started j n ∷ []) ≡ false
  unfolding open_launch
  start_told n L e =
      rw (awaits_is (L ++ Started j n ∷ []), last_launch_other j L (Started j n) refl) (go (last_launch j L) e)
    where
      told : (l : LastLaunch) → l.number ≡ n → is_fresh (more (Started j n) l) ≡ false
      told l same =
          rw (any_with (is_start_of j l.number) l.later (Started j n), eq-eqb j j refl, same, eq-eqb n n refl)
          (never (is_none (first_end j n (l.later ++ Started j n ∷ []))) (list_any (is_start_of j n) l.later))
        where
          never : (a c : Bool) → (a && not (c || true)) ≡ false
          never true true = refl
          never true false = refl
          never false c = refl

      go : (o : Option LastLaunch)
          → option_and_then (λ (l : LastLaunch). then_some (is_none (first_end j l.number l.later)) l.number) o ≡ Some n
          → option_map_or is_fresh (option_map (more (Started j n)) o) false ≡ false
      go None e = cc
      go (Some l) e = told l (numbered l n (is_none (first_end j l.number l.later)) e).0

  pub awaited : (n : ℕ) (L : List Body) → open_launch j L ≡ Some n → is_last_started j L ≡ false → awaits_start j L ≡ true
  unfolding is_open
  awaited n L e none = rw (e, none) refl

  -- an end of the open launch leaves none open
  pub end_told : (n : ℕ) (L : List Body) (b : Body) (out : Outcome) → open_launch j L ≡ Some n → is_launch_of j b ≡ false
      → end_of j n b ≡ Some out → is_open j (L ++ b ∷ []) ≡ false
  unfolding is_open open_launch
  end_told n L b out e none ends = rw (last_launch_other j L b none) (go (last_launch j L) e)
    where
      shut : (l : LastLaunch) (o : Option Outcome) → slice_get (filter_map (end_of j l.number) l.later) 0 ≡ o
          → then_some (is_none o) l.number ≡ Some n
          → is_some (then_some (is_none (slice_get (filter_map (end_of j l.number) (l.later ++ b ∷ [])) 0)) l.number) ≡ false
      shut l (Some out) f e = cc
      shut l None f e =
          let this : l.number ≡ n = some_same l.number n e in
          let empty : filter_map (end_of j l.number) l.later ≡ [] = no_first (filter_map (end_of j l.number) l.later) f in
          let last : end_of j l.number b ≡ Some out = subst (λ (m : ℕ). end_of j m b ≡ Some out) (sym this) ends in
          rw (filter_map-append (end_of j l.number) l.later (b ∷ []), empty, last) refl

      go : (o : Option LastLaunch)
          → option_and_then (λ (l : LastLaunch). then_some (is_none (first_end j l.number l.later)) l.number) o ≡ Some n
          → is_some (option_and_then (λ (l : LastLaunch). then_some (is_none (first_end j l.number l.later)) l.number)
          (option_map (λ (l : LastLaunch). record { number = l.number; later = l.later ++ b ∷ [] }) o)) ≡ false
      go None e = cc
      go (Some l) e = shut l (first_end j l.number l.later) refl e

  pub opened : (n : ℕ) (L : List Body) → open_launch j L ≡ Some n → is_open j L ≡ true
  unfolding is_open
  opened n L e = rw e refl
