-- A job that is over badly, after one more entry that does not launch it.
use Rattle.std.proofs.Common.{◌≡◌, ℕ, ◌+◌, ◌≤◌, Bool, true, false, ◌&&◌, ◌||◌, not, inl, inr, List, [], ◌∷◌, ◌++◌}
use Rattle.std.proofs.Common.{refl, ap, subst, ◌∙◌, arith, Option, Some, None}
use Rattle.std.proofs.lemmas.Bool.{eq-eqb}
use Rattle.std.proofs.lemmas.Bool.Decides.{nat_tests}
use Rattle.std.proofs.lemmas.List.Elements.{filter_map-append}
use Rattle.std.specs.Bool.{then_some}
use Rattle.std.specs.List.{list_any}
use Rattle.std.specs.Option.{option_map_or}
use Rattle.std.specs.Prelude.{eqb, filter_map, is_none, is_some, nat_lt, option_and_then, option_map, slice_get}
use Rattle.lemmas.proofs.Booleans.{and_left, and_right, contrary, not_holds, or_cases, or_made_left, or_made_right}
use Rattle.lemmas.proofs.Lists.{any_append}
use Rattle.model.specs.Types.{Body, Cmd, Confirm, Job, Obeyed}
use Rattle.model.specs.Words.{all_of}
use Rattle.model.specs.Facts.{LastLaunch, commands, end_of, first_end, is_cancel_of, is_cancelled, is_cancelling, is_confirm_of}
use Rattle.model.specs.Facts.{is_due, is_good, is_good_end, is_launch_of, is_open, last_launch, launches, obeyed_command}
use Rattle.model.specs.Facts.{open_launch, reruns}
use Rattle.model.specs.Outcomes.{Outcome}
use Rattle.model_laws.proofs.Growth.{launches-append}
use Rattle.model_laws.proofs.Tidy.{launches_none}
use Rattle.rest_laws.specs.Left.{done}
use Rattle.rest_laws.proofs.Falls.{at_most_one, last_launch_other, more, reruns_more}
use Rattle.advice_at_rest.specs.Advices.{is_over_badly}

-- words on truth
fails : (a c : Bool) → (a ≡ true → c ≡ true) → c ≡ false → a ≡ false
fails false c f h = refl
fails true c f h = absurd (contrary (f refl) h)

not_less : (m n k : ℕ) → n ≤ k → nat_lt m k ≡ false → nat_lt m n ≡ false
not_less m n k low h = grind (arith, nat_tests)

not_below : (m n : ℕ) → nat_lt m (1 + n) ≡ false → 1 + n ≤ m
not_below m n h = grind (arith, nat_tests)

-- several truths at once
pub five_parts : (a b c d e : Bool) → all_of (a ∷ b ∷ c ∷ d ∷ e ∷ []) ≡ true
    → (a ≡ true) × (b ≡ true) × (c ≡ true) × (d ≡ true) × (e ≡ true)
five_parts a b c d e h =
    let h1 : (b && (c && (d && (e && true)))) ≡ true = and_right a (b && (c && (d && (e && true)))) h in
    let h2 : (c && (d && (e && true))) ≡ true = and_right b (c && (d && (e && true))) h1 in
    let h3 : (d && (e && true)) ≡ true = and_right c (d && (e && true)) h2 in
    let h4 : (e && true) ≡ true = and_right d (e && true) h3 in (
      and_left a (b && (c && (d && (e && true)))) h,
      and_left b (c && (d && (e && true))) h1,
      and_left c (d && (e && true)) h2,
      and_left d (e && true) h3,
      and_left e true h4,
    )

pub four_parts : (a b c d : Bool) → all_of (a ∷ b ∷ c ∷ d ∷ []) ≡ true
    → (a ≡ true) × (b ≡ true) × (c ≡ true) × (d ≡ true)
four_parts a b c d h =
    let h1 : (b && (c && (d && true))) ≡ true = and_right a (b && (c && (d && true))) h in
    let h2 : (c && (d && true)) ≡ true = and_right b (c && (d && true)) h1 in
    let h3 : (d && true) ≡ true = and_right c (d && true) h2 in (
      and_left a (b && (c && (d && true))) h,
      and_left b (c && (d && true)) h1,
      and_left c (d && true) h2,
      and_left d true h3,
    )

-- what it is to be over badly
pub record Over (j : ℕ) (L : List Body) : Type 0 where
  pub due : is_due j L ≡ false
  pub open_ : is_open j L ≡ false
  pub good : is_good j L ≡ false
  pub cancelled : is_cancelled (Job j) L ≡ false
  pub launched : is_some (last_launch j L) ≡ true

pub over_parts : (j : ℕ) (L : List Body) → is_over_badly j L ≡ true → Over j L
unfolding is_over_badly
over_parts j L h =
    let p = five_parts (not (is_due j L)) (not (is_open j L)) (not (is_good j L)) (not (is_cancelled (Job j) L))
    (is_some (last_launch j L)) h in
    record {
      due = not_holds (is_due j L) p.0;
      open_ = not_holds (is_open j L) p.1;
      good = not_holds (is_good j L) p.2;
      cancelled = not_holds (is_cancelled (Job j) L) p.3;
      launched = p.4;
    }

pub over_made : (j : ℕ) (L : List Body) → Over j L → is_over_badly j L ≡ true
unfolding is_over_badly
over_made j L h = rw (h.due, h.open_, h.good, h.cancelled, h.launched) refl

-- a job is not open and over at once
pub one_of_both : (j : ℕ) (L : List Body) → done (is_open j L) + done (is_over_badly j L) ≤ 1
unfolding is_over_badly
one_of_both j L = go (is_due j L) (is_open j L)
  where
    rest : Bool
    rest = all_of (not (is_good j L) ∷ not (is_cancelled (Job j) L) ∷ is_some (last_launch j L) ∷ [])

    go : (a o : Bool) → done o + done (not a && (not o && rest)) ≤ 1
    go true true = omega arith
    go true false = omega arith
    go false true = omega arith
    go false false = omega (arith, at_most_one rest)

-- where it is over no run is due
pub none_due : (j : ℕ) (L : List Body) → is_over_badly j L ≡ true → 1 + reruns j L ≤ launches j L
unfolding is_due
none_due j L h = not_below (launches j L) (reruns j L) (over_parts j L h).due

-- one more entry
module _ (j : ℕ) (L : List Body) (b : Body) where
  any_command : (p : Cmd → Bool) (xs : List Body) → list_any p (commands xs) ≡ true → list_any p (commands (xs ++ b ∷ [])) ≡ true
  unfolding commands
  any_command p xs h =
      ap (list_any p) (filter_map-append obeyed_command xs (b ∷ []))
      ∙ any_append p (filter_map obeyed_command xs) (filter_map obeyed_command (b ∷ []))
      ∙ or_made_left (list_any p (filter_map obeyed_command xs)) (list_any p (filter_map obeyed_command (b ∷ []))) h

  cancelled_more : is_cancelled (Job j) L ≡ true → is_cancelled (Job j) (L ++ b ∷ []) ≡ true
  unfolding is_cancelled
  cancelled_more h =
      elim (or_cases (list_any (is_cancel_of (Job j)) (commands L)) (list_any (is_cancelling (Job j)) L) h) [
        | inl k ↦ or_made_left (list_any (is_cancel_of (Job j)) (commands (L ++ b ∷ [])))
            (list_any (is_cancelling (Job j)) (L ++ b ∷ [])) (any_command (is_cancel_of (Job j)) L k)
        | inr k ↦ or_made_right (list_any (is_cancel_of (Job j)) (commands (L ++ b ∷ [])))
            (list_any (is_cancelling (Job j)) (L ++ b ∷ []))
            (any_append (is_cancelling (Job j)) L (b ∷ [])
            ∙ or_made_left (list_any (is_cancelling (Job j)) L) (list_any (is_cancelling (Job j)) (b ∷ [])) k)
      ]

  -- what makes a launch good
  abbrev is_mended : LastLaunch → Bool
  is_mended l = is_good_end (first_end j l.number l.later) || list_any (is_confirm_of j) (commands l.later)

  good_stays : (xs ys : List Outcome) → is_good_end (slice_get xs 0) ≡ true → is_good_end (slice_get (xs ++ ys) 0) ≡ true
  good_stays [] ys h = cc
  good_stays (x ∷ xs) ys h = h

  good_first : (l : LastLaunch) → is_good_end (first_end j l.number l.later) ≡ true
      → is_good_end (first_end j l.number (l.later ++ b ∷ [])) ≡ true
  good_first l h =
      rw (filter_map-append (end_of j l.number) l.later (b ∷ []))
      (good_stays (filter_map (end_of j l.number) l.later) (filter_map (end_of j l.number) (b ∷ [])) h)

  mended_stays : (l : LastLaunch) → is_mended l ≡ true → is_mended (more b l) ≡ true
  mended_stays l h =
      elim (or_cases (is_good_end (first_end j l.number l.later)) (list_any (is_confirm_of j) (commands l.later)) h) [
        | inl k ↦ or_made_left (is_good_end (first_end j l.number (l.later ++ b ∷ [])))
            (list_any (is_confirm_of j) (commands (l.later ++ b ∷ []))) (good_first l k)
        | inr k ↦ or_made_right (is_good_end (first_end j l.number (l.later ++ b ∷ [])))
            (list_any (is_confirm_of j) (commands (l.later ++ b ∷ []))) (any_command (is_confirm_of j) l.later k)
      ]

  third : (a c d : Bool) → a ≡ false → c ≡ false → (not a && not c && d) ≡ false → d ≡ false
  third true c d e f h = cc
  third false true d e f h = cc
  third false false d e f h = h

  good_before : is_launch_of j b ≡ false → is_due j L ≡ false → is_open j L ≡ false → Over j (L ++ b ∷ []) → is_good j L ≡ false
  unfolding is_good
  good_before none due open_ h =
      rw (due, open_)
      (go (last_launch j L)
      (subst (λ (o : Option LastLaunch). option_map_or is_mended o false ≡ false) (last_launch_other j L b none)
      (third (is_due j (L ++ b ∷ [])) (is_open j (L ++ b ∷ [])) (option_map_or is_mended (last_launch j (L ++ b ∷ [])) false) h.due
      h.open_ h.good)))
    where
      go : (o : Option LastLaunch) → option_map_or is_mended (option_map (more b) o) false ≡ false
          → option_map_or is_mended o false ≡ false
      go None k = refl
      go (Some l) k = fails (is_mended l) (is_mended (more b l)) (mended_stays l) k

  due_before : is_launch_of j b ≡ false → is_due j (L ++ b ∷ []) ≡ false → is_due j L ≡ false
  unfolding is_due
  due_before none h =
      not_less (launches j L) (1 + reruns j L) (1 + reruns j (L ++ b ∷ [])) (omega (arith, reruns_more j L b))
      (subst (λ (m : ℕ). nat_lt m (1 + reruns j (L ++ b ∷ [])) ≡ false) same h)
    where
      same : launches j (L ++ b ∷ []) ≡ launches j L
      same = omega (arith, launches-append j L (b ∷ []), launches_none j b none)

  launched_before : is_launch_of j b ≡ false → is_some (last_launch j (L ++ b ∷ [])) ≡ true → is_some (last_launch j L) ≡ true
  launched_before none h =
      go (last_launch j L) (subst (λ (o : Option LastLaunch). is_some o ≡ true) (last_launch_other j L b none) h)
    where
      go : (o : Option LastLaunch) → is_some (option_map (more b) o) ≡ true → is_some o ≡ true
      go None k = cc
      go (Some l) k = refl

  over_before : is_launch_of j b ≡ false → is_open j L ≡ false → is_over_badly j (L ++ b ∷ []) ≡ true
      → is_over_badly j L ≡ true
  over_before none open_ h =
      let o : Over j (L ++ b ∷ []) = over_parts j (L ++ b ∷ []) h in
      let due : is_due j L ≡ false = due_before none o.due in
      over_made j L (record {
        due = due;
        open_ = open_;
        good = good_before none due open_ o;
        cancelled =
            fails (is_cancelled (Job j) L) (is_cancelled (Job j) (L ++ b ∷ [])) cancelled_more o.cancelled;
        launched = launched_before none o.launched;
      })

  pub opens_none : is_launch_of j b ≡ false → done (is_open j (L ++ b ∷ [])) ≤ done (is_open j L)
  unfolding is_open open_launch
  opens_none none = rw (last_launch_other j L b none) (go (last_launch j L))
    where
      stays : (n : ℕ) (xs ys : List Outcome)
          → done (is_some (then_some (is_none (slice_get (xs ++ ys) 0)) n)) ≤ done (is_some (then_some (is_none (slice_get xs 0)) n))
      stays n [] [] = omega arith
      stays n [] (y ∷ ys) = omega arith
      stays n (x ∷ xs) ys = omega arith

      go : (o : Option LastLaunch)
          → done (is_some (option_and_then (λ (l : LastLaunch). then_some (is_none (first_end j l.number l.later)) l.number)
          (option_map (λ (l : LastLaunch). record { number = l.number; later = l.later ++ b ∷ [] }) o)))
          ≤ done (is_some (option_and_then (λ (l : LastLaunch). then_some (is_none (first_end j l.number l.later)) l.number) o))
      go None = omega arith
      go (Some l) =
          rw (filter_map-append (end_of j l.number) l.later (b ∷ []))
          (stays l.number (filter_map (end_of j l.number) l.later) (filter_map (end_of j l.number) (b ∷ [])))

  -- an end at most turns an open launch into a bad end
  pub open_or_over : is_launch_of j b ≡ false
      → done (is_open j (L ++ b ∷ [])) + done (is_over_badly j (L ++ b ∷ [])) ≤ done (is_open j L) + done (is_over_badly j L)
  open_or_over none = go (is_open j L) (is_over_badly j (L ++ b ∷ [])) refl refl
    where
      go : (o v : Bool) → is_open j L ≡ o → is_over_badly j (L ++ b ∷ []) ≡ v
          → done (is_open j (L ++ b ∷ [])) + done (is_over_badly j (L ++ b ∷ [])) ≤ done (is_open j L) + done (is_over_badly j L)
      go true v e f = rw e (omega (arith, one_of_both j (L ++ b ∷ [])))
      go false true e f = rw (f, over_before none e f) (omega (arith, opens_none none))
      go false false e f = rw f (omega (arith, opens_none none))

-- a confirmed job is not over badly
confirmed_now : (j : ℕ) (xs : List Body) (a k : ℕ) → list_any (is_confirm_of j) (commands (xs ++ Obeyed a k (Confirm j) ∷ [])) ≡ true
unfolding commands
confirmed_now j xs a k =
    ap (list_any (is_confirm_of j)) (filter_map-append obeyed_command xs (Obeyed a k (Confirm j) ∷ []))
    ∙ any_append (is_confirm_of j) (filter_map obeyed_command xs) (filter_map obeyed_command (Obeyed a k (Confirm j) ∷ []))
    ∙ or_made_right (list_any (is_confirm_of j) (filter_map obeyed_command xs))
    (list_any (is_confirm_of j) (filter_map obeyed_command (Obeyed a k (Confirm j) ∷ [])))
    (or_made_left (eqb j j) false (eq-eqb j j refl))

pub confirm_mends : (j : ℕ) (L : List Body) (a k : ℕ) → is_over_badly j (L ++ Obeyed a k (Confirm j) ∷ []) ≡ true → ⊥
unfolding is_good
confirm_mends j L a k h =
    contrary
    (there (last_launch j L)
    (subst (λ (q : Option LastLaunch). is_some q ≡ true) (last_launch_other j L (Obeyed a k (Confirm j)) refl) o.launched))
    (subst (λ (q : Option LastLaunch). option_map_or (is_mended j L (Obeyed a k (Confirm j))) q false ≡ false)
    (last_launch_other j L (Obeyed a k (Confirm j)) refl)
    (third j L (Obeyed a k (Confirm j)) (is_due j (L ++ Obeyed a k (Confirm j) ∷ []))
    (is_open j (L ++ Obeyed a k (Confirm j) ∷ []))
    (option_map_or (is_mended j L (Obeyed a k (Confirm j))) (last_launch j (L ++ Obeyed a k (Confirm j) ∷ [])) false) o.due
    o.open_ o.good))
  where
    o : Over j (L ++ Obeyed a k (Confirm j) ∷ [])
    o = over_parts j (L ++ Obeyed a k (Confirm j) ∷ []) h

    there : (p : Option LastLaunch) → is_some (option_map (more (Obeyed a k (Confirm j))) p) ≡ true
        → option_map_or (is_mended j L (Obeyed a k (Confirm j))) (option_map (more (Obeyed a k (Confirm j))) p) false ≡ true
    there None some_ = cc
    there (Some l) some_ =
        or_made_right (is_good_end (first_end j l.number (l.later ++ Obeyed a k (Confirm j) ∷ [])))
        (list_any (is_confirm_of j) (commands (l.later ++ Obeyed a k (Confirm j) ∷ []))) (confirmed_now j l.later a k)
