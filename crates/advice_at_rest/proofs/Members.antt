-- Who holds more of the master's events: a member stays one until a plan comes.
use Rattle.std.proofs.Common.{◌≡◌, ℕ, ◌+◌, ◌*◌, ◌-◌, ◌<◌, ◌≤◌, Bool, true, false, ◌&&◌, ◌||◌, not, ◌⊎◌, inl, inr, List, [], ◌∷◌, ◌++◌}
use Rattle.std.proofs.Common.{refl, ap, sym, subst, ◌∙◌, arith, Option, Some, None, take, drop, cond}
use Rattle.std.proofs.lemmas.Bool.{eqb-true}
use Rattle.std.proofs.lemmas.List.{take-append-drop, take-append-le}
use Rattle.std.proofs.lemmas.List.Sums.{fold-append}
use Rattle.std.specs.Option.{option_map_or}
use Rattle.std.specs.Prelude.{◌==◌, eqb, filter, fold, is_some, length, option_map, unwrap_or}
use Rattle.lemmas.proofs.Booleans.{and_left, and_made, and_right, or_cases, or_made_left, or_made_right}
use Rattle.lemmas.proofs.Lists.{take_less}
use Rattle.lemmas.proofs.Numbers.{below_or_not}
use Rattle.model.specs.Types.{Added, Body, Cmd, Confirm, NewPlan, Rerun, StreamDoc}
use Rattle.model.specs.Words.{below, has}
use Rattle.model.specs.Catalogue.{StreamJob, is_member, job, members, members_with, named_members, stream}
use Rattle.model.specs.Facts.{answered, is_open, launches, reruns}
use Rattle.model_laws.proofs.Growth.{Grows, job_grows, stream_grows}
use Rattle.model_laws.proofs.Lists.{has_append}
use Rattle.rest_laws.specs.Gains.{sum_over}
use Rattle.rest_laws.specs.Left.{done}
use Rattle.rest_laws.proofs.Ahead.{drop_low}
use Rattle.rest_laws.proofs.Bounds.{times_low}
use Rattle.rest_laws.proofs.Falls.{sum_over_rises}
use Rattle.rest_laws.proofs.Gains.{sum_over_low}
use Rattle.rest_laws.proofs.Lefts.{sum_over_append}
use Rattle.advice_at_rest.specs.Advices.{advices_at, advices_of, is_about, is_own_member, is_over_badly, is_plan, is_taken_up, next_own, plans_in}
use Rattle.advice_at_rest.specs.Advices.{reruns_in, weight}

-- a number among those that pass
has_left : (p : ℕ → Bool) (xs : List ℕ) (s : ℕ) → has (filter p xs) s ≡ true → (has xs s ≡ true) × (p s ≡ true)
has_left p [] s h = cc
has_left p (x ∷ xs) s h = go (p x) refl h (has_left p xs s)
  where
    go : (b : Bool) → p x ≡ b → has (cond b (x ∷ filter p xs) (filter p xs)) s ≡ true
        → (has (filter p xs) s ≡ true → (has xs s ≡ true) × (p s ≡ true))
        → ((x == s || has xs s) ≡ true) × (p s ≡ true)
    go true e k later =
        elim (or_cases (x == s) (has (filter p xs) s) k) [
          | inl i ↦ (or_made_left (x == s) (has xs s) i, subst (λ (n : ℕ). p n ≡ true) (eqb-true x s i) e)
          | inr i ↦ (let l = later i in (or_made_right (x == s) (has xs s) l.0, l.1))
        ]
    go false e k later = let l = later k in (or_made_right (x == s) (has xs s) l.0, l.1)

has_made : (p : ℕ → Bool) (xs : List ℕ) (s : ℕ) → has xs s ≡ true → p s ≡ true → has (filter p xs) s ≡ true
has_made p [] s h k = cc
has_made p (x ∷ xs) s h k = go (p x) refl (or_cases (x == s) (has xs s) h) (λ i. has_made p xs s i k)
  where
    go : (b : Bool) → p x ≡ b → ((x == s) ≡ true) ⊎ (has xs s ≡ true) → (has xs s ≡ true → has (filter p xs) s ≡ true)
        → has (cond b (x ∷ filter p xs) (filter p xs)) s ≡ true
    go true e (inl i) later = or_made_left (x == s) (has (filter p xs) s) i
    go true e (inr i) later = or_made_right (x == s) (has (filter p xs) s) (later i)
    go false e (inl i) later = absurd (clash (sym e ∙ subst (λ (n : ℕ). p n ≡ true) (sym (eqb-true x s i)) k))
      where
        clash : false ≡ true → ⊥
        clash q = cc
    go false e (inr i) later = later i

-- events that make no plan name no fewer members
named_more : (o : Option (List ℕ)) (rest : List Body) (s : ℕ) → sum_over plans_in rest ≡ 0 → has (unwrap_or o []) s ≡ true
    → has (unwrap_or (fold members_with o rest) []) s ≡ true
named_more o [] s none h = h
named_more o (b ∷ rest) s none h =
    named_more (members_with o b) rest s (omega (arith, none)) (one o b (omega (arith, none)) h)
  where
    added : (o : Option (List ℕ)) (n : ℕ) → has (unwrap_or o []) s ≡ true
        → has (unwrap_or (option_map (λ (ms : List ℕ). ms ++ n ∷ []) o) []) s ≡ true
    added None n k = k
    added (Some ms) n k = rw (has_append ms (n ∷ []) s) (or_made_left (has ms s) (has (n ∷ []) s) k)

    one : (o : Option (List ℕ)) (b : Body) → plans_in b ≡ 0 → has (unwrap_or o []) s ≡ true
        → has (unwrap_or (members_with o b) []) s ≡ true
    one o (NewPlan run cut carried docs) none k = cc
    one o (Added a n doc) none k = added o doc.no k
    one o b none k = k

module _ (M rest : List Body) (none : sum_over plans_in rest ≡ 0) where
  grows : Grows (λ f. M) (λ f. M ++ rest)
  grows = record { rest = rest; more = refl }

  member_more : (s : ℕ) → is_member (λ f. M) s ≡ true → is_member (λ f. M ++ rest) s ≡ true
  unfolding is_member members named_members
  member_more s h =
      let both = has_left (λ n. is_some (stream (λ f. M) n)) (unwrap_or (fold members_with None M) []) s h in
      has_made (λ n. is_some (stream (λ f. M ++ rest) n)) (unwrap_or (fold members_with None (M ++ rest)) []) s
      (rw (fold-append members_with None M rest) (named_more (fold members_with None M) rest s none both.0))
      (found (stream (λ f. M) s) refl both.1)
    where
      found : (o : Option StreamDoc) → stream (λ f. M) s ≡ o → is_some o ≡ true → is_some (stream (λ f. M ++ rest) s) ≡ true
      found None e k = cc
      found (Some d) e k = rw (stream_grows (λ f. M) (λ f. M ++ rest) s d grows e) refl

  own_member_more : (w j : ℕ) → is_own_member M w j ≡ true → is_own_member (M ++ rest) w j ≡ true
  unfolding is_own_member
  own_member_more w j h = go (job (λ f. M) j) refl h
    where
      go : (o : Option StreamJob) → job (λ f. M) j ≡ o
          → option_map_or (λ (p : StreamJob). (p.doc.ws == w) && is_member (λ f. M) p.parent.no) o false ≡ true
          → option_map_or (λ (p : StreamJob). (p.doc.ws == w) && is_member (λ f. M ++ rest) p.parent.no)
          (job (λ f. M ++ rest) j) false ≡ true
      go None e k = cc
      go (Some p) e k =
          rw (job_grows (λ f. M) (λ f. M ++ rest) j p grows e)
          (and_made (p.doc.ws == w) (is_member (λ f. M ++ rest) p.parent.no)
          (and_left (p.doc.ws == w) (is_member (λ f. M) p.parent.no) k)
          (member_more p.parent.no (and_right (p.doc.ws == w) (is_member (λ f. M) p.parent.no) k)))

-- plans that are held, and those still to come
plans_split : (k : ℕ) (M : List Body) → sum_over plans_in (take k M) + sum_over plans_in (drop k M) ≡ sum_over plans_in M
plans_split k M =
    sym (sum_over_append plans_in (take k M) (drop k M)) ∙ ap (sum_over plans_in) (take-append-drop k M)

-- the job that an order is about
target : Option Cmd → ℕ
target (Some (Confirm k)) = k
target (Some (Rerun k)) = k
target _ = 0

about_target : (j : ℕ) (o : Option Cmd) → is_about j o ≡ true → eqb j (target o) ≡ true
unfolding target
about_target j (Some (Confirm k)) h = h
about_target j (Some (Rerun k)) h = h
about_target j _ h = cc

-- of one job where the master's events that are held are others
module _ (w : ℕ) (own A B L : List Body) (j : ℕ) where
  abbrev before : Bool
  before = is_taken_up w own A j L

  abbrev behind : Bool
  behind = is_taken_up w own B j L

  taken_low : (v t s : Bool) → (t ≡ true → s ≡ true) → done (v && not s) ≤ done (v && not t)
  taken_low v true true low = omega arith
  taken_low v true false low = absurd (clash (low refl))
    where
      clash : false ≡ true → ⊥
      clash k = cc
  taken_low true false true low = omega arith
  taken_low false false true low = omega arith
  taken_low v false false low = omega arith

  job_held : (before ≡ true → behind ≡ true) → advices_of w own B L j ≤ advices_of w own A L j
  unfolding advices_of
  job_held low =
      times_low (weight (reruns j L))
      ((1 + reruns j L - launches j L) + (done (is_open j L) + done (is_over_badly j L && not behind)))
      ((1 + reruns j L - launches j L) + (done (is_open j L) + done (is_over_badly j L && not before)))
      (omega (arith, taken_low (is_over_badly j L) before behind low))

  at_most_two : (r d o v t : ℕ) → v ≤ t + 1 → weight r * (d + (o + v)) ≤ weight r * (d + (o + t)) + 2
  at_most_two r d o v t low = go (r == 0)
    where
      go : (b : Bool) → cond b 2 1 * (d + (o + v)) ≤ cond b 2 1 * (d + (o + t)) + 2
      go true = omega (arith, low)
      go false = omega (arith, low)

  any_two : (c d : Bool) → done c ≤ done d + 1
  any_two true d = omega arith
  any_two false d = omega arith

  by_two : advices_of w own B L j ≤ advices_of w own A L j + 2
  unfolding advices_of
  by_two =
      at_most_two (reruns j L) (1 + reruns j L - launches j L) (done (is_open j L)) (done (is_over_badly j L && not behind))
      (done (is_over_badly j L && not before))
      (any_two (is_over_badly j L && not behind) (is_over_badly j L && not before))

  job_by_plan : advices_of w own B L j ≤ advices_of w own A L j + 2 * done (eqb j (target (next_own w own L)))
  job_by_plan = go (is_about j (next_own w own L)) refl
    where
      none_about : is_about j (next_own w own L) ≡ false → before ≡ true → behind ≡ true
      none_about e h =
          absurd (clash (sym e ∙ and_left (is_about j (next_own w own L)) (is_own_member A w j) h))
        where
          clash : false ≡ true → ⊥
          clash k = cc

      go : (c : Bool) → is_about j (next_own w own L) ≡ c
          → advices_of w own B L j ≤ advices_of w own A L j + 2 * done (eqb j (target (next_own w own L)))
      go true e = rw (about_target j (next_own w own L) e) by_two
      go false e = omega (arith, job_held (none_about e))

-- who holds more has no more to advise
pub held_low : (jobs n w : ℕ) (orders : ℕ → List Body) (M : List Body) (k m : ℕ) (L : List Body) → k ≤ m
    → advices_at jobs n w orders M m L ≤ advices_at jobs n w orders M k L
unfolding advices_at
held_low jobs n w orders M k m L low = go (below_or_not (sum_over plans_in (drop m M)) (sum_over plans_in (drop k M)))
  where
    rest : List Body
    rest = drop k (take m M)

    more : take m M ≡ take k M ++ rest
    more = sym (take-append-drop k (take m M)) ∙ ap (λ (l : List Body). l ++ drop k (take m M)) (take_less k m M low)

    none_in : sum_over plans_in (drop k M) ≤ sum_over plans_in (drop m M) → sum_over plans_in rest ≡ 0
    none_in h =
        let whole : sum_over plans_in (take m M) ≡ sum_over plans_in (take k M) + sum_over plans_in rest =
        ap (sum_over plans_in) more ∙ sum_over_append plans_in (take k M) rest in
        omega (arith, h, whole, plans_split k M, plans_split m M)

    stays : sum_over plans_in rest ≡ 0 → (j : ℕ) → is_taken_up w (orders w) (take k M) j L ≡ true
        → is_taken_up w (orders w) (take m M) j L ≡ true
    stays none j h =
        and_made (is_about j (next_own w (orders w) L)) (is_own_member (take m M) w j)
        (and_left (is_about j (next_own w (orders w) L)) (is_own_member (take k M) w j) h)
        (subst (λ (l : List Body). is_own_member l w j ≡ true) (sym more)
        (own_member_more (take k M) rest none w j
        (and_right (is_about j (next_own w (orders w) L)) (is_own_member (take k M) w j) h)))

    go : (sum_over plans_in (drop m M) < sum_over plans_in (drop k M)) ⊎ (sum_over plans_in (drop k M) ≤ sum_over plans_in (drop m M))
        → sum_over (advices_of w (orders w) (take m M) L) (below jobs)
        + (sum_over (λ a. sum_over reruns_in (drop (answered a L) (orders a))) (below n)
        + 2 * sum_over plans_in (drop m M))
        ≤ sum_over (advices_of w (orders w) (take k M) L) (below jobs)
        + (sum_over (λ a. sum_over reruns_in (drop (answered a L) (orders a))) (below n)
        + 2 * sum_over plans_in (drop k M))
    go (inl less) =
        omega (
          arith,
          less,
          sum_over_rises (advices_of w (orders w) (take m M) L) (advices_of w (orders w) (take k M) L)
              (target (next_own w (orders w) L)) jobs (λ j. job_by_plan w (orders w) (take k M) (take m M) L j),
        )
    go (inr same) =
        omega (
          arith,
          drop_low plans_in m k M low,
          sum_over_low (advices_of w (orders w) (take m M) L) (advices_of w (orders w) (take k M) L) (below jobs)
              (λ j. job_held w (orders w) (take k M) (take m M) L j (stays (none_in same) j)),
        )

-- one more event of the master's that is no plan, not held yet
pub master_more : (jobs n w : ℕ) (orders : ℕ → List Body) (M : List Body) (b : Body) (k : ℕ) (L : List Body) → k ≤ length M
    → is_plan b ≡ false → advices_at jobs n w orders (M ++ b ∷ []) k L ≡ advices_at jobs n w orders M k L
unfolding advices_at
master_more jobs n w orders M b k L within none =
    rw (same, plans) refl
  where
    same : take k (M ++ b ∷ []) ≡ take k M
    same = take-append-le k M (b ∷ []) within

    plans : sum_over plans_in (drop k (M ++ b ∷ [])) ≡ sum_over plans_in (drop k M)
    plans =
        omega (
          arith,
          plans_split k (M ++ b ∷ []),
          plans_split k M,
          ap (sum_over plans_in) same,
          sum_over_append plans_in M (b ∷ []),
          ap done none,
        )
