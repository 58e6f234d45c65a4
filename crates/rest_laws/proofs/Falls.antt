-- What one more entry of a workstation's own leaves of what its turns can still make.
use Rattle.std.proofs.Common.{◌≡◌, ◌≢◌, ℕ, zero, suc, ◌+◌, ◌-◌, ◌*◌, ◌<◌, ◌≤◌, Bool, true, false, ◌||◌, inl, inr}
use Rattle.std.proofs.Common.{List, [], ◌∷◌, ◌++◌, refl, sym, subst, arith, Option, Some, None, cond}
use Rattle.std.proofs.lemmas.Bool.{eq-eqb}
use Rattle.std.proofs.lemmas.Bool.Decides.{eqb_tells, nat_tests}
use Rattle.std.proofs.lemmas.List.Elements.{filter_map-append}
use Rattle.std.proofs.lemmas.List.Folds.{list_any-append}
use Rattle.std.proofs.lemmas.List.Sums.{sum_by-append}
use Rattle.std.specs.Bool.{then_some}
use Rattle.std.specs.List.{list_any}
use Rattle.std.specs.Option.{option_or}
use Rattle.std.specs.Prelude.{eqb, filter_map, is_none, is_some, nat_lt, option_and_then, option_map, slice_get}
use Rattle.lemmas.proofs.Lists.{no_first}
use Rattle.lemmas.proofs.Options.{some_same}
use Rattle.lemmas.proofs.Numbers.{below_or_not}
use Rattle.model.specs.Types.{Body, Clock, Cmd, Job, Launched, Lost, Obeyed, Obj, Rerun, Stream}
use Rattle.model.specs.Words.{below, greatest, has, numbers_from}
use Rattle.model.specs.Facts.{LastLaunch, answered, answers_to, commands, end_of, first_end, is_ended, is_late, is_end_of, is_launch_of}
use Rattle.model.specs.Facts.{is_late_record, is_open, is_release_of, is_released, is_until_record, is_until_recorded}
use Rattle.model.specs.Facts.{last_launch, launch_here, launches, now, obeyed_command, open_launch, reading, reruns}
use Rattle.model.specs.History.{Seen}
use Rattle.model.specs.Outcomes.{Outcome}
use Rattle.model_laws.proofs.Growth.{launches-append}
use Rattle.model_laws.proofs.Answered.{answered-append}
use Rattle.model_laws.proofs.Tidy.{launched_none, launches_none}
use Rattle.model_laws.proofs.Starts.{launches_one}
use Rattle.rest_laws.specs.Gains.{sum_over}
use Rattle.rest_laws.specs.Left.{Caps, done, job_left, orders_left, records_left, stream_left, undone}
use Rattle.rest_laws.proofs.Gains.{sum_over_low}
use Rattle.rest_laws.proofs.Chains.{or_rest}

-- sums
fall_from : (f g : ℕ → ℕ) (c s n x : ℕ) → ((a : ℕ) → f a ≤ g a) → s ≤ x → x < s + n → f x + c ≤ g x
    → sum_over f (numbers_from s n) + c ≤ sum_over g (numbers_from s n)
fall_from f g c s zero x low from to at_x = absurd (omega (arith, from, to))
fall_from f g c s (suc n) x low from to at_x =
    elim (eqb_tells x s) [
      | inl e ↦ (let k : f s + c ≤ g s = subst (λ (i : ℕ). f i + c ≤ g i) e.1 at_x in
          omega (arith, k, sum_over_low f g (numbers_from (s + 1) n) low))
      | inr e ↦ omega (
        arith,
        low s,
        fall_from f g c (s + 1) n x low (further s x from e.1) (omega (arith, to)) at_x,
      )
    ]
  where
    further : (s x : ℕ) → s ≤ x → x ≢ s → s + 1 ≤ x
    further s x low other =
        elim (below_or_not s x) [ inl h ↦ omega (arith, h) | inr h ↦ absurd (other (omega (arith, h, low))) ]

-- one of a sum falls by so much, and none rises
pub sum_over_falls : (f g : ℕ → ℕ) (c n x : ℕ) → ((a : ℕ) → f a ≤ g a) → x < n → f x + c ≤ g x
    → sum_over f (below n) + c ≤ sum_over g (below n)
sum_over_falls f g c n x low to at_x = fall_from f g c 0 n x low (omega arith) (omega (arith, to)) at_x

-- each number of a sum is at most the sum
pub one_of_all : (g : ℕ → ℕ) (n w : ℕ) → w < n → g w ≤ sum_over g (below n)
one_of_all g n w low = omega (arith, sum_over_falls (λ v. 0) g (g w) n w (λ v. omega arith) low (omega arith))

hits_above : (k s n : ℕ) → k < s → sum_over (λ j. done (eqb j k)) (numbers_from s n) ≡ 0
hits_above k s zero low = refl
hits_above k s (suc n) low =
    elim (eqb_tells s k) [
      | inl e ↦ absurd (omega (arith, low, e.1))
      | inr e ↦ rw (e.0, hits_above k (s + 1) n (omega (arith, low))) refl
    ]

pub hits : (k s n : ℕ) → sum_over (λ j. done (eqb j k)) (numbers_from s n) ≤ 1
hits k s zero = omega arith
hits k s (suc n) =
    elim (eqb_tells s k) [
      | inl e ↦ rw (e.0, hits_above k (s + 1) n (omega (arith, e.1))) (omega arith)
      | inr e ↦ rw e.0 (omega (arith, hits k (s + 1) n))
    ]

rises_once : (f g h : ℕ → ℕ) (xs : List ℕ) → ((j : ℕ) → f j ≤ g j + 2 * h j)
    → sum_over f xs ≤ sum_over g xs + 2 * sum_over h xs
rises_once f g h [] low = omega arith
rises_once f g h (x ∷ xs) low = omega (arith, low x, rises_once f g h xs low)

-- one of a sum may rise by two
pub sum_over_rises : (f g : ℕ → ℕ) (k n : ℕ) → ((j : ℕ) → f j ≤ g j + 2 * done (eqb j k))
    → sum_over f (below n) ≤ sum_over g (below n) + 2
sum_over_rises f g k n low =
    omega (arith, rises_once f g (λ j. done (eqb j k)) (below n) low, hits k 0 n)

-- what is once done stays so
pub any_more : (p : Body → Bool) (L : List Body) (b : Body) → undone (list_any p (L ++ b ∷ [])) ≤ undone (list_any p L)
any_more p L b = rw list_any-append (go (list_any p L) (list_any p (b ∷ [])))
  where
    go : (a c : Bool) → undone (a || c) ≤ undone a
    go true c = omega arith
    go false true = omega arith
    go false false = omega arith

pub any_now : (p : Body → Bool) (L : List Body) (b : Body) → list_any p L ≡ false → p b ≡ true
    → undone (list_any p (L ++ b ∷ [])) + 1 ≤ undone (list_any p L)
any_now p L b none this = rw (list_any-append, none, this) (omega arith)

pub records_low : (n : ℕ) (L : List Body) (b : Body) (o : Obj) → records_left n (L ++ b ∷ []) o ≤ records_left n L o
unfolding records_left is_until_recorded is_late
records_low n L b o =
    sum_over_low _ _ (below n)
    (λ i. omega (arith, any_more (is_until_record o i) L b, any_more (is_late_record o i) L b))

pub until_falls : (n : ℕ) (L : List Body) (b : Body) (o : Obj) (i : ℕ) → i < n → is_until_recorded o i L ≡ false
    → is_until_record o i b ≡ true → records_left n (L ++ b ∷ []) o + 1 ≤ records_left n L o
unfolding records_left is_until_recorded is_late
until_falls n L b o i low none this =
    sum_over_falls (λ i. undone (list_any (is_until_record o i) (L ++ b ∷ []))
    + undone (list_any (is_late_record o i) (L ++ b ∷ [])))
    (λ i. undone (list_any (is_until_record o i) L) + undone (list_any (is_late_record o i) L)) 1 n i
    (λ i. omega (arith, any_more (is_until_record o i) L b, any_more (is_late_record o i) L b)) low
    (omega (arith, any_now (is_until_record o i) L b none this, any_more (is_late_record o i) L b))

pub late_falls : (n : ℕ) (L : List Body) (b : Body) (o : Obj) (i : ℕ) → i < n → is_late o i L ≡ false
    → is_late_record o i b ≡ true → records_left n (L ++ b ∷ []) o + 1 ≤ records_left n L o
unfolding records_left is_until_recorded is_late
late_falls n L b o i low none this =
    sum_over_falls (λ i. undone (list_any (is_until_record o i) (L ++ b ∷ []))
    + undone (list_any (is_late_record o i) (L ++ b ∷ [])))
    (λ i. undone (list_any (is_until_record o i) L) + undone (list_any (is_late_record o i) L)) 1 n i
    (λ i. omega (arith, any_more (is_until_record o i) L b, any_more (is_late_record o i) L b)) low
    (omega (arith, any_more (is_until_record o i) L b, any_now (is_late_record o i) L b none this))

-- streams
pub stream_low : (caps : Caps) (L : List Body) (b : Body) (s : ℕ) → stream_left caps (L ++ b ∷ []) s ≤ stream_left caps L s
unfolding stream_left is_released is_ended
stream_low caps L b s =
    omega (
      arith,
      any_more (is_release_of s) L b,
      any_more (is_end_of s) L b,
      records_low (caps.of_deps (Stream s)) L b (Stream s),
    )

pub release_falls : (caps : Caps) (L : List Body) (b : Body) (s : ℕ) → is_released s L ≡ false
    → is_release_of s b ≡ true → stream_left caps (L ++ b ∷ []) s + 1 ≤ stream_left caps L s
unfolding stream_left is_released is_ended
release_falls caps L b s none this =
    omega (
      arith,
      any_now (is_release_of s) L b none this,
      any_more (is_end_of s) L b,
      records_low (caps.of_deps (Stream s)) L b (Stream s),
    )

pub end_falls : (caps : Caps) (L : List Body) (b : Body) (s : ℕ) → is_ended s L ≡ false
    → is_end_of s b ≡ true → stream_left caps (L ++ b ∷ []) s + 1 ≤ stream_left caps L s
unfolding stream_left is_released is_ended
end_falls caps L b s none this =
    omega (
      arith,
      any_more (is_release_of s) L b,
      any_now (is_end_of s) L b none this,
      records_low (caps.of_deps (Stream s)) L b (Stream s),
    )

pub stream_record_falls : (caps : Caps) (L : List Body) (b : Body) (s : ℕ)
    → records_left (caps.of_deps (Stream s)) (L ++ b ∷ []) (Stream s) + 1 ≤ records_left (caps.of_deps (Stream s)) L (Stream s)
    → stream_left caps (L ++ b ∷ []) s + 1 ≤ stream_left caps L s
unfolding stream_left is_released is_ended
stream_record_falls caps L b s falls =
    omega (arith, any_more (is_release_of s) L b, any_more (is_end_of s) L b, falls)

-- a job's last launch, and whether it is open
abbrev pub more : Body → LastLaunch → LastLaunch
more b l = record { number = l.number; later = l.later ++ b ∷ [] }

launched_more : (j : ℕ) (x b : Body) (later : List Body)
    → launch_here j x (later ++ b ∷ []) ≡ option_map (more b) (launch_here j x later)
launched_more j (Launched k n seen) b later = go (eqb j k)
  where
    go : (c : Bool)
        → then_some {T = LastLaunch} c (record { number = n; later = later ++ b ∷ [] }) ≡ option_map
        (λ (l : LastLaunch). record { number = l.number; later = l.later ++ b ∷ [] })
        (then_some {T = LastLaunch} c (record { number = n; later = later }))
    go true = refl
    go false = refl
launched_more j _ b later = refl

pub last_launch_other : (j : ℕ) (L : List Body) (b : Body) → is_launch_of j b ≡ false
    → last_launch j (L ++ b ∷ []) ≡ option_map (more b) (last_launch j L)
unfolding last_launch
last_launch_other j [] b e = launched_none j b [] e
last_launch_other j (x ∷ L) b e = rw (last_launch_other j L b e) (go (last_launch j L))
  where
    go : (o : Option (LastLaunch))
        → option_or (option_map (more b) o) (launch_here j x (L ++ b ∷ [])) ≡ option_map (more b)
        (option_or o (launch_here j x L))
    go None = launched_more j x b L
    go (Some l) = refl

-- an entry that is no launch opens none
opens_none : (j : ℕ) (L : List Body) (b : Body) → is_launch_of j b ≡ false
    → done (is_open j (L ++ b ∷ [])) ≤ done (is_open j L)
unfolding is_open open_launch
opens_none j L b none = rw (last_launch_other j L b none) (go (last_launch j L))
  where
    first_stays : (l : LastLaunch) (xs ys : List Outcome)
        → done (is_some (then_some (is_none (slice_get (xs ++ ys) 0)) l.number))
        ≤ done (is_some (then_some (is_none (slice_get xs 0)) l.number))
    first_stays l [] [] = omega arith
    first_stays l [] (y ∷ ys) = omega arith
    first_stays l (x ∷ xs) ys = omega arith

    go : (o : Option LastLaunch)
        → done (is_some (option_and_then (λ (l : LastLaunch). then_some (is_none (first_end j l.number l.later)) l.number)
        (option_map (λ (l : LastLaunch). record { number = l.number; later = l.later ++ b ∷ [] }) o)))
        ≤ done (is_some (option_and_then (λ (l : LastLaunch). then_some (is_none (first_end j l.number l.later)) l.number) o))
    go None = omega arith
    go (Some l) =
        rw (filter_map-append (end_of j l.number) l.later (b ∷ []))
        (first_stays l (filter_map (end_of j l.number) l.later) (filter_map (end_of j l.number) (b ∷ [])))

pub at_most_one : (b : Bool) → done b ≤ 1
at_most_one true = omega arith
at_most_one false = omega arith

-- the loss of a job's open launch leaves none open
lost_shuts : (j n : ℕ) (L : List Body) → open_launch j L ≡ Some n
    → done (is_open j (L ++ Lost j n ∷ [])) + 1 ≤ done (is_open j L)
unfolding is_open open_launch
lost_shuts j n L e = rw (last_launch_other j L (Lost j n) refl) (go (last_launch j L) e)
  where
    shut : (l : LastLaunch) (o : Option Outcome) → slice_get (filter_map (end_of j l.number) l.later) 0 ≡ o
        → then_some (is_none o) l.number ≡ Some n
        → done (is_some (then_some (is_none (slice_get (filter_map (end_of j l.number) (l.later ++ Lost j n ∷ [])) 0))
        l.number)) + 1 ≤ done (is_some (then_some (is_none o) l.number))
    shut l (Some out) f e = cc
    shut l None f e =
        let this : l.number ≡ n = some_same l.number n e in
        rw (this, filter_map-append)
        (rw (
          no_first (filter_map (end_of j n) l.later)
              (subst (λ (m : ℕ). slice_get (filter_map (end_of j m) l.later) 0 ≡ None) this f),
          eq-eqb j j refl,
          eq-eqb n n refl,
        )
        (omega arith))

    go : (o : Option LastLaunch)
        → option_and_then (λ (l : LastLaunch). then_some (is_none (first_end j l.number l.later)) l.number) o ≡ Some n
        → done (is_some (option_and_then (λ (l : LastLaunch). then_some (is_none (first_end j l.number l.later)) l.number)
        (option_map (λ (l : LastLaunch). record { number = l.number; later = l.later ++ Lost j n ∷ [] }) o))) + 1
        ≤ done (is_some (option_and_then (λ (l : LastLaunch). then_some (is_none (first_end j l.number l.later)) l.number) o))
    go None e = cc
    go (Some l) e = shut l (first_end j l.number l.later) refl e

-- launches and reruns are counted
pub reruns_more : (j : ℕ) (L : List Body) (b : Body) → reruns j (L ++ b ∷ []) ≡ reruns j L + reruns j (b ∷ [])
unfolding reruns commands
reruns_more j L b =
    rw filter_map-append (sum_by-append _ (filter_map obeyed_command L) (filter_map obeyed_command (b ∷ [])))

pub reruns_none : (j : ℕ) (b : Body) → obeyed_command b ≡ None → reruns j (b ∷ []) ≡ 0
unfolding reruns commands
reruns_none j b e = rw e refl

-- the job that an order reruns, if it does
abbrev pub rerun_target : Cmd → ℕ
rerun_target (Rerun k) = k
rerun_target _ = 0

pub reruns_one : (j a k : ℕ) (c : Cmd) → reruns j (Obeyed a k c ∷ []) ≤ done (eqb j (rerun_target c))
unfolding reruns commands
reruns_one j a k (Rerun i) = go (eqb j i)
  where
    go : (e : Bool) → 0 + cond e 1 0 ≤ done e
    go true = omega arith
    go false = omega arith
reruns_one j a k _ = omega arith

pub job_low : (caps : Caps) (L : List Body) (b : Body) (j : ℕ) → is_launch_of j b ≡ false → obeyed_command b ≡ None
    → job_left caps (L ++ b ∷ []) j ≤ job_left caps L j
unfolding job_left
job_low caps L b j no_launch no_command =
    rw (launches-append, reruns_more)
    (omega (
      arith,
      launches_none j b no_launch,
      reruns_none j b no_command,
      opens_none j L b no_launch,
      records_low (caps.of_deps (Job j)) L b (Job j),
    ))

pub job_rises : (caps : Caps) (L : List Body) (a k : ℕ) (c : Cmd) (j : ℕ)
    → job_left caps (L ++ Obeyed a k c ∷ []) j ≤ job_left caps L j + 2 * done (eqb j (rerun_target c))
unfolding job_left
job_rises caps L a k c j =
    rw (launches-append, reruns_more)
    (omega (
      arith,
      launches_none j (Obeyed a k c) refl,
      reruns_one j a k c,
      opens_none j L (Obeyed a k c) refl,
      records_low (caps.of_deps (Job j)) L (Obeyed a k c) (Job j),
    ))

pub launch_falls : (caps : Caps) (L : List Body) (j n : ℕ) (seen : Seen) → launches j L < 1 + reruns j L
    → job_left caps (L ++ Launched j n seen ∷ []) j + 1 ≤ job_left caps L j
unfolding job_left
launch_falls caps L j n seen due =
    rw (launches-append, reruns_more)
    (omega (
      arith,
      due,
      launches_one j n seen,
      reruns_none j (Launched j n seen) refl,
      at_most_one (is_open j (L ++ Launched j n seen ∷ [])),
      records_low (caps.of_deps (Job j)) L (Launched j n seen) (Job j),
    ))

pub lost_falls : (caps : Caps) (L : List Body) (j n : ℕ) → open_launch j L ≡ Some n
    → job_left caps (L ++ Lost j n ∷ []) j + 1 ≤ job_left caps L j
unfolding job_left
lost_falls caps L j n e =
    rw (launches-append, reruns_more)
    (omega (
      arith,
      launches_none j (Lost j n) refl,
      reruns_none j (Lost j n) refl,
      lost_shuts j n L e,
      records_low (caps.of_deps (Job j)) L (Lost j n) (Job j),
    ))

pub job_record_falls : (caps : Caps) (L : List Body) (b : Body) (j : ℕ) → is_launch_of j b ≡ false
    → obeyed_command b ≡ None → records_left (caps.of_deps (Job j)) (L ++ b ∷ []) (Job j) + 1 ≤ records_left (caps.of_deps (Job j)) L (Job j)
    → job_left caps (L ++ b ∷ []) j + 1 ≤ job_left caps L j
unfolding job_left
job_record_falls caps L b j no_launch no_command falls =
    rw (launches-append, reruns_more)
    (omega (
      arith,
      launches_none j b no_launch,
      reruns_none j b no_command,
      opens_none j L b no_launch,
      falls,
    ))

-- the clock
max_is : (a b m : ℕ) → a ≤ m → b ≤ m → cond (nat_lt a b) b a ≤ m
max_is a b m h k = go (nat_lt a b)
  where
    go : (c : Bool) → cond c b a ≤ m
    go true = k
    go false = h

max_first : (a b : ℕ) → a ≤ cond (nat_lt a b) b a
max_first a b = grind (arith, nat_tests)

max_second : (a b : ℕ) → b ≤ cond (nat_lt a b) b a
max_second a b = grind (arith, nat_tests)

greatest_grows : (xs ys : List ℕ) → greatest xs ≤ greatest (xs ++ ys)
greatest_grows [] ys = omega arith
greatest_grows (x ∷ xs) ys =
    max_is x (greatest xs) (greatest (x ∷ xs ++ ys)) (max_first x (greatest (xs ++ ys)))
    (omega (arith, greatest_grows xs ys, max_second x (greatest (xs ++ ys))))

greatest_last : (xs : List ℕ) (t : ℕ) → t ≤ greatest (xs ++ t ∷ [])
greatest_last [] t = max_first t 0
greatest_last (x ∷ xs) t = omega (arith, greatest_last xs t, max_second x (greatest (xs ++ t ∷ [])))

now_grows : (L : List Body) (b : Body) → now L ≤ now (L ++ b ∷ [])
unfolding now
now_grows L b =
    rw filter_map-append (greatest_grows (filter_map reading L) (filter_map reading (b ∷ [])))

now_there : (L : List Body) (t : ℕ) → t ≤ now (L ++ Clock t ∷ [])
unfolding now
now_there L t = rw filter_map-append (greatest_last (filter_map reading L) t)

lower : (m n t : ℕ) → m ≤ n → done (nat_lt n t) ≤ done (nat_lt m t)
lower m n t h = grind (arith, nat_tests)

spent : (m n t : ℕ) → m < t → t ≤ n → done (nat_lt n t) + 1 ≤ done (nat_lt m t)
spent m n t h k = grind (arith, nat_tests)

pub clock_low : (L : List Body) (b : Body) (ts : List ℕ)
    → sum_over (λ t. done (nat_lt (now (L ++ b ∷ [])) t)) ts ≤ sum_over (λ t. done (nat_lt (now L) t)) ts
clock_low L b ts =
    sum_over_low (λ t. done (nat_lt (now (L ++ b ∷ [])) t)) (λ t. done (nat_lt (now L) t)) ts
    (λ t. lower (now L) (now (L ++ b ∷ [])) t (now_grows L b))

pub clock_falls : (L : List Body) (t : ℕ) (ts : List ℕ) → has ts t ≡ true → now L < t
    → sum_over (λ u. done (nat_lt (now (L ++ Clock t ∷ [])) u)) ts + 1 ≤ sum_over (λ u. done (nat_lt (now L) u)) ts
clock_falls L t [] among h = cc
clock_falls L t (u ∷ ts) among h =
    elim (eqb_tells u t) [
      | inl e ↦ omega (
        arith,
        subst (λ (u : ℕ). done (nat_lt (now (L ++ Clock t ∷ [])) u) + 1 ≤ done (nat_lt (now L) u)) (sym e.1)
            (spent (now L) (now (L ++ Clock t ∷ [])) t h (now_there L t)),
        clock_low L (Clock t) ts,
      )
      | inr e ↦ omega (
        arith,
        lower (now L) (now (L ++ Clock t ∷ [])) u (now_grows L (Clock t)),
        clock_falls L t ts (or_rest (eqb u t) (has ts t) e.0 among) h,
      )
    ]

-- orders
pub answered_one : (a : ℕ) (b : Body) → answers_to a b ≡ true → answered a (b ∷ []) ≡ 1
unfolding answered
answered_one a b e = rw e refl

pub orders_low : (n : ℕ) (given : ℕ → ℕ) (L : List Body) (b : Body)
    → orders_left n given (L ++ b ∷ []) ≤ orders_left n given L
unfolding orders_left
orders_low n given L b =
    sum_over_low (λ a. 3 * (given a - answered a (L ++ b ∷ []))) (λ a. 3 * (given a - answered a L)) (below n)
    (λ a. omega (arith, answered-append a L (b ∷ [])))

pub orders_fall : (n : ℕ) (given : ℕ → ℕ) (L : List Body) (b : Body) (a : ℕ) → a < n → answered a L < given a
    → answers_to a b ≡ true → orders_left n given (L ++ b ∷ []) + 3 ≤ orders_left n given L
unfolding orders_left
orders_fall n given L b a low here this =
    sum_over_falls (λ a. 3 * (given a - answered a (L ++ b ∷ []))) (λ a. 3 * (given a - answered a L)) 3 n a
    (λ a. omega (arith, answered-append a L (b ∷ []))) low
    (omega (arith, here, answered-append a L (b ∷ []), answered_one a b this))
