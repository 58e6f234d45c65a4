-- Who holds units at a workstation: no more than it has events, since each was launched or released there.
use Rattle.std.proofs.Common.{[], ℕ, ◌&&◌, ◌+◌, ◌||◌, ◌∙◌, ◌∷◌, ◌≡◌, ◌≤◌, Bool, List, None, Option, Some, ap}
use Rattle.std.proofs.Common.{arith}
use Rattle.std.proofs.Common.{cond, false, filter, flat_map, inl, inr, is_none, is_some, length, map, not}
use Rattle.std.proofs.Common.{option_and_then, refl, sum_by, sym, true}
use Rattle.std.specs.Bool.{then_some}
use Rattle.std.specs.List.{list_any}
use Rattle.std.specs.Option.{option_or}
use Rattle.std.specs.Prelude.{◌==◌}
use Rattle.std.proofs.lemmas.Bool.Decides.{eqb_tells}
use Rattle.std.proofs.lemmas.List.Sums.{sum_by-append, sum_by-cons}
use Rattle.lemmas.proofs.Booleans.{and_left, and_right, or_true}
use Rattle.lemmas.proofs.Lists.{filter_filter}
use Rattle.model.specs.Types.{Late}
use Rattle.model.specs.Types.{Added, Body, Clock, Declined, Ended, Events, Failed, Fulfilled, Job, Launched, Lost}
use Rattle.model.specs.Types.{NewPlan, Obeyed, Order, Released, Started, Stream, StreamDoc, StreamEnded}
use Rattle.model.specs.Types.{UntilPassed}
use Rattle.model.specs.Words.{firsts, has}
use Rattle.model.specs.History.{View}
use Rattle.model.specs.Catalogue.{StreamJob, catalogue, docs_in, jobs, jobs_in, jobs_of, streams_of}
use Rattle.model.specs.Facts.{LastLaunch, is_cancelled, is_ended, is_launch_of, is_open, is_release_of, is_released}
use Rattle.model.specs.Facts.{first_end, last_launch, launch_here, open_launch}
use Rattle.model.specs.Dependencies.{holders, units, used}
use Rattle.owner_fold.specs.Holders.{is_open_here, is_under_way, open_jobs, streams_under_way}

-- a list has no more of what passes one test than of what passes a weaker one
weaker : {X : Type 0} (p q : X → Bool) (xs : List X) → ((x : X) → p x ≡ true → q x ≡ true)
    → length (filter p xs) ≤ length (filter q xs)
weaker p q [] f = omega arith
weaker {X} p q (x ∷ xs) f = go (p x) (q x) refl refl (weaker p q xs f)
  where
    go : (a b : Bool) → p x ≡ a → q x ≡ b → length (filter p xs) ≤ length (filter q xs)
        → length (cond a (x ∷ filter p xs) (filter p xs)) ≤ length (cond b (x ∷ filter q xs) (filter q xs))
    go true true e k h = omega (arith, h)
    go true false e k h = let c : q x ≡ true = f x e in cc
    go false true e k h = omega (arith, h)
    go false false e k h = h

-- what passes one test or the other
either : {X : Type 0} (p q : X → Bool) (xs : List X)
    → length (filter (λ (x : X). p x || q x) xs) ≤ length (filter p xs) + length (filter q xs)
either p q [] = omega arith
either {X} p q (x ∷ xs) = go (p x) (q x) (either p q xs)
  where
    go : (a b : Bool) → length (filter (λ (y : X). p y || q y) xs) ≤ length (filter p xs) + length (filter q xs)
        → length (cond (a || b) (x ∷ filter (λ (y : X). p y || q y) xs) (filter (λ (y : X). p y || q y) xs))
        ≤ length (cond a (x ∷ filter p xs) (filter p xs)) + length (cond b (x ∷ filter q xs) (filter q xs))
    go true true h = omega (arith, h)
    go true false h = omega (arith, h)
    go false true h = omega (arith, h)
    go false false h = h

nobody : {X : Type 0} (xs : List X) → length (filter (λ (x : X). false) xs) ≤ 0
nobody [] = omega arith
nobody (x ∷ xs) = nobody xs

-- each number at most once
abbrev AreApart : {X : Type 0} → (X → ℕ) → List X → Type 0
AreApart {X} number xs = (n : ℕ) → length (filter (λ (x : X). number x == n) xs) ≤ 1

-- of what counts no two have one number, and none a known one
firsts_at_most : {X : Type 0} (number : X → ℕ) (known : List ℕ) (xs : List X) (n : ℕ)
    → length (filter (λ (x : X). number x == n) (firsts number known xs)) ≤ cond (has known n) 0 1
firsts_at_most number known [] n = omega arith
firsts_at_most {X} number known (x ∷ xs) n =
    go (has known (number x)) refl (firsts_at_most number known xs n) (firsts_at_most number (number x ∷ known) xs n)
  where
    here : (b : Bool) → number x == n ≡ b → has known (number x) ≡ false
        → length (filter (λ (y : X). number y == n) (firsts number (number x ∷ known) xs)) ≤ cond (b || has known n) 0 1
        → length (cond b (x ∷ filter (λ (y : X). number y == n) (firsts number (number x ∷ known) xs))
        (filter (λ (y : X). number y == n) (firsts number (number x ∷ known) xs)))
        ≤ cond (has known n) 0 1
    here true e k h =
        elim (eqb_tells (number x) n) [
          | inl c ↦ (let m : has known n ≡ false = ap (λ (m : ℕ). has known m) (sym c.1) ∙ k in rw m (omega (arith, h)))
          | inr c ↦ cc
        ]
    here false e k h = h

    go : (b : Bool) → has known (number x) ≡ b
        → length (filter (λ (y : X). number y == n) (firsts number known xs)) ≤ cond (has known n) 0 1
        → length (filter (λ (y : X). number y == n) (firsts number (number x ∷ known) xs))
        ≤ cond ((number x == n) || has known n) 0 1
        → length (filter (λ (y : X). number y == n)
        (cond b (firsts number known xs) (x ∷ firsts number (number x ∷ known) xs)))
        ≤ cond (has known n) 0 1
    go true e h k = h
    go false e h k = here (number x == n) refl e k

firsts_apart : {X : Type 0} (number : X → ℕ) (xs : List X) → AreApart number (firsts number [] xs)
firsts_apart number xs n = firsts_at_most number [] xs n

-- a filter keeps numbers apart
filter_apart : {X : Type 0} (number : X → ℕ) (q : X → Bool) (xs : List X) → AreApart number xs
    → AreApart number (filter q xs)
filter_apart {X} number q xs h n =
    let e : filter (λ (x : X). number x == n) (filter q xs) ≡ filter (λ (x : X). q x && (number x == n)) xs =
    filter_filter (λ (x : X). number x == n) q xs
    in
    let w : length (filter (λ (x : X). q x && (number x == n)) xs) ≤ length (filter (λ (x : X). number x == n) xs) =
    weaker (λ (x : X). q x && (number x == n)) (λ (x : X). number x == n) xs
    (λ x. and_right (q x) (number x == n))
    in
    rw e (omega (arith, w, h n))

-- the jobs that a body launches, and the streams that it releases
abbrev launched_by : List StreamJob → Body → List StreamJob
launched_by ps b = filter (λ (p : StreamJob). is_launch_of p.doc.no b) ps

abbrev released_by : List StreamDoc → Body → List StreamDoc
released_by ds b = filter (λ (d : StreamDoc). is_release_of d.no b) ds

abbrev OneAtMost : List StreamJob → List StreamDoc → Body → Type 0
OneAtMost ps ds b = length (launched_by ps b) + length (released_by ds b) ≤ 1

neither : (ps : List StreamJob) (ds : List StreamDoc)
    → length (filter (λ (p : StreamJob). false) ps) + length (filter (λ (d : StreamDoc). false) ds) ≤ 1
neither ps ds = omega (arith, nobody ps, nobody ds)

one_each : (ps : List StreamJob) (ds : List StreamDoc) → AreApart (λ (p : StreamJob). p.doc.no) ps
    → AreApart (λ (d : StreamDoc). d.no) ds → (b : Body) → OneAtMost ps ds b
one_each ps ds f g (Launched k n seen) = omega (arith, f k, nobody ds)
one_each ps ds f g (Released s seen) = omega (arith, g s, nobody ps)
one_each ps ds f g (NewPlan run cut carried docs) = neither ps ds
one_each ps ds f g (Added a k doc) = neither ps ds
one_each ps ds f g (Clock t) = neither ps ds
one_each ps ds f g (StreamEnded s seen) = neither ps ds
one_each ps ds f g (UntilPassed p i mark) = neither ps ds
one_each ps ds f g (Started j n) = neither ps ds
one_each ps ds f g (Failed j n) = neither ps ds
one_each ps ds f g (Ended j n rc good) = neither ps ds
one_each ps ds f g (Lost j n) = neither ps ds
one_each ps ds f g (Fulfilled p i) = neither ps ds
one_each ps ds f g (Obeyed a k c) = neither ps ds
one_each ps ds f g (Declined a k why) = neither ps ds
one_each ps ds f g (Order c) = neither ps ds
one_each ps ds f g (Late p i) = neither ps ds

-- those that a list of events launched or released
abbrev launched_among : List StreamJob → List Body → List StreamJob
launched_among ps own = filter (λ (p : StreamJob). list_any (is_launch_of p.doc.no) own) ps

abbrev released_among : List StreamDoc → List Body → List StreamDoc
released_among ds own = filter (λ (d : StreamDoc). list_any (is_release_of d.no) own) ds

few_each : (ps : List StreamJob) (ds : List StreamDoc) (own : List Body)
    → AreApart (λ (p : StreamJob). p.doc.no) ps → AreApart (λ (d : StreamDoc). d.no) ds
    → length (launched_among ps own) + length (released_among ds own) ≤ length own
few_each ps ds [] f g = omega (arith, nobody ps, nobody ds)
few_each ps ds (b ∷ bs) f g =
    omega (
      arith,
      one_each ps ds f g b,
      few_each ps ds bs f g,
      either (λ (p : StreamJob). is_launch_of p.doc.no b) (λ (p : StreamJob). list_any (is_launch_of p.doc.no) bs) ps,
      either (λ (d : StreamDoc). is_release_of d.no b) (λ (d : StreamDoc). list_any (is_release_of d.no) bs) ds,
    )

some_where : (b : Bool) (x l : LastLaunch) → then_some b x ≡ Some l → b ≡ true
some_where true x l h = refl
some_where false x l h = cc

pub launch_is_told : (j : ℕ) (b : Body) (bs : List Body) (l : LastLaunch) → launch_here j b bs ≡ Some l
    → is_launch_of j b ≡ true
launch_is_told j (Launched k n seen) bs l h = some_where (j == k) (record { number = n; later = bs }) l h
launch_is_told j (Released s seen) bs l h = cc
launch_is_told j (NewPlan run cut carried docs) bs l h = cc
launch_is_told j (Added a k doc) bs l h = cc
launch_is_told j (Clock t) bs l h = cc
launch_is_told j (StreamEnded s seen) bs l h = cc
launch_is_told j (UntilPassed p i mark) bs l h = cc
launch_is_told j (Started k n) bs l h = cc
launch_is_told j (Failed k n) bs l h = cc
launch_is_told j (Ended k n rc good) bs l h = cc
launch_is_told j (Lost k n) bs l h = cc
launch_is_told j (Fulfilled p i) bs l h = cc
launch_is_told j (Obeyed a k c) bs l h = cc
launch_is_told j (Declined a k why) bs l h = cc
launch_is_told j (Order c) bs l h = cc
launch_is_told j (Late p i) bs l h = cc

last_or_here : (j : ℕ) (b : Body) (bs : List Body) (l : LastLaunch) (o : Option LastLaunch) → last_launch j bs ≡ o
    → ((m : LastLaunch) → last_launch j bs ≡ Some m → list_any (is_launch_of j) bs ≡ true)
    → option_or o (launch_here j b bs) ≡ Some l → (is_launch_of j b || list_any (is_launch_of j) bs) ≡ true
last_or_here j b bs l None e f h = rw (launch_is_told j b bs l h) refl
last_or_here j b bs l (Some m) e f h = rw (f m e) (or_true (is_launch_of j b))

launched : (j : ℕ) (own : List Body) (l : LastLaunch) → last_launch j own ≡ Some l
    → list_any (is_launch_of j) own ≡ true
unfolding last_launch
launched j [] l h = cc
launched j (b ∷ bs) l h = last_or_here j b bs l (last_launch j bs) refl (launched j bs) h

by_last : (j : ℕ) (own : List Body) (o : Option LastLaunch) → last_launch j own ≡ o
    → is_some (option_and_then (λ (l : LastLaunch). then_some (is_none (first_end j l.number l.later)) l.number) o)
    ≡ true → list_any (is_launch_of j) own ≡ true
by_last j own None e h = cc
by_last j own (Some l) e h = launched j own l e

open_was_launched : (j : ℕ) (own : List Body) → is_open j own ≡ true → list_any (is_launch_of j) own ≡ true
unfolding is_open open_launch
open_was_launched j own h = by_last j own (last_launch j own) refl h

-- a workstation's jobs, and its streams, have numbers apart
jobs_apart : (V : View) (w : ℕ) → AreApart (λ (p : StreamJob). p.doc.no) (jobs_of V w)
unfolding jobs_of jobs
jobs_apart V w =
    filter_apart (λ (p : StreamJob). p.doc.no) (λ (p : StreamJob). p.doc.ws == w)
    (firsts (λ (p : StreamJob). p.doc.no) [] (flat_map jobs_in (catalogue V)))
    (firsts_apart (λ (p : StreamJob). p.doc.no) (flat_map jobs_in (catalogue V)))

streams_apart : (V : View) → AreApart (λ (d : StreamDoc). d.no) (catalogue V)
unfolding catalogue
streams_apart V = firsts_apart (λ (d : StreamDoc). d.no) (flat_map docs_in (V (Events 0)))

under_way_was_released : (w : ℕ) (own : List Body) (d : StreamDoc) → is_under_way w own d ≡ true
    → list_any (is_release_of d.no) own ≡ true
unfolding is_released
under_way_was_released w own d h =
    and_left (list_any (is_release_of d.no) own) (not (is_ended d.no own) && not (is_cancelled (Stream d.no) own))
    (and_right (d.ws == w)
    (list_any (is_release_of d.no) own && (not (is_ended d.no own) && not (is_cancelled (Stream d.no) own))) h)

pub few_holders : (V : View) (w : ℕ) → length (open_jobs V w) + length (streams_under_way V w) ≤ length (V (Events w))
few_holders V w =
    omega (
      arith,
      few_each (jobs_of V w) (catalogue V) (V (Events w)) (jobs_apart V w) (streams_apart V),
      weaker (λ (p : StreamJob). is_open p.doc.no (V (Events w)))
          (λ (p : StreamJob). list_any (is_launch_of p.doc.no) (V (Events w))) (jobs_of V w)
          (λ p. open_was_launched p.doc.no (V (Events w))),
      weaker (is_under_way w (V (Events w))) (λ (d : StreamDoc). list_any (is_release_of d.no) (V (Events w)))
          (catalogue V) (λ d. under_way_was_released w (V (Events w)) d),
    )

-- the units that these ask for
abbrev pub job_units : View → ℕ → List StreamJob → ℕ
job_units V r ps = sum_by (λ (p : StreamJob). units V r (Job p.doc.no)) ps

abbrev pub stream_units : View → ℕ → List StreamDoc → ℕ
stream_units V r ds = sum_by (λ (d : StreamDoc). units V r (Stream d.no)) ds

sum_by-map : {X Y : Type 0} (f : Y → ℕ) (g : X → Y) (xs : List X)
    → sum_by f (map g xs) ≡ sum_by (λ (x : X). f (g x)) xs
sum_by-map f g [] = refl
sum_by-map {X} {Y} f g (x ∷ xs) =
    sum_by-cons f (g x) (map g xs) ∙ ap (λ (n : ℕ). f (g x) + n) (sum_by-map f g xs)
    ∙ sym (sum_by-cons (λ (x : X). f (g x)) x xs)

pub used_by_both : (V : View) (w r : ℕ)
    → used V w r ≡ job_units V r (open_jobs V w) + stream_units V r (streams_under_way V w)
unfolding used holders streams_of
used_by_both V w r =
    sum_by-append (units V r) (map (λ (p : StreamJob). Job p.doc.no) (open_jobs V w))
    (map (λ (d : StreamDoc). Stream d.no)
    (filter
    (λ (d : StreamDoc).
    is_released d.no (V (Events w))
    && (not (is_ended d.no (V (Events w))) && not (is_cancelled (Stream d.no) (V (Events w)))))
    (filter (λ (d : StreamDoc). d.ws == w) (catalogue V))))
    ∙ (rw (
      sum_by-map (units V r) (λ (p : StreamJob). Job p.doc.no) (open_jobs V w),
      sum_by-map (units V r) (λ (d : StreamDoc). Stream d.no),
      filter_filter
          (λ (d : StreamDoc).
          is_released d.no (V (Events w))
          && (not (is_ended d.no (V (Events w))) && not (is_cancelled (Stream d.no) (V (Events w)))))
          (λ (d : StreamDoc). d.ws == w) (catalogue V),
    ) refl)

-- the jobs of w with an open launch, of all jobs of the catalogue
pub open_among : (V : View) (w : ℕ) (all : List StreamJob) → all ≡ jobs V
    → filter (λ (p : StreamJob). is_open_here w (V (Events w)) p.doc) all ≡ open_jobs V w
unfolding jobs_of
open_among V w all e =
    rw e
    (sym (filter_filter (λ (p : StreamJob). is_open p.doc.no (V (Events w))) (λ (p : StreamJob). p.doc.ws == w)
    (jobs V)))
