-- What is told of a job, one body further.
use Rattle.std.proofs.Common.{[], ℕ, ◌+◌, ◌++◌, ◌<◌, ◌∙◌, ◌∷◌, ◌≡◌, ◌≢◌, ◌≤◌, ◌^◌, Bool, List, None, Option, Some}
use Rattle.std.proofs.Common.{ap, arith, cond}
use Rattle.std.proofs.Common.{count_by, eqb, false, filter_map, inl, inr, length, option_map, refl, slice_get, sym}
use Rattle.std.proofs.Common.{true}
use Rattle.std.proofs.lemmas.Bool.Decides.{eqb_tells}
use Rattle.std.proofs.lemmas.List.Elements.{filter_map-append}
use Rattle.std.proofs.lemmas.List.Folds.{list_any-append}
use Rattle.std.proofs.lemmas.List.Sums.{count_by-le-length, sum_by-append}
use Rattle.std.specs.Bool.{then_some}
use Rattle.std.specs.List.{list_any}
use Rattle.std.specs.Option.{option_map_or, option_or}
use Rattle.std.specs.Prelude.{if◌then◌else◌, ◌||◌}
use Rattle.lemmas.proofs.Lists.{any_with, filter_map_short}
use Rattle.model.specs.Types.{Added, Body, Clock, Cmd, Confirm, Declined, Ended, Failed, Fulfilled, Launched, Lost}
use Rattle.model.specs.Types.{Late, NewPlan}
use Rattle.model.specs.Types.{Obeyed, Order, Released, Rerun, Started, StreamEnded, UntilPassed}
use Rattle.model.specs.Facts.{LastLaunch, code_of, commands, end_of, is_confirm_of, is_launch_of, is_rerun_of}
use Rattle.model.specs.Facts.{is_start_of, last_launch, launch_here, launches, obeyed_command, reruns}
use Rattle.owner_rows.specs.Jobs.{IsJobRow, LastTold, fresh_in, is_confirm_in, is_rerun_in, kept_last, last_told}
use Rattle.owner_rows.specs.Jobs.{last_with, told_of, told_with}
use Rattle.owner_rows.specs.Subjects.{job_in}
use Rattle.owner_rows.specs.declared.jobs.JobRow.{JobRow}

-- counts
count_with : {X : Type 0} (p : X → Bool) (xs : List X) (x : X)
    → count_by p (xs ++ x ∷ []) ≡ count_by p xs + (if p x then 1 else 0)
count_with {X} p xs x =
    sum_by-append (λ (x : X). cond (p x) 1 0) xs (x ∷ []) ∙ ap (λ n. count_by p xs + n) (last (cond (p x) 1 0))
  where
    last : (n : ℕ) → 0 + n ≡ n
    last n = omega arith

pub launches_with : (j : ℕ) (events : List Body) (b : Body)
    → launches j (events ++ b ∷ []) ≡ launches j events + (if is_launch_of j b then 1 else 0)
unfolding launches
launches_with j events b = count_with (is_launch_of j) events b

commands_with : (events : List Body) (b : Body)
    → commands (events ++ b ∷ []) ≡ commands events ++ filter_map obeyed_command (b ∷ [])
unfolding commands
commands_with events b = filter_map-append obeyed_command events (b ∷ [])

pub reruns_with : (j : ℕ) (events : List Body) (b : Body)
    → reruns j (events ++ b ∷ []) ≡ reruns j events + (if is_rerun_in j b then 1 else 0)
unfolding reruns
reruns_with j events b =
    ap (count_by (is_rerun_of j)) (commands_with events b)
    ∙ sum_by-append (λ (c : Cmd). cond (is_rerun_of j c) 1 0) (commands events) (filter_map obeyed_command (b ∷ []))
    ∙ ap (λ n. count_by (is_rerun_of j) (commands events) + n) (go b)
  where
    last : (n : ℕ) → 0 + n ≡ n
    last n = omega arith

    go : (b : Body) → count_by (is_rerun_of j) (filter_map obeyed_command (b ∷ [])) ≡ (if is_rerun_in j b then 1 else 0)
    go (Obeyed a k c) = last (cond (is_rerun_of j c) 1 0)
    go (NewPlan run cut carried docs) = refl
    go (Added a k doc) = refl
    go (Clock t) = refl
    go (Released s seen) = refl
    go (StreamEnded s seen) = refl
    go (UntilPassed p i mark) = refl
    go (Launched k n seen) = refl
    go (Started k n) = refl
    go (Failed k n) = refl
    go (Ended k n rc good) = refl
    go (Lost k n) = refl
    go (Fulfilled p i) = refl
    go (Declined a k why) = refl
    go (Order c) = refl
    go (Late p i) = refl

pub few_launches : (j : ℕ) (events : List Body) → launches j events ≤ length events
unfolding launches
few_launches j events = count_by-le-length (is_launch_of j) events

pub few_reruns : (j : ℕ) (events : List Body) → reruns j events ≤ length events
unfolding reruns commands
few_reruns j events =
    let h : count_by (is_rerun_of j) (filter_map obeyed_command events) ≤ length (filter_map obeyed_command events) =
    count_by-le-length (is_rerun_of j) (filter_map obeyed_command events) in
    let k : length (filter_map obeyed_command events) ≤ length events = filter_map_short obeyed_command events in
    omega (arith, h, k)

-- the last launch
abbrev pub later_with : Body → LastLaunch → LastLaunch
later_with b l = record { number = l.number; later = l.later ++ b ∷ [] }

here_with : (j : ℕ) (c : Body) (cs : List Body) (b : Body)
    → launch_here j c (cs ++ b ∷ []) ≡ option_map (later_with b) (launch_here j c cs)
here_with j (Launched k n seen) cs b = go (eqb j k)
  where
    go : (t : Bool) → then_some t (record { number = n; later = cs ++ b ∷ [] })
        ≡ option_map (later_with b) (then_some t (record { number = n; later = cs }))
    go true = refl
    go false = refl
here_with j (NewPlan run cut carried docs) cs b = refl
here_with j (Added a k doc) cs b = refl
here_with j (Clock t) cs b = refl
here_with j (Released s seen) cs b = refl
here_with j (StreamEnded s seen) cs b = refl
here_with j (UntilPassed p i mark) cs b = refl
here_with j (Started k n) cs b = refl
here_with j (Failed k n) cs b = refl
here_with j (Ended k n rc good) cs b = refl
here_with j (Lost k n) cs b = refl
here_with j (Fulfilled p i) cs b = refl
here_with j (Obeyed a k c) cs b = refl
here_with j (Declined a k why) cs b = refl
here_with j (Order c) cs b = refl
here_with j (Late p i) cs b = refl

merged : {X : Type 0} (f : X → X) (a l h : Option X)
    → option_or (option_or a (option_map f l)) (option_map f h) ≡ option_or a (option_map f (option_or l h))
merged f (Some a) l h = refl
merged f None (Some l) h = refl
merged f None None h = refl

pub last_launch_with : (j : ℕ) (events : List Body) (b : Body)
    → last_launch j (events ++ b ∷ []) ≡ option_or (launch_here j b []) (option_map (later_with b) (last_launch j events))
unfolding last_launch
last_launch_with j [] b = go (launch_here j b [])
  where
    go : (o : Option LastLaunch) → option_or None o ≡ option_or o None
    go None = refl
    go (Some l) = refl
last_launch_with j (c ∷ cs) b =
    rw (last_launch_with j cs b, here_with j c cs b)
    (merged (later_with b) (launch_here j b []) (last_launch j cs) (launch_here j c cs))

-- the first of a list that goes on
first_with : {X Y : Type 0} (f : X → Option Y) (xs : List X) (x : X)
    → slice_get (filter_map f (xs ++ x ∷ [])) 0 ≡ option_or (slice_get (filter_map f xs) 0) (f x)
first_with {X} {Y} f xs x =
    ap (λ (l : List Y). slice_get l 0) (filter_map-append f xs (x ∷ [])) ∙ go (filter_map f xs)
  where
    alone : (o : Option Y) → slice_get (filter_map (λ (p : Option Y). p) (o ∷ [])) 0 ≡ o
    alone None = refl
    alone (Some y) = refl

    one : slice_get (filter_map f (x ∷ [])) 0 ≡ f x
    one = alone (f x)

    go : (l : List Y) → slice_get (l ++ filter_map f (x ∷ [])) 0 ≡ option_or (slice_get l 0) (f x)
    go [] = one
    go (y ∷ ys) = refl

pub confirms_with : (j : ℕ) (events : List Body) (b : Body)
    → list_any (is_confirm_of j) (commands (events ++ b ∷ [])) ≡ (list_any (is_confirm_of j) (commands events) || is_confirm_in j b)
confirms_with j events b =
    ap (list_any (is_confirm_of j)) (commands_with events b)
    ∙ list_any-append (is_confirm_of j) (commands events) (filter_map obeyed_command (b ∷ []))
    ∙ ap (λ (t : Bool). list_any (is_confirm_of j) (commands events) || t) (go (obeyed_command b))
  where
    alone : (t : Bool) → (t || false) ≡ t
    alone true = refl
    alone false = refl

    go : (o : Option Cmd) → list_any (is_confirm_of j) (filter_map (λ (p : Option Cmd). p) (o ∷ []))
        ≡ option_map_or (is_confirm_of j) o false
    go None = refl
    go (Some c) = alone (is_confirm_of j c)

told_of_with : (j : ℕ) (b : Body) (l : LastLaunch) → told_of j (later_with b l) ≡ told_with j b (told_of j l)
told_of_with j b l = λ i. record {
  number = l.number;
  ended = first_with (end_of j l.number) l.later b i;
  code = first_with (code_of j l.number) l.later b i;
  started = any_with (is_start_of j l.number) l.later b i;
  confirmed = confirms_with j l.later b i;
}

no_commands : commands [] ≡ []
unfolding commands
no_commands = refl

fresh_told : (j : ℕ) (b : Body) → option_map (told_of j) (launch_here j b []) ≡ fresh_in j b
fresh_told j (Launched k n seen) = go (eqb j k)
  where
    go : (t : Bool) → option_map (told_of j) (then_some t (record { number = n; later = [] }))
        ≡ then_some t (record { number = n; ended = None; code = None; started = false; confirmed = false })
    go true = λ i. Some (record { number = n; ended = None; code = None; started = false; confirmed = list_any (is_confirm_of j) (no_commands i) })
    go false = refl
fresh_told j (NewPlan run cut carried docs) = refl
fresh_told j (Added a k doc) = refl
fresh_told j (Clock t) = refl
fresh_told j (Released s seen) = refl
fresh_told j (StreamEnded s seen) = refl
fresh_told j (UntilPassed p i mark) = refl
fresh_told j (Started k n) = refl
fresh_told j (Failed k n) = refl
fresh_told j (Ended k n rc good) = refl
fresh_told j (Lost k n) = refl
fresh_told j (Fulfilled p i) = refl
fresh_told j (Obeyed a k c) = refl
fresh_told j (Declined a k why) = refl
fresh_told j (Order c) = refl
fresh_told j (Late p i) = refl

pub last_told_with : (j : ℕ) (events : List Body) (b : Body)
    → last_told j (events ++ b ∷ []) ≡ last_with j b (last_told j events)
last_told_with j events b =
    ap (option_map (told_of j)) (last_launch_with j events b)
    ∙ (go (launch_here j b []) (last_launch j events)
    ∙ ap (λ (o : Option LastTold). option_or o (option_map (told_with j b) (last_told j events))) (fresh_told j b))
  where
    go : (h l : Option LastLaunch) → option_map (told_of j) (option_or h (option_map (later_with b) l))
        ≡ option_or (option_map (told_of j) h) (option_map (told_with j b) (option_map (told_of j) l))
    go (Some h) l = refl
    go None None = refl
    go None (Some l) = ap Some (told_of_with j b l)

-- a count that is one more where something holds
counted_with : (old new n room : ℕ) (p q : Bool) → old ≡ n → n ≤ room → room + 1 < 2 ^ 32 → p ≡ q
    → (old + 1 < 2 ^ 32 → new ≡ old + (if p then 1 else 0)) → new ≡ n + (if q then 1 else 0)
counted_with old new n room p q e few h same more =
    more (omega (arith, few, e, h))
    ∙ ap (λ m. m + (if p then 1 else 0)) e ∙ ap (λ (t : Bool). n + (if t then 1 else 0)) same

-- the row of the job that a body speaks of
pub job_told : (j : ℕ) (events : List Body) (b : Body) (old new : JobRow) (p q : Bool) → length events + 1 < 2 ^ 32
    → IsJobRow events j old → p ≡ is_launch_of j b → q ≡ is_rerun_in j b
    → (old.launches + 1 < 2 ^ 32 → new.launches ≡ old.launches + (if p then 1 else 0))
    → (old.reruns + 1 < 2 ^ 32 → new.reruns ≡ old.reruns + (if q then 1 else 0))
    → option_map kept_last new.last ≡ last_with j b (option_map kept_last old.last)
    → IsJobRow (events ++ b ∷ []) j new
job_told j events b old new p q room h launch rerun more again last = record {
  launches =
      counted_with old.launches new.launches (launches j events) (length events) p (is_launch_of j b)
      h.launches (few_launches j events) room launch more ∙ sym (launches_with j events b);
  reruns =
      counted_with old.reruns new.reruns (reruns j events) (length events) q (is_rerun_in j b)
      h.reruns (few_reruns j events) room rerun again ∙ sym (reruns_with j events b);
  last = last ∙ ap (last_with j b) h.last ∙ sym (last_told_with j events b);
}

-- a body that does not speak of job j
apart : (j k : ℕ) → Some k ≢ Some j → eqb j k ≡ false
apart j k h = elim (eqb_tells j k) [ inl e ↦ absurd (h (ap Some (sym e.1))) | inr e ↦ e.0 ]

pub record SaysNothing (j : ℕ) (b : Body) : Type 0 where
  pub launch : is_launch_of j b ≡ false
  pub rerun : is_rerun_in j b ≡ false
  pub confirm : is_confirm_in j b ≡ false
  pub start : (n : ℕ) → is_start_of j n b ≡ false
  pub ended : (n : ℕ) → end_of j n b ≡ None
  pub code : (n : ℕ) → code_of j n b ≡ None
  pub fresh : fresh_in j b ≡ None

says_nothing : (j : ℕ) (b : Body) → job_in b ≢ Some j → SaysNothing j b
says_nothing j (Launched k n seen) h = let e : eqb j k ≡ false = apart j k h in
    record { launch = e; rerun = refl; confirm = refl; start = λ n. refl; ended = λ n. refl; code = λ n. refl; fresh = rw e refl }
says_nothing j (Started k m) h = let e : eqb j k ≡ false = apart j k h in
    record { launch = refl; rerun = refl; confirm = refl; start = λ n. rw e refl; ended = λ n. refl; code = λ n. refl; fresh = refl }
says_nothing j (Failed k m) h = let e : eqb j k ≡ false = apart j k h in
    record { launch = refl; rerun = refl; confirm = refl; start = λ n. refl; ended = λ n. rw e refl; code = λ n. rw e refl; fresh = refl }
says_nothing j (Ended k m rc good) h = let e : eqb j k ≡ false = apart j k h in
    record { launch = refl; rerun = refl; confirm = refl; start = λ n. refl; ended = λ n. rw e refl; code = λ n. rw e refl; fresh = refl }
says_nothing j (Lost k m) h = let e : eqb j k ≡ false = apart j k h in
    record { launch = refl; rerun = refl; confirm = refl; start = λ n. refl; ended = λ n. rw e refl; code = λ n. rw e refl; fresh = refl }
says_nothing j (Obeyed a i (Rerun k)) h =
    record { launch = refl; rerun = apart j k h; confirm = refl; start = λ n. refl; ended = λ n. refl; code = λ n. refl; fresh = refl }
says_nothing j (Obeyed a i (Confirm k)) h =
    record { launch = refl; rerun = refl; confirm = apart j k h; start = λ n. refl; ended = λ n. refl; code = λ n. refl; fresh = refl }
says_nothing j (NewPlan run cut carried docs) h = record { launch = refl; rerun = refl; confirm = refl; start = λ n. refl; ended = λ n. refl; code = λ n. refl; fresh = refl }
says_nothing j (Added a k doc) h = record { launch = refl; rerun = refl; confirm = refl; start = λ n. refl; ended = λ n. refl; code = λ n. refl; fresh = refl }
says_nothing j (Clock t) h = record { launch = refl; rerun = refl; confirm = refl; start = λ n. refl; ended = λ n. refl; code = λ n. refl; fresh = refl }
says_nothing j (Released s seen) h = record { launch = refl; rerun = refl; confirm = refl; start = λ n. refl; ended = λ n. refl; code = λ n. refl; fresh = refl }
says_nothing j (StreamEnded s seen) h = record { launch = refl; rerun = refl; confirm = refl; start = λ n. refl; ended = λ n. refl; code = λ n. refl; fresh = refl }
says_nothing j (UntilPassed p i mark) h = record { launch = refl; rerun = refl; confirm = refl; start = λ n. refl; ended = λ n. refl; code = λ n. refl; fresh = refl }
says_nothing j (Fulfilled p i) h = record { launch = refl; rerun = refl; confirm = refl; start = λ n. refl; ended = λ n. refl; code = λ n. refl; fresh = refl }
says_nothing j (Obeyed a i c) h = record { launch = refl; rerun = refl; confirm = refl; start = λ n. refl; ended = λ n. refl; code = λ n. refl; fresh = refl }
says_nothing j (Declined a k why) h = record { launch = refl; rerun = refl; confirm = refl; start = λ n. refl; ended = λ n. refl; code = λ n. refl; fresh = refl }
says_nothing j (Late p i) h = record { launch = refl; rerun = refl; confirm = refl; start = λ n. refl; ended = λ n. refl; code = λ n. refl; fresh = refl }
says_nothing j (Order c) h = record { launch = refl; rerun = refl; confirm = refl; start = λ n. refl; ended = λ n. refl; code = λ n. refl; fresh = refl }

last_stays : (j : ℕ) (b : Body) (o : Option LastTold) → SaysNothing j b → last_with j b o ≡ o
last_stays j b o h = ap (λ (f : Option LastTold). option_or f (option_map (told_with j b) o)) h.fresh ∙ go o
  where
    or_none : {X : Type 0} (o : Option X) → option_or o None ≡ o
    or_none None = refl
    or_none (Some x) = refl

    or_false : (t : Bool) → (t || false) ≡ t
    or_false true = refl
    or_false false = refl

    go : (o : Option LastTold) → option_map (told_with j b) o ≡ o
    go None = refl
    go (Some l) = λ i. Some (record {
      number = l.number;
      ended = (ap (option_or l.ended) (h.ended l.number) ∙ or_none l.ended) i;
      code = (ap (option_or l.code) (h.code l.number) ∙ or_none l.code) i;
      started = (ap (λ (t : Bool). l.started || t) (h.start l.number) ∙ or_false l.started) i;
      confirmed = (ap (λ (t : Bool). l.confirmed || t) h.confirm ∙ or_false l.confirmed) i;
    })

pub job_quiet : (events : List Body) (b : Body) (j : ℕ) (r : JobRow) → job_in b ≢ Some j → IsJobRow events j r
    → IsJobRow (events ++ b ∷ []) j r
job_quiet events b j r h row =
    let s : SaysNothing j b = says_nothing j b h in
    record {
      launches = row.launches ∙ sym (launches_with j events b ∙ ap (λ (t : Bool). launches j events + (if t then 1 else 0)) s.launch ∙ plus (launches j events));
      reruns = row.reruns ∙ sym (reruns_with j events b ∙ ap (λ (t : Bool). reruns j events + (if t then 1 else 0)) s.rerun ∙ plus (reruns j events));
      last = row.last ∙ sym (last_told_with j events b ∙ last_stays j b (last_told j events) s);
    }
  where
    plus : (n : ℕ) → n + 0 ≡ n
    plus n = omega arith

-- no events
pub job_of_none : (j : ℕ) (r : JobRow) → r.launches ≡ 0 → r.reruns ≡ 0 → r.last ≡ None → IsJobRow [] j r
unfolding launches reruns commands last_launch
job_of_none j r e f g = record { launches = e; reruns = f; last = ap (option_map kept_last) g }
