-- Turns that keep nothing until something changes or a time comes.
use Rattle.std.proofs.Common.{[], ℕ, ◌&&◌, ◌∷◌, ◌≡◌, ◌≤◌, Bool, List, None, Option, Some, arith, false, filter}
use Rattle.std.proofs.Common.{option_map, refl, subst, sym, true, unwrap_or}
use Rattle.std.specs.Bool.{then_some}
use Rattle.std.specs.List.{list_any}
use Rattle.std.specs.Option.{option_or}
use Rattle.std.specs.Prelude.{nat_le, nat_lt}
use Rattle.lemmas.proofs.Booleans.{neither}
use Rattle.model.specs.Types.{Entry, Events, LiveJob, Net, Obj}
use Rattle.model.specs.Words.{least}
use Rattle.model.specs.History.{View, view_of}
use Rattle.model.specs.PresentNet.{present_net}
use Rattle.model.specs.Facts.{now}
use Rattle.model.specs.Readiness.{best}
use Rattle.model.specs.OwnMembers.{may_end, may_release, own_numbers, until_due}
use Rattle.model.specs.Lateness.{late_due}
use Rattle.model.specs.Choices.{Choice}
use Rattle.model.specs.Turn.{body_of, is_clock_due, lost_jobs, next_issuer, own_times, turn_body, turn_choice}
use Rattle.agent_core.specs.Standing.{Idles}

-- the first rule behind that of the clock
abbrev later_choice : Net → View → ℕ → List LiveJob → Option Choice
later_choice net V me live =
    option_or (option_map Choice.Lost (least (lost_jobs V me live)))
    (option_or (option_map Choice.Answer (next_issuer net V me))
    (option_or (option_map (λ (u : Obj × ℕ). Choice.Until u.0 u.1) (until_due V me))
    (option_or (option_map (λ (l : Obj × ℕ). Choice.Late l.0 l.1) (late_due V me))
    (option_or (option_map Choice.Release (least (filter (may_release net V me) (own_numbers V me))))
    (option_or (option_map Choice.End (least (filter (may_end V me) (own_numbers V me))))
    (option_map Choice.Launch (best net V me)))))))

-- the first rule, by whether that of the clock applies
abbrev choice_by : Bool → Option Choice → Choice
choice_by due later = unwrap_or (option_or (then_some due Choice.Clock) later) Choice.Nothing

-- the body of a rule other than the clock's does not go by the reading
same_body : (net : Net) (V : View) (me t u : ℕ) (later : Option Choice)
    → body_of net V me t (choice_by false later) ≡ None → body_of net V me u (choice_by false later) ≡ None
unfolding body_of
same_body net V me t u None h = refl
same_body net V me t u (Some Choice.Clock) h = absurd (cc)
same_body net V me t u (Some (Choice.Lost j)) h = h
same_body net V me t u (Some (Choice.Answer a)) h = h
same_body net V me t u (Some (Choice.Until o i)) h = h
same_body net V me t u (Some (Choice.Late o i)) h = h
same_body net V me t u (Some (Choice.Release s)) h = h
same_body net V me t u (Some (Choice.End s)) h = h
same_body net V me t u (Some (Choice.Launch j)) h = h
same_body net V me t u (Some Choice.Nothing) h = h

-- a turn that keeps nothing found no time that had come
no_clock : (net : Net) (V : View) (me t : ℕ) (due : Bool) (later : Option Choice)
    → body_of net V me t (choice_by due later) ≡ None → due ≡ false
unfolding body_of
no_clock net V me t false later h = refl
no_clock net V me t true later h = absurd (cc)

body_by : (net : Net) (V : View) (me : ℕ) (live : List LiveJob) (t : ℕ)
    → turn_body net V me live t ≡ body_of net V me t (choice_by (is_clock_due V me t) (later_choice net V me live))
unfolding turn_body turn_choice
body_by net V me live t = refl

pub none_came : (net : Net) (V : View) (me : ℕ) (live : List LiveJob) (t : ℕ) → turn_body net V me live t ≡ None
    → is_clock_due V me t ≡ false
none_came net V me live t h =
    no_clock net V me t (is_clock_due V me t) (later_choice net V me live) (subst (λ b. b ≡ None) (body_by net V me live t) h)

-- and so does a turn with another reading, where no time has come
pub still_nothing : (net : Net) (V : View) (me : ℕ) (live : List LiveJob) (t u : ℕ) → turn_body net V me live t ≡ None
    → is_clock_due V me u ≡ false → turn_body net V me live u ≡ None
still_nothing net V me live t u h quiet =
    let at : body_of net V me t (choice_by false (later_choice net V me live)) ≡ None =
    subst (λ due. body_of net V me t (choice_by due (later_choice net V me live)) ≡ None) (none_came net V me live t h)
    (subst (λ b. b ≡ None) (body_by net V me live t) h) in
    subst (λ b. b ≡ None) (sym (body_by net V me live u))
    (subst (λ due. body_of net V me u (choice_by due (later_choice net V me live)) ≡ None) (sym quiet)
    (same_body net V me t u (later_choice net V me live) at))

-- what has not come by a reading has not come by an earlier one
earlier_each : (n t u x : ℕ) → t ≤ u → (nat_lt n x && nat_le x u) ≡ false → (nat_lt n x && nat_le x t) ≡ false
earlier_each n t u x le h = grind (arith, le, h)

earlier_in : (n t u : ℕ) → t ≤ u → (ts : List ℕ) → list_any (λ x. nat_lt n x && nat_le x u) ts ≡ false
    → list_any (λ x. nat_lt n x && nat_le x t) ts ≡ false
earlier_in n t u le [] h = refl
earlier_in n t u le (x ∷ xs) h =
    let k = neither (nat_lt n x && nat_le x u) (list_any (λ y. nat_lt n y && nat_le y u) xs) h in
    rw (earlier_each n t u x le k.0) (earlier_in n t u le xs k.1)

earlier : (V : View) (me t u : ℕ) → t ≤ u → is_clock_due V me u ≡ false → is_clock_due V me t ≡ false
unfolding is_clock_due
earlier V me t u le h = earlier_in (now (V (Events me))) t u le (own_times V me) h

-- turns up to such a reading keep nothing
pub earlier_idle : (net : Net) (me : ℕ) (kept : List Entry) (live : List LiveJob) (u t : ℕ)
    → Idles net me kept live u → t ≤ u → None ≡ turn_body (present_net net (view_of kept)) (view_of kept) me live t
earlier_idle net me kept live u t h le = sym (h.quiet t (earlier (view_of kept) me t u le h.passed))

-- so do later ones, where no time has come
pub later_idle : (net : Net) (me : ℕ) (kept : List Entry) (live : List LiveJob) (u t : ℕ)
    → Idles net me kept live u → is_clock_due (view_of kept) me t ≡ false
    → None ≡ turn_body (present_net net (view_of kept)) (view_of kept) me live t
later_idle net me kept live u t h none = sym (h.quiet t none)

-- after a turn that kept nothing
pub idles_from : (net : Net) (me : ℕ) (kept : List Entry) (live : List LiveJob) (t : ℕ)
    → None ≡ turn_body (present_net net (view_of kept)) (view_of kept) me live t → Idles net me kept live t
idles_from net me kept live t h =
    record {
      passed = none_came (present_net net (view_of kept)) (view_of kept) me live t (sym h);
      quiet = λ u. still_nothing (present_net net (view_of kept)) (view_of kept) me live t u (sym h);
    }
