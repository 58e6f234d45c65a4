-- An entry is right where it has its place and meets what its kind wants.
use Rattle.std.proofs.Common.{◌≡◌, ℕ, Bool, List, false, true, refl}
use Rattle.std.specs.Bool.{Decides}
use Rattle.std.specs.Prelude.{Err, IfOk, Ok, Result, not}
use Rattle.base_types.specs.declared.NoMemory.{NoMemory}
use Rattle.model.specs.Types.{Added, Body, Clock, Declined, Ended, Entry, Events, Failed, Feed, Fulfilled, Launched}
use Rattle.model.specs.Types.{Late, Lost, Net, NewPlan, Obeyed, Order, Orders, Released, Started, StreamEnded}
use Rattle.model.specs.Types.{UntilPassed}
use Rattle.model.specs.Sound.{AnswersItsOrder, CarriesByTheOption, HasItsPlace, IsInTime, NamesItsLaunch}
use Rattle.model.specs.Sound.{OfEvents, StandsOnItsPrefix}
use Rattle.event_audit.specs.Items.{IsRightEntry, MeetsItsFeed, is_new_plan}

-- the parts of an entry's being right, but for the place
record Parts (net : Net) (before : List Entry) (f : Feed) (p : ℕ) (b : Body) : Type 0 where
  stands : OfEvents (StandsOnItsPrefix net before) (record { feed = f; place = p; body = b })
  answers : OfEvents (AnswersItsOrder before) (record { feed = f; place = p; body = b })
  ends : OfEvents (NamesItsLaunch before) (record { feed = f; place = p; body = b })
  plans : CarriesByTheOption net.carry before f b
  in_time : OfEvents (IsInTime before) (record { feed = f; place = p; body = b })

to_parts : (net : Net) (before : List Entry) (f : Feed) (p : ℕ) (b : Body) → MeetsItsFeed net before f b
    → Parts net before f p b
to_parts net before (Events w) p (NewPlan run cut carried docs) h =
    record { stands = tt; answers = tt; ends = tt; plans = h; in_time = tt }
to_parts net before (Events w) p (Added a k doc) h =
    record { stands = tt; answers = h; ends = tt; plans = tt; in_time = tt }
to_parts net before (Events w) p (Clock t) h =
    record { stands = tt; answers = tt; ends = tt; plans = tt; in_time = h }
to_parts net before (Events w) p (Released s seen) h =
    record { stands = h; answers = tt; ends = tt; plans = tt; in_time = tt }
to_parts net before (Events w) p (StreamEnded s seen) h =
    record { stands = h; answers = tt; ends = tt; plans = tt; in_time = tt }
to_parts net before (Events w) p (UntilPassed o i what) h =
    record { stands = tt; answers = tt; ends = tt; plans = tt; in_time = h }
to_parts net before (Events w) p (Launched j n seen) h =
    record { stands = h; answers = tt; ends = tt; plans = tt; in_time = tt }
to_parts net before (Events w) p (Started j n) h =
    record { stands = tt; answers = tt; ends = h; plans = tt; in_time = tt }
to_parts net before (Events w) p (Failed j n) h =
    record { stands = tt; answers = tt; ends = h; plans = tt; in_time = tt }
to_parts net before (Events w) p (Ended j n rc good) h =
    record { stands = tt; answers = tt; ends = h; plans = tt; in_time = tt }
to_parts net before (Events w) p (Lost j n) h =
    record { stands = tt; answers = tt; ends = h; plans = tt; in_time = tt }
to_parts net before (Events w) p (Fulfilled o i) h =
    record { stands = tt; answers = tt; ends = tt; plans = tt; in_time = tt }
to_parts net before (Events w) p (Obeyed a k c) h =
    record { stands = tt; answers = h; ends = tt; plans = tt; in_time = tt }
to_parts net before (Events w) p (Declined a k why) h =
    record { stands = tt; answers = h; ends = tt; plans = tt; in_time = tt }
to_parts net before (Events w) p (Order c) h =
    record { stands = tt; answers = tt; ends = tt; plans = tt; in_time = tt }
to_parts net before (Events w) p (Late o i) h =
    record { stands = tt; answers = tt; ends = tt; plans = tt; in_time = h }
to_parts net before (Orders a_ w) p (NewPlan run cut carried docs) h = absurd h
to_parts net before (Orders a_ w) p (Added a k doc) h =
    record { stands = tt; answers = tt; ends = tt; plans = tt; in_time = tt }
to_parts net before (Orders a_ w) p (Clock t) h =
    record { stands = tt; answers = tt; ends = tt; plans = tt; in_time = tt }
to_parts net before (Orders a_ w) p (Released s seen) h =
    record { stands = tt; answers = tt; ends = tt; plans = tt; in_time = tt }
to_parts net before (Orders a_ w) p (StreamEnded s seen) h =
    record { stands = tt; answers = tt; ends = tt; plans = tt; in_time = tt }
to_parts net before (Orders a_ w) p (UntilPassed o i what) h =
    record { stands = tt; answers = tt; ends = tt; plans = tt; in_time = tt }
to_parts net before (Orders a_ w) p (Launched j n seen) h =
    record { stands = tt; answers = tt; ends = tt; plans = tt; in_time = tt }
to_parts net before (Orders a_ w) p (Started j n) h =
    record { stands = tt; answers = tt; ends = tt; plans = tt; in_time = tt }
to_parts net before (Orders a_ w) p (Failed j n) h =
    record { stands = tt; answers = tt; ends = tt; plans = tt; in_time = tt }
to_parts net before (Orders a_ w) p (Ended j n rc good) h =
    record { stands = tt; answers = tt; ends = tt; plans = tt; in_time = tt }
to_parts net before (Orders a_ w) p (Lost j n) h =
    record { stands = tt; answers = tt; ends = tt; plans = tt; in_time = tt }
to_parts net before (Orders a_ w) p (Fulfilled o i) h =
    record { stands = tt; answers = tt; ends = tt; plans = tt; in_time = tt }
to_parts net before (Orders a_ w) p (Obeyed a k c) h =
    record { stands = tt; answers = tt; ends = tt; plans = tt; in_time = tt }
to_parts net before (Orders a_ w) p (Declined a k why) h =
    record { stands = tt; answers = tt; ends = tt; plans = tt; in_time = tt }
to_parts net before (Orders a_ w) p (Order c) h =
    record { stands = tt; answers = tt; ends = tt; plans = tt; in_time = tt }
to_parts net before (Orders a_ w) p (Late o i) h =
    record { stands = tt; answers = tt; ends = tt; plans = tt; in_time = tt }

of_parts : (net : Net) (before : List Entry) (f : Feed) (p : ℕ) (b : Body) → Parts net before f p b
    → MeetsItsFeed net before f b
of_parts net before (Events w) p (NewPlan run cut carried docs) h = h.plans
of_parts net before (Events w) p (Added a k doc) h = h.answers
of_parts net before (Events w) p (Clock t) h = h.in_time
of_parts net before (Events w) p (Released s seen) h = h.stands
of_parts net before (Events w) p (StreamEnded s seen) h = h.stands
of_parts net before (Events w) p (UntilPassed o i what) h = h.in_time
of_parts net before (Events w) p (Launched j n seen) h = h.stands
of_parts net before (Events w) p (Started j n) h = h.ends
of_parts net before (Events w) p (Failed j n) h = h.ends
of_parts net before (Events w) p (Ended j n rc good) h = h.ends
of_parts net before (Events w) p (Lost j n) h = h.ends
of_parts net before (Events w) p (Fulfilled o i) h = tt
of_parts net before (Events w) p (Obeyed a k c) h = h.answers
of_parts net before (Events w) p (Declined a k why) h = h.answers
of_parts net before (Events w) p (Order c) h = tt
of_parts net before (Events w) p (Late o i) h = h.in_time
of_parts net before (Orders a_ w) p (NewPlan run cut carried docs) h = h.plans
of_parts net before (Orders a_ w) p (Added a k doc) h = h.plans
of_parts net before (Orders a_ w) p (Clock t) h = h.plans
of_parts net before (Orders a_ w) p (Released s seen) h = h.plans
of_parts net before (Orders a_ w) p (StreamEnded s seen) h = h.plans
of_parts net before (Orders a_ w) p (UntilPassed o i what) h = h.plans
of_parts net before (Orders a_ w) p (Launched j n seen) h = h.plans
of_parts net before (Orders a_ w) p (Started j n) h = h.plans
of_parts net before (Orders a_ w) p (Failed j n) h = h.plans
of_parts net before (Orders a_ w) p (Ended j n rc good) h = h.plans
of_parts net before (Orders a_ w) p (Lost j n) h = h.plans
of_parts net before (Orders a_ w) p (Fulfilled o i) h = h.plans
of_parts net before (Orders a_ w) p (Obeyed a k c) h = h.plans
of_parts net before (Orders a_ w) p (Declined a k why) h = h.plans
of_parts net before (Orders a_ w) p (Order c) h = h.plans
of_parts net before (Orders a_ w) p (Late o i) h = h.plans

pub meets_right : (net : Net) (before : List Entry) (e : Entry) → HasItsPlace before e
    → MeetsItsFeed net before e.feed e.body → IsRightEntry net before e
meets_right net before e place h =
    let parts : Parts net before e.feed e.place e.body = to_parts net before e.feed e.place e.body h in
    record {
      placed = place;
      stands = parts.stands;
      answers = parts.answers;
      ends = parts.ends;
      plans = parts.plans;
      in_time = parts.in_time;
    }

pub right_meets : (net : Net) (before : List Entry) (e : Entry) → IsRightEntry net before e
    → MeetsItsFeed net before e.feed e.body
right_meets net before e h =
    of_parts net before e.feed e.place e.body
    (record {
      stands = h.stands;
      answers = h.answers;
      ends = h.ends;
      plans = h.plans;
      in_time = h.in_time;
    })

-- in a feed of orders all but a plan are right
pub orders_decided : (net : Net) (before : List Entry) (a w : ℕ) (b : Body) (r : Bool) → r ≡ is_new_plan b
    → Decides (not r) (MeetsItsFeed net before (Orders a w) b)
orders_decided net before a_ w (NewPlan run cut carried docs) true e = (λ f. cc, λ h. absurd h)
orders_decided net before a_ w (NewPlan run cut carried docs) false e = cc
orders_decided net before a_ w (Added a k doc) true e = cc
orders_decided net before a_ w (Added a k doc) false e = (λ f. tt, λ h. refl)
orders_decided net before a_ w (Clock t) true e = cc
orders_decided net before a_ w (Clock t) false e = (λ f. tt, λ h. refl)
orders_decided net before a_ w (Released s seen) true e = cc
orders_decided net before a_ w (Released s seen) false e = (λ f. tt, λ h. refl)
orders_decided net before a_ w (StreamEnded s seen) true e = cc
orders_decided net before a_ w (StreamEnded s seen) false e = (λ f. tt, λ h. refl)
orders_decided net before a_ w (UntilPassed o i what) true e = cc
orders_decided net before a_ w (UntilPassed o i what) false e = (λ f. tt, λ h. refl)
orders_decided net before a_ w (Launched j n seen) true e = cc
orders_decided net before a_ w (Launched j n seen) false e = (λ f. tt, λ h. refl)
orders_decided net before a_ w (Started j n) true e = cc
orders_decided net before a_ w (Started j n) false e = (λ f. tt, λ h. refl)
orders_decided net before a_ w (Failed j n) true e = cc
orders_decided net before a_ w (Failed j n) false e = (λ f. tt, λ h. refl)
orders_decided net before a_ w (Ended j n rc good) true e = cc
orders_decided net before a_ w (Ended j n rc good) false e = (λ f. tt, λ h. refl)
orders_decided net before a_ w (Lost j n) true e = cc
orders_decided net before a_ w (Lost j n) false e = (λ f. tt, λ h. refl)
orders_decided net before a_ w (Fulfilled o i) true e = cc
orders_decided net before a_ w (Fulfilled o i) false e = (λ f. tt, λ h. refl)
orders_decided net before a_ w (Obeyed a k c) true e = cc
orders_decided net before a_ w (Obeyed a k c) false e = (λ f. tt, λ h. refl)
orders_decided net before a_ w (Declined a k why) true e = cc
orders_decided net before a_ w (Declined a k why) false e = (λ f. tt, λ h. refl)
orders_decided net before a_ w (Order c) true e = cc
orders_decided net before a_ w (Order c) false e = (λ f. tt, λ h. refl)
orders_decided net before a_ w (Late o i) true e = cc
orders_decided net before a_ w (Late o i) false e = (λ f. tt, λ h. refl)

pub entry_decided : (net : Net) (before : List Entry) (e : Entry) (r : Result Bool NoMemory) → HasItsPlace before e
    → IfOk r (λ right. Decides right (MeetsItsFeed net before e.feed e.body))
    → IfOk r (λ right. Decides right (IsRightEntry net before e))
entry_decided net before e (Ok right) place h = (
  λ t. meets_right net before e place (h.0 t),
  λ (all : IsRightEntry net before e). h.1 (right_meets net before e all),
)
entry_decided net before e (Err x) place h = h
