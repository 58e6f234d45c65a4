-- The items of an audit one by one: each entry after those before it, then each start after those before it.
use Rattle.std.specs.List.{list_any}
use Rattle.std.specs.Prelude.{ℕ, ◌-◌, ◌<◌, ◌≡◌, Bool, IsTrue, List, Some, false, length, slice_get, take, true}
use Rattle.model.specs.Types.{Added, Body, Clock, Declined, Ended, Entry, Events, Failed, Feed, Fulfilled, Launched}
use Rattle.model.specs.Types.{Late, Lost, Net, NewPlan, Obeyed, Order, Orders, Released, Start, Started, StreamEnded}
use Rattle.model.specs.Types.{UntilPassed}
use Rattle.model.specs.Words.{nth}
use Rattle.model.specs.Sound.{AnswersItsOrder, CarriesByTheOption, HasItsPlace, IsInTime, IsRightEnd, IsRightLaunch}
use Rattle.model.specs.Sound.{IsRightRelease, NamesItsLaunch, OfEvents, StandsOnItsPrefix, is_launched, same_launch}

-- an entry is right after those before it
pub record IsRightEntry (net : Net) (before : List Entry) (e : Entry) : Type 0 where
  pub placed : HasItsPlace before e
  pub stands : OfEvents (StandsOnItsPrefix net before) e
  pub answers : OfEvents (AnswersItsOrder before) e
  pub ends : OfEvents (NamesItsLaunch before) e
  pub plans : CarriesByTheOption net.carry before e.feed e.body
  pub in_time : OfEvents (IsInTime before) e

-- a start is right after those before it: none of them is of its launch, and the history has that launch
pub record IsRightStart (G : List Entry) (earlier : List Start) (s : Start) : Type 0 where
  pub once : list_any (same_launch s) earlier ≡ false
  pub launched : IsTrue (is_launched G s)

-- item n is right, counted from 1, the entries first and the starts behind them
pub record IsRightItem (net : Net) (G : List Entry) (starts : List Start) (n : ℕ) : Type 0 where
  pub entry : (e : Entry) → nth G n ≡ Some e → IsRightEntry net (take (n - 1) G) e
  pub start :
      (s : Start) → nth starts (n - length G) ≡ Some s → IsRightStart G (take (n - length G - 1) starts) s

-- item n fails, and none before it does
pub record IsFirstWrong (net : Net) (G : List Entry) (starts : List Start) (n : ℕ) : Type 0 where
  pub fails : IsRightItem net G starts n → ⊥
  pub lowest : (m : ℕ) → m < n → IsRightItem net G starts m

-- the entries below place i, counted from 0, are right
abbrev pub AreRightBelow : Net → List Entry → ℕ → Type 0
AreRightBelow net G i = (k : ℕ) → k < i → (e : Entry) → slice_get G k ≡ Some e → IsRightEntry net (take k G) e

-- the starts below place i are right
abbrev pub AreStartsRightBelow : List Entry → List Start → ℕ → Type 0
AreStartsRightBelow G starts i =
    (k : ℕ) → k < i → (s : Start) → slice_get starts k ≡ Some s → IsRightStart G (take k starts) s

-- what a workstation's entry of each kind has to meet, beside its place
abbrev pub MeetsItsKind : Net → List Entry → ℕ → Body → Type 0
MeetsItsKind net before w (Launched j n seen) = IsRightLaunch net before w j n seen
MeetsItsKind net before w (Released s seen) = IsRightRelease net before w s seen
MeetsItsKind net before w (StreamEnded s seen) = IsRightEnd before w s seen
MeetsItsKind net before w (Obeyed a k c) = AnswersItsOrder before w (Obeyed a k c)
MeetsItsKind net before w (Declined a k why) = AnswersItsOrder before w (Declined a k why)
MeetsItsKind net before w (Added a k doc) = AnswersItsOrder before w (Added a k doc)
MeetsItsKind net before w (Started j n) = NamesItsLaunch before w (Started j n)
MeetsItsKind net before w (Failed j n) = NamesItsLaunch before w (Failed j n)
MeetsItsKind net before w (Lost j n) = NamesItsLaunch before w (Lost j n)
MeetsItsKind net before w (Ended j n rc good) = NamesItsLaunch before w (Ended j n rc good)
MeetsItsKind net before w (NewPlan run cut carried docs) =
    CarriesByTheOption net.carry before (Events w) (NewPlan run cut carried docs)
MeetsItsKind net before w (Clock t) = IsInTime before w (Clock t)
MeetsItsKind net before w (UntilPassed o i what) = IsInTime before w (UntilPassed o i what)
MeetsItsKind net before w (Fulfilled o i) = Unit {0}
MeetsItsKind net before w (Order c) = Unit {0}
MeetsItsKind net before w (Late o i) = IsInTime before w (Late o i)

-- the same of every feed: in a feed of orders all but a plan are right
abbrev pub MeetsItsFeed : Net → List Entry → Feed → Body → Type 0
MeetsItsFeed net before (Events w) b = MeetsItsKind net before w b
MeetsItsFeed net before (Orders a w) b = CarriesByTheOption net.carry before (Orders a w) b

-- a plan
abbrev pub is_new_plan : Body → Bool
is_new_plan (NewPlan run cut carried docs) = true
is_new_plan _ = false
