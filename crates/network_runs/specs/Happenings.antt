-- What happens in a network of running nodes, one happening after the other, each at one workstation.
use Rattle.std.specs.Prelude.{[], if◌then◌else◌, ℕ, ◌++◌, ◌==◌, ◌∷◌, List, None, Option, Some, filter_map, fold, option_map}
use Rattle.model.specs.Types.{Entry, Start}
use Rattle.model.specs.History.{maker}
use Rattle.outside.specs.declared.links.Arrival.TheVariants as arrival
use Rattle.node_inputs.specs.Traces.{Event, Trace, kept_by}

pub data Happening : Type 0 where
  -- a workstation is started, and holds these entries
  Begins : ℕ → List Entry → Happening
  -- an event of its run
  Does : ℕ → Event → Happening
  -- its run ends, or it is stopped at whatever moment; its disk has the entry in hand, or it has none of it
  Stops : ℕ → Option Entry → Happening

abbrev pub Night : Type 0
Night = List Happening

-- what a workstation did since it began; nothing is told of one that does not run
abbrev pub since_with : ℕ → Option Trace → Happening → Option Trace
since_with w so_far (Begins v entries) = if v == w then Some [] else so_far
since_with w so_far (Does v event) = if v == w then option_map (λ (t : Trace). t ++ event ∷ []) so_far else so_far
since_with w so_far (Stops v left) = if v == w then None else so_far

abbrev pub since : ℕ → Night → Option Trace
since w night = fold (since_with w) None night

-- what it does up to its next stop, and the entry in hand that this stop leaves on its disk
abbrev pub until_stop : ℕ → Night → Trace
until_stop w [] = []
until_stop w (Begins v entries ∷ night) = if v == w then [] else until_stop w night
until_stop w (Does v event ∷ night) = if v == w then event ∷ until_stop w night else until_stop w night
until_stop w (Stops v left ∷ night) = if v == w then [] else until_stop w night

abbrev pub left_at_stop : ℕ → Night → Option Entry
left_at_stop w [] = None
left_at_stop w (Begins v entries ∷ night) = if v == w then None else left_at_stop w night
left_at_stop w (Does v event ∷ night) = left_at_stop w night
left_at_stop w (Stops v left ∷ night) = if v == w then left else left_at_stop w night

-- the entry that is kept for good in a happening, by its workstation
abbrev pub kept_in : Happening → Option (ℕ × Entry)
kept_in (Begins v entries) = None
kept_in (Does v event) = option_map (λ (e : Entry). (v, e)) (kept_by event)
kept_in (Stops v left) = option_map (λ (e : Entry). (v, e)) left

-- where it is this workstation's
abbrev pub of_workstation : ℕ → ℕ × Entry → Option Entry
of_workstation w kept = if kept.0 == w then Some kept.1 else None

-- what the disk of a workstation has: all that it kept in all its runs, and what stops left of entries in hand, in order
abbrev pub kept_at : ℕ → Night → List Entry
kept_at w night = filter_map (of_workstation w) (filter_map kept_in night)

-- an entry of the workstation's own making
abbrev pub of_its_maker : ℕ × Entry → Option Entry
of_its_maker kept = if maker kept.1.feed == kept.0 then Some kept.1 else None

-- the history: the entries that makers kept, in the order in which they kept them
abbrev pub made : Night → List Entry
made night = filter_map of_its_maker (filter_map kept_in night)

-- the process that is asked for in a happening, as a start of its workstation
abbrev pub start_of : Happening → Option Start
start_of (Does v (Event.Starts call)) = Some (record { ws = v; job = call.job; number = call.number })
start_of _ = None

abbrev pub started : Night → List Start
started night = filter_map start_of night

-- the job and the number of a start, where it is this workstation's
abbrev pub launch_at : ℕ → Start → Option (ℕ × ℕ)
launch_at w s = if s.ws == w then Some (s.job, s.number) else None

-- the launches that a workstation starts among these, in order
abbrev pub launches_at : ℕ → List Start → List (ℕ × ℕ)
launches_at w starts = filter_map (launch_at w) starts

-- the bytes that came from x since the link to it last began or ended
abbrev pub heard_with : ℕ → List ℕ → Event → List ℕ
heard_with x so_far (Event.Comes (arrival.Bytes y bytes)) = if x == y then so_far ++ bytes else so_far
heard_with x so_far (Event.Comes (arrival.Up y)) = if x == y then [] else so_far
heard_with x so_far (Event.Comes (arrival.Down y)) = if x == y then [] else so_far
heard_with x so_far _ = so_far

abbrev pub heard_from : ℕ → Trace → List ℕ
heard_from x trace = fold (heard_with x) [] trace
