-- Running nodes whose passes overlap: what happens in them is told event by event, in whatever order it comes.
use Rattle.std.specs.Prelude.{[], if◌then◌else◌, ℕ, ◌++◌, ◌==◌, ◌∷◌, ◌≡◌, None, Option, Some, filter_map, suc, zero}
use Rattle.composer_parser.specs.declared.Defs.{Defs}
use Rattle.model.specs.Words.{with_at}
use Rattle.outside.specs.declared.links.Arrival.{Arrival}
use Rattle.node_inputs.specs.Traces.{Event, Trace}
use Rattle.network_runs.specs.Happenings.{Does, Happening, Night}
use Rattle.nights_at_rest.specs.Passes.{Pass, Passes}
use Rattle.nights_at_rest.specs.Still.{Nodes}

-- where a workstation stands: it has read its clock and waits for what comes, or this is left of its pass; nothing is left
-- between two passes
pub data Place : Type 0 where
  Waits : ℕ → Place
  Left : Trace → Place

-- what has happened so far, what each run comes to with the pass that it is in, and where each workstation stands
pub record Moment : Type 0 where
  pub night : Night
  pub nodes : Nodes
  pub place : ℕ → Place

-- between two passes w reads its clock
pub record Reads (w t : ℕ) (old new : Moment) : Type 0 where
  pub between : old.place w ≡ Left []
  pub then_ : new
      ≡ record {
        night = old.night ++ Does w (Event.Reads t) ∷ [];
        nodes = old.nodes;
        place = with_at w (Waits t) old.place;
      }

-- What comes to a workstation decides its pass, of which the rest is still to happen. What it hears was sent by now, in
-- whatever pass, be that through or not.
pub record Hears (defs : Defs) (before : Night) (p : Pass) (old new : Moment) : Type 0 where
  pub reading : ℕ
  pub arrived : Arrival
  pub rest : Trace
  pub nodes : Nodes
  pub waits : old.place p.ws ≡ Waits reading
  pub split : p.trace ≡ Event.Reads reading ∷ (Event.Comes arrived ∷ rest)
  pub passes : Passes defs (before ++ old.night) p old.nodes nodes
  pub then_ : new
      ≡ record {
        night = old.night ++ Does p.ws (Event.Comes arrived) ∷ [];
        nodes = nodes;
        place = with_at p.ws (Left rest) old.place;
      }

-- the next event of the pass that w is in
pub record Goes (w : ℕ) (event : Event) (old new : Moment) : Type 0 where
  pub rest : Trace
  pub left : old.place w ≡ Left (event ∷ rest)
  pub then_ : new
      ≡ record {
        night = old.night ++ Does w event ∷ [];
        nodes = old.nodes;
        place = with_at w (Left rest) old.place;
      }

-- one of these
pub data IsNext (defs : Defs) (before : Night) (old new : Moment) : Type 0 where
  reads : (w t : ℕ) → Reads w t old new → IsNext defs before old new
  hears : (p : Pass) → Hears defs before p old new → IsNext defs before old new
  goes : (w : ℕ) (event : Event) → Goes w event old new → IsNext defs before old new

-- so many of them, one behind the other, after what had happened before
abbrev pub AreMoments : Defs → Night → ℕ → Moment → Moment → Type 0
AreMoments defs before zero old new = new ≡ old
AreMoments defs before (suc k) old new =
    (middle : Moment) × IsNext defs before old middle × AreMoments defs before k middle new

-- no workstation is in a pass
abbrev pub AreBetween : Moment → Type 0
AreBetween m = (w : ℕ) → m.place w ≡ Left []

-- what w did
abbrev pub event_of : ℕ → Happening → Option Event
event_of w (Does v event) = if v == w then Some event else None
event_of w _ = None

abbrev pub did : ℕ → Night → Trace
did w night = filter_map (event_of w) night

-- nothing has happened yet
abbrev pub from_here : Nodes → Moment
from_here nodes = record { night = []; nodes = nodes; place = λ w. Left [] }
