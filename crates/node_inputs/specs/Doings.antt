-- What a stretch of a run does: one trace of it, by which the node acts, the keeper keeps, and each other object tells.
use Rattle.std.specs.Prelude.{[], ℕ, ◌≡◌, Err, None, Ok, Option, Result, Some}
use Rattle.outside.specs.Kept.{Bodies}
use Rattle.node_inputs.specs.Keeping.{Lasts}
use Rattle.node_inputs.specs.Traces.{Trace, refusals, tried}
use Rattle.node_inputs.specs.declared.ends.NodeEnd.{NodeEnd}
use Rattle.node_inputs.specs.Actions.{Action}
use Rattle.node_inputs.specs.Tellings.{Tells, Told}

-- the end of the run, if the answer of a call is one
abbrev pub end_of : {A : Type 0} → Result A NodeEnd → Option NodeEnd
end_of (Ok done) = None
end_of (Err why) = Some why

-- one trace: the action has it, the keeper keeps by it, and the others tell it; where the run goes on no entry was refused
pub record Does {S K : Type 0} (kept_in : K → Option Bodies) (size faults moment : K → ℕ) (may_leave : K → Bodies → Type 0)
    (left_since : K → ℕ → Bodies → Type 0) (opens_since : K → ℕ → ℕ → Type 0) (act : Action S) (old new : S) (keeper later : K)
    (told now : Told) (end : Option NodeEnd) : Type 0 where
  pub trace : Trace
  pub acts : act old trace end new
  pub lasts : Lasts kept_in size faults moment may_leave left_since opens_since trace keeper later
  pub tells : Tells trace told now
  pub goes_on : end ≡ None → refusals trace ≡ []

-- the same of a stretch that asks no keeper
pub record DoesOutside {S : Type 0} (act : Action S) (old new : S) (told now : Told) (end : Option NodeEnd) : Type 0 where
  pub trace : Trace
  pub acts : act old trace end new
  pub tells : Tells trace told now
  pub none_tried : tried trace ≡ []
