-- The run of a record: its lines one after the other, from a world in which nothing has happened.
use Rattle.std.specs.Prelude.{[], ℕ, ◌∷◌, Err, List, Ok, Result}
use Rattle.model.specs.Types.{Net, StreamDraft, WorldStep}
use Rattle.model.specs.World.{StepRefused, World, empty_world, step}
use Rattle.record_script.specs.declared.ScriptStep.{ScriptStep}
use Rattle.record_script.specs.declared.StepForm.{StepForm}
use Rattle.record_runs.specs.Causes.{Cause, refused}
use Rattle.record_runs.specs.Lines.{Day, left_after, line_steps}

-- a second answer, made of what the first one found
abbrev pub and_then : {A B : Type 0} → Result A Cause → (A → Result B Cause) → Result B Cause
and_then (Ok a) f = f a
and_then (Err c) f = Err c

-- the refusal of a step is a cause
abbrev pub as_cause : Result World StepRefused → Result World Cause
as_cause (Ok y) = Ok y
as_cause (Err r) = Err (refused r)

-- the steps one by one, up to the first that is refused
abbrev pub take_steps : Net → World → List WorldStep → Result World Cause
take_steps net x [] = Ok x
take_steps net x (s ∷ steps) = and_then (as_cause (step net x s)) (λ y. take_steps net y steps)

-- the world behind a line, or why the line cannot be taken
unfoldable pub take_line : Day → Net → List (List StreamDraft) → StepForm → World → Result World Cause
take_line day net left f x = and_then (line_steps day net x left f) (take_steps net x)

-- how a run ends
pub data End : Type 0 where
  -- all lines were taken, and this world is reached
  done : World → End
  -- the line of this number cannot be taken, for this cause
  stopped : ℕ → Cause → End

-- on from the world that a line made, or the end in that line
abbrev pub went_on : ℕ → Result World Cause → (World → End) → End
went_on line (Ok y) on = on y
went_on line (Err c) on = stopped line c

-- the lines one by one, each in the world that those before it made
abbrev pub run_lines : Day → Net → World → List (List StreamDraft) → List ScriptStep → End
run_lines day net x left [] = done x
run_lines day net x left (s ∷ lines) =
    went_on s.line (take_line day net left s.form x) (λ y. run_lines day net y (left_after left s.form) lines)

-- The run of a record with these plans and lines.
unfoldable pub run_of : Day → Net → List (List StreamDraft) → List ScriptStep → End
run_of day net plans lines = run_lines day net empty_world plans lines
