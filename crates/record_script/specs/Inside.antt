-- What a step names and takes.
use Rattle.std.specs.Prelude.{ℕ, Bool, true, false, List, [], ◌∷◌, nat_lt}
use Rattle.std.specs.List.{list_all}
use Rattle.model.specs.Types.{Net}
use Rattle.model.specs.Network.{node_count}
use Rattle.record_script.specs.declared.scripts.OneStep.{OneStep}
use Rattle.record_script.specs.declared.scripts.OneStep.TheVariants as one
use Rattle.record_script.specs.declared.scripts.StepForm.{StepForm}
use Rattle.record_script.specs.declared.scripts.StepForm.TheVariants as form
use Rattle.record_script.specs.declared.scripts.ScriptStep.{ScriptStep}

-- the workstations that stand in a step
abbrev pub ws_in_one : OneStep → List ℕ
ws_in_one one.Next = []
ws_in_one (one.NextDay d) = []
ws_in_one (one.Turn w t) = w ∷ []
ws_in_one (one.Link a b) = a ∷ b ∷ []
ws_in_one (one.Unlink a b) = a ∷ b ∷ []
ws_in_one (one.Deliver a b k) = a ∷ b ∷ []
ws_in_one (one.Started w j) = w ∷ []
ws_in_one (one.Failed w j) = w ∷ []
ws_in_one (one.Ended w j rc) = w ∷ []
ws_in_one (one.Typed w line) = w ∷ []
ws_in_one (one.Fulfil w o i) = w ∷ []

abbrev pub ws_in : StepForm → List ℕ
ws_in (form.One o) = ws_in_one o
ws_in (form.Flow a b) = a ∷ b ∷ []
ws_in (form.Reap w rc) = w ∷ []
ws_in (form.Crash w) = w ∷ []
ws_in (form.CrashIn w kept o) = w ∷ ws_in_one o
ws_in (form.Recover w) = w ∷ []

-- each is in the network
abbrev pub is_inside : Net → ScriptStep → Bool
is_inside net s = list_all (λ w. nat_lt w (node_count net)) (ws_in s.form)

-- it takes a plan, kept or not
abbrev pub takes_plan : ScriptStep → Bool
takes_plan s = go s.form
  where
    go : StepForm → Bool
    go (form.One one.Next) = true
    go (form.CrashIn w kept one.Next) = true
    go f = false

-- it takes the plan of a day
abbrev pub takes_day : ScriptStep → Bool
takes_day s = go s.form
  where
    go : StepForm → Bool
    go (form.One (one.NextDay d)) = true
    go (form.CrashIn w kept (one.NextDay d)) = true
    go f = false
