-- What reading back the lines of a network is.
use Rattle.std.specs.Prelude.{◌≡◌, ◌++◌, ◌∷◌, ℕ, [], List, Some, Ok, codes, length}
use Rattle.model.specs.Types.{Net}
use Rattle.plan_listing.specs.Networks.{network_text}
use Rattle.record_script.specs.Scripts.{read_of}
use Rattle.history_script.specs.Fronts.{history_place, network_of}
use Rattle.syntax.specs.Splits.{lines_of}

-- the record of these lines and no step is that network, without plans and steps
abbrev pub IsRecordOf : Net → Net → Type 0
IsRecordOf net said = read_of (network_text net ++ codes "$STEPS\n") ≡ Ok (record { net = said; plans = []; steps = [] })

abbrev pub network_lines : Net → List (List ℕ)
network_lines net = lines_of (network_text net)

-- a history that begins with these lines, whatever stands behind `$HISTORY`
abbrev pub begun : Net → List (List ℕ) → List (List ℕ)
begun net more = network_lines net ++ codes "$HISTORY" ∷ more

-- the history that begins with them has `$HISTORY` behind them, and that network
pub record IsBegun (net said : Net) (more : List (List ℕ)) : Type 0 where
  pub place : history_place (begun net more) ≡ Some (length (network_lines net))
  pub network : network_of (Some (length (network_lines net))) (begun net more) ≡ Ok said
