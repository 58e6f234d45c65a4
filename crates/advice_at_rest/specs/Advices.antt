-- How many orders workstations can still advise themselves, where nobody else gives one and no plan is made.
use Rattle.std.specs.Option.{option_map_or}
use Rattle.std.specs.Prelude.{[], ℕ, ◌&&◌, ◌*◌, ◌+◌, ◌-◌, ◌==◌, ◌∷◌, Bool, List, Option, Some, cond, drop, false, is_some}
use Rattle.std.specs.Prelude.{not, option_and_then, slice_get, take, true}
use Rattle.model.specs.Types.{Body, Cmd, Confirm, Events, Job, Net, NewPlan, Order, Orders, Rerun}
use Rattle.model.specs.Words.{all_of, below}
use Rattle.model.specs.Network.{node_count}
use Rattle.model.specs.History.{list_of}
use Rattle.model.specs.Catalogue.{StreamJob, is_member, job}
use Rattle.model.specs.Facts.{answered, is_cancelled, is_due, is_good, is_open, last_launch, launches, reruns}
use Rattle.model.specs.Turn.{ordered_command}
use Rattle.model.specs.World.{World}
use Rattle.rest_laws.specs.Gains.{sum_over}
use Rattle.rest_laws.specs.Left.{done}

-- job j was launched and is over, and it is neither good nor cancelled
unfoldable pub is_over_badly : ℕ → List Body → Bool
is_over_badly j events =
    all_of
    (not (is_due j events)
    ∷ not (is_open j events)
    ∷ not (is_good j events)
    ∷ not (is_cancelled (Job j) events)
    ∷ is_some (last_launch j events)
    ∷ [])

-- who holds these events of the master's finds that job j is w's, and that its stream is a member
unfoldable pub is_own_member : List Body → ℕ → ℕ → Bool
is_own_member master w j =
    option_map_or (λ (p : StreamJob). (p.doc.ws == w) && is_member (λ f. master) p.parent.no) (job (λ f. master) j) false

-- it confirms or reruns job j
abbrev pub is_about : ℕ → Option Cmd → Bool
is_about j (Some (Confirm k)) = j == k
is_about j (Some (Rerun k)) = j == k
is_about j _ = false

-- of the orders that w gave itself, the next to be answered
abbrev pub next_own : ℕ → List Body → List Body → Option Cmd
next_own w own events = option_and_then ordered_command (slice_get own (answered w events))

-- the next of its own orders that w answers is about job j, and is obeyed where the job is over badly
abbrev pub is_taken_up : ℕ → List Body → List Body → ℕ → List Body → Bool
is_taken_up w own master j events = is_about j (next_own w own events) && is_own_member master w j

-- twice while the job was not rerun
abbrev pub weight : ℕ → ℕ
weight n = cond (n == 0) 2 1

-- for job j: each run that is due, an open launch, and a bad end that no own order takes up
unfoldable pub advices_of : ℕ → List Body → List Body → List Body → ℕ → ℕ
advices_of w own master events j =
    weight (reruns j events)
    * ((1 + reruns j events - launches j events)
    + (done (is_open j events) + done (is_over_badly j events && not (is_taken_up w own master j events))))

-- an order to rerun a job
abbrev pub is_rerun_order : Body → Bool
is_rerun_order (Order (Rerun j)) = true
is_rerun_order _ = false

abbrev pub reruns_in : Body → ℕ
reruns_in b = done (is_rerun_order b)

abbrev pub is_plan : Body → Bool
is_plan (NewPlan run cut carried docs) = true
is_plan _ = false

abbrev pub plans_in : Body → ℕ
plans_in b = done (is_plan b)

-- for workstation w, which has these events and was given these orders by each of n, and which holds so many of the
-- master's events: each job with a number below these, each order to rerun that waits, and each plan that is still to come
unfoldable pub advices_at : ℕ → ℕ → ℕ → (ℕ → List Body) → List Body → ℕ → List Body → ℕ
advices_at jobs n w orders master held events =
    sum_over (advices_of w (orders w) (take held master) events) (below jobs)
    + (sum_over (λ a. sum_over reruns_in (drop (answered a events) (orders a))) (below n)
    + 2 * sum_over plans_in (drop held master))

-- of workstation w
abbrev pub advices_by : Net → ℕ → World → ℕ → ℕ
advices_by net jobs x w =
    advices_at jobs (node_count net) w (λ a. list_of x.history (Orders a w)) (list_of x.history (Events 0))
    (x.holdings w (Events 0)) (list_of x.history (Events w))

-- of all workstations, for jobs with a number below these
unfoldable pub advices_left : Net → ℕ → World → ℕ
advices_left net jobs x = sum_over (advices_by net jobs x) (below (node_count net))
