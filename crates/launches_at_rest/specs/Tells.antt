-- How often something can still be told of processes and files, where no order is given.
use Rattle.std.specs.Prelude.{ℕ, ◌&&◌, ◌*◌, ◌+◌, ◌-◌, Bool, List, not}
use Rattle.model.specs.Types.{Body, Events, Job, Net, Obj, Orders, Stream}
use Rattle.model.specs.Words.{below}
use Rattle.model.specs.Network.{node_count}
use Rattle.model.specs.History.{list_of}
use Rattle.model.specs.Facts.{answered, is_fulfilled, is_last_started, is_open, launches, reruns}
use Rattle.model.specs.World.{World}
use Rattle.rest_laws.specs.Gains.{sum_over}
use Rattle.rest_laws.specs.Left.{Caps, caps_of, done, entries, left, undone}
use Rattle.rest_laws.specs.Rest.{count_of}

-- a file for each number of a dependency
unfoldable pub files_left : ℕ → List Body → Obj → ℕ
files_left n events o = sum_over (λ i. undone (is_fulfilled o i events)) (below n)

-- the job's last launch is open, and was not told as started
abbrev pub awaits_start : ℕ → List Body → Bool
awaits_start j events = is_open j events && not (is_last_started j events)

-- of a job: the start of each run that is due, that of an open launch, and its files. That the open launch ends, or fails
-- to start, is counted by `left`, as its loss.
unfoldable pub starts_left : Caps → List Body → ℕ → ℕ
starts_left caps events j =
    (1 + reruns j events - launches j events)
    + (done (awaits_start j events) + files_left (caps.of_deps (Job j)) events (Job j))

-- of the workstation whose events these are and which was given so many orders by each of n: an order that is not
-- answered may be a rerun
unfoldable pub tells_of : Caps → ℕ → (ℕ → ℕ) → List Body → ℕ
tells_of caps n given events =
    sum_over (λ s. files_left (caps.of_deps (Stream s)) events (Stream s)) (below caps.of_streams)
    + (sum_over (starts_left caps events) (below caps.of_jobs)
    + sum_over (λ a. given a - answered a events) (below n))

-- of workstation w
abbrev pub tells_at : Net → (ℕ → Caps) → World → ℕ → ℕ
tells_at net caps x w =
    tells_of (caps w) (node_count net) (λ a. count_of x (Orders a w)) (list_of x.history (Events w))

-- of all workstations
unfoldable pub tells_left : Net → (ℕ → Caps) → World → ℕ
tells_left net caps x = sum_over (tells_at net caps x) (below (node_count net))

-- at most so many rounds gain, from here on: with n workstations, n + n ^ 2 times the entries that there are, that turns
-- can still make, and that can still be told
unfoldable pub work_bound : Net → (ℕ → List ℕ) → World → ℕ
work_bound net readings x =
    (node_count net + node_count net * node_count net)
    * (entries net x + (left net (caps_of net x) readings x + tells_left net (caps_of net x) x))
