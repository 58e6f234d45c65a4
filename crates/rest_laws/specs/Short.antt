-- How long the answers to orders are, told by the orders alone.
use Rattle.std.specs.List.{AllByRecursion, list_all}
use Rattle.std.specs.Prelude.{[], ℕ, ◌&&◌, ◌*◌, ◌+◌, ◌≡◌, ◌≤◌, Bool, length, nat_le, true}
use Rattle.model.specs.Types.{Body, Cmd, CrashTake, Entry, JobDraft, Local, Net, Order, Submit, Take, Typed, WorldStep}
use Rattle.model.specs.Network.{node_count}
use Rattle.model.specs.Sizes.{cmd_size, stream_draft_size}
use Rattle.model.specs.World.{World}

-- the bytes of the entry that answers an order, at most: a submitted stream and each of its jobs gets a number
unfoldable pub answer_size : Cmd → ℕ
answer_size (Submit draft) = 19 + stream_draft_size draft + 4 * length draft.jobs
answer_size c = 15 + cmd_size c

-- where it is an order, its answer is no longer than a record may be
abbrev pub has_short_answer : Body → Bool
has_short_answer (Order c) = nat_le (answer_size c) 4194304
has_short_answer _ = true

-- where it is given at a workstation, or in a step of a world
abbrev pub gives_short : Local → Bool
gives_short (Typed to c) = has_short_answer (Order c)
gives_short _ = true

abbrev pub orders_short : WorldStep → Bool
orders_short (Take w l) = gives_short l
orders_short (CrashTake w l kept) = gives_short l
orders_short _ = true

-- an entry that counts so many workstations is no longer than a record may be
abbrev pub can_count : ℕ → Bool
can_count n = nat_le (21 + 6 * n) 4194304

-- an entry can count all workstations, and each order has a short answer
unfoldable pub are_answers_short : Net → World → Bool
are_answers_short net x = can_count (node_count net) && list_all (λ (e : Entry). has_short_answer e.body) x.history

-- a submitted stream has one job at most, and no dependencies
abbrev pub IsSmall : Cmd → Type 0
IsSmall (Submit draft) =
    (length draft.jobs ≤ 1) × (draft.deps ≡ []) × AllByRecursion (λ (d : JobDraft). d.deps ≡ []) draft.jobs
IsSmall _ = Unit {0}
