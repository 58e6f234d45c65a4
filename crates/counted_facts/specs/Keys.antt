-- Of which launch an entry speaks.
use Rattle.std.specs.Prelude.{ℕ, ◌&&◌, ◌==◌, Bool, None, Option, Some, is_some}
use Rattle.model.specs.Types.{Body, Ended, Entry, Events, Failed, Feed, Launched, Lost, Orders}
use Rattle.model.specs.Facts.{end_of}

-- a workstation, and a launch by its job and number
abbrev pub Key : Type 0
Key = ℕ × (ℕ × ℕ)

-- both are one
abbrev pub same_key : Key → Key → Bool
same_key p q = (p.0 == q.0) && ((p.1.0 == q.1.0) && (p.1.1 == q.1.1))

-- the launch that a body tells
abbrev pub launch_in : Body → Option (ℕ × ℕ)
launch_in (Launched j n seen) = Some (j, n)
launch_in _ = None

-- the launch of which a body tells an end
abbrev pub end_in : Body → Option (ℕ × ℕ)
end_in (Failed j n) = Some (j, n)
end_in (Ended j n rc good) = Some (j, n)
end_in (Lost j n) = Some (j, n)
end_in _ = None

-- the job that a body launches
abbrev pub job_in : Body → Option ℕ
job_in (Launched j n seen) = Some j
job_in _ = None

-- the same with the workstation, in a feed of events
abbrev pub key_at : Feed → Option (ℕ × ℕ) → Option Key
key_at (Events w) None = None
key_at (Events w) (Some q) = Some (w, q)
key_at (Orders a w) q = None

-- a body is an end of this launch
abbrev pub ends_launch : ℕ → ℕ → Body → Bool
ends_launch j n b = is_some (end_of j n b)
