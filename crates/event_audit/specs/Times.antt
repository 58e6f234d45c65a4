-- An UNTIL and a DEADLINE whose time has come, and an object that is done.
use Rattle.std.specs.Prelude.{ℕ, ◌||◌, ◌≡◌, ◌≤◌, Bool, List, is_some}
use Rattle.model.specs.Types.{Body, Deadline, Dep, Obj, OnUntil, Until}
use Rattle.model.specs.Facts.{is_cancelled, is_complete, reading}

-- the dependency is an UNTIL of this mark, and its time is at most now
pub record IsPast (mark : OnUntil) (now : ℕ) (d : Dep) : Type 0 where
  pub time : ℕ
  pub is_it : d ≡ Until time mark
  pub come : time ≤ now

-- the dependency is a DEADLINE, and its time is at most now
pub record HasPassed (now : ℕ) (d : Dep) : Type 0 where
  pub time : ℕ
  pub is_it : d ≡ Deadline time
  pub come : time ≤ now

-- the list tells the object as cancelled or complete
abbrev pub is_over : List Body → Obj → Bool
is_over events o = is_cancelled o events || is_complete events o

-- a body is a reading of a clock
abbrev pub is_reading : Body → Bool
is_reading b = is_some (reading b)
