-- Entries that leave the ways of feeds.
use Rattle.std.specs.Prelude.{Bool, false, true}
use Rattle.model.specs.Types.{Added, Body, NewPlan, Obeyed}

-- no plan, no stream that is added to one, and no command that is obeyed
abbrev pub is_quiet : Body → Bool
is_quiet (NewPlan run cut carried docs) = false
is_quiet (Added a k doc) = false
is_quiet (Obeyed a k c) = false
is_quiet _ = true
