-- What is told of the replies to the prompts of the network.
use Rattle.std.specs.Bool.{then_some}
use Rattle.std.specs.Option.{IfSome}
use Rattle.std.specs.Prelude.{ℕ, ◌==◌, ◌≡◌, ◌≤◌, Bool, List, None, Option, Some, count_by, option_and_then}
use Rattle.model.specs.Types.{Body, Obeyed, ReplyGlobal}
use Rattle.model.specs.Facts.{global_reply}
use Rattle.owner_rows.specs.Subjects.{is_plan}

-- how many plans there are
abbrev pub plans : List Body → ℕ
plans events = count_by is_plan events

-- a workstation has one count of plans, that of 0
abbrev pub IsPlanRow : List Body → ℕ → ℕ → Type 0
IsPlanRow events n count = n ≡ 0 → count ≡ plans events

-- a reply is kept with the count of the plans before it, and counts until there is another
abbrev pub reply_while : ℕ → Option (ℕ × Bool) → Option Bool
reply_while count row = option_and_then (λ (r : ℕ × Bool). then_some (r.0 == count) r.1) row

-- the row of prompt p tells these events
pub record IsReplyRow (events : List Body) (p : ℕ) (row : Option (ℕ × Bool)) : Type 0 where
  pub reply : global_reply p events ≡ reply_while (plans events) row
  pub before : IfSome row (λ r. r.0 ≤ plans events)

-- the row after a reply, where there were so many plans
abbrev pub reply_with : ℕ → Body → Option (ℕ × Bool)
reply_with count (Obeyed a k (ReplyGlobal p yes_)) = Some (count, yes_)
reply_with count _ = None
