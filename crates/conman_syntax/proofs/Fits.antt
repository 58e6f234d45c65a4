-- What is read is as short as its form demands.
use Rattle.std.proofs.Common.{if◌then◌else◌, ℕ, ◌-◌, ◌==◌, ◌≡◌, ◌≤◌, Bool, Err, IfOk}
use Rattle.std.proofs.Common.{IfSome, List, None, Ok, Option, Result, Some, arith, codes, eqb, false}
use Rattle.std.proofs.Common.{get_or, length, refl, subst, sym, take, true}
use Rattle.std.proofs.lemmas.List.{length-drop, length-take}
use Rattle.std.specs.List.{ends_with, position_or_len}
use Rattle.std.specs.Str.{bytes_eq}
use Rattle.syntax.specs.Names.{name_of}
use Rattle.syntax.specs.Numbers.{number_of}
use Rattle.conman_syntax.specs.Answers.{ended, first, within}
use Rattle.conman_syntax.specs.Arguments.{argument_behind, behind_word, ends_word}
use Rattle.conman_syntax.specs.Arguments.{left_behind, without_noask, word_of}
use Rattle.calendars.specs.Dates.{IsDay}
use Rattle.calendars.specs.Written.{date_of}
use Rattle.calendars.proofs.Days.{date_there}
use Rattle.conman_syntax.specs.Dependencies.{dependency_of}
use Rattle.conman_syntax.specs.Fit.{IsFitDep, IsFitJob, IsFitLine, IsFitName, IsFitObj, IsFitPattern}
use Rattle.conman_syntax.specs.Heads.{head_of}
use Rattle.conman_syntax.specs.References.{before, behind, job_of, job_or_stream_of}
use Rattle.conman_syntax.specs.References.{limit_target_of, object_of}
use Rattle.conman_syntax.specs.References.{reply_target_of, resource_of}
use Rattle.conman_syntax.specs.References.{work_of}
use Rattle.conman_syntax.specs.Rows as rows
use Rattle.conman_syntax.specs.Rows.{HadMemory, alias_of, answer_of, behind_work, due_line, due_of, last_pattern, last_priority, limit_line}
use Rattle.conman_syntax.specs.Rows.{one_name, reply_to, row, submitted}
use Rattle.conman_syntax.specs.Values.{pattern_of, priority_of, yes_of}
use Rattle.conman_syntax.specs.declared.faults.ArgumentFault.{ArgumentFault}
use Rattle.conman_syntax.specs.declared.faults.CommandFault.{CommandFault}
use Rattle.conman_syntax.specs.declared.heads.Command.{Command}
use Rattle.conman_syntax.specs.declared.heads.Command.TheVariants as command
use Rattle.conman_syntax.specs.declared.heads.Head.{Head}
use Rattle.conman_syntax.specs.declared.heads.What.{What}
use Rattle.conman_syntax.specs.declared.heads.What.TheVariants.{Cpu}
use Rattle.conman_syntax.specs.declared.lines.Line.{Line}
use Rattle.conman_syntax.specs.declared.lines.Line.TheVariants as line
use Rattle.conman_syntax.specs.declared.references.LimitTarget.{LimitTarget}
use Rattle.conman_syntax.specs.declared.references.LimitTarget.TheVariants as limited
use Rattle.conman_syntax.specs.declared.references.ReplyTarget.{ReplyTarget}
use Rattle.conman_syntax.specs.declared.references.ReplyTarget.TheVariants as replied
use Rattle.conman_syntax.proofs.PartFits.{anything, found, answered, needed, put_within, at_end}
use Rattle.conman_syntax.proofs.PartFits.{from_first, from_next, name_fits, job_fits}
use Rattle.conman_syntax.proofs.PartFits.{job_or_stream_fits, AreFitNames, resource_fits, object_fits}
use Rattle.conman_syntax.proofs.PartFits.{IsFitLimit, limit_fits, IsFitReply, reply_target_fits}
use Rattle.conman_syntax.proofs.PartFits.{IsFitWork, work_fits, dependency_fits, argument_bound}
use Rattle.conman_syntax.proofs.PartFits.{pattern_fits}

abbrev Fits : ℕ → Result Line ArgumentFault → Type 0
Fits most r = IfOk r (IsFitLine most)

some_number : (n : ℕ) (word : List ℕ) → IfSome (number_of n word) (λ k. Unit {0})
some_number n word = anything (number_of n word)

some_priority : (word : List ℕ) → IfSome (priority_of word) (λ p. Unit {0})
some_priority word = anything (priority_of word)

some_answer : (word : List ℕ) → IfSome (yes_of word) (λ b. Unit {0})
some_answer word = anything (yes_of word)

add_dep_fits : (most : ℕ) (what : Option What) (left : List ℕ) → Fits most (rows.add_dep what left)
unfolding rows.add_dep
add_dep_fits most what left =
    from_first IsFitObj (IsFitLine most) left (object_of what) _ (object_fits what)
    (λ o h rest.
    put_within IsFitDep (IsFitLine most) (line.AddDep o) (dependency_of rest) (dependency_fits rest) (λ d k. (h, k)))

del_dep_fits : (most : ℕ) (what : Option What) (left : List ℕ) → Fits most (rows.del_dep what left)
unfolding rows.del_dep
del_dep_fits most what left =
    from_first IsFitObj (IsFitLine most) left (object_of what) _ (object_fits what)
    (λ o h rest.
    put_within IsFitDep (IsFitLine most) (line.DelDep o) (dependency_of rest) (dependency_fits rest) (λ d k. (h, k)))

release_fits : (most : ℕ) (what : Option What) (left : List ℕ) → Fits most (rows.release what left)
unfolding rows.release
release_fits most what left =
    from_first IsFitObj (IsFitLine most) left (object_of what) _ (object_fits what)
    (λ o h rest. at_end (IsFitLine most) rest (line.Release o) h)

cancel_fits : (most : ℕ) (what : Option What) (left : List ℕ) → Fits most (rows.cancel what left)
unfolding rows.cancel
cancel_fits most what left =
    from_first IsFitObj (IsFitLine most) left (object_of what) _ (object_fits what)
    (λ o h rest. at_end (IsFitLine most) rest (line.Cancel o) h)

alt_pri_fits : (most : ℕ) (left : List ℕ) → Fits most (rows.alt_pri left)
unfolding rows.alt_pri
alt_pri_fits most left =
    from_first IsFitObj (IsFitLine most) left job_or_stream_of _ job_or_stream_fits
    (λ o h rest.
    from_next (λ p. Unit {0}) (IsFitLine most) 2 rest priority_of _ some_priority
    (λ p u end. at_end (IsFitLine most) end (line.AltPri o p) h))

confirm_fits : (most : ℕ) (left : List ℕ) → Fits most (rows.confirm left)
unfolding rows.confirm
confirm_fits most left =
    from_first IsFitJob (IsFitLine most) left job_of _ job_fits
    (λ r h rest.
    answered (IsFitLine most) (bytes_eq (argument_behind 59 rest) (codes "succ")) _ (Err (ArgumentFault.BadArgument 2))
    (at_end (IsFitLine most) (left_behind 59 rest) (line.Confirm r) h) tt)

kill_fits : (most : ℕ) (left : List ℕ) → Fits most (rows.kill left)
unfolding rows.kill
kill_fits most left =
    from_first IsFitJob (IsFitLine most) left job_of _ job_fits
    (λ r h rest. at_end (IsFitLine most) rest (line.Kill r) h)

rerun_fits : (most : ℕ) (left : List ℕ) → Fits most (rows.rerun left)
unfolding rows.rerun
rerun_fits most left =
    from_first IsFitJob (IsFitLine most) left job_of _ job_fits
    (λ r h rest. at_end (IsFitLine most) rest (line.Rerun r) h)

fence_fits : (most : ℕ) (left : List ℕ) → Fits most (rows.fence left)
unfolding rows.fence
fence_fits most left =
    from_first IsFitName (IsFitLine most) left name_of _ name_fits
    (λ ws h rest.
    from_next (λ p. Unit {0}) (IsFitLine most) 2 rest priority_of _ some_priority
    (λ p u end. at_end (IsFitLine most) end (line.Fence ws p) h))

limit_line_fits : (most : ℕ) (whose : LimitTarget) (n : ℕ) → IsFitLimit whose → IsFitLine most (limit_line whose n)
limit_line_fits most (limited.Cpu ws) n h = h
limit_line_fits most (limited.Stream r) n h = h

limit_row_fits : (most : ℕ) (what : Option What) (left : List ℕ) → Fits most (rows.limit what left)
unfolding rows.limit
limit_row_fits most what left =
    from_first IsFitLimit (IsFitLine most) left (limit_target_of what) _ (limit_fits what)
    (λ whose h rest.
    from_next (λ n. Unit {0}) (IsFitLine most) 2 rest (number_of 16) _ (some_number 16)
    (λ n u end. at_end (IsFitLine most) end (limit_line whose n) (limit_line_fits most whose n h)))

resource_row_fits : (most : ℕ) (left : List ℕ) → Fits most (rows.resource left)
unfolding rows.resource
resource_row_fits most left =
    from_first AreFitNames (IsFitLine most) left resource_of _ resource_fits
    (λ names h rest.
    from_next (λ n. Unit {0}) (IsFitLine most) 2 rest (number_of 16) _ (some_number 16)
    (λ n u end. at_end (IsFitLine most) end (line.Resource names.0 names.1 n) h))

reply_to_fits : (most : ℕ) (target : ReplyTarget) → IsFitReply target → (left : List ℕ)
    → Fits most (reply_to target left)
reply_to_fits most (replied.Prompt name) h left =
    from_next (λ b. Unit {0}) (IsFitLine most) 2 left yes_of _ some_answer
    (λ yes u end. at_end (IsFitLine most) end (line.ReplyGlobal name yes) h)
reply_to_fits most (replied.Own o) h left =
    from_next (λ i. Unit {0}) (IsFitLine most) 2 left (number_of 16) _ (some_number 16)
    (λ i u rest.
    from_next (λ b. Unit {0}) (IsFitLine most) 3 rest yes_of _ some_answer
    (λ yes u end. at_end (IsFitLine most) end (line.ReplyOwn o i yes) h))

reply_fits : (most : ℕ) (left : List ℕ) → Fits most (rows.reply left)
unfolding rows.reply
reply_fits most left =
    from_first IsFitReply (IsFitLine most) left reply_target_of reply_to reply_target_fits (reply_to_fits most)

one_name_fits : (left : List ℕ) → IfOk (one_name left) IsFitName
unfolding one_name
one_name_fits left =
    from_first IsFitName IsFitName left name_of _ name_fits (λ name h rest. at_end IsFitName rest name h)

on_name_fits : (most : ℕ) (f : List ℕ → Line) → ((name : List ℕ) → IsFitName name → IsFitLine most (f name))
    → (left : List ℕ) → Fits most (within f (one_name left))
on_name_fits most f h left = put_within IsFitName (IsFitLine most) f (one_name left) (one_name_fits left) h

alias_fits : (argument : List ℕ) → IfSome (alias_of argument) IsFitName
unfolding alias_of
alias_fits argument =
    found IsFitName (bytes_eq (before 61 argument) (codes "alias")) (name_of (behind 61 argument)) None
    (name_fits (behind 61 argument)) tt

some_last : (n : ℕ) (left : List ℕ) → IfOk (last_priority n left) (λ p. Unit {0})
some_last n left = go (last_priority n left)
  where
    go : (r : Result (Option ℕ) ArgumentFault) → IfOk r (λ p. Unit {0})
    go (Ok p) = tt
    go (Err e) = tt

abbrev IsFitRest : Option (List ℕ) × Option ℕ → Type 0
IsFitRest rest = IfSome rest.0 IsFitName

behind_work_fits : (left : List ℕ) (alias : Option (List ℕ)) → IfSome alias IsFitName
    → IfOk (behind_work left alias) IsFitRest
behind_work_fits left (Some alias) h =
    put_within (λ p. Unit {0}) IsFitRest (λ priority. (Some alias, priority)) (last_priority 3 (left_behind 59 left))
    (some_last 3 (left_behind 59 left)) (λ p u. h)
behind_work_fits left None h =
    put_within (λ p. Unit {0}) IsFitRest (λ priority. (None, priority)) (last_priority 2 left) (some_last 2 left)
    (λ p u. tt)

submit_fits : (most : ℕ) (what : Option What) (left : List ℕ) → Fits most (rows.submit what left)
unfolding rows.submit
submit_fits most what left =
    from_first IsFitWork (IsFitLine most) left (work_of what) _ (work_fits what)
    (λ work h rest.
    put_within IsFitRest (IsFitLine most) (submitted work) (behind_work rest (alias_of (argument_behind 59 rest)))
    (behind_work_fits rest (alias_of (argument_behind 59 rest)) (alias_fits (argument_behind 59 rest)))
    (λ q k. (h.0, (h.1, k))))

switch_mgr_fits : (most : ℕ) (left : List ℕ) → Fits most (rows.switch_mgr left)
unfolding rows.switch_mgr
switch_mgr_fits most left =
    from_first IsFitName (IsFitLine most) left name_of _ name_fits
    (λ domain h rest.
    from_next IsFitName (IsFitLine most) 2 rest name_of _ name_fits
    (λ ws k end. at_end (IsFitLine most) end (line.SwitchMgr domain ws) (h, k)))

abbrev IsFitChoice : ℕ → Option (List ℕ) → Type 0
IsFitChoice most pattern = IfSome pattern (IsFitPattern most)

last_pattern_fits : (most : ℕ) (left : List ℕ) → length left ≤ most → IfOk (last_pattern left) (IsFitChoice most)
unfolding last_pattern
last_pattern_fits most left h =
    answered (IsFitChoice most) (get_or left 0 0 == 32) (first left pattern_of (λ p rest. ended rest (Some p)))
    (ended left None)
    (needed (IsFitPattern most) (IsFitChoice most) 1 (pattern_of (argument_behind 32 left))
    (λ p. ended (left_behind 32 left) (Some p))
    (pattern_fits most (argument_behind 32 left) (omega (arith, h, argument_bound 32 left)))
    (λ p k. at_end (IsFitChoice most) (left_behind 32 left) (Some p) k))
    (at_end (IsFitChoice most) left None tt)

on_pattern_fits : (most : ℕ) (f : Option (List ℕ) → Line)
    → ((pattern : Option (List ℕ)) → IsFitChoice most pattern → IsFitLine most (f pattern)) → (left : List ℕ)
    → length left ≤ most → Fits most (within f (last_pattern left))
on_pattern_fits most f h left k =
    put_within (IsFitChoice most) (IsFitLine most) f (last_pattern left) (last_pattern_fits most left k) h

some_day : (word : List ℕ) → IfSome (date_of word) IsDay
some_day word = go (date_of word) (date_there word)
  where
    go : (o : Option ℕ) → ((day : ℕ) → o ≡ Some day → IsDay day) → IfSome o IsDay
    go None h = tt
    go (Some day) h = h day refl

j_next_plan_fits : (most : ℕ) (left : List ℕ) → Fits most (rows.j_next_plan left)
unfolding rows.j_next_plan
j_next_plan_fits most left =
    from_first IsDay (IsFitLine most) left date_of _ some_day
    (λ day h rest. at_end (IsFitLine most) rest (line.JNextPlan day) h)

row_fits : (most : ℕ) (c : Command) (what : Option What) (left : List ℕ) → length left ≤ most
    → Fits most (row c what left)
unfolding row
row_fits most command.AddDep what left h = add_dep_fits most what left
row_fits most command.DelDep what left h = del_dep_fits most what left
row_fits most command.Release what left h = release_fits most what left
row_fits most command.AltPri what left h = alt_pri_fits most left
row_fits most command.Cancel what left h = cancel_fits most what left
row_fits most command.Confirm what left h = confirm_fits most left
row_fits most command.Kill what left h = kill_fits most left
row_fits most command.Rerun what left h = rerun_fits most left
row_fits most command.Fence what left h = fence_fits most left
row_fits most command.Limit what left h = limit_row_fits most what left
row_fits most command.Resource what left h = resource_row_fits most left
row_fits most command.Reply what left h = reply_fits most left
row_fits most command.Start what left h = on_name_fits most line.Start (λ name k. k) left
row_fits most command.Stop what left h = on_name_fits most line.Stop (λ name k. k) left
row_fits most command.Submit what left h = submit_fits most what left
row_fits most command.SwitchMgr what left h = switch_mgr_fits most left
row_fits most command.ShowJobs what left h = on_pattern_fits most line.ShowJobs (λ p k. k) left h
row_fits most command.ShowSchedules what left h = on_pattern_fits most line.ShowSchedules (λ p k. k) left h
row_fits most command.ShowCpus what left h = on_pattern_fits most line.ShowCpus (λ p k. k) left h
row_fits most command.ShowPrompts what left h = on_pattern_fits most line.ShowPrompts (λ p k. k) left h
row_fits most command.ShowResources what left h = on_pattern_fits most line.ShowResources (λ p k. k) left h
row_fits most command.Link what left h = on_name_fits most line.Link (λ name k. k) left
row_fits most command.Unlink what left h = on_name_fits most line.Unlink (λ name k. k) left
row_fits most command.Shutdown what left h = at_end (IsFitLine most) left line.Shutdown tt
row_fits most command.JNextPlan what left h = j_next_plan_fits most left

-- the whole line
without_bound : (text : List ℕ) → length (without_noask text) ≤ length text
without_bound text = go (ends_with eqb text (codes ";noask"))
  where
    go : (b : Bool) → length (if b then take (length text - 6) text else text) ≤ length text
    go true = omega (arith, length-take (length text - 6) text)
    go false = omega arith

due_fits : (most : ℕ) (head : Option Head) (left : List ℕ) → length left ≤ most
    → IfOk (due_of head left) (IsFitLine most)
due_fits most None left h = tt
due_fits most (Some head) left h = go (row head.command head.what left) (row_fits most head.command head.what left h)
  where
    go : (r : Result Line ArgumentFault) → Fits most r → IfOk (answer_of r) (IsFitLine most)
    go (Ok l) k = k
    go (Err e) k = tt

line_fits : (text : List ℕ) → IfOk (due_line text) (IsFitLine (length text))
unfolding due_line
line_fits text =
    due_fits (length text) (head_of (word_of (without_noask text))) (behind_word (without_noask text))
    (omega (arith, length-drop (position_or_len ends_word (without_noask text)) (without_noask text), without_bound text))

-- so an answer is fit that is the due one where memory did not run out
pub answer_fits : (text : List ℕ) (r : Result Line CommandFault) → (HadMemory r → r ≡ due_line text)
    → IfOk r (IsFitLine (length text))
answer_fits text (Ok l) h =
    let e : Ok l ≡ due_line text = h (λ k. cc) in
    subst (λ (r : Result Line CommandFault). IfOk r (IsFitLine (length text))) (sym e) (line_fits text)
answer_fits text (Err f) h = tt
