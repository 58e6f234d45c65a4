-- The table of lines. Each row is a line's form: its arguments in order, each with its form, and the line that they
-- give. A short form stands for the whole long form.
use Rattle.std.specs.Prelude.{◌≡◌, ◌≢◌, ℕ, ◌==◌, List, length, codes, slice_index, Option, Some, None, Result}
use Rattle.std.specs.Prelude.{Ok, Err, if◌then◌else◌}
use Rattle.std.specs.Str.{bytes_eq}
use Rattle.syntax.specs.Names.{name_of}
use Rattle.syntax.specs.Numbers.{number_of}
use Rattle.conman_syntax.specs.Answers.{first, next, next_word, ended, within, fault_of}
use Rattle.conman_syntax.specs.Arguments.{without_noask, word_of, behind_word, argument_behind, left_behind}
use Rattle.calendars.specs.Written.{date_of}
use Rattle.conman_syntax.specs.Dependencies.{dependency_of}
use Rattle.conman_syntax.specs.Heads.{head_of}
use Rattle.conman_syntax.specs.References.{before, behind, object_of, job_of, job_or_stream_of, resource_of}
use Rattle.conman_syntax.specs.References.{limit_target_of, reply_target_of, work_of}
use Rattle.conman_syntax.specs.Values.{priority_of, yes_of, pattern_of}
use Rattle.conman_syntax.specs.declared.faults.ArgumentFault.{ArgumentFault}
use Rattle.conman_syntax.specs.declared.faults.CommandFault.{CommandFault}
use Rattle.conman_syntax.specs.declared.faults.CommandFault.TheVariants.{UnknownCommand, BadArgument, TooMany, NoMemory}
use Rattle.conman_syntax.specs.declared.heads.Head.{Head}
use Rattle.conman_syntax.specs.declared.heads.What.{What}
use Rattle.conman_syntax.specs.declared.heads.Command.{Command}
use Rattle.conman_syntax.specs.declared.heads.Command.TheVariants as command
use Rattle.conman_syntax.specs.declared.lines.Line.{Line}
use Rattle.conman_syntax.specs.declared.lines.Line.TheVariants as line
use Rattle.conman_syntax.specs.declared.references.LimitTarget.{LimitTarget}
use Rattle.conman_syntax.specs.declared.references.LimitTarget.TheVariants as limited
use Rattle.conman_syntax.specs.declared.references.ReplyTarget.{ReplyTarget}
use Rattle.conman_syntax.specs.declared.references.ReplyTarget.TheVariants as replied

-- adddep job JOB;DEP (adj)      adddep sched STREAM;DEP (ads)
unfoldable pub add_dep : Option What → List ℕ → Result Line ArgumentFault
add_dep what left = first left (object_of what) (λ object left. within (line.AddDep object) (dependency_of left))

-- deldep job JOB;DEP (ddj)      deldep sched STREAM;DEP (dds)
unfoldable pub del_dep : Option What → List ℕ → Result Line ArgumentFault
del_dep what left = first left (object_of what) (λ object left. within (line.DelDep object) (dependency_of left))

-- release job JOB (rj)      release sched STREAM (rs)
unfoldable pub release : Option What → List ℕ → Result Line ArgumentFault
release what left = first left (object_of what) (λ object left. ended left (line.Release object))

-- cancel job JOB (cj)      cancel sched STREAM (cs)
unfoldable pub cancel : Option What → List ℕ → Result Line ArgumentFault
cancel what left = first left (object_of what) (λ object left. ended left (line.Cancel object))

-- altpri JOB;P (ap)      altpri STREAM;P (ap)
unfoldable pub alt_pri : List ℕ → Result Line ArgumentFault
alt_pri left =
    first left job_or_stream_of (λ object left. next 2 left priority_of (λ priority left.
    ended left (line.AltPri object priority)))

-- confirm JOB;succ (conf)
unfoldable pub confirm : List ℕ → Result Line ArgumentFault
confirm left =
    first left job_of (λ job left. next_word 2 left (codes "succ") (λ left. ended left (line.Confirm job)))

-- kill JOB (k)
unfoldable pub kill : List ℕ → Result Line ArgumentFault
kill left = first left job_of (λ job left. ended left (line.Kill job))

-- rerun JOB (rr)
unfoldable pub rerun : List ℕ → Result Line ArgumentFault
rerun left = first left job_of (λ job left. ended left (line.Rerun job))

-- fence W;P
unfoldable pub fence : List ℕ → Result Line ArgumentFault
fence left =
    first left name_of (λ ws left. next 2 left priority_of (λ priority left. ended left (line.Fence ws priority)))

abbrev pub limit_line : LimitTarget → ℕ → Line
limit_line (limited.Cpu ws) n = line.CpuLimit ws n
limit_line (limited.Stream stream) n = line.StreamLimit stream n

-- limit cpu W;N (lc)      limit sched STREAM;N (ls)
unfoldable pub limit : Option What → List ℕ → Result Line ArgumentFault
limit what left =
    first left (limit_target_of what) (λ whose left. next 2 left (number_of 16) (λ n left.
    ended left (limit_line whose n)))

-- resource W#R;N (reso)
unfoldable pub resource : List ℕ → Result Line ArgumentFault
resource left =
    first left resource_of (λ names left. next 2 left (number_of 16) (λ n left.
    ended left (line.Resource names.0 names.1 n)))

-- NAME, then yes or no;      job JOB or sched STREAM, then I, then yes or no
abbrev pub reply_to : ReplyTarget → List ℕ → Result Line ArgumentFault
reply_to (replied.Prompt name) left = next 2 left yes_of (λ yes left. ended left (line.ReplyGlobal name yes))
reply_to (replied.Own object) left =
    next 2 left (number_of 16) (λ i left. next 3 left yes_of (λ yes left. ended left (line.ReplyOwn object i yes)))

-- reply NAME;yes      reply job JOB;I;yes      reply sched STREAM;I;yes (rep), and the same with no
unfoldable pub reply : List ℕ → Result Line ArgumentFault
reply left = first left reply_target_of reply_to

-- a name and nothing else
unfoldable pub one_name : List ℕ → Result (List ℕ) ArgumentFault
one_name left = first left name_of (λ name left. ended left name)

-- `alias=NAME`
unfoldable pub alias_of : List ℕ → Option (List ℕ)
alias_of argument = if bytes_eq (before 61 argument) (codes "alias") then name_of (behind 61 argument) else None

-- `priority=P`
unfoldable pub priority_part_of : List ℕ → Option ℕ
priority_part_of argument =
    if bytes_eq (before 61 argument) (codes "priority") then priority_of (behind 61 argument) else None

-- argument n is `priority=P` and ends the line, or nothing is left
unfoldable pub last_priority : ℕ → List ℕ → Result (Option ℕ) ArgumentFault
last_priority n left =
    if length left == 0 then Ok None else
    next n left priority_part_of (λ priority left. ended left (Some priority))

-- behind the work: argument 2 is `alias=NAME`, or the alias is left out
abbrev pub behind_work : List ℕ → Option (List ℕ) → Result (Option (List ℕ) × Option ℕ) ArgumentFault
behind_work left (Some alias) = within (λ priority. (Some alias, priority)) (last_priority 3 (left_behind 59 left))
behind_work left None = within (λ priority. (None, priority)) (last_priority 2 left)

abbrev pub submitted : List ℕ × List ℕ → Option (List ℕ) × Option ℕ → Line
submitted work rest = line.Submit work.0 work.1 rest.0 rest.1

-- submit docommand W#"TEXT"[;alias=NAME][;priority=P] (sbd)
unfoldable pub submit : Option What → List ℕ → Result Line ArgumentFault
submit what left =
    first left (work_of what) (λ work left.
    within (submitted work) (behind_work left (alias_of (argument_behind 59 left))))

-- switchmgr DOMAIN;W
unfoldable pub switch_mgr : List ℕ → Result Line ArgumentFault
switch_mgr left =
    first left name_of (λ domain left. next 2 left name_of (λ ws left. ended left (line.SwitchMgr domain ws)))

-- [PAT], where a blank follows the command word
unfoldable pub last_pattern : List ℕ → Result (Option (List ℕ)) ArgumentFault
last_pattern left =
    if slice_index left 0 == 32
    then first left pattern_of (λ pattern left. ended left (Some pattern))
    else ended left None

-- jnextplan MM/DD/YYYY
unfoldable pub j_next_plan : List ℕ → Result Line ArgumentFault
j_next_plan left = first left date_of (λ day left. ended left (line.JNextPlan day))

-- what is left of the line behind a command word
unfoldable pub row : Command → Option What → List ℕ → Result Line ArgumentFault
row command.AddDep what left = add_dep what left
row command.DelDep what left = del_dep what left
row command.Release what left = release what left
row command.AltPri what left = alt_pri left
row command.Cancel what left = cancel what left
row command.Confirm what left = confirm left
row command.Kill what left = kill left
row command.Rerun what left = rerun left
row command.Fence what left = fence left
row command.Limit what left = limit what left
row command.Resource what left = resource left
row command.Reply what left = reply left
row command.Start what left = within line.Start (one_name left)
row command.Stop what left = within line.Stop (one_name left)
row command.Submit what left = submit what left
row command.SwitchMgr what left = switch_mgr left
row command.ShowJobs what left = within line.ShowJobs (last_pattern left)
row command.ShowSchedules what left = within line.ShowSchedules (last_pattern left)
row command.ShowCpus what left = within line.ShowCpus (last_pattern left)
row command.ShowPrompts what left = within line.ShowPrompts (last_pattern left)
row command.ShowResources what left = within line.ShowResources (last_pattern left)
row command.Link what left = within line.Link (one_name left)
row command.Unlink what left = within line.Unlink (one_name left)
row command.Shutdown what left = ended left line.Shutdown
row command.JNextPlan what left = j_next_plan left

-- the answer of the whole line
abbrev pub answer_of : Result Line ArgumentFault → Result Line CommandFault
answer_of (Ok found) = Ok found
answer_of (Err fault) = Err (fault_of fault)

-- Which answer is due for a text, one `;noask` at its end left out: the row of its command word says it.
abbrev pub due_of : Option Head → List ℕ → Result Line CommandFault
due_of (Some head) left = answer_of (row head.command head.what left)
due_of None left = Err UnknownCommand

unfoldable pub due_line : List ℕ → Result Line CommandFault
due_line text = due_of (head_of (word_of (without_noask text))) (behind_word (without_noask text))

-- memory did not run out
abbrev pub HadMemory : Result Line CommandFault → Type 0
HadMemory result = result ≢ Err NoMemory

-- the text is this line
abbrev pub IsLine : List ℕ → Line → Type 0
IsLine text found = due_line text ≡ Ok found

-- its first word is no command's
abbrev pub IsUnknown : List ℕ → Type 0
IsUnknown text = due_line text ≡ Err UnknownCommand

-- argument n is missing or not of its form, and those before it are good
abbrev pub HasBadArgument : List ℕ → ℕ → Type 0
HasBadArgument text n = due_line text ≡ Err (BadArgument n)

-- its arguments are good, and a further one follows
abbrev pub HasTooMany : List ℕ → Type 0
HasTooMany text = due_line text ≡ Err TooMany
