-- The command words, in any case, and what each stands for.
use Rattle.std.specs.Prelude.{ℕ, Bool, List, codes, Option, Some, None, if◌then◌else◌}
use Rattle.std.specs.Str.{str_eq_ignore_ascii_case}
use Rattle.conman_syntax.specs.declared.heads.Head.{Head}
use Rattle.conman_syntax.specs.declared.heads.What.{What}
use Rattle.conman_syntax.specs.declared.heads.What.TheVariants.{Job, Sched, Cpu, DoCommand}
use Rattle.conman_syntax.specs.declared.heads.Command.{Command}
use Rattle.conman_syntax.specs.declared.heads.Command.TheVariants as command

-- the word is spelled so, in any case
unfoldable pub is_word : List ℕ → List ℕ → Bool
is_word word spelling = str_eq_ignore_ascii_case word spelling

-- a long form: its second word, if it has one, stands in the line
abbrev pub long : Command → Option Head
long command = Some (record { command = command; what = None })

-- a short form of a command that has a second word
abbrev pub short : Command → What → Option Head
short command what = Some (record { command = command; what = Some what })

-- commands on the dependencies of an object
unfoldable pub dependency_head : List ℕ → Option Head
dependency_head word =
    if is_word word (codes "adddep") then long command.AddDep else
    if is_word word (codes "adj") then short command.AddDep Job else
    if is_word word (codes "ads") then short command.AddDep Sched else
    if is_word word (codes "deldep") then long command.DelDep else
    if is_word word (codes "ddj") then short command.DelDep Job else
    if is_word word (codes "dds") then short command.DelDep Sched else None

-- commands on a job or a stream
unfoldable pub object_head : List ℕ → Option Head
object_head word =
    if is_word word (codes "release") then long command.Release else
    if is_word word (codes "rj") then short command.Release Job else
    if is_word word (codes "rs") then short command.Release Sched else
    if is_word word (codes "altpri") then long command.AltPri else
    if is_word word (codes "ap") then long command.AltPri else
    if is_word word (codes "cancel") then long command.Cancel else
    if is_word word (codes "cj") then short command.Cancel Job else
    if is_word word (codes "cs") then short command.Cancel Sched else None

-- commands on a job
unfoldable pub job_head : List ℕ → Option Head
job_head word =
    if is_word word (codes "confirm") then long command.Confirm else
    if is_word word (codes "conf") then long command.Confirm else
    if is_word word (codes "kill") then long command.Kill else
    if is_word word (codes "k") then long command.Kill else
    if is_word word (codes "rerun") then long command.Rerun else
    if is_word word (codes "rr") then long command.Rerun else None

-- commands on a workstation, a stream's limit, a resource and a prompt
unfoldable pub station_head : List ℕ → Option Head
station_head word =
    if is_word word (codes "fence") then long command.Fence else
    if is_word word (codes "limit") then long command.Limit else
    if is_word word (codes "lc") then short command.Limit Cpu else
    if is_word word (codes "ls") then short command.Limit Sched else
    if is_word word (codes "resource") then long command.Resource else
    if is_word word (codes "reso") then long command.Resource else
    if is_word word (codes "reply") then long command.Reply else
    if is_word word (codes "rep") then long command.Reply else None

-- commands on a workstation or a domain, and the submitting of a command
unfoldable pub network_head : List ℕ → Option Head
network_head word =
    if is_word word (codes "start") then long command.Start else
    if is_word word (codes "stop") then long command.Stop else
    if is_word word (codes "submit") then long command.Submit else
    if is_word word (codes "sbd") then short command.Submit DoCommand else
    if is_word word (codes "switchmgr") then long command.SwitchMgr else None

-- lines that show
unfoldable pub other_show_head : List ℕ → Option Head
other_show_head word =
    if is_word word (codes "showprompts") then long command.ShowPrompts else
    if is_word word (codes "sp") then long command.ShowPrompts else
    if is_word word (codes "showresources") then long command.ShowResources else
    if is_word word (codes "sr") then long command.ShowResources else None

unfoldable pub show_head : List ℕ → Option Head
show_head word =
    if is_word word (codes "showjobs") then long command.ShowJobs else
    if is_word word (codes "sj") then long command.ShowJobs else
    if is_word word (codes "showschedules") then long command.ShowSchedules else
    if is_word word (codes "ss") then long command.ShowSchedules else
    if is_word word (codes "showcpus") then long command.ShowCpus else
    if is_word word (codes "sc") then long command.ShowCpus else other_show_head word

-- lines to the node itself
unfoldable pub node_head : List ℕ → Option Head
node_head word =
    if is_word word (codes "link") then long command.Link else
    if is_word word (codes "unlink") then long command.Unlink else
    if is_word word (codes "shutdown") then long command.Shutdown else
    if is_word word (codes "jnextplan") then long command.JNextPlan else None

-- the one of two that is there
abbrev pub either : Option Head → Option Head → Option Head
either (Some head) other = Some head
either None other = other

-- what a command word stands for, if it is one
unfoldable pub head_of : List ℕ → Option Head
head_of word =
    either (dependency_head word) (either (object_head word) (either (job_head word) (either (station_head word)
    (either (network_head word) (either (show_head word) (node_head word))))))
