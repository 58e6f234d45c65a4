-- The commands of operators.
use Rattle.std.specs.Prelude.{ℕ, Bool, true, false, List, ◌++◌, codes}
use Rattle.std.specs.Fmt.{decimal}
use Rattle.base_types.specs.declared.Net.{Net}
use Rattle.base_types.specs.declared.Cmd.{Cmd}
use Rattle.base_types.specs.declared.Cmd.TheVariants.{AddDep, DelDep, Release, AltPri, Cancel, Confirm, Kill, Rerun}
use Rattle.base_types.specs.declared.Cmd.TheVariants.{Fence, Limit, StreamLimit, Total, ReplyGlobal, ReplyOwn}
use Rattle.base_types.specs.declared.Cmd.TheVariants.{Start, Stop, Submit, SwitchMgr}
use Rattle.report_text.specs.Names.{name_of}
use Rattle.report_text.specs.Dependencies.{obj_text, dep_text}

-- the answer to a prompt
abbrev pub answer_word : Bool → List ℕ
answer_word true = codes "yes"
answer_word false = codes "no"

-- a command with what it was given, in the order in which the command has it; of a submitted stream its name
unfoldable pub cmd_text : Net → Cmd → List ℕ
cmd_text net (AddDep o d) = codes "adddep " ++ obj_text o ++ codes " " ++ dep_text d
cmd_text net (DelDep o i) = codes "deldep " ++ obj_text o ++ codes " " ++ decimal i
cmd_text net (Release o) = codes "release " ++ obj_text o
cmd_text net (AltPri o p) = codes "altpri " ++ obj_text o ++ codes " " ++ decimal p
cmd_text net (Cancel o) = codes "cancel " ++ obj_text o
cmd_text net (Confirm j) = codes "confirm job " ++ decimal j
cmd_text net (Kill j) = codes "kill job " ++ decimal j
cmd_text net (Rerun j) = codes "rerun job " ++ decimal j
cmd_text net (Fence n) = codes "fence " ++ decimal n
cmd_text net (Limit n) = codes "limit " ++ decimal n
cmd_text net (StreamLimit s n) = codes "limit stream " ++ decimal s ++ codes " " ++ decimal n
cmd_text net (Total r n) = codes "total " ++ decimal r ++ codes " " ++ decimal n
cmd_text net (ReplyGlobal p yes_) = codes "reply prompt " ++ decimal p ++ codes " " ++ answer_word yes_
cmd_text net (ReplyOwn o i yes_) =
    codes "reply " ++ obj_text o ++ codes " " ++ decimal i ++ codes " " ++ answer_word yes_
cmd_text net Start = codes "start"
cmd_text net Stop = codes "stop"
cmd_text net (Submit draft) = codes "submit " ++ draft.name
cmd_text net (SwitchMgr w) = codes "switchmgr " ++ name_of net w
