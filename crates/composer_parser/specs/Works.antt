-- What a job runs.
use Rattle.std.specs.Prelude.{Bool, true, false, ◌&&◌, codes, Some, None, is_some}
use Rattle.std.specs.Option.{option_map_or}
use Rattle.base_types.specs.declared.documents.Work.{Work}
use Rattle.base_types.specs.declared.documents.Work.TheVariants.{Command, Script}
use Rattle.base_types.specs.declared.documents.Recovery.{Recovery}
use Rattle.base_types.specs.declared.documents.Recovery.TheVariants as recovers
use Rattle.composer_parser.specs.Kinds.{keyword, Spelled}
use Rattle.composer_parser.specs.Grammars.{Grammar, left_out, many}
use Rattle.composer_parser.specs.Parts.{◌⊛◌, ◌⊲◌, ◌or◌, made, key, value, text, skipped_text, skipped_word, once}
use Rattle.composer_parser.specs.declared.works.WorkFlag.{WorkFlag}
use Rattle.composer_parser.specs.declared.works.WorkFlag.TheVariants as flag
use Rattle.composer_parser.specs.declared.works.WorkFlags.{WorkFlags}
use Rattle.composer_parser.specs.declared.definitions.WorkDef.{WorkDef}

-- SCRIPTNAME value | DOCOMMAND text
unfoldable pub command : Grammar Work
command =
    (made (λ x v. Script v) ⊛ key (codes "SCRIPTNAME") ⊛ value) or (made (λ x v. Command v) ⊛ key (codes "DOCOMMAND") ⊛ text)

-- STOP | CONTINUE | RERUN, and what the full language has besides
unfoldable pub recovery_word : Grammar Recovery
recovery_word =
    (made (λ x. recovers.Stop) ⊛ key (codes "STOP")) or (made (λ x. recovers.Continue) ⊛ key (codes "CONTINUE"))
    or (made (λ x. recovers.Rerun) ⊛ key (codes "RERUN")) or left_out (keyword (codes "AFTER"))
    or left_out (keyword (codes "ABENDPROMPT"))

unfoldable pub no_recovery_job : Grammar (Unit {0})
no_recovery_job = left_out (keyword (codes "AFTER")) or left_out (keyword (codes "ABENDPROMPT")) or made tt

-- workflag = STREAMLOGON value | DESCRIPTION text | TASKTYPE word | RCCONDSUCC text
--          | RECOVERY (STOP | CONTINUE | RERUN)                                       (any order, once each)
unfoldable pub work_flag : Grammar WorkFlag
work_flag =
    (made (λ x v. flag.Logon v) ⊛ key (codes "STREAMLOGON") ⊛ value)
    or (made (λ x y. flag.Description) ⊛ key (codes "DESCRIPTION") ⊛ skipped_text)
    or (made (λ x y. flag.TaskType) ⊛ key (codes "TASKTYPE") ⊛ skipped_word)
    or (made (λ x v. flag.Cond v) ⊛ key (codes "RCCONDSUCC") ⊛ text)
    or (made (λ x r. flag.Recovery r) ⊛ key (codes "RECOVERY") ⊛ recovery_word ⊲ no_recovery_job)

-- the flags so far
abbrev pub no_work_flags : WorkFlags
no_work_flags = record { logon = None; description = false; task_type = false; cond = None; recovery = None }

abbrev pub after_work_flag : WorkFlags → WorkFlag → WorkFlags
after_work_flag s (flag.Logon v) = record s { logon = Some v }
after_work_flag s flag.Description = record s { description = true }
after_work_flag s flag.TaskType = record s { task_type = true }
after_work_flag s (flag.Cond v) = record s { cond = Some v }
after_work_flag s (flag.Recovery r) = record s { recovery = Some r }

abbrev pub may_work_flag : WorkFlags → Spelled → Bool
may_work_flag s t =
    once (is_some s.logon) (codes "STREAMLOGON") t && (once s.description (codes "DESCRIPTION") t
    && (once s.task_type (codes "TASKTYPE") t && (once (is_some s.cond) (codes "RCCONDSUCC") t
    && once (is_some s.recovery) (codes "RECOVERY") t)))

unfoldable pub work_flags : Grammar WorkFlags
work_flags = many no_work_flags after_work_flag may_work_flag work_flag (λ s. s)

-- work = (SCRIPTNAME value | DOCOMMAND text) workflag...
abbrev pub work_of : Work → WorkFlags → WorkDef
work_of w s =
    record { work = w; logon = s.logon; cond = s.cond; recovery = option_map_or (λ r. r) s.recovery recovers.Stop }

unfoldable pub work : Grammar WorkDef
work = made work_of ⊛ command ⊛ work_flags
