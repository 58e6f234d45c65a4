-- What a job runs.
use Rattle.std.specs.Prelude.{ℕ, List, [], ◌++◌, codes, Option, Some, None}
use Rattle.base_types.specs.declared.documents.Work.{Work}
use Rattle.base_types.specs.declared.documents.Work.TheVariants.{Command, Script}
use Rattle.base_types.specs.declared.documents.Recovery.{Recovery}
use Rattle.base_types.specs.declared.documents.Recovery.TheVariants.{Stop, Continue, Rerun}
use Rattle.composer_parser.specs.declared.definitions.WorkDef.{WorkDef}
use Rattle.syntax.specs.Quotes.{quoted_text}

-- SCRIPTNAME value | DOCOMMAND text
unfoldable pub command_text : Work → List ℕ
command_text (Script v) = codes " SCRIPTNAME " ++ quoted_text v
command_text (Command v) = codes " DOCOMMAND " ++ quoted_text v

unfoldable pub logon_text : Option (List ℕ) → List ℕ
logon_text None = []
logon_text (Some v) = codes " STREAMLOGON " ++ quoted_text v

unfoldable pub cond_text : Option (List ℕ) → List ℕ
cond_text None = []
cond_text (Some v) = codes " RCCONDSUCC " ++ quoted_text v

-- STOP is the default
unfoldable pub recovery_text : Recovery → List ℕ
recovery_text Stop = []
recovery_text Continue = codes " RECOVERY CONTINUE"
recovery_text Rerun = codes " RECOVERY RERUN"

-- (SCRIPTNAME value | DOCOMMAND text) [STREAMLOGON value] [RCCONDSUCC text] [RECOVERY ..]
unfoldable pub work_text : WorkDef → List ℕ
work_text w = command_text w.work ++ logon_text w.logon ++ cond_text w.cond ++ recovery_text w.recovery
