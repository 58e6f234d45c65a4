-- Jobs, streams and dependencies.
use Rattle.std.specs.Prelude.{ℕ, List, ◌++◌, codes}
use Rattle.std.specs.Fmt.{decimal}
use Rattle.base_types.specs.declared.Obj.{Obj}
use Rattle.base_types.specs.declared.Obj.TheVariants.{Job, Stream}
use Rattle.base_types.specs.declared.OnUntil.{OnUntil}
use Rattle.base_types.specs.declared.OnUntil.TheVariants.{Suppr, Cont, Canc}
use Rattle.base_types.specs.declared.PromptRef.TheVariants.{Global, Own}
use Rattle.base_types.specs.declared.Dep.{Dep}
use Rattle.base_types.specs.declared.Dep.TheVariants.{FollowsJob, FollowsStream, Needs, Prompt, At, Until, Outside}
use Rattle.base_types.specs.declared.Dep.TheVariants.{Deadline}
use Rattle.syntax.specs.Quotes.{quoted_text}

-- `job N` or `stream N`
unfoldable pub obj_text : Obj → List ℕ
obj_text (Job j) = codes "job " ++ decimal j
obj_text (Stream s) = codes "stream " ++ decimal s

-- what comes when the time has passed
abbrev pub until_word : OnUntil → List ℕ
until_word Suppr = codes "suppr"
until_word Cont = codes "cont"
until_word Canc = codes "canc"

-- a dependency: what is followed, a resource and its units, a prompt by its number or by its text, a time, a path
unfoldable pub dep_text : Dep → List ℕ
dep_text (FollowsJob j) = codes "follows job " ++ decimal j
dep_text (FollowsStream s) = codes "follows stream " ++ decimal s
dep_text (Needs r n) = codes "needs " ++ decimal r ++ codes " " ++ decimal n
dep_text (Prompt (Global p)) = codes "prompt " ++ decimal p
dep_text (Prompt (Own text)) = codes "prompt " ++ quoted_text text
dep_text (At t) = codes "at " ++ decimal t
dep_text (Until t then_) = codes "until " ++ decimal t ++ codes " " ++ until_word then_
dep_text (Outside path) = codes "outside " ++ quoted_text path
dep_text (Deadline t) = codes "deadline " ++ decimal t
