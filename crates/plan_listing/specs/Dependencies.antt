-- The lines of dependencies.
use Rattle.std.specs.Prelude.{ℕ, List, ◌++◌, codes, Option, Some, None}
use Rattle.std.specs.Option.{option_map_or}
use Rattle.std.specs.Fmt.{decimal}
use Rattle.model.specs.Types.{Net, PromptDef, Resource, OnUntil, Suppr, Cont, Canc, Dep, DraftDep}
use Rattle.model.specs.Types.{FollowsJob, FollowsStream, Needs, Prompt, At, Until, Outside, Deadline, Global, Own, Follows, Plain}
use Rattle.model.specs.Words.{nth}
use Rattle.report_text.specs.Names.{name_of}
use Rattle.syntax.specs.Quotes.{quoted_text}

-- a resource and a prompt by its name, and nothing for a number that the network lacks
abbrev pub resource_name : Net → ℕ → List ℕ
resource_name net r = option_map_or (λ (x : Resource). x.name) (nth net.resources r) (codes "")

abbrev pub prompt_name : Net → ℕ → List ℕ
prompt_name net p = option_map_or (λ (x : PromptDef). x.name) (nth net.prompts p) (codes "")

abbrev pub until_word : OnUntil → List ℕ
until_word Suppr = codes "suppr"
until_word Cont = codes "cont"
until_word Canc = codes "canc"

-- `at T`, `until T WORD`, `deadline T`, `needs N RES`, `ask NAME` or `ask "TEXT"`, `opens "TEXT"`; none for a stream or a
-- job by its number
unfoldable pub dep_line : Net → Dep → List ℕ
dep_line net (FollowsJob j) = codes ""
dep_line net (FollowsStream s) = codes ""
dep_line net (Needs r n) = codes "needs " ++ decimal n ++ codes " " ++ resource_name net r ++ codes "\n"
dep_line net (Prompt (Global p)) = codes "ask " ++ prompt_name net p ++ codes "\n"
dep_line net (Prompt (Own text)) = codes "ask " ++ quoted_text text ++ codes "\n"
dep_line net (At t) = codes "at " ++ decimal t ++ codes "\n"
dep_line net (Until t then_) = codes "until " ++ decimal t ++ codes " " ++ until_word then_ ++ codes "\n"
dep_line net (Outside path) = codes "opens " ++ quoted_text path ++ codes "\n"
dep_line net (Deadline t) = codes "deadline " ++ decimal t ++ codes "\n"

-- `follows WS#STREAM` or `follows WS#STREAM.JOB`
abbrev pub follows_line : Net → ℕ → List ℕ → Option (List ℕ) → List ℕ
follows_line net ws stream None = codes "follows " ++ name_of net ws ++ codes "#" ++ stream ++ codes "\n"
follows_line net ws stream (Some job) =
    codes "follows " ++ name_of net ws ++ codes "#" ++ stream ++ codes "." ++ job ++ codes "\n"

unfoldable pub draft_dep_line : Net → DraftDep → List ℕ
draft_dep_line net (Follows ws stream job) = follows_line net ws stream job
draft_dep_line net (Plain d) = dep_line net d
