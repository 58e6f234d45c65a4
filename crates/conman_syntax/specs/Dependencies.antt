-- DEP as an argument: a key, `=` and its value.
use Rattle.std.specs.Prelude.{ℕ, ◌==◌, List, length, codes, Option, Some, None, Result, Ok, option_map, slice_index}
use Rattle.std.specs.Prelude.{if◌then◌else◌}
use Rattle.std.specs.Str.{bytes_eq}
use Rattle.base_types.specs.declared.documents.OnUntil.{OnUntil}
use Rattle.base_types.specs.declared.documents.OnUntil.TheVariants.{Suppr}
use Rattle.syntax.specs.Names.{name_of}
use Rattle.syntax.specs.Numbers.{number_of}
use Rattle.syntax.specs.Quotes.{quoted_of}
use Rattle.conman_syntax.specs.Answers.{next, ended}
use Rattle.conman_syntax.specs.Arguments.{argument_behind}
use Rattle.conman_syntax.specs.References.{◌>>=◌, before, behind, job_or_stream_of, resource_of}
use Rattle.conman_syntax.specs.Values.{passed_of}
use Rattle.conman_syntax.specs.declared.faults.ArgumentFault.{ArgumentFault}
use Rattle.conman_syntax.specs.declared.lines.ObjRef.{ObjRef}
use Rattle.conman_syntax.specs.declared.lines.ObjRef.TheVariants as object
use Rattle.conman_syntax.specs.declared.lines.DepRef.{DepRef}
use Rattle.conman_syntax.specs.declared.lines.DepRef.TheVariants.{FollowsJob, FollowsStream, Needs, PromptName}
use Rattle.conman_syntax.specs.declared.lines.DepRef.TheVariants.{PromptText, At, Until}

abbrev pub follows_from : ObjRef → DepRef
follows_from (object.Job job) = FollowsJob job
follows_from (object.Stream stream) = FollowsStream stream

-- `N W#R`: units, a blank and a resource
unfoldable pub needs_of : List ℕ → Option DepRef
needs_of value =
    number_of 16 (before 32 value) >>= λ units. resource_of (behind 32 value) >>= λ names.
    Some (Needs units names.0 names.1)

-- a text in quotes, or the name of a prompt
unfoldable pub prompt_of : List ℕ → Option DepRef
prompt_of value =
    if slice_index value 0 == 34 then option_map PromptText (quoted_of value) else option_map PromptName (name_of value)

-- a dependency of one argument, by its key and its value
unfoldable pub dep_by_key : List ℕ → List ℕ → Option DepRef
dep_by_key key value =
    if bytes_eq key (codes "follows") then option_map follows_from (job_or_stream_of value) else
    if bytes_eq key (codes "needs") then needs_of value else
    if bytes_eq key (codes "prompt") then prompt_of value else
    if bytes_eq key (codes "at") then option_map At (number_of 64 value) else None

abbrev pub dep_of : List ℕ → Option DepRef
dep_of argument = dep_by_key (before 61 argument) (behind 61 argument)

-- `until=T`
abbrev pub until_time_of : List ℕ → Option ℕ
until_time_of argument = number_of 64 (behind 61 argument)

-- `onuntil=suppr`, `onuntil=cont` or `onuntil=canc`
unfoldable pub on_until_of : List ℕ → Option OnUntil
on_until_of argument =
    if bytes_eq (before 61 argument) (codes "onuntil") then passed_of (behind 61 argument) else None

-- argument 2 is `until=T`, and argument 3, if there is one, says what comes when T has passed
unfoldable pub until_from : List ℕ → Result DepRef ArgumentFault
until_from left =
    next 2 left until_time_of (λ time left.
    if length left == 0 then Ok (Until time Suppr) else
    next 3 left on_until_of (λ passed left. ended left (Until time passed)))

-- the dependency that arguments 2 and 3 are
unfoldable pub dependency_of : List ℕ → Result DepRef ArgumentFault
dependency_of left =
    if bytes_eq (before 61 (argument_behind 59 left)) (codes "until") then until_from left else
    next 2 left dep_of (λ dep left. ended left dep)
