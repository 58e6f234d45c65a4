-- What an argument names: streams, jobs, resources, and the text of a submitted job.
use Rattle.std.specs.Prelude.{ℕ, Bool, List, length, codes, ◌==◌, nat_lt, Option, Some, None, option_and_then}
use Rattle.std.specs.Prelude.{option_map, slice_index, take, ◌-◌, if◌then◌else◌}
use Rattle.std.specs.List.{position_or_len, before_first, after_first}
use Rattle.std.specs.Str.{bytes_eq}
use Rattle.syntax.specs.Names.{name_of}
use Rattle.syntax.specs.Numbers.{number_of}
use Rattle.syntax.specs.Quotes.{quoted_of}
use Rattle.conman_syntax.specs.declared.heads.What.{What}
use Rattle.conman_syntax.specs.declared.heads.What.TheVariants.{Job, Sched, Cpu, DoCommand}
use Rattle.conman_syntax.specs.declared.lines.StreamRef.{StreamRef}
use Rattle.conman_syntax.specs.declared.lines.JobRef.{JobRef}
use Rattle.conman_syntax.specs.declared.lines.ObjRef.{ObjRef}
use Rattle.conman_syntax.specs.declared.lines.ObjRef.TheVariants as object
use Rattle.conman_syntax.specs.declared.references.LimitTarget.{LimitTarget}
use Rattle.conman_syntax.specs.declared.references.LimitTarget.TheVariants as limited
use Rattle.conman_syntax.specs.declared.references.ReplyTarget.{ReplyTarget}
use Rattle.conman_syntax.specs.declared.references.ReplyTarget.TheVariants as replied

-- the second answer, of what the first one found
infixl 10 ◌>>=◌
abbrev pub ◌>>=◌ : {A B : Type 0} → Option A → (A → Option B) → Option B
o >>= f = option_and_then f o

-- the mark stands in the text
abbrev pub has : ℕ → List ℕ → Bool
has mark text = nat_lt (position_or_len (λ b. b == mark) text) (length text)

-- what stands before the first such mark, and behind it
abbrev pub before : ℕ → List ℕ → List ℕ
before mark text = before_first (λ b. b == mark) text

abbrev pub behind : ℕ → List ℕ → List ℕ
behind mark text = after_first (λ b. b == mark) text

-- `n]`, a number of 32 bits and the closing bracket
unfoldable pub bracketed_of : List ℕ → Option ℕ
bracketed_of text =
    if slice_index text (length text - 1) == 93 then number_of 32 (take (length text - 1) text) else None

-- `S` or `S[n]` on this workstation
unfoldable pub stream_at : Option (List ℕ) → List ℕ → Option StreamRef
stream_at ws text =
    if has 91 text
    then (name_of (before 91 text) >>= λ name. bracketed_of (behind 91 text) >>= λ no.
    Some (record { ws = ws; name = name; no = Some no }))
    else (name_of text >>= λ name. Some (record { ws = ws; name = name; no = None }))

-- STREAM: `S` or `S[n]`, and `W#` may stand before it
unfoldable pub stream_of : List ℕ → Option StreamRef
stream_of text =
    if has 35 text
    then (name_of (before 35 text) >>= λ ws. stream_at (Some ws) (behind 35 text))
    else stream_at None text

-- JOB: a stream, a dot and a name
unfoldable pub job_of : List ℕ → Option JobRef
job_of text =
    stream_of (before 46 text) >>= λ stream. name_of (behind 46 text) >>= λ name.
    Some (record { stream = stream; name = name })

-- JOB or STREAM: a job where there is a dot
unfoldable pub job_or_stream_of : List ℕ → Option ObjRef
job_or_stream_of text =
    if has 46 text then option_map object.Job (job_of text) else option_map object.Stream (stream_of text)

-- `W#R`
unfoldable pub resource_of : List ℕ → Option (List ℕ × List ℕ)
resource_of text =
    name_of (before 35 text) >>= λ ws. name_of (behind 35 text) >>= λ name. Some (ws, name)

-- the second word of a long form
unfoldable pub second_word : List ℕ → Option What
second_word word =
    if bytes_eq word (codes "job") then Some Job else
    if bytes_eq word (codes "sched") then Some Sched else
    if bytes_eq word (codes "cpu") then Some Cpu else
    if bytes_eq word (codes "docommand") then Some DoCommand else None

-- What the first argument names: what the short form says, or the argument's first word, with a blank behind it.
abbrev pub what_of : Option What → List ℕ → Option What
what_of (Some what) argument = Some what
what_of None argument = if has 32 argument then second_word (before 32 argument) else None

-- the argument without that word
abbrev pub named_by : Option What → List ℕ → List ℕ
named_by (Some what) argument = argument
named_by None argument = behind 32 argument

-- a job or a stream of this kind
abbrev pub object_from : What → List ℕ → Option ObjRef
object_from Job text = option_map object.Job (job_of text)
object_from Sched text = option_map object.Stream (stream_of text)
object_from Cpu text = None
object_from DoCommand text = None

-- `job JOB` or `sched STREAM`, of which a short form has the first word
unfoldable pub object_of : Option What → List ℕ → Option ObjRef
object_of what argument = what_of what argument >>= λ kind. object_from kind (named_by what argument)

-- a workstation or a stream whose limit is set
abbrev pub limit_target_from : What → List ℕ → Option LimitTarget
limit_target_from Cpu text = option_map limited.Cpu (name_of text)
limit_target_from Sched text = option_map limited.Stream (stream_of text)
limit_target_from Job text = None
limit_target_from DoCommand text = None

-- `cpu W` or `sched STREAM`, of which a short form has the first word
unfoldable pub limit_target_of : Option What → List ℕ → Option LimitTarget
limit_target_of what argument = what_of what argument >>= λ kind. limit_target_from kind (named_by what argument)

-- what is answered: `job JOB` or `sched STREAM` where there is a blank, else the name of a prompt
unfoldable pub reply_target_of : List ℕ → Option ReplyTarget
reply_target_of argument =
    if has 32 argument
    then option_map replied.Own (object_of None argument)
    else option_map replied.Prompt (name_of argument)

-- `W#"TEXT"`
unfoldable pub work_from : List ℕ → Option (List ℕ × List ℕ)
work_from text =
    name_of (before 35 text) >>= λ ws. quoted_of (behind 35 text) >>= λ command. Some (ws, command)

abbrev pub work_for : What → List ℕ → Option (List ℕ × List ℕ)
work_for DoCommand text = work_from text
work_for Job text = None
work_for Sched text = None
work_for Cpu text = None

-- `docommand W#"TEXT"`, of which the short form has the first word
unfoldable pub work_of : Option What → List ℕ → Option (List ℕ × List ℕ)
work_of what argument =
    what_of what argument >>= λ kind. work_for kind (named_by what argument)
