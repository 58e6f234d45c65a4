-- The lines of a plan: streams, jobs, their parts and their dependencies.
use Rattle.std.specs.Prelude.{ℕ, ◌==◌, Bool, true, false, List, [], ◌∷◌, Option, Some, None, codes, length}
use Rattle.std.specs.Prelude.{option_map, slice_index, if◌then◌else◌}
use Rattle.std.specs.List.{before_first, after_first}
use Rattle.syntax.specs.Names.{name_of}
use Rattle.syntax.specs.Splits.{first_word, after_word}
use Rattle.base_types.specs.declared.documents.Recovery.{Recovery}
use Rattle.base_types.specs.declared.documents.Recovery.TheVariants.{Continue, Rerun}
use Rattle.conman_syntax.specs.Values.{passed_of}
use Rattle.record_rows.specs.Words.{◌>>=◌, ◌is◌, sized, up_to, text_of}
use Rattle.record_rows.specs.declared.rows.Ranged.{Ranged}
use Rattle.record_rows.specs.declared.rows.Ranged.TheVariants.{Within, OutOfRange}
use Rattle.record_rows.specs.declared.rows.StreamRow.{StreamRow}
use Rattle.record_rows.specs.declared.rows.JobRow.{JobRow}
use Rattle.record_rows.specs.declared.rows.PartRow.{PartRow}
use Rattle.record_rows.specs.declared.rows.PartRow.TheVariants as part
use Rattle.record_rows.specs.declared.rows.DepRow.{DepRow}
use Rattle.record_rows.specs.declared.rows.DepRow.TheVariants as dep

-- `[prio N]`, with what is left of the words; 10 where the word does not stand there
abbrev pub priority_of : List (List ℕ) → Option (Ranged ℕ × List (List ℕ))
priority_of (key ∷ n ∷ rest) =
    if key is codes "prio" then option_map (λ p. (p, rest)) (up_to 101 n) else Some (Within 10, key ∷ n ∷ rest)
priority_of words = Some (Within 10, words)

-- a limit that is given
abbrev pub given : Ranged ℕ → Ranged (Option ℕ)
given (Within n) = Within (Some n)
given OutOfRange = OutOfRange

-- `[limit N]`, with what is left of the words; none where the word does not stand there
abbrev pub limit_of : List (List ℕ) → Option (Ranged (Option ℕ) × List (List ℕ))
limit_of (key ∷ n ∷ rest) =
    if key is codes "limit"
    then option_map (λ l. (given l, rest)) (up_to 1024 n)
    else Some (Within None, key ∷ n ∷ rest)
limit_of words = Some (Within None, words)

-- `[carry]`, which ends the line
abbrev pub carry_of : List (List ℕ) → Option Bool
carry_of [] = Some false
carry_of (word ∷ []) = if word is codes "carry" then Some true else None
carry_of words = None

-- `stream WS NAME [prio N] [limit N] [carry]`
unfoldable pub stream_of : List (List ℕ) → Option StreamRow
stream_of (ws ∷ name ∷ rest) =
    name_of ws >>= λ w. name_of name >>= λ n. priority_of rest >>= λ p. limit_of p.1 >>= λ l. carry_of l.1 >>= λ c.
    Some (record { ws = w; name = n; priority = p.0; limit = l.0; carry = c })
stream_of words = None

-- `job WS NAME [prio N]`
unfoldable pub job_of : List (List ℕ) → Option JobRow
job_of (ws ∷ name ∷ rest) =
    name_of ws >>= λ w. name_of name >>= λ n. priority_of rest >>= λ p.
    if length p.1 == 0 then Some (record { ws = w; name = n; priority = p.0 }) else None
job_of words = None

-- `continue`, `rerun`
abbrev pub recovery_of : List ℕ → Option Recovery
recovery_of rest =
    if rest is codes "continue" then Some Continue else (if rest is codes "rerun" then Some Rerun else None)

-- `do "TEXT"`, `script "TEXT"`, `logon "TEXT"`, `succ "COND"`, `recovery continue`, `recovery rerun`
unfoldable pub part_of : List ℕ → List ℕ → Option PartRow
part_of word rest =
    if word is codes "do" then option_map part.Command (text_of rest) else
    if word is codes "script" then option_map part.Script (text_of rest) else
    if word is codes "logon" then option_map part.Logon (text_of rest) else
    if word is codes "succ" then option_map part.Cond (text_of rest) else
    if word is codes "recovery" then option_map part.Recovery (recovery_of rest) else None

-- `until T suppr`, `until T cont`, `until T canc`
unfoldable pub until_of : List ℕ → Option DepRow
until_of rest = sized 64 (first_word rest) >>= λ t. option_map (dep.Until t) (passed_of (after_word rest))

-- what stands before the first such byte, and behind it
abbrev pub before_byte : ℕ → List ℕ → List ℕ
before_byte c word = before_first (λ b. b == c) word

abbrev pub after_byte : ℕ → List ℕ → List ℕ
after_byte c word = after_first (λ b. b == c) word

-- `STREAM`, `STREAM.JOB` on a workstation; a name holds no `.`
abbrev pub follows_on : List ℕ → List ℕ → Option DepRow
follows_on ws word =
    name_of (before_byte 46 word) >>= λ s.
    if before_byte 46 word is word
    then Some (dep.FollowsStream ws s)
    else option_map (dep.FollowsJob ws s) (name_of (after_byte 46 word))

-- `WS#STREAM`, `WS#STREAM.JOB`, `JOB`; a name holds no `#`
unfoldable pub follows_of : List ℕ → Option DepRow
follows_of word =
    if before_byte 35 word is word
    then option_map dep.FollowsOwn (name_of word)
    else (name_of (before_byte 35 word) >>= λ w. follows_on w (after_byte 35 word))

-- `needs N RES`
unfoldable pub needs_of : List ℕ → Option DepRow
needs_of rest = up_to 1024 (first_word rest) >>= λ n. option_map (dep.Needs n) (name_of (after_word rest))

-- `ask NAME`, `ask "TEXT"`
unfoldable pub ask_of : List ℕ → Option DepRow
ask_of rest =
    if slice_index rest 0 == 34
    then option_map dep.AskOwn (text_of rest)
    else option_map dep.AskGlobal (name_of rest)

-- the dependencies
unfoldable pub dep_of : List ℕ → List ℕ → Option DepRow
dep_of word rest =
    if word is codes "at" then option_map dep.At (sized 64 rest) else
    if word is codes "until" then until_of rest else
    if word is codes "deadline" then option_map dep.Deadline (sized 64 rest) else
    if word is codes "follows" then follows_of rest else
    if word is codes "needs" then needs_of rest else
    if word is codes "ask" then ask_of rest else
    if word is codes "opens" then option_map dep.Opens (text_of rest) else None
