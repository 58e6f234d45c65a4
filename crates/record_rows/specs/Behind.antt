-- What is left of a line behind its first parts, which stand here as they were read.
use Rattle.std.specs.Prelude.{ℕ, ◌==◌, Bool, List, Option, Some, None, length, if◌then◌else◌}
use Rattle.syntax.specs.Names.{name_of}
use Rattle.record_rows.specs.Words.{◌>>=◌, ◌is◌, sized, up_to}
use Rattle.record_rows.specs.Plans.{priority_of, limit_of, carry_of}
use Rattle.record_rows.specs.Rows.{flags_of}
use Rattle.record_rows.specs.Steps.{object_of}
use Rattle.record_rows.specs.declared.rows.Ranged.{Ranged}
use Rattle.record_rows.specs.declared.rows.StreamRow.{StreamRow}
use Rattle.record_rows.specs.declared.rows.JobRow.{JobRow}
use Rattle.record_rows.specs.declared.rows.CutRow.{CutRow}
use Rattle.record_rows.specs.declared.rows.CutRow.TheVariants as cut
use Rattle.record_rows.specs.declared.rows.StepRow.{StepRow}
use Rattle.record_rows.specs.declared.rows.StepRow.TheVariants as step
use Rattle.record_rows.specs.declared.rows.Row.{Row}
use Rattle.record_rows.specs.declared.rows.Row.TheVariants as row

-- `[manager] [on]`, behind the names of a workstation and its hop; with them
abbrev pub station_named : List ℕ → List ℕ → List (List ℕ) → Option Row
station_named n h words =
    flags_of words >>= λ f. Some (row.Station (record { name = n; hop = h; manager = f.0; full = f.1 }))

-- `TOTAL`, behind the workstation and the name; with the name
abbrev pub resource_behind : List ℕ → List ℕ → List ℕ → Option Row
resource_behind w n total = up_to 1024 total >>= λ t. Some (row.Resource w n t)

abbrev pub resource_on : List ℕ → List ℕ → List ℕ → Option Row
resource_on w name total = name_of name >>= λ n. resource_behind w n total

-- `B`, behind a name
abbrev pub pair_with : List ℕ → List ℕ → Option (List ℕ × List ℕ)
pair_with a word = name_of word >>= λ b. Some (a, b)

-- `A` and `B`, each a word of its own
abbrev pub two_names : List ℕ → List ℕ → Option (List ℕ × List ℕ)
two_names a b = name_of a >>= λ x. pair_with x b

-- `K`, behind two names; with the second
abbrev pub packet_between : List ℕ → List ℕ → List ℕ → Option (List ℕ × List ℕ × Ranged ℕ)
packet_between from to k = sized 32 k >>= λ n. Some (from, to, n)

abbrev pub packet_from : List ℕ → List ℕ → List ℕ → Option (List ℕ × List ℕ × Ranged ℕ)
packet_from from b k = name_of b >>= λ to. packet_between from to k

-- a packet that was read, where it goes to this workstation
abbrev pub packet_to : List ℕ → List ℕ × List ℕ × Ranged ℕ → Option CutRow
packet_to w p = if p.1 is w then Some (cut.Deliver p.0 p.2) else None

-- `job J I`, `stream S I`, behind the workstation
abbrev pub fulfil_on : List ℕ → List ℕ → List ℕ → List ℕ → Option StepRow
fulfil_on w kind n i = object_of kind n >>= λ o. sized 16 i >>= λ d. Some (step.Fulfil w o d)

-- `[prio N] [limit N] [carry]`; behind the names, with them
abbrev pub terms : List (List ℕ) → Option (Ranged ℕ × Ranged (Option ℕ) × Bool)
terms words = priority_of words >>= λ p. limit_of p.1 >>= λ l. carry_of l.1 >>= λ c. Some (p.0, l.0, c)

abbrev pub stream_named : List ℕ → List ℕ → List (List ℕ) → Option StreamRow
stream_named w n words =
    terms words >>= λ t. Some (record { ws = w; name = n; priority = t.0; limit = t.1; carry = t.2 })

-- `[prio N]`, which ends the line; behind the names, with them
abbrev pub last_priority : List (List ℕ) → Option (Ranged ℕ)
last_priority words = priority_of words >>= λ p. if length p.1 == 0 then Some p.0 else None

abbrev pub job_named : List ℕ → List ℕ → List (List ℕ) → Option JobRow
job_named w n words = last_priority words >>= λ p. Some (record { ws = w; name = n; priority = p })
