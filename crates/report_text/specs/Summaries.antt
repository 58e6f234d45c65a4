-- The summary of a run: how many entries and starts there are, and how many streams and jobs are in each state.
use Rattle.std.specs.List.{enumerate_from}
use Rattle.std.specs.Prelude.{ℕ, List, ◌++◌, ◌==◌, if◌then◌else◌, codes, flat_map, slice_index}
use Rattle.std.specs.Fmt.{decimal}
use Rattle.report_text.specs.States.{job_words, stream_words}

-- what is counted, its state and the number, where there are any
unfoldable pub state_line : List ℕ → List ℕ → ℕ → List ℕ
state_line what state n =
    if n == 0 then codes "" else what ++ codes " " ++ state ++ codes " " ++ decimal n ++ codes "\n"

-- of a state with its number, where its count stands, which is 0 where it is missing
abbrev pub counted_line : List ℕ → List ℕ → ℕ × List ℕ → List ℕ
counted_line what counts p = state_line what p.1 (slice_index counts p.0)

-- a line for each state in its order
abbrev pub state_lines : List ℕ → List (List ℕ) → List ℕ → List ℕ
state_lines what states counts = flat_map (counted_line what counts) (enumerate_from 0 states)

-- `events N`, `starts N`, and then `streams STATE N` and `jobs STATE N`
unfoldable pub summary_of : List ℕ → List ℕ → ℕ → ℕ → List ℕ
summary_of streams jobs events starts =
    codes "events " ++ decimal events ++ codes "\nstarts " ++ decimal starts ++ codes "\n"
    ++ state_lines (codes "streams") stream_words streams
    ++ state_lines (codes "jobs") job_words jobs
