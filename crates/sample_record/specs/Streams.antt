-- The plan: streams of ten jobs each, the last one with what is left. Each stream is on an agent that is drawn, and so
-- are its jobs. Whether it follows an earlier one, and which, is drawn, and so it is whether a job follows the job before
-- it in its stream.
use Rattle.std.specs.Prelude.{ℕ, zero, suc, Bool, false, List, [], ◌++◌, ◌+◌, ◌-◌, ◌*◌, ◌==◌, if◌then◌else◌}
use Rattle.std.specs.Prelude.{min, length, map, flat_map, slice_index, codes}
use Rattle.std.specs.Fmt.{decimal}
use Rattle.std.specs.Int.{div_ceil}
use Rattle.std.specs.List.{range_with_len}
use Rattle.sample_record.specs.Draws.{number, draw}

-- A stream begins at a number, from which its draws are made. The first is that of its agent.
abbrev pub host_of : ℕ → ℕ
host_of x = 1 + draw x 1 4

-- whether a stream with so many streams before it follows one of these: the second draw, which the first stream does
-- not make
abbrev pub is_follower : ℕ → ℕ → Bool
is_follower zero x = false
is_follower (suc before) x = draw x 2 2 == 0

-- how many draws are made for the lines of the stream itself
abbrev pub head_draws : ℕ → ℕ → ℕ
head_draws zero x = 1
head_draws (suc before) x = if draw x 2 2 == 0 then 3 else 2

-- the stream that is followed: the third draw, by the agents of the streams before
unfoldable pub followed_line : List ℕ → ℕ → List ℕ
followed_line hosts x =
    codes "follows A" ++ decimal (slice_index hosts (draw x 3 (length hosts)))
    ++ codes "#S" ++ decimal (draw x 3 (length hosts) + 1) ++ codes "\n"

-- the lines of a stream itself
unfoldable pub head_part : List ℕ → ℕ → List ℕ
head_part hosts x =
    codes "stream A" ++ decimal (host_of x) ++ codes " S" ++ decimal (length hosts + 1) ++ codes "\n"
    ++ (if is_follower (length hosts) x then followed_line hosts x else [])

-- the lines of a job
unfoldable pub job_lines : ℕ → ℕ → List ℕ
job_lines host job = codes "job A" ++ decimal host ++ codes " J" ++ decimal job ++ codes "\ndo \"true\"\n"

-- that a job follows the one before it, where the first draw from x on says so
unfoldable pub follows_line : ℕ → ℕ → List ℕ
follows_line x job = if draw x 1 3 == 0 then codes "follows J" ++ decimal (job - 1) ++ codes "\n" else []

-- a job of a stream that has so many jobs of the stream before it, the first of which has the number `first`
unfoldable pub further_job : ℕ → ℕ → ℕ → ℕ → List ℕ
further_job host x first before =
    job_lines host (first + before) ++ follows_line (number x (before - 1)) (first + before)

-- so many jobs of a stream, from the number `first` on. A draw is made for each but the first.
unfoldable pub jobs_part : ℕ → ℕ → ℕ → ℕ → List ℕ
jobs_part host x first count =
    job_lines host first ++ flat_map (further_job host x first) (range_with_len 1 (count - 1))

-- how many jobs a stream has that has so many streams before it
abbrev pub job_count : ℕ → ℕ → ℕ
job_count jobs before = min 10 (jobs - before * 10)

-- the number at which the stream begins that has so many streams before it
abbrev pub beginning : ℕ → ℕ → ℕ → ℕ
beginning jobs seed zero = seed
beginning jobs seed (suc before) =
    let x = beginning jobs seed before in number x (head_draws before x + (job_count jobs before - 1))

-- the agents of the first streams
abbrev pub hosts_of : ℕ → ℕ → ℕ → List ℕ
hosts_of jobs seed before = map (λ s. host_of (beginning jobs seed s)) (range_with_len 0 before)

-- the stream that has so many streams before it, with its jobs
unfoldable pub stream_part : ℕ → ℕ → ℕ → List ℕ
stream_part jobs seed before =
    let x = beginning jobs seed before in
    head_part (hosts_of jobs seed before) x
    ++ jobs_part (host_of x) (number x (head_draws before x)) (before * 10 + 1) (job_count jobs before)

-- how many streams there are: a tenth of the jobs, rounded up
abbrev pub stream_count : ℕ → ℕ
stream_count jobs = div_ceil jobs 10

unfoldable pub plan_part : ℕ → ℕ → List ℕ
plan_part jobs seed = codes "$PLAN\n" ++ flat_map (stream_part jobs seed) (range_with_len 0 (stream_count jobs))
