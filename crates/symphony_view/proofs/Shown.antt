-- What a view shows depends on its events alone.
use Rattle.std.proofs.Common.{◌≡◌, [], ℕ, List}
use Rattle.model.specs.Types.{Body, Events, Net, Orders}
use Rattle.model.specs.History.{View}
use Rattle.model.specs.Everything.{everything}
use Rattle.symphony_view.specs.Listings.{clock_text, cpu_line, settings_text, told_line, job_line, listing_of, member_lines, numbered_job_line, plan_line}
use Rattle.symphony_view.specs.Listings.{prompt_line, resource_line, stream_line, stream_lines}
use Rattle.symphony_view.specs.Symphonies.{clock_bytes, cpu_bytes, fields_of, settings_bytes, job_bytes, member_bytes, numbered_job_bytes, prompt_bytes}
use Rattle.symphony_view.specs.Symphonies.{is_second, is_timed, is_timed_member, late_bytes, resource_bytes, stream_bytes}
use Rattle.symphony_view.specs.Symphonies.{symphony_of}

-- a view without orders
abbrev pub as_view : (ℕ → List Body) → View
as_view events (Events w) = events w
as_view events (Orders a w) = []

pub listing_same : (net : Net) (V U : View) → ((w : ℕ) → V (Events w) ≡ U (Events w))
    → listing_of net V ≡ listing_of net U
unfolding everything listing_of plan_line cpu_line told_line settings_text clock_text resource_line prompt_line member_lines stream_lines stream_line
    numbered_job_line job_line
listing_same net V U agree = λ i. listing_of net (as_view (λ w. agree w i))

pub symphony_same : (net : Net) (V U : View) → ((w : ℕ) → V (Events w) ≡ U (Events w))
    → symphony_of net V ≡ symphony_of net U
unfolding everything symphony_of cpu_bytes fields_of settings_bytes clock_bytes member_bytes stream_bytes numbered_job_bytes job_bytes resource_bytes
    prompt_bytes is_second is_timed is_timed_member late_bytes
symphony_same net V U agree = λ i. symphony_of net (as_view (λ w. agree w i))
