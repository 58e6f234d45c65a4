use Rattle.network_runs.specs.Happenings.{started}
use Rattle.network_runs.proofs.Members.{in_of}
use Rattle.network_runs.proofs.Once.{started_once}
use Rattle.network_runs.proofs.Whole.{night_is_world}
use Rattle.network_runs.proofs.laws.no_launch_starts_twice.Goals as goal

pub returns : goal.returns
returns c = λ defs night n before behind w call s is among same_job same_number.
    started_once
    (λ d turns node trace end new runs front back it split. c.launches_are_started_once.ensures.kept_first d turns node trace end new runs front back it split)
    defs night n (night_is_world defs night n) before behind w call s is (in_of s (started before) among) same_job same_number
