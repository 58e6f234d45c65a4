use Rattle.workload_defs.specs.Nets.{net_of}
use Rattle.network_runs.specs.Happenings.{made}
use Rattle.network_runs.proofs.Places.{carried_at}
use Rattle.network_runs.proofs.Whole.{night_is_world}
use Rattle.network_runs.proofs.laws.new_plans_carry_what_the_option_takes.Goals as goal

pub returns : goal.returns
returns c = λ defs night n before behind e run cut carried docs split is.
    carried_at (net_of defs).carry (made night) (night_is_world defs night n).sound.plans before behind e run cut carried docs split is
