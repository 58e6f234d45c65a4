use Rattle.workload_defs.specs.Nets.{net_of}
use Rattle.network_runs.specs.Happenings.{made}
use Rattle.network_runs.proofs.Places.{launched_at}
use Rattle.network_runs.proofs.Whole.{night_is_world}
use Rattle.network_runs.proofs.laws.launches_stand_on_what_they_count.Goals as goal

pub returns : goal.returns
returns c = λ defs night n before behind e w j k seen split feed body.
    launched_at (net_of defs) (made night) (night_is_world defs night n).sound.prefixes before behind e w j k seen split feed body
