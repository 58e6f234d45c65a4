use Rattle.std.proofs.Common.{[], ◌++◌, ◌∷◌, ◌∙◌, Contains, ap, refl, subst, sym}
use Rattle.model.specs.Types.{Start}
use Rattle.node_inputs.specs.Traces.{Event}
use Rattle.network_runs.specs.Happenings.{started}
use Rattle.service_nights.specs.Services.{Acts, night_between, night_of, plain}
use Rattle.service_nights.proofs.Between.{between_both, started_same}
use Rattle.service_nights.proofs.laws.no_service_starts_a_launch_twice.Goals as goal

pub returns : goal.returns
returns g c = λ defs services are links before behind w call s is among same_job same_number.
    c.no_launch_starts_twice.ensures defs (night_of services) (c.services_are_a_night.ensures defs services are links)
    (night_between [] before (Acts w (Event.Starts call) ∷ (behind ++ [])))
    (night_between (before ++ Acts w (Event.Starts call) ∷ []) behind []) w call s
    (ap night_of is ∙ between_both [] before (Acts w (Event.Starts call) ∷ behind) [])
    (subst (λ l. Contains l s) (sym (started_same [] before (Acts w (Event.Starts call) ∷ (behind ++ [])))) among) same_job same_number
