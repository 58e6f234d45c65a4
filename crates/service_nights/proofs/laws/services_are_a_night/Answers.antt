use Rattle.service_nights.proofs.Nights.{are_night}
use Rattle.service_nights.proofs.laws.services_are_a_night.Goals as goal

pub returns : goal.returns
returns g c = λ defs services are links.
    let D = g.D.Disk in
    are_night D.seen D.faults D.moment D.may_leave D.left_since defs services are
    (λ turns node trace end new runs front back e why split.
    (c.nothing_follows_a_refusal.ensures defs turns node trace end new runs front back e why split).0) links
