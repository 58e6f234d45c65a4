use Rattle.std.proofs.Common.{map}
use Rattle.owner_fold.specs.declared.doc_places.StreamPlace.{StreamPlace}
use Rattle.owner_fold.proofs.Further.{plan_with}
use Rattle.owner_fold.proofs.plans.Plan.with.Goals as goal

pub returns : goal.returns
returns c =
    plan_with c.args.entries.now c.args.e.now c.args.self.now c.in_ok-doc_places.doc_places c.in_ok-stations.stations
    c.in_ok-named.named
    c.in_ok-members.members
    (record { streams = c.in_ok-doc_places.streams; jobs = c.in_ok-doc_places.jobs; members = c.in_ok-places.places })
    c.last_stream-last_stream.result c.last_job-last_job.result c.requires.planning c.requires.plan
    c.in_ok-doc_places.ensures.doc_places c.in_ok-stations.ensures c.in_ok-named.ensures
    (c.in_ok-members.ensures (map (λ (p : StreamPlace). p.number) c.in_ok-doc_places.doc_places.streams)
    c.in_ok-doc_places.ensures.streams)
    (record {
      streams = c.in_ok-doc_places.ensures.streams;
      jobs = c.in_ok-doc_places.ensures.jobs;
      members = c.in_ok-places.ensures;
    })
    c.last_stream-last_stream.ensures c.last_job-last_job.ensures
