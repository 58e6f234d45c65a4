use Rattle.owner_fold.proofs.given_objects.GivenObjects.anew.Goals as goal

pub returns : goal.returns
returns c =
    λ ms streams placed are_members are_streams are_jobs. record {
      streams = c.in_ok-streams.ensures ms streams are_members are_streams;
      jobs = c.in_ok-jobs.ensures ms placed are_members are_jobs;
    }
