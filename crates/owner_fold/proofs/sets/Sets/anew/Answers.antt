use Rattle.owner_fold.proofs.sets.Sets.anew.Goals as goal

pub returns : goal.returns
returns c =
    λ ms streams placed are_members are_streams are_jobs. record {
      waiting = c.in_ok-waiting.ensures ms streams are_members are_streams;
      begun = c.in_ok-begun.ensures ms streams are_members are_streams;
      opened = c.in_ok-opened.ensures ms placed are_members are_jobs;
      by_stream = c.in_ok-by_stream.ensures placed are_jobs;
      timed = c.in_ok-timed.ensures ms streams placed are_members are_streams are_jobs;
      filed = c.in_ok-filed.ensures ms streams placed are_members are_streams are_jobs;
    }
