use Rattle.std.proofs.Common.{List, subst, sym}
use Rattle.lemmas.proofs.Results.{after_ok}
use Rattle.model.specs.Types.{Entry}
use Rattle.counted_facts.specs.Told.{AreMasterFacts}
use Rattle.counted_facts.proofs.facts.CountedFacts.tell.Goals as goal

pub returns : goal.returns
returns c =
    after_ok c.tell.result c.tell.ensures
    (λ told before all next h. record {
      jobs = c.in_ok-tell_job.ensures before all next h.jobs;
      streams = c.in_ok-tell_stream.ensures before all next h.streams;
      master = subst (λ (G : List Entry). AreMasterFacts G c.tell.new.self) (sym all) (told before next h.master);
    })
