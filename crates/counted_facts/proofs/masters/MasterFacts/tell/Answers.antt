use Rattle.lemmas.proofs.Results.{after_ok}
use Rattle.counted_facts.proofs.masters.MasterFacts.tell.Goals as goal

pub returns : goal.returns
returns c =
    after_ok c.tell_replied.result c.tell_replied.ensures
    (λ told before next h. record {
      brought = c.in_ok-tell_brought.ensures before next h.brought;
      named = c.in_ok-tell_named.ensures before next h.named;
      planned = c.in_ok-tell_planned.ensures before next h.planned;
      replied = told before next h.replied;
    })
