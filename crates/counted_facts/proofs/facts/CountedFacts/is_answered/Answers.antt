use Rattle.counted_facts.proofs.facts.CountedFacts.is_answered.Goals as goal

pub returns : goal.returns
returns c = λ G h less. c.is_answered.ensures G h.master less
