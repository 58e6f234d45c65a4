use Rattle.std.proofs.Common.{ℕ, ◌∙◌, ap, take}
use Rattle.model.specs.Types.{Events}
use Rattle.model.specs.History.{list_of}
use Rattle.counted_facts.specs.Facts.{is_named}
use Rattle.counted_facts.proofs.facts.CountedFacts.is_named.Goals as goal

pub returns : goal.returns
returns c =
    λ G h less. c.is_named.ensures G h.master less
    ∙ ap (λ (n : ℕ). is_named n (take c.args.count (list_of G (Events 0)))) c.s.view_is
