use Rattle.std.proofs.Common.{ℕ, ◌∙◌, ap, take}
use Rattle.std.specs.List.{list_any}
use Rattle.model.specs.Types.{Events}
use Rattle.model.specs.History.{list_of}
use Rattle.counted_facts.specs.Subjects.{brings}
use Rattle.counted_facts.proofs.facts.CountedFacts.is_brought.Goals as goal

pub returns : goal.returns
returns c =
    λ G h less. c.is_brought.ensures G h.master less
    ∙ ap (λ (n : ℕ). list_any (brings n) (take c.args.count (list_of G (Events 0)))) c.s.view_is
