use Rattle.std.proofs.Common.{ℕ, ◌∙◌, ap, nat_lt, take}
use Rattle.model.specs.Types.{Events}
use Rattle.model.specs.History.{list_of}
use Rattle.counted_facts.proofs.Membership.{brought_told}
use Rattle.counted_facts.proofs.masters.MasterFacts.is_brought.Goals as goal

pub returns : goal.returns
returns c =
    λ G h less. ap (λ (n : ℕ). nat_lt 0 n) (c.brought_at.ensures G h less)
    ∙ brought_told c.args.s (take c.args.count (list_of G (Events 0)))
