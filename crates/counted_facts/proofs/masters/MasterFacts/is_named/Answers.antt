use Rattle.std.proofs.Common.{◌&&◌, ◌∙◌, ℕ, ap, nat_le, nat_lt, take}
use Rattle.model.specs.Types.{Events}
use Rattle.model.specs.History.{list_of}
use Rattle.counted_facts.specs.Places.{planned_at}
use Rattle.counted_facts.proofs.Membership.{named_told}
use Rattle.counted_facts.proofs.masters.MasterFacts.is_named.Goals as goal

pub returns : goal.returns
returns c =
    λ G h less. c.is_reached.ensures
    ∙ ap (λ (n : ℕ). nat_lt 0 n && nat_le n c.named_at.result) (c.planned_at.ensures G h less)
    ∙ ap (λ (n : ℕ).
    nat_lt 0 (planned_at 0 (take c.args.count (list_of G (Events 0))))
    && nat_le (planned_at 0 (take c.args.count (list_of G (Events 0)))) n) (c.named_at.ensures G h less)
    ∙ named_told c.args.s (take c.args.count (list_of G (Events 0)))
