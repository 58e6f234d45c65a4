use Rattle.std.proofs.Common.{◌∙◌, ℕ, ap, nat_lt, take}
use Rattle.model.specs.Types.{Events}
use Rattle.model.specs.History.{list_of}
use Rattle.counted_facts.specs.Places.{planned_at}
use Rattle.counted_facts.proofs.Membership.{replied_told}
use Rattle.counted_facts.proofs.masters.MasterFacts.is_answered.Goals as goal

pub returns : goal.returns
returns c =
    λ G h less. ap (λ (n : ℕ). nat_lt n c.replied_at.result) (c.planned_at.ensures G h less)
    ∙ ap (λ (n : ℕ). nat_lt (planned_at 0 (take c.args.count (list_of G (Events 0)))) n)
    (c.replied_at.ensures G h less)
    ∙ replied_told c.args.p (take c.args.count (list_of G (Events 0)))
