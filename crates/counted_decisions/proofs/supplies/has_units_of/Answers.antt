use Rattle.std.proofs.Common.{◌∙◌}
use Rattle.model.specs.Types.{Events}
use Rattle.model.specs.Facts.{total}
use Rattle.model.specs.Dependencies.{used}
use Rattle.counted_decisions.specs.Sights.{seen_in}
use Rattle.counted_decisions.proofs.Leaving.{units_none, units_some}
use Rattle.counted_decisions.proofs.supplies.has_units_of.Goals as goal

pub returns-in-None : goal.returns-in-None
returns-in-None c =
    units_none (total c.args.r c.args.resource.now.total (seen_in c.args.sight.now (Events c.args.w))) c.args.n
    (used (seen_in c.args.sight.now) c.args.w c.args.r) c.from.result c.from-2.result c.left_of.result c.left_of.ensures
    (c.from.ensures ∙ c.unwrap_or-total.ensures ∙ c.total_set.ensures c.args.resource.now.total) c.from-2.ensures
    c.in-None.is

pub returns-in-Some : goal.returns-in-Some
returns-in-Some c =
    units_some (total c.args.r c.args.resource.now.total (seen_in c.args.sight.now (Events c.args.w))) c.args.n
    (used (seen_in c.args.sight.now) c.args.w c.args.r) c.from.result c.from-2.result c.in-Some.free c.left_of.result
    c.are_in_use_at_most.result c.left_of.ensures
    (c.from.ensures ∙ c.unwrap_or-total.ensures ∙ c.total_set.ensures c.args.resource.now.total) c.from-2.ensures
    c.in-Some.is c.are_in_use_at_most.ensures
