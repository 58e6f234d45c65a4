use Rattle.std.proofs.Common.{◌∙◌}
use Rattle.counted_facts.specs.Facts.{is_done}
use Rattle.counted_facts.proofs.Asking.{asked_at}
use Rattle.counted_facts.proofs.facts.CountedFacts.is_done.Goals as goal

pub returns : goal.returns
returns c =
    λ G h less. asked_at is_done G c.args.self.now.jobs c.w.inside.0 c.args.w c.args.j c.from.result c.args.count
    c.at.result c.w.view_is (c.from.ensures ∙ c.j.view_is) c.at.ensures h.jobs less
