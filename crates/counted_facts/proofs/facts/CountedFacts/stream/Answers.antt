use Rattle.std.proofs.Common.{◌∙◌}
use Rattle.counted_facts.specs.Facts.{stream_told}
use Rattle.counted_facts.proofs.Asking.{asked_at}
use Rattle.counted_facts.proofs.facts.CountedFacts.stream.Goals as goal

pub returns : goal.returns
returns c =
    λ G h less. asked_at stream_told G c.args.self.now.streams c.w.inside.0 c.args.w c.args.s c.from.result
    c.args.count c.at.result c.w.view_is (c.from.ensures ∙ c.s.view_is) c.at.ensures h.streams less
