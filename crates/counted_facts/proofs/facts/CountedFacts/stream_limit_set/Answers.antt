use Rattle.std.proofs.Common.{◌∙◌, ap, take}
use Rattle.std.specs.Option.{option_or}
use Rattle.model.specs.Types.{Events}
use Rattle.model.specs.History.{list_of}
use Rattle.counted_facts.specs.declared.streams.StreamTold.{StreamTold}
use Rattle.counted_facts.proofs.Unspoken.{limit_written}
use Rattle.counted_facts.proofs.facts.CountedFacts.stream_limit_set.Goals as goal

pub returns : goal.returns
returns c =
    λ G h less written. ap (λ (t : StreamTold). option_or t.limit written) (c.stream.ensures G h less)
    ∙ limit_written c.args.s written (take c.args.count (list_of G (Events c.args.w)))
