use Rattle.std.proofs.Common.{◌∙◌, ap}
use Rattle.std.specs.List.{list_any}
use Rattle.run_cycles.specs.Clips.{earlier_of, gives_within, later_of}
use Rattle.run_cycles.proofs.Clips.{dated_in_range}
use Rattle.run_cycles.proofs.items.is_dated_within.Goals as goal

pub returns : goal.returns
returns c =
    let low = c.later_of-low.ensures.value ∙ ap (λ first. later_of first c.args.from) c.first_of-first.ensures in
    let high = c.earlier_of-high.ensures.value ∙ ap (λ last. earlier_of last c.args.end) c.last_of.ensures in
    c.gives_any.ensures
    ∙ ((λ i. list_any (gives_within c.args.w.now c.args.free.now (c.first_of-first.ensures i) (low i) (high i)) (c.as_slice.ensures i))
    ∙ dated_in_range c.args.w.now c.args.free.now c.args.on.now c.args.from c.args.end c.requires.end)
