use Rattle.std.proofs.Common.{sym, ◌∙◌}
use Rattle.model.specs.Types.{Events}
use Rattle.model.specs.History.{list_of}
use Rattle.owner_fold.specs.Sets.{began_by, is_begun, station_of}
use Rattle.owner_fold.proofs.Covering.{covers_less}
use Rattle.owner_fold.proofs.sets.settle_begun.Goals as goal

pub returns : goal.returns
returns c items number h =
    covers_less station_of (began_by c.args.kept.now) items c.args.groups.now c.remove.new.self c.from.result c.args.place
    (λ x s t.
    (λ i. is_begun (number x s i) (list_of c.args.kept.now (Events ((t ∙ c.from.ensures ∙ c.w.view_is) i))))
    ∙ sym c.is_begun.ensures ∙ c.if-is_begun.false)
    c.remove.ensures.removed c.remove.ensures.stays h
