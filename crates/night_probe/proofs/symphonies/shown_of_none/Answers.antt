use Rattle.std.proofs.Common.{◌∙◌, List, subst, sym}
use Rattle.std.proofs.lemmas.List.Elements.{All-nil}
use Rattle.model.specs.Types.{Entry}
use Rattle.model.specs.Fit.{AreFitEntries, IsFit}
use Rattle.night_probe.proofs.symphonies.shown_of_none.Goals as goal

pub symphony-requires : goal.symphony-requires
symphony-requires c =
    subst (λ (l : List Entry). AreFitEntries l) (sym (c.in-Ok.ensures.kept ∙ c.new-kept.ensures)) (All-nil IsFit)
