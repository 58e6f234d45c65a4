use Rattle.std.proofs.Common.{List, ap, ◌∙◌}
use Rattle.model.specs.Types.{Entry}
use Rattle.model.specs.Words.{greatest}
use Rattle.model.specs.Catalogue.{catalogue}
use Rattle.model.specs.History.{view_of}
use Rattle.model.specs.NewPlan.{last_stream}
use Rattle.owner_fold.proofs.holdings.Owners.last_stream.Goals as goal

pub returns : goal.returns
unfolding catalogue
returns c =
    c.greatest_stream.ensures ∙ c.self.invariant.plan.last_stream ∙ ap greatest c.self.invariant.plan.doc_places.streams.1
    ∙ ap (λ (l : List Entry). last_stream (view_of l)) c.self.view_is
