use Rattle.std.proofs.Common.{◌∙◌, List, ap}
use Rattle.model.specs.Types.{Entry}
use Rattle.model.specs.Words.{nth}
use Rattle.model.specs.History.{list_of}
use Rattle.network_world.proofs.worlds.World.held.Goals as goal

pub returns : goal.returns
returns c = λ x old.
    c.entry.ensures
    ∙ ap (λ (l : List Entry). nth (list_of l c.args.feed.now) c.args.place) c.owners.ensures
    ∙ ap (λ l. nth l c.args.place) ((c.node.ensures.stands x old).kept_.holds_them c.args.feed.now)
