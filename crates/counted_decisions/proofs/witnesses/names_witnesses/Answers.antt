use Rattle.std.proofs.Common.{[], ◌∙◌, ◌∷◌}
use Rattle.std.specs.Option.{option_map_or}
use Rattle.model.specs.Types.{StreamDoc}
use Rattle.model.specs.Catalogue.{stream_of}
use Rattle.model.specs.Dependencies.{cites}
use Rattle.model.specs.Turn.{witnesses}
use Rattle.counted_decisions.specs.Sights.{seen_in}
use Rattle.counted_decisions.proofs.Naming.{only_named}
use Rattle.counted_decisions.proofs.witnesses.names_witnesses.Goals as goal

pub returns : goal.returns
unfolding witnesses
returns c =
    c.all_may_be_named.ensures
    ∙ only_named c.args.w
    (option_map_or (λ (d : StreamDoc). d.ws ∷ cites (seen_in c.args.sight.now) c.args.o.now)
    (stream_of (seen_in c.args.sight.now) c.args.o.now) []) c.new-named.result c.add_owner_and_cited.new.named
    c.args.sight.now.seen.now c.new-named.ensures.empty c.in_ok-add_owner_and_cited.ensures
