use Rattle.std.proofs.Common.{None, Some, ap, ◌∙◌}
use Rattle.owner_fold.specs.DocPlaces.{doc_at}
use Rattle.owner_fold.proofs.Coded.{stream_of_code}
use Rattle.owner_fold.proofs.holdings.Owners.stream_coded.Goals as goal

pub returns-in-None : goal.returns-in-None
returns-in-None c =
    stream_of_code c.self.inside.kept c.args.self.now c.self.inside.plan c.as_slice.result.now c.place_in.result
    c.args.group c.args.code None c.self.invariant.plan c.self.view_is c.in-None.ensures c.as_slice.ensures
    c.place_in.ensures

pub returns-in-Some : goal.returns-in-Some
returns-in-Some c =
    c.stream_at.ensures ∙ ap (λ l. doc_at l c.in-Some.doc_place.now) c.entries.ensures
    ∙ stream_of_code c.self.inside.kept c.args.self.now c.self.inside.plan c.as_slice.result.now c.place_in.result
    c.args.group c.args.code (Some c.in-Some.doc_place.now) c.self.invariant.plan c.self.view_is c.in-Some.ensures
    c.as_slice.ensures c.place_in.ensures
