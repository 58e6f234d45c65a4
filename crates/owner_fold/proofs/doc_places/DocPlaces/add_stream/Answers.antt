use Rattle.std.proofs.Common.{[], ◌∙◌, ◌∷◌, List, map, subst, sym, ℕ}
use Rattle.std.proofs.lemmas.List.{length-map, map-append}
use Rattle.owner_fold.specs.Numbers.{ArePlaces}
use Rattle.owner_fold.specs.declared.doc_places.StreamPlace.{StreamPlace}
use Rattle.owner_fold.proofs.doc_places.DocPlaces.add_stream.Goals as goal

pub returns-clause-known : goal.returns-clause-known
returns-clause-known c =
    subst (λ (l : List StreamPlace). ArePlaces (map (λ (p : StreamPlace). p.number) l) c.add.new.self)
    (sym c.in_ok-push.ensures.ok)
    (subst (λ (l : List ℕ). ArePlaces l c.add.new.self)
    (sym (map-append (λ (p : StreamPlace). p.number) c.args.self.now.streams (c.args.doc_place ∷ [])))
    (c.in_ok-add.ensures (map (λ (p : StreamPlace). p.number) c.args.self.now.streams)
    (length-map c.args.self.now.streams (λ (p : StreamPlace). p.number) ∙ sym c.len.ensures) c.requires))
