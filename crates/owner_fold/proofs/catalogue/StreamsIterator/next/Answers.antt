use Rattle.std.proofs.Common.{[], ◌+◌, ◌-◌, ◌∙◌, ◌∷◌, ◌≡◌, drop, filter_map, length, refl, subst, sym, take}
use Rattle.owner_fold.specs.DocPlaces.{doc_at}
use Rattle.owner_fold.specs.Left.{streams_left}
use Rattle.owner_fold.specs.declared.catalogue.Streams.{Streams}
use Rattle.owner_fold.specs.declared.doc_places.StreamPlace.{StreamPlace}
use Rattle.owner_fold.proofs.Passing.{next_found, none_found}
use Rattle.owner_fold.proofs.catalogue.StreamsIterator.next.Goals as goal

pub returns-in-Some-clause-steps : goal.returns-in-Some-clause-steps
unfolding streams_left
returns-in-Some-clause-steps c =
    let none : StreamPlace = record { number = 0; entry = 0; doc = 0 } in
    subst
    (λ (s : Streams). filter_map (doc_at s.entries.now) c.args.self.now.doc_places.now
    ≡ c.in-Some.doc.now ∷ filter_map (doc_at c.loop-i.self.entries.now)
    (take (length c.args.self.now.doc_places.now - (c.loop-i.i + 1)) (drop (c.loop-i.i + 1) c.args.self.now.doc_places.now)))
    c.loop-i.invariant.0
    (c.loop-i.invariant.1
    ∙ next_found (doc_at c.loop-i.self.entries.now) c.args.self.now.doc_places.now c.loop-i.i none c.in-Some.doc.now
    c.loop-i-test.true (sym c.in-Some.ensures))

pub returns-clause-steps : goal.returns-clause-steps
unfolding streams_left
returns-clause-steps c = (
  subst (λ (s : Streams). filter_map (doc_at s.entries.now) c.args.self.now.doc_places.now ≡ []) c.loop-i.invariant.0
      (c.loop-i.invariant.1
      ∙ none_found (doc_at c.loop-i.self.entries.now) c.args.self.now.doc_places.now c.loop-i.i c.loop-i-test.false),
  refl,
)
