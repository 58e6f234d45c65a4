use Rattle.std.proofs.Common.{[], ◌++◌, ◌∙◌, ◌∷◌, ◌≡◌, List, Some, ap, append_assoc, flat_map, slice_get, subst, sym}
use Rattle.std.proofs.Common.{arith, length, take}
use Rattle.std.proofs.lemmas.List.{take_all}
use Rattle.lemmas.proofs.Lists.{get_there, take_further}
use Rattle.model.specs.Types.{Events, StreamDoc}
use Rattle.model.specs.History.{list_of}
use Rattle.model.specs.Catalogue.{docs_in}
use Rattle.owner_fold.specs.DocPlaces.{AreDocPlacesOf}
use Rattle.owner_fold.proofs.Standing.{last_doc, places_copied}
use Rattle.owner_fold.proofs.doc_places.DocPlaces.with.Goals as goal

pub loop-i-init : goal.loop-i-init
loop-i-init c =
    record {
      doc_places =
          places_copied c.args.entries.now (c.args.e.now ∷ [])
          (flat_map docs_in (list_of c.args.entries.now (Events 0))) c.args.self.now c.in_ok-copy.field-0
          c.in_ok-copy-2.field-0 c.requires c.in_ok-copy.ensures c.in_ok-copy-2.ensures;
      streams = c.in_ok-streams.ensures;
      jobs = c.in_ok-jobs.ensures;
    }

pub loop-i-preserved : goal.loop-i-preserved
loop-i-preserved c =
    let item : slice_get (docs_in c.args.e.now.body) c.loop-i.i ≡ Some c.doc-item.result =
    ap (λ (l : List StreamDoc). slice_get l c.loop-i.i) (sym c.docs_of-doc-items.ensures)
    ∙ get_there c.docs_of-doc-items.result.now c.loop-i.i c.doc-item.result c.loop-i-test.true c.doc-item.is
    in
    let before : List StreamDoc = flat_map docs_in (list_of c.args.entries.now (Events 0)) in
    record {
      doc_places =
          subst
          (λ (docs : List StreamDoc). AreDocPlacesOf (c.args.entries.now ++ c.args.e.now ∷ []) docs c.add.new.self)
          (append_assoc before (take c.loop-i.i (docs_in c.args.e.now.body)) (c.doc-item.result ∷ [])
          ∙ ap (λ (l : List StreamDoc). before ++ l)
          (sym (take_further (docs_in c.args.e.now.body) c.loop-i.i c.doc-item.result item)))
          (c.in_ok-add.ensures.doc_places (c.args.entries.now ++ c.args.e.now ∷ [])
          (before ++ take c.loop-i.i (docs_in c.args.e.now.body))
          (last_doc c.args.entries.now c.args.e.now c.loop-i.i c.doc-item.result.no c.doc-item.result item)
          c.loop-i.invariant.doc_places);
      streams = c.in_ok-add.ensures.streams;
      jobs = c.in_ok-add.ensures.jobs;
    }

pub returns-clause-doc_places : goal.returns-clause-doc_places
returns-clause-doc_places c =
    let before : List StreamDoc = flat_map docs_in (list_of c.args.entries.now (Events 0)) in
    subst
    (λ (docs : List StreamDoc).
    AreDocPlacesOf (c.args.entries.now ++ c.args.e.now ∷ []) (before ++ docs) c.loop-i.doc_places)
    (take_all c.loop-i.i (docs_in c.args.e.now.body)
    (omega (arith, c.loop-i-test.false, ap length c.docs_of-doc-items.ensures)))
    c.loop-i.invariant.doc_places

pub returns-clause-streams : goal.returns-clause-streams
returns-clause-streams c = c.loop-i.invariant.streams

pub returns-clause-jobs : goal.returns-clause-jobs
returns-clause-jobs c = c.loop-i.invariant.jobs
