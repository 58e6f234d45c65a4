use Rattle.std.proofs.Common.{◌≡◌, ◌∙◌, ◌∷◌, ℕ, List, Some, ap, subst, sym}
use Rattle.std.specs.Prelude.{◌&&◌, ◌==◌, filter, is_some}
use Rattle.model_laws.proofs.Options.{lesser_all}
use Rattle.model.specs.Types.{Stream, StreamDoc}
use Rattle.model.specs.Words.{least, lesser}
use Rattle.model.specs.History.{view_of}
use Rattle.model.specs.Catalogue.{is_member, owner}
use Rattle.model.specs.OwnMembers.{own_numbers}
use Rattle.owner_fold.specs.Times.{timed_streams, timed_streams_left}
use Rattle.dependencies.specs.Dues.{due_at}
use Rattle.dependencies.specs.Planned.{ArePlannedStreams}
use Rattle.dependencies.proofs.Lowest.{first_passes, lowest_passed, lowest_taken}
use Rattle.dependencies.proofs.Timed.{due_streams_at_first, timed_streams_planned}
use Rattle.dependencies.proofs.dues.lowest_stream.Goals as goal

pub loop-doc-init : goal.loop-doc-init
loop-doc-init c =
    let V = view_of c.args.o.now in
    let all : timed_streams_left c.into_iter-doc-iterator.result ≡ timed_streams V c.args.w =
    ap timed_streams_left c.into_iter-doc-iterator.ensures.into_iter_gives ∙ c.timed_streams-doc-items.ensures
    in
    record {
      planned = timed_streams_planned V c.args.w (timed_streams_left c.into_iter-doc-iterator.result) all;
      owned = tt;
      lowest =
          due_streams_at_first c.args.due V c.args.w (timed_streams_left c.into_iter-doc-iterator.result) all;
    }

pub loop-doc-preserved-then-stream_has_due : goal.loop-doc-preserved-then-stream_has_due
loop-doc-preserved-then-stream_has_due c =
    let V = view_of c.args.o.now in
    let d = c.in-Some.doc.now in
    let planned : ArePlannedStreams V (d ∷ timed_streams_left c.next.new.self) =
    subst (λ (l : List StreamDoc). ArePlannedStreams V l) c.in-Some.ensures.steps c.loop-doc.invariant.planned
    in
    let lower : c.lower.result ≡ lesser d.no c.loop-doc.lowest =
    c.lower.ensures ∙ (λ j. lesser (c.doc.view_is j).no c.loop-doc.lowest)
    in
    record {
      planned = planned.1;
      owned =
          subst (λ (n : ℕ). owner V (Stream n) ≡ Some c.args.w) (sym lower)
          (lesser_all (λ (n : ℕ). owner V (Stream n) ≡ Some c.args.w) d.no c.loop-doc.lowest
          (planned.0.owned
          ∙ ap Some
          (first_passes d.ws c.args.w c.stream_has_due.result
          (is_member V d.no && is_some (due_at c.args.due V c.args.w (Stream d.no))) c.stream_has_due.ensures
          c.if-stream_has_due.true))
          c.loop-doc.invariant.owned);
      lowest =
          lowest_taken (λ (e : StreamDoc). e.ws == c.args.w) (λ (e : StreamDoc). is_member V e.no)
          (λ n. is_some (due_at c.args.due V c.args.w (Stream n))) (λ (e : StreamDoc). e.no) d
          (timed_streams_left c.loop-doc.doc-iterator) (timed_streams_left c.next.new.self)
          (least
          (filter (λ n. is_some (due_at c.args.due V c.args.w (Stream n))) (own_numbers V c.args.w)))
          c.loop-doc.lowest c.lower.result
          c.stream_has_due.result c.in-Some.ensures.steps c.stream_has_due.ensures c.if-stream_has_due.true lower
          c.loop-doc.invariant.lowest;
    }

pub loop-doc-preserved : goal.loop-doc-preserved
loop-doc-preserved c =
    let V = view_of c.args.o.now in
    let d = c.in-Some.doc.now in
    let planned : ArePlannedStreams V (d ∷ timed_streams_left c.next.new.self) =
    subst (λ (l : List StreamDoc). ArePlannedStreams V l) c.in-Some.ensures.steps c.loop-doc.invariant.planned
    in
    record {
      planned = planned.1;
      owned = c.loop-doc.invariant.owned;
      lowest =
          lowest_passed (λ (e : StreamDoc). e.ws == c.args.w) (λ (e : StreamDoc). is_member V e.no)
          (λ n. is_some (due_at c.args.due V c.args.w (Stream n))) (λ (e : StreamDoc). e.no) d
          (timed_streams_left c.loop-doc.doc-iterator) (timed_streams_left c.next.new.self)
          (least
          (filter (λ n. is_some (due_at c.args.due V c.args.w (Stream n))) (own_numbers V c.args.w)))
          c.loop-doc.lowest c.stream_has_due.result
          c.in-Some.ensures.steps c.stream_has_due.ensures c.if-stream_has_due.false c.loop-doc.invariant.lowest;
    }
