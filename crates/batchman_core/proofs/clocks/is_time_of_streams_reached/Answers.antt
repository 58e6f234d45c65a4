use Rattle.std.proofs.Common.{◌∙◌, List, ap, sym}
use Rattle.std.specs.Prelude.{◌==◌}
use Rattle.model.specs.Types.{Stream, StreamDoc}
use Rattle.model.specs.History.{view_of}
use Rattle.model.specs.Catalogue.{is_member}
use Rattle.owner_fold.specs.Times.{timed_streams_left}
use Rattle.batchman_core.specs.Reached.{is_any_reached_of}
use Rattle.batchman_core.proofs.Times.{reached_here, reached_later, objects_of}
use Rattle.batchman_core.proofs.Timed.{streams_at_first}
use Rattle.batchman_core.proofs.clocks.is_time_of_streams_reached.Goals as goal

pub loop-doc-init : goal.loop-doc-init
loop-doc-init c =
    streams_at_first (view_of c.args.o.now) c.args.w c.args.now c.args.t (timed_streams_left c.into_iter-doc-iterator.result)
    (ap timed_streams_left c.into_iter-doc-iterator.ensures.into_iter_gives ∙ c.timed_streams-doc-items.ensures)

pub returns-then-is_time_of_stream_reached : goal.returns-then-is_time_of_stream_reached
returns-then-is_time_of_stream_reached c =
    let V = view_of c.args.o.now in
    sym
    (c.loop-doc.invariant
    ∙ ap
    (λ (l : List StreamDoc).
    is_any_reached_of V c.args.now c.args.t
    (objects_of (λ (d : StreamDoc). d.ws == c.args.w) (λ (d : StreamDoc). is_member V d.no)
    (λ (d : StreamDoc). Stream d.no) l))
    c.in-Some.ensures.steps
    ∙ reached_here V c.args.now c.args.t (λ (d : StreamDoc). d.ws == c.args.w)
    (λ (d : StreamDoc). is_member V d.no) (λ (d : StreamDoc). Stream d.no) (c.in-Some.doc.now) (timed_streams_left c.next.new.self)
    (sym c.is_time_of_stream_reached.ensures ∙ c.if-is_time_of_stream_reached.true))

pub loop-doc-preserved : goal.loop-doc-preserved
loop-doc-preserved c =
    let V = view_of c.args.o.now in
    c.loop-doc.invariant
    ∙ ap
    (λ (l : List StreamDoc).
    is_any_reached_of V c.args.now c.args.t
    (objects_of (λ (d : StreamDoc). d.ws == c.args.w) (λ (d : StreamDoc). is_member V d.no)
    (λ (d : StreamDoc). Stream d.no) l))
    c.in-Some.ensures.steps
    ∙ reached_later V c.args.now c.args.t (λ (d : StreamDoc). d.ws == c.args.w)
    (λ (d : StreamDoc). is_member V d.no) (λ (d : StreamDoc). Stream d.no) (c.in-Some.doc.now) (timed_streams_left c.next.new.self)
    (sym c.is_time_of_stream_reached.ensures ∙ c.if-is_time_of_stream_reached.false)
