use Rattle.std.proofs.Common.{◌∙◌, List, ap, cond, sym}
use Rattle.std.specs.List.{list_any}
use Rattle.std.specs.Prelude.{sum_by}
use Rattle.model.specs.Types.{Events, Stream, StreamDoc}
use Rattle.model.specs.History.{view_of}
use Rattle.model.specs.Dependencies.{units}
use Rattle.owner_fold.specs.Stages.{begun_left}
use Rattle.counted_facts.specs.Subjects.{brings}
use Rattle.counted_decisions.specs.Sights.{seen_in}
use Rattle.counted_decisions.specs.Units.{holding_streams, left_of}
use Rattle.counted_decisions.proofs.Holding.{stream_units_seen}
use Rattle.counted_decisions.proofs.Leaving.{walk_end, walk_none, walk_some}
use Rattle.counted_decisions.proofs.Sighted.{own_seen, seen_grows}
use Rattle.counted_decisions.proofs.supplies.left_by_streams.Goals as goal

pub loop-doc-init : goal.loop-doc-init
loop-doc-init c =
    ap (left_of c.args.free)
    (stream_units_seen (seen_in c.args.sight.now) (view_of c.args.sight.now.owners.now)
    (seen_grows c.args.sight.now.owners.now c.args.sight.now.seen.now) c.args.w
    (own_seen c.args.sight.now.owners.now c.args.sight.now.seen.now c.args.w c.requires.own) c.args.r
    ∙ ap (λ (l : List StreamDoc). sum_by (λ (p : StreamDoc).
    cond (list_any (brings p.no) (seen_in c.args.sight.now (Events 0)))
    (units (view_of c.args.sight.now.owners.now) c.args.r (Stream p.no)) 0) l)
    (sym (ap begun_left c.into_iter-doc-iterator.ensures.into_iter_gives ∙ c.streams_under_way-doc-items.ensures)))

pub returns-in-None-left_by_stream : goal.returns-in-None-left_by_stream
returns-in-None-left_by_stream c =
    walk_none
    (λ (p : StreamDoc).
    cond (list_any (brings p.no) (seen_in c.args.sight.now (Events 0)))
    (units (view_of c.args.sight.now.owners.now) c.args.r (Stream p.no)) 0)
    (left_of c.args.free
    (sum_by (λ (p : StreamDoc). units (seen_in c.args.sight.now) c.args.r (Stream p.no))
    (holding_streams (seen_in c.args.sight.now) c.args.w)))
    c.left_by_stream.result c.loop-doc.left (begun_left c.loop-doc.doc-iterator) (begun_left c.next.new.self)
    c.in-Some.doc.now c.loop-doc.invariant c.in-Some.ensures.steps
    c.left_by_stream.ensures c.in-None-left_by_stream.is

pub loop-doc-preserved : goal.loop-doc-preserved
loop-doc-preserved c =
    walk_some
    (λ (p : StreamDoc).
    cond (list_any (brings p.no) (seen_in c.args.sight.now (Events 0)))
    (units (view_of c.args.sight.now.owners.now) c.args.r (Stream p.no)) 0)
    (left_of c.args.free
    (sum_by (λ (p : StreamDoc). units (seen_in c.args.sight.now) c.args.r (Stream p.no))
    (holding_streams (seen_in c.args.sight.now) c.args.w)))
    c.left_by_stream.result c.loop-doc.left c.in-Some-left_by_stream.next (begun_left c.loop-doc.doc-iterator)
    (begun_left c.next.new.self) c.in-Some.doc.now c.loop-doc.invariant
    c.in-Some.ensures.steps c.left_by_stream.ensures c.in-Some-left_by_stream.is

pub returns : goal.returns
returns c =
    walk_end
    (λ (p : StreamDoc).
    cond (list_any (brings p.no) (seen_in c.args.sight.now (Events 0)))
    (units (view_of c.args.sight.now.owners.now) c.args.r (Stream p.no)) 0)
    (left_of c.args.free
    (sum_by (λ (p : StreamDoc). units (seen_in c.args.sight.now) c.args.r (Stream p.no))
    (holding_streams (seen_in c.args.sight.now) c.args.w)))
    c.loop-doc.left (begun_left c.loop-doc.doc-iterator) c.loop-doc.invariant c.in-None.ensures.steps.0
