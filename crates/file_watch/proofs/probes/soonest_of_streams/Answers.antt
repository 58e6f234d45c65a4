use Rattle.std.proofs.Common.{◌≡◌, ◌∙◌, List, Option, ap, subst, sym}
use Rattle.std.specs.Prelude.{flat_map, map}
use Rattle.model.specs.Types.{Stream, StreamDoc}
use Rattle.model.specs.History.{view_of}
use Rattle.model.specs.OwnMembers.{own_streams}
use Rattle.owner_fold.specs.Files.{filed_streams, filed_streams_left}
use Rattle.file_watch.specs.Circle.{DepPlace, sooner_of, soonest}
use Rattle.file_watch.specs.Probes.{due_at}
use Rattle.file_watch.proofs.Members.{all_streams}
use Rattle.file_watch.proofs.Soonest.{one_further}
use Rattle.file_watch.proofs.probes.soonest_of_streams.Goals as goal

pub loop-doc-init : goal.loop-doc-init
loop-doc-init c =
    let V = view_of c.args.o.now in
    let all : filed_streams_left c.into_iter-doc-iterator.result ≡ filed_streams V c.args.w =
    ap filed_streams_left c.into_iter-doc-iterator.ensures.into_iter_gives ∙ c.filed_streams-doc-items.ensures
    in
    ap (soonest c.args.last.now) (all_streams V c.args.w (filed_streams_left c.into_iter-doc-iterator.result) all)

pub loop-doc-preserved : goal.loop-doc-preserved
loop-doc-preserved c =
    let V = view_of c.args.o.now in
    let due : StreamDoc → List DepPlace = λ (d : StreamDoc). due_at V c.args.w (Stream d.no) in
    let rest : List StreamDoc = filed_streams_left c.next.new.self in
    let all : Option DepPlace =
    soonest c.args.last.now (flat_map (due_at V c.args.w) (map (λ (d : StreamDoc). Stream d.no) (own_streams V c.args.w)))
    in
    one_further c.args.last.now due c.in-Some.doc.now rest all c.loop-doc.so_far c.soonest_at-found.result
    c.soonest_at-found.ensures
    (subst
    (λ (l : List StreamDoc).
    all ≡ sooner_of c.args.last.now c.loop-doc.so_far (soonest c.args.last.now (flat_map due l)))
    c.in-Some.ensures.steps c.loop-doc.invariant)
    ∙ ap (λ (a : Option DepPlace). sooner_of c.args.last.now a (soonest c.args.last.now (flat_map due rest)))
    (sym c.sooner_of-so_far.ensures)
