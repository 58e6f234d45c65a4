use Rattle.std.proofs.Common.{◌≡◌, ◌∙◌, ◌∷◌, List, ap, filter, subst}
use Rattle.model.specs.Types.{Events, StreamDoc}
use Rattle.model.specs.History.{view_of}
use Rattle.model.specs.Catalogue.{streams_of}
use Rattle.owner_fold.specs.Sets.{is_waiting}
use Rattle.owner_fold.specs.Stages.{waiting_left}
use Rattle.dependencies.specs.Planned.{ArePlannedStreams}
use Rattle.dependencies.proofs.Members.{waiting_planned}
use Rattle.ready_index.specs.Releases.{KnowsWaitingBut}
use Rattle.ready_index.proofs.Releasing.{numbers_in, stream_less, streams_left}
use Rattle.ready_index.proofs.releases.Releases.fill.Goals as goal

pub loop-doc-init : goal.loop-doc-init
loop-doc-init c =
    let V = view_of c.args.o.now in
    let all : waiting_left c.into_iter-doc-iterator.result
    ≡ filter (λ (d : StreamDoc). is_waiting d.no (V (Events c.args.w))) (streams_of V c.args.w) =
    ap waiting_left c.into_iter-doc-iterator.ensures.into_iter_gives ∙ c.streams_waiting-doc-items.ensures
    in
    record {
      planned = waiting_planned V c.args.w (waiting_left c.into_iter-doc-iterator.result) all;
      known = streams_left V c.args.w (waiting_left c.into_iter-doc-iterator.result) c.args.self.now all;
    }

pub look-requires : goal.look-requires
look-requires c =
    (subst (λ (l : List StreamDoc). ArePlannedStreams (view_of c.args.o.now) l) c.in-Some.ensures.steps
    c.loop-doc.invariant.planned).0

pub loop-doc-preserved : goal.loop-doc-preserved
loop-doc-preserved c =
    let V = view_of c.args.o.now in
    let d = c.in-Some.doc.now in
    let planned : ArePlannedStreams V (d ∷ waiting_left c.next.new.self) =
    subst (λ (l : List StreamDoc). ArePlannedStreams V l) c.in-Some.ensures.steps c.loop-doc.invariant.planned
    in
    let known : KnowsWaitingBut V c.args.w (numbers_in (d ∷ waiting_left c.next.new.self)) c.loop-doc.self =
    subst (λ (l : List StreamDoc). KnowsWaitingBut V c.args.w (numbers_in l) c.loop-doc.self) c.in-Some.ensures.steps
    c.loop-doc.invariant.known
    in
    record {
      planned = planned.1;
      known =
          stream_less V c.args.w d.no (numbers_in (waiting_left c.next.new.self)) c.loop-doc.self c.look.new.self
          c.in_ok-look.ensures known;
    }
