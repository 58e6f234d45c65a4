use Rattle.std.proofs.Common.{◌≡◌, ◌∙◌, ◌∷◌, List, ap, subst, sym, ℕ}
use Rattle.model.specs.Types.{StreamDoc}
use Rattle.model.specs.Words.{insert_once}
use Rattle.model.specs.History.{view_of}
use Rattle.owner_fold.specs.Holders.{streams_under_way}
use Rattle.owner_fold.specs.Stages.{begun_left}
use Rattle.dependencies.proofs.Members.{under_way_planned}
use Rattle.ready_index.proofs.Ending.{KnowsOthers, before_walk, end_known, no_end_known}
use Rattle.ready_index.proofs.ends.Ends.fill.Goals as goal

pub loop-doc-init : goal.loop-doc-init
loop-doc-init c =
    let V = view_of c.args.o.now in
    let all : begun_left c.into_iter-doc-iterator.result ≡ streams_under_way V c.args.w =
    ap begun_left c.into_iter-doc-iterator.ensures.into_iter_gives ∙ c.streams_under_way-doc-items.ensures
    in
    before_walk V c.args.w (begun_left c.into_iter-doc-iterator.result) c.args.self.now.streams all
    (under_way_planned V c.args.w (begun_left c.into_iter-doc-iterator.result) all)

pub loop-doc-preserved-in-Continue-1 : goal.loop-doc-preserved-in-Continue-1
loop-doc-preserved-in-Continue-1 c =
    let V = view_of c.args.o.now in
    let d = c.in-Some.doc.now in
    end_known V c.args.w d (begun_left c.next.new.self) c.loop-doc.self.streams c.add.new.self
    (c.in_ok-add.ensures ∙ (λ j. insert_once (c.doc.view_is j).no c.loop-doc.self.streams))
    (subst (λ (l : List StreamDoc). KnowsOthers V c.args.w l c.loop-doc.self.streams) c.in-Some.ensures.steps
    c.loop-doc.invariant)

pub loop-doc-preserved : goal.loop-doc-preserved
loop-doc-preserved c =
    let V = view_of c.args.o.now in
    let d = c.in-Some.doc.now in
    no_end_known V c.args.w d (begun_left c.next.new.self) c.loop-doc.self.streams (sym c.may_end_in.ensures ∙ c.if-may_end_in.false)
    (subst (λ (l : List StreamDoc). KnowsOthers V c.args.w l c.loop-doc.self.streams) c.in-Some.ensures.steps
    c.loop-doc.invariant)
