use Rattle.std.proofs.Common.{◌≡◌, ◌∙◌, ◌∷◌, ℕ, List, Some, ap, false, subst, sym, true}
use Rattle.std.specs.Option.{option_map_or}
use Rattle.std.specs.Prelude.{◌==◌, filter, nat_lt}
use Rattle.model.specs.Types.{StreamDoc}
use Rattle.model.specs.Words.{least, lesser}
use Rattle.model.specs.History.{view_of}
use Rattle.model.specs.Catalogue.{is_member}
use Rattle.model.specs.OwnMembers.{may_end, own_numbers}
use Rattle.owner_fold.specs.Holders.{streams_under_way}
use Rattle.owner_fold.specs.Stages.{begun_left}
use Rattle.dependencies.specs.Planned.{ArePlannedStreams}
use Rattle.dependencies.proofs.Lowest.{lower_of, lowest_with, lowest_without, numbers_of}
use Rattle.dependencies.proofs.Members.{endable, under_way_at_first, under_way_planned}
use Rattle.dependencies.proofs.Passed.{lowest_past}
use Rattle.dependencies.proofs.scans.lowest_to_end.Goals as goal

pub loop-doc-init : goal.loop-doc-init
loop-doc-init c =
    let V = view_of c.args.o.now in
    let all : begun_left c.into_iter-doc-iterator.result ≡ streams_under_way V c.args.w =
    ap begun_left c.into_iter-doc-iterator.ensures.into_iter_gives ∙ c.streams_under_way-doc-items.ensures
    in
    record {
      planned = under_way_planned V c.args.w (begun_left c.into_iter-doc-iterator.result) all;
      lowest = under_way_at_first V c.args.w (begun_left c.into_iter-doc-iterator.result) all;
    }

pub loop-doc-preserved-then-not-is_below : goal.loop-doc-preserved-then-not-is_below
loop-doc-preserved-then-not-is_below c =
    let V = view_of c.args.o.now in
    let d = c.in-Some.doc.now in
    let planned : ArePlannedStreams V (d ∷ begun_left c.next.new.self) =
    subst (λ (l : List StreamDoc). ArePlannedStreams V l) c.in-Some.ensures.steps c.loop-doc.invariant.planned
    in
    let other : option_map_or (nat_lt d.no) c.loop-doc.lowest true ≡ false =
    ap (λ (n : ℕ). option_map_or (nat_lt n) c.loop-doc.lowest true) (sym (λ j. (c.doc.view_is j).no)) ∙ sym c.is_below.ensures
    ∙ c.if-not-is_below.true
    in
    record {
      planned = planned.1;
      lowest =
          lowest_past (λ (e : StreamDoc). e.ws == c.args.w) (λ (e : StreamDoc). is_member V e.no)
          (may_end V c.args.w)
          (λ (e : StreamDoc). e.no) d (begun_left c.next.new.self)
          (least (filter (may_end V c.args.w) (own_numbers V c.args.w))) c.loop-doc.lowest other
          (subst
          (λ (l : List StreamDoc).
          least (filter (may_end V c.args.w) (own_numbers V c.args.w))
          ≡ lower_of c.loop-doc.lowest
          (least (numbers_of (λ (e : StreamDoc). e.ws == c.args.w) (λ (e : StreamDoc). is_member V e.no)
          (may_end V c.args.w)
          (λ (e : StreamDoc). e.no) l)))
          c.in-Some.ensures.steps c.loop-doc.invariant.lowest);
    }

pub loop-doc-preserved-then-may_end_in : goal.loop-doc-preserved-then-may_end_in
loop-doc-preserved-then-may_end_in c =
    let V = view_of c.args.o.now in
    let d = c.in-Some.doc.now in
    let planned : ArePlannedStreams V (d ∷ begun_left c.next.new.self) =
    subst (λ (l : List StreamDoc). ArePlannedStreams V l) c.in-Some.ensures.steps c.loop-doc.invariant.planned
    in
    let lower : c.lower.result ≡ lesser d.no c.loop-doc.lowest =
    c.lower.ensures ∙ (λ j. lesser (c.doc.view_is j).no c.loop-doc.lowest)
    in
    record {
      planned = planned.1;
      lowest =
          lowest_with (λ (e : StreamDoc). e.ws == c.args.w) (λ (e : StreamDoc). is_member V e.no)
          (may_end V c.args.w)
          (λ (e : StreamDoc). e.no) d (begun_left c.next.new.self)
          (least (filter (may_end V c.args.w) (own_numbers V c.args.w))) c.loop-doc.lowest
          (endable V c.args.w d planned.0 ∙ sym c.may_end_in.ensures ∙ c.if-may_end_in.true)
          (subst
          (λ (l : List StreamDoc).
          least (filter (may_end V c.args.w) (own_numbers V c.args.w))
          ≡ lower_of c.loop-doc.lowest
          (least (numbers_of (λ (e : StreamDoc). e.ws == c.args.w) (λ (e : StreamDoc). is_member V e.no)
          (may_end V c.args.w)
          (λ (e : StreamDoc). e.no) l)))
          c.in-Some.ensures.steps c.loop-doc.invariant.lowest)
          ∙ ap
          (λ (n : ℕ).
          lower_of (Some n)
          (least (numbers_of (λ (e : StreamDoc). e.ws == c.args.w) (λ (e : StreamDoc). is_member V e.no)
          (may_end V c.args.w)
          (λ (e : StreamDoc). e.no) (begun_left c.next.new.self))))
          (sym lower);
    }

pub loop-doc-preserved : goal.loop-doc-preserved
loop-doc-preserved c =
    let V = view_of c.args.o.now in
    let d = c.in-Some.doc.now in
    let planned : ArePlannedStreams V (d ∷ begun_left c.next.new.self) =
    subst (λ (l : List StreamDoc). ArePlannedStreams V l) c.in-Some.ensures.steps c.loop-doc.invariant.planned
    in
    record {
      planned = planned.1;
      lowest =
          lowest_without (λ (e : StreamDoc). e.ws == c.args.w) (λ (e : StreamDoc). is_member V e.no)
          (may_end V c.args.w)
          (λ (e : StreamDoc). e.no) d (begun_left c.next.new.self)
          (least (filter (may_end V c.args.w) (own_numbers V c.args.w))) c.loop-doc.lowest
          (endable V c.args.w d planned.0 ∙ sym c.may_end_in.ensures ∙ c.if-may_end_in.false)
          (subst
          (λ (l : List StreamDoc).
          least (filter (may_end V c.args.w) (own_numbers V c.args.w))
          ≡ lower_of c.loop-doc.lowest
          (least (numbers_of (λ (e : StreamDoc). e.ws == c.args.w) (λ (e : StreamDoc). is_member V e.no)
          (may_end V c.args.w)
          (λ (e : StreamDoc). e.no) l)))
          c.in-Some.ensures.steps c.loop-doc.invariant.lowest);
    }
