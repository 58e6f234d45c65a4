-- An own member that may be released or may end, by its document; and that each of them waits or is under way.
use Rattle.std.proofs.Common.{◌≡◌, ◌∙◌, ◌∷◌, [], ℕ, Bool, List, None, ap, false, refl, subst, sym, true}
use Rattle.std.specs.Prelude.{◌==◌, ◌&&◌, filter, not}
use Rattle.lemmas.proofs.Booleans.{and_again}
use Rattle.lemmas.proofs.Lists.{filter_filter}
use Rattle.model.specs.Types.{Events, Net, Stream, StreamDoc}
use Rattle.model.specs.Words.{all_of, least}
use Rattle.model.specs.History.{View}
use Rattle.model.specs.Catalogue.{catalogue, is_member, streams_of}
use Rattle.model.specs.Dependencies.{all_satisfied}
use Rattle.model.specs.Facts.{is_cancelled, is_ended, is_released}
use Rattle.model.specs.OwnMembers.{may_end, may_end_in, may_release, may_release_in, own_numbers, own_streams}
use Rattle.owner_fold.specs.Holders.{is_under_way, streams_under_way}
use Rattle.owner_fold.specs.Sets.{is_waiting}
use Rattle.dependencies.specs.Planned.{ArePlannedStreams, IsPlannedStream}
use Rattle.dependencies.proofs.Found.{streams_planned}
use Rattle.model_laws.proofs.Lists.{all_filter}
use Rattle.dependencies.proofs.Lowest.{lower_of, numbers_among, numbers_of}

-- it is an own member that may be released
pub releasable : (net : Net) (V : View) (w : ℕ) (d : StreamDoc) → IsPlannedStream V d
    → ((d.ws == w) && (is_member V d.no && may_release net V w d.no)) ≡ may_release_in net V w d
unfolding may_release
releasable net V w d h = rw h.found (and_again (d.ws == w) (is_member V d.no) _)

-- it is an own member that may end
pub endable : (V : View) (w : ℕ) (d : StreamDoc) → IsPlannedStream V d
    → ((d.ws == w) && (is_member V d.no && may_end V w d.no)) ≡ may_end_in V w d
unfolding may_end
endable V w d h = rw h.found (and_again (d.ws == w) (is_member V d.no) _)

-- the streams that wait are planned
pub waiting_planned : (V : View) (w : ℕ) (left : List StreamDoc)
    → left ≡ filter (λ (d : StreamDoc). is_waiting d.no (V (Events w))) (streams_of V w) → ArePlannedStreams V left
unfolding streams_of
waiting_planned V w left e =
    subst (λ (ds : List StreamDoc). ArePlannedStreams V ds) (sym e)
    (all_filter (IsPlannedStream V) (λ (d : StreamDoc). is_waiting d.no (V (Events w)))
    (filter (λ (d : StreamDoc). d.ws == w) (catalogue V))
    (all_filter (IsPlannedStream V) (λ (d : StreamDoc). d.ws == w) (catalogue V) (streams_planned V)))

-- so are those under way
pub under_way_planned : (V : View) (w : ℕ) (left : List StreamDoc) → left ≡ streams_under_way V w
    → ArePlannedStreams V left
under_way_planned V w left e =
    subst (λ (ds : List StreamDoc). ArePlannedStreams V ds) (sym e)
    (all_filter (IsPlannedStream V) (is_under_way w (V (Events w))) (catalogue V) (streams_planned V))

waits : (net : Net) (V : View) (w : ℕ) (d : StreamDoc) → IsPlannedStream V d
    → ((d.ws == w) && (is_member V d.no && may_release net V w d.no)) ≡ true
    → ((d.ws == w) && is_waiting d.no (V (Events w))) ≡ true
waits net V w d h t =
    go (d.ws == w) (is_member V d.no) (is_released d.no (V (Events w))) (is_cancelled (Stream d.no) (V (Events w)))
    (all_satisfied net V w (Stream d.no)) (sym (releasable net V w d h) ∙ t)
  where
    go : (a b x y z : Bool) → all_of (a ∷ b ∷ not x ∷ not y ∷ z ∷ []) ≡ true → (a && (not x && not y)) ≡ true
    go true true false false z k = refl
    go true true false true z k = cc
    go true true true y z k = cc
    go true false x y z k = cc
    go false b x y z k = cc

pub goes_on : (V : View) (w : ℕ) (d : StreamDoc) → IsPlannedStream V d
    → ((d.ws == w) && (is_member V d.no && may_end V w d.no)) ≡ true → is_under_way w (V (Events w)) d ≡ true
goes_on V w d h t =
    go (d.ws == w) (is_member V d.no) (is_released d.no (V (Events w))) (is_ended d.no (V (Events w)))
    (is_cancelled (Stream d.no) (V (Events w))) _ (sym (endable V w d h) ∙ t)
  where
    go : (a b x y z l : Bool) → all_of (a ∷ b ∷ x ∷ not y ∷ not z ∷ l ∷ []) ≡ true
        → (a && (x && (not y && not z))) ≡ true
    go true true true false false l k = refl
    go true true true false true l k = cc
    go true true true true z l k = cc
    go true true false y z l k = cc
    go true false x y z l k = cc
    go false b x y z l k = cc

-- before the walks
pub waiting_at_first : (net : Net) (V : View) (w : ℕ) (left : List StreamDoc)
    → left ≡ filter (λ (d : StreamDoc). is_waiting d.no (V (Events w))) (streams_of V w)
    → least (filter (may_release net V w) (own_numbers V w))
    ≡ lower_of None
    (least (numbers_of (λ (d : StreamDoc). d.ws == w) (λ (d : StreamDoc). is_member V d.no) (may_release net V w)
    (λ (d : StreamDoc). d.no) left))
unfolding own_streams streams_of
waiting_at_first net V w left e =
    ap least
    (sym
    (numbers_among (IsPlannedStream V) (λ (d : StreamDoc). d.ws == w) (λ (d : StreamDoc). is_member V d.no)
    (may_release net V w) (λ (d : StreamDoc). d.no) (λ (d : StreamDoc). (d.ws == w) && is_waiting d.no (V (Events w)))
    (catalogue V) (waits net V w) (streams_planned V))
    ∙ ap
    (λ (l : List StreamDoc).
    numbers_of (λ (d : StreamDoc). d.ws == w) (λ (d : StreamDoc). is_member V d.no) (may_release net V w)
    (λ (d : StreamDoc). d.no) l)
    (sym
    (e
    ∙ filter_filter (λ (d : StreamDoc). is_waiting d.no (V (Events w))) (λ (d : StreamDoc). d.ws == w)
    (catalogue V))))

pub under_way_at_first : (V : View) (w : ℕ) (left : List StreamDoc) → left ≡ streams_under_way V w
    → least (filter (may_end V w) (own_numbers V w))
    ≡ lower_of None
    (least (numbers_of (λ (d : StreamDoc). d.ws == w) (λ (d : StreamDoc). is_member V d.no) (may_end V w)
    (λ (d : StreamDoc). d.no) left))
unfolding own_streams streams_of
under_way_at_first V w left e =
    ap least
    (sym
    (numbers_among (IsPlannedStream V) (λ (d : StreamDoc). d.ws == w) (λ (d : StreamDoc). is_member V d.no)
    (may_end V w) (λ (d : StreamDoc). d.no) (is_under_way w (V (Events w))) (catalogue V) (goes_on V w)
    (streams_planned V))
    ∙ ap
    (λ (l : List StreamDoc).
    numbers_of (λ (d : StreamDoc). d.ws == w) (λ (d : StreamDoc). is_member V d.no) (may_end V w)
    (λ (d : StreamDoc). d.no) l)
    (sym e))
