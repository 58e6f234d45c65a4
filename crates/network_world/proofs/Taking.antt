-- A step of what happens at a node.
use Rattle.std.proofs.Common.{◌≡◌, ◌<◌, ◌≤◌, ◌+◌, ◌*◌, ◌∙◌, ℕ, Bool, List, None, Ok, Option, Some, ap, arith, length, refl, subst, sym}
use Rattle.std.specs.Prelude.{◌==◌, Err, IfErr, OnErr, OnOk, Result}
use Rattle.lemmas.proofs.Lists.{got_below}
use Rattle.model.specs.Types.{Entry, Input, Local, Net, Out, Take, WorldStep}
use Rattle.model.specs.Network.{node_count}
use Rattle.model.specs.Step.{Effect, node_step}
use Rattle.model.specs.World as model
use Rattle.model.specs.World.{Origin, apply_effect, node_effect, reached_limit, view_at}
use Rattle.model.specs.Kept.{kept_in, made_by, only_if}
use Rattle.agent_core.specs.Steps.{effect_in, step_at}
use Rattle.agent_core.specs.declared.Step.{Step}
use Rattle.network_world.specs.Stations.{Journal, Station, WorldState, station_of}
use Rattle.network_world.specs.Refusals.{limit_at}
use Rattle.network_world.specs.Standing.{IsReached, IsRefusalDue, IsWorld, KeepsAll, StandsFor, Steps}
use Rattle.network_world.specs.Journals.{CanNote, HasNoted, HasRoom, IsLimitDue, seen}
use Rattle.network_world.specs.Moves.{HasStoppedAt, HasTakenAt, IsInputDue}
use Rattle.network_world.specs.declared.journals.Journal as raw
use Rattle.network_world.specs.declared.refusals.StepRefused.{StepRefused}
use Rattle.network_world.proofs.After.{count_stays, each_goes_on, journal_after, reached_next, stands_after}
use Rattle.network_world.proofs.Effects.{at_node, effect_limit, effect_ok, limit_refuses, node_refuses, same_limit}
use Rattle.network_world.proofs.Effects.{take_err, take_ok}
use Rattle.network_world.proofs.Noting.{sent_after, step_can_be_noted}

-- that a step keeps what restores each node, and how few packets a world sends
abbrev pub KeepsLaw : Type 0
KeepsLaw = (net : Net) (x y : model.World) (st : WorldStep) → IsReached net x → model.step net x st ≡ Ok y → KeepsAll net x st y

abbrev pub SentLaw : Type 0
SentLaw = (net : Net) (x : model.World) → IsReached net x → x.sent ≤ 19999999 + 8 * node_count net

-- what a node keeps of it
kept_of_take : (net : Net) (x : model.World) (w : ℕ) (l : Local) (d : Effect)
    → node_effect net x w (Some (Input.Local l)) ≡ Ok d → (v : ℕ)
    → kept_in net x v (Take w l) ≡ only_if (v == w) d.made
unfolding kept_in
kept_of_take net x w l d e v = ap (λ r. only_if (v == w) (made_by r)) e

-- what the node's answer is in the world that stands before it
pub taken_effect : (s : WorldState) (x : model.World) (w : ℕ) (t : Station) (input : Input) (d : Effect)
    → StandsFor s x → station_of s w ≡ Some t → step_at t.node input ≡ Ok d
    → node_step s.net w (view_at x w) (x.sessions w) input ≡ Ok d
taken_effect s x w t input d old at_w due = sym (at_node s.net x w t.node input (old.stations_ w t at_w).node_) ∙ due

-- a world that takes it stands for the world of the definitions after it
pub take_steps : (s : WorldState) (w : ℕ) (l : Local) (sent : Step) (stations : List Station) (j : Journal) → KeepsLaw
    → w < node_count s.net → length s.stations ≡ node_count s.net
    → limit_at s.journal.taken s.journal.sent s.journal.kept ≡ None
    → ((t : Station) → station_of s w ≡ Some t → HasTakenAt s.stations w t (Input.Local l) sent stations)
    → HasNoted Origin.Own w sent.outs sent.kept s.journal j
    → Steps s (Take w l) (record { net = s.net; stations = stations; journal = j })
take_steps s w l sent stations j law inside count free taken wrote = record {
  net_ = refl;
  leads = λ x old.
      let at_w = got_below s.stations w (omega (arith, inside, count)) in
      let got = taken at_w.0 at_w.1 in
      let d : Effect = effect_in sent got.0.node in
      let done = effect_ok s.net x w (Input.Local l) d (same_limit s x old ∙ free)
      (taken_effect s x w at_w.0 (Input.Local l) d old at_w.1 got.2.due) in
      let stepped = take_ok s.net x w l d done in (
        apply_effect x w Origin.Own d,
        stepped,
        stands_after s x (apply_effect x w Origin.Own d) (Take w l) stations j old stepped
            (law s.net x (apply_effect x w Origin.Own d) (Take w l) old.reached stepped)
            (count_stays s.stations stations w got.0 got.1)
            (each_goes_on s.net x (Take w l) w Origin.Own d s.stations stations at_w.0 got.0
            (kept_of_take s.net x w l d done) at_w.1 got.1 got.2.goes)
            (journal_after x w Origin.Own d s.journal j old.journal_ wrote),
      );
}

-- it can be written down
pub take_can_be_noted : (s : WorldState) (w : ℕ) (l : Local) (sent : Step) (stations : List Station) (j : raw.Journal)
    → SentLaw → IsWorld s → node_count s.net ≤ 256 → w < node_count s.net
    → limit_at s.journal.taken s.journal.sent s.journal.kept ≡ None
    → ((t : Station) → station_of s w ≡ Some t → HasTakenAt s.stations w t (Input.Local l) sent stations)
    → seen j ≡ s.journal → HasRoom j → CanNote w sent.outs sent.kept j
take_can_be_noted s w l sent stations j law is few inside free taken same room =
    let x = is.world in
    let old = is.stands in
    let at_w = got_below s.stations w (omega (arith, inside, old.station_count)) in
    let got = taken at_w.0 at_w.1 in
    let d : Effect = effect_in sent got.0.node in
    let due = taken_effect s x w at_w.0 (Input.Local l) d old at_w.1 got.2.due in
    let stepped = take_ok s.net x w l d (effect_ok s.net x w (Input.Local l) d (same_limit s x old ∙ free) due) in
    step_can_be_noted s x (apply_effect x w Origin.Own d) w (Input.Local l) d j law few old free due
    (reached_next s.net x (apply_effect x w Origin.Own d) (Take w l) old.reached stepped)
    (sent_after x w Origin.Own d) same room

-- what refuses it
pub take_limited : (s : WorldState) (w : ℕ) (l : Local) (r : StepRefused)
    → IsLimitDue s.journal.taken s.journal.sent s.journal.kept r → IsRefusalDue s (Take w l) r
take_limited s w l r due =
    limit_refuses s (Take w l) r
    (λ x name old e. take_err s.net x w l (model.StepRefused.Limit name)
    (effect_limit s.net x w (Input.Local l) name e)) due

pub take_refused : (s : WorldState) (w : ℕ) (l : Local) (r : StepRefused) → w < node_count s.net
    → length s.stations ≡ node_count s.net → limit_at s.journal.taken s.journal.sent s.journal.kept ≡ None
    → ((t : Station) → station_of s w ≡ Some t → IsInputDue t (Input.Local l) r) → IsRefusalDue s (Take w l) r
take_refused s w l r inside count free due =
    let at_w = got_below s.stations w (omega (arith, inside, count)) in
    node_refuses s (Take w l) w at_w.0 (Input.Local l) (λ x. Some (Input.Local l)) r
    (λ x g old e. take_err s.net x w l g e) (λ x old. (refl, same_limit s x old ∙ free)) at_w.1 (due at_w.0 at_w.1)

-- it still stands for a world
pub still_a_world : (s z : WorldState) (st : WorldStep) → IsWorld s → Steps s st z → IsWorld z
still_a_world s z st old go =
    let next = go.leads old.world old.stands in
    record { world = next.0; stands = next.2 }

-- what is the same as before stands for the same world
pub same_world : (net : Net) (old new : List Station) (j k : Journal) → new ≡ old → k ≡ j
    → IsWorld (record { net = net; stations = old; journal = j })
    → IsWorld (record { net = net; stations = new; journal = k })
same_world net old new j k same written is =
    subst (λ (l : List Station). IsWorld (record { net = net; stations = l; journal = k })) (sym same)
    (subst (λ (m : Journal). IsWorld (record { net = net; stations = old; journal = m })) (sym written) is)

abbrev pub state : Net → List Station → Journal → WorldState
state net stations j = record { net = net; stations = stations; journal = j }

pub same_state : (net : Net) (old new : List Station) (j k : Journal) → new ≡ old → k ≡ j
    → state net new k ≡ state net old j
same_state net old new j k same written = λ i. state net (same i) (written i)

-- what is written after room was made, over what was written before
pub noted_over : (o : Origin) (w : ℕ) (outs : List Out) (made : Option Entry) (old mid new : Journal) → mid ≡ old
    → HasNoted o w outs made mid new → HasNoted o w outs made old new
noted_over o w outs made old mid new same h = subst (λ (j : Journal). HasNoted o w outs made j new) same h

-- the network stays, and a refusal is one of the step that is taken
pub net_stays : {A E : Type 0} (old : WorldState) (st : WorldStep) (new : WorldState) (r : Result A E)
    → OnOk r (Steps old st new) → OnErr r (new ≡ old) → new.net ≡ old.net
net_stays old st new (Ok u) h k = h.net_
net_stays old st new (Err e) h k = ap (λ (s : WorldState). s.net) k

pub refusals_of : {A : Type 0} (s : WorldState) (st as_it_is : WorldStep) (r : Result A StepRefused) → st ≡ as_it_is
    → IfErr r (λ e. IsRefusalDue s st e) → IfErr r (λ e. IsRefusalDue s as_it_is e)
refusals_of s st as_it_is r same h = subst (λ (t : WorldStep). IfErr r (λ e. IsRefusalDue s t e)) same h

-- what is said of a copy of what happens is said of that itself
pub taken_of : (s : WorldState) (w : ℕ) (l m : Local) (sent : Step) (stations : List Station) → m ≡ l
    → ((t : Station) → station_of s w ≡ Some t → HasTakenAt s.stations w t (Input.Local m) sent stations)
    → (t : Station) → station_of s w ≡ Some t → HasTakenAt s.stations w t (Input.Local l) sent stations
taken_of s w l m sent stations same taken t e =
    subst (λ (n : Local). HasTakenAt s.stations w t (Input.Local n) sent stations) same (taken t e)

pub refused_of : (s : WorldState) (w : ℕ) (l m : Local) (r : StepRefused) → m ≡ l
    → ((t : Station) → station_of s w ≡ Some t → IsInputDue t (Input.Local m) r) → (t : Station)
    → station_of s w ≡ Some t → IsInputDue t (Input.Local l) r
refused_of s w l m r same due t e = subst (λ (n : Local). IsInputDue t (Input.Local n) r) same (due t e)

pub stopped_of : (s : WorldState) (w : ℕ) (l m : Local) (kept : Bool) (made : Option Entry) (stations : List Station)
    → m ≡ l
    → ((t : Station) → station_of s w ≡ Some t → HasStoppedAt s.stations w t (Input.Local m) kept made stations)
    → (t : Station) → station_of s w ≡ Some t → HasStoppedAt s.stations w t (Input.Local l) kept made stations
stopped_of s w l m kept made stations same stopped t e =
    subst (λ (n : Local). HasStoppedAt s.stations w t (Input.Local n) kept made stations) same (stopped t e)
