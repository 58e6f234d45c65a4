-- Nodes that stop and begin again.
use Rattle.std.proofs.Common.{◌≡◌, ◌<◌, ◌≤◌, ◌∙◌, [], ℕ, Bool, List, None, Ok, Option, Some, ap, arith, false, length, refl}
use Rattle.std.proofs.Common.{subst, sym, true}
use Rattle.std.specs.Prelude.{◌==◌, slice_get}
use Rattle.lemmas.proofs.Lists.{got_below}
use Rattle.model.specs.Types.{Crash, CrashDeliver, CrashTake, Entry, Input, Local, Net, Out}
use Rattle.model.specs.Network.{node_count}
use Rattle.model.specs.Step.{Effect}
use Rattle.model.specs.World as model
use Rattle.model.specs.World.{Origin, apply_effect, cut_short, delivery, mark_delivered, node_effect, reached_limit, view_at}
use Rattle.model.specs.Kept.{kept_in, made_by, only_if}
use Rattle.agent_core.specs.Steps.{step_at}
use Rattle.network_world.specs.Stations.{Journal, Station, WorldState, station_of}
use Rattle.network_world.specs.Refusals.{limit_at}
use Rattle.network_world.specs.Standing.{IsRefusalDue, IsWorld, StandsFor, Steps}
use Rattle.network_world.specs.Journals.{CanNote, HasNoted, HasRoom, IsLimitDue, seen}
use Rattle.network_world.specs.Moves.{HasRestartedAt, HasStoppedAt, IsInputDue, IsMarkedAt, stop}
use Rattle.network_world.specs.Deliveries.{IsBrought, IsNotBrought}
use Rattle.network_world.specs.declared.journals.Journal as raw
use Rattle.network_world.specs.declared.refusals.StepRefused.{StepRefused}
use Rattle.network_world.specs.declared.refusals.StepRefused.TheVariants as refused
use Rattle.network_world.proofs.After.{EachGoesOn, count_stays, each_goes_on, each_marked, journal_after, journal_marked}
use Rattle.network_world.proofs.After.{only_none, stands_after}
use Rattle.network_world.proofs.Delivering.{lane_after}
use Rattle.network_world.proofs.Effects.{crash_deliver_err, crash_deliver_ok, crash_err, crash_ok, crash_take_err}
use Rattle.network_world.proofs.Effects.{crash_take_ok, effect_limit, effect_none, effect_ok, limit_refuses, node_refuses}
use Rattle.network_world.proofs.Effects.{same_limit}
use Rattle.network_world.proofs.Noting.{stop_can_be_noted}
use Rattle.network_world.proofs.Starting.{step_weighs, weight}
use Rattle.network_world.proofs.Taking.{KeepsLaw, taken_effect}

cut_outs : (kept : Bool) (d : Effect) → (cut_short kept d).outs ≡ []
unfolding cut_short
cut_outs kept d = refl

cut_weighs : (kept : Bool) (d : Effect) → weight d.made ≤ 4194304 → weight (cut_short kept d).made ≤ 4194304
unfolding cut_short
cut_weighs true d h = h
cut_weighs false d h = omega arith

-- what is written of a step that is cut short
cut_noted : (o : Origin) (w : ℕ) (kept : Bool) (d : Effect) (made : Option Entry) (old new : Journal)
    → made ≡ (cut_short kept d).made → HasNoted o w [] made old new
    → HasNoted o w (cut_short kept d).outs (cut_short kept d).made old new
cut_noted o w kept d made old new is h =
    subst (λ (outs : List Out). HasNoted o w outs (cut_short kept d).made old new) (sym (cut_outs kept d))
    (subst (λ (m : Option Entry). HasNoted o w [] m old new) is h)

-- what a node keeps of it
kept_of_crash : (net : Net) (x : model.World) (w v : ℕ) → kept_in net x v (Crash w) ≡ only_if (v == w) None
unfolding kept_in
kept_of_crash net x w v = sym (only_none (v == w))

kept_of_crash_take : (net : Net) (x : model.World) (w : ℕ) (l : Local) (kept : Bool) (d : Effect)
    → node_effect net x w (Some (Input.Local l)) ≡ Ok d → (v : ℕ)
    → kept_in net x v (CrashTake w l kept) ≡ only_if (v == w) (cut_short kept d).made
unfolding kept_in cut_short
kept_of_crash_take net x w l kept d e v = ap (λ r. only_if (v == w) (only_if kept (made_by r))) e

kept_of_crash_deliver : (net : Net) (x : model.World) (a b k : ℕ) (kept : Bool) (d : Effect)
    → node_effect net x b (delivery x a b k) ≡ Ok d → (v : ℕ)
    → kept_in net x v (CrashDeliver a b k kept) ≡ only_if (v == b) (cut_short kept d).made
unfolding kept_in cut_short
kept_of_crash_deliver net x a b k kept d e v = ap (λ r. only_if (v == b) (only_if kept (made_by r))) e

-- a crash
pub crash_steps : (s : WorldState) (w : ℕ) (stations : List Station) (j : Journal) → KeepsLaw → w < node_count s.net
    → length s.stations ≡ node_count s.net → limit_at s.journal.taken s.journal.sent s.journal.kept ≡ None
    → ((t : Station) → station_of s w ≡ Some t → HasRestartedAt s.stations w t stations)
    → HasNoted Origin.Own w [] None s.journal j
    → Steps s (Crash w) (record { net = s.net; stations = stations; journal = j })
crash_steps s w stations j law inside count free restarted wrote = record {
  net_ = refl;
  leads = λ x old.
      let at_w = got_below s.stations w (omega (arith, inside, count)) in
      let got = restarted at_w.0 at_w.1 in
      let stepped = crash_ok s.net x w (same_limit s x old ∙ free) in (
        apply_effect x w Origin.Own stop,
        stepped,
        stands_after s x (apply_effect x w Origin.Own stop) (Crash w) stations j old stepped
            (law s.net x (apply_effect x w Origin.Own stop) (Crash w) old.reached stepped)
            (count_stays s.stations stations w got.0 got.1)
            (each_goes_on s.net x (Crash w) w Origin.Own stop s.stations stations at_w.0 got.0
            (kept_of_crash s.net x w) at_w.1 got.1 got.2)
            (journal_after x w Origin.Own stop s.journal j old.journal_ wrote),
      );
}

pub crash_limited : (s : WorldState) (w : ℕ) (r : StepRefused)
    → IsLimitDue s.journal.taken s.journal.sent s.journal.kept r → IsRefusalDue s (Crash w) r
crash_limited s w r due = limit_refuses s (Crash w) r (λ x name old e. crash_err s.net x w name e) due

pub crash_can_be_noted : (s : WorldState) (w : ℕ) (j : raw.Journal)
    → limit_at s.journal.taken s.journal.sent s.journal.kept ≡ None → seen j ≡ s.journal → HasRoom j
    → CanNote w [] None j
crash_can_be_noted s w j free same room = stop_can_be_noted s w None j free (omega arith) same room

-- a node that stops in a step of what happens there
pub crash_take_steps : (s : WorldState) (w : ℕ) (l : Local) (kept : Bool) (made : Option Entry) (stations : List Station)
    (j : Journal) → KeepsLaw → w < node_count s.net → length s.stations ≡ node_count s.net
    → limit_at s.journal.taken s.journal.sent s.journal.kept ≡ None
    → ((t : Station) → station_of s w ≡ Some t → HasStoppedAt s.stations w t (Input.Local l) kept made stations)
    → HasNoted Origin.Own w [] made s.journal j
    → Steps s (CrashTake w l kept) (record { net = s.net; stations = stations; journal = j })
crash_take_steps s w l kept made stations j law inside count free stopped wrote = record {
  net_ = refl;
  leads = λ x old.
      let at_w = got_below s.stations w (omega (arith, inside, count)) in
      let got = stopped at_w.0 at_w.1 in
      let d : Effect = got.2.whole in
      let done = effect_ok s.net x w (Input.Local l) d (same_limit s x old ∙ free)
      (taken_effect s x w at_w.0 (Input.Local l) d old at_w.1 got.2.due) in
      let stepped = crash_take_ok s.net x w l kept d done in
      let y : model.World = apply_effect x w Origin.Own (cut_short kept d) in (
        y,
        stepped,
        stands_after s x y (CrashTake w l kept) stations j old stepped
            (law s.net x y (CrashTake w l kept) old.reached stepped)
            (count_stays s.stations stations w got.0 got.1)
            (each_goes_on s.net x (CrashTake w l kept) w Origin.Own (cut_short kept d) s.stations stations at_w.0 got.0
            (kept_of_crash_take s.net x w l kept d done) at_w.1 got.1 got.2.goes)
            (journal_after x w Origin.Own (cut_short kept d) s.journal j old.journal_
            (cut_noted Origin.Own w kept d made s.journal j got.2.made_ wrote)),
      );
}

stopped_weighs : (s : WorldState) (x : model.World) (w : ℕ) (t u : Station) (input : Input) (kept : Bool) (d : Effect)
    (made : Option Entry) → StandsFor s x → station_of s w ≡ Some t → step_at t.node input ≡ Ok d
    → made ≡ (cut_short kept d).made → weight made ≤ 4194304
stopped_weighs s x w t u input kept d made old at_w due is =
    subst (λ (m : Option Entry). weight m ≤ 4194304) (sym is)
    (cut_weighs kept d
    (step_weighs s.net w (view_at x w) (x.sessions w) input d (taken_effect s x w t input d old at_w due)))

pub stop_at_can_be_noted : (s : WorldState) (w : ℕ) (input : Input) (kept : Bool) (made : Option Entry)
    (stations : List Station) (j : raw.Journal) → IsWorld s → w < node_count s.net
    → limit_at s.journal.taken s.journal.sent s.journal.kept ≡ None
    → ((t : Station) → station_of s w ≡ Some t → HasStoppedAt s.stations w t input kept made stations)
    → seen j ≡ s.journal → HasRoom j → CanNote w [] made j
stop_at_can_be_noted s w input kept made stations j is inside free stopped same room =
    let x = is.world in
    let old = is.stands in
    let at_w = got_below s.stations w (omega (arith, inside, old.station_count)) in
    let got = stopped at_w.0 at_w.1 in
    stop_can_be_noted s w made j free
    (stopped_weighs s x w at_w.0 got.0 input kept got.2.whole made old at_w.1 got.2.due got.2.made_) same room

pub crash_take_limited : (s : WorldState) (w : ℕ) (l : Local) (kept : Bool) (r : StepRefused)
    → IsLimitDue s.journal.taken s.journal.sent s.journal.kept r → IsRefusalDue s (CrashTake w l kept) r
crash_take_limited s w l kept r due =
    limit_refuses s (CrashTake w l kept) r
    (λ x name old e. crash_take_err s.net x w l kept (model.StepRefused.Limit name)
    (effect_limit s.net x w (Input.Local l) name e)) due

pub crash_take_refused : (s : WorldState) (w : ℕ) (l : Local) (kept : Bool) (r : StepRefused) → w < node_count s.net
    → length s.stations ≡ node_count s.net → limit_at s.journal.taken s.journal.sent s.journal.kept ≡ None
    → ((t : Station) → station_of s w ≡ Some t → IsInputDue t (Input.Local l) r)
    → IsRefusalDue s (CrashTake w l kept) r
crash_take_refused s w l kept r inside count free due =
    let at_w = got_below s.stations w (omega (arith, inside, count)) in
    node_refuses s (CrashTake w l kept) w at_w.0 (Input.Local l) (λ x. Some (Input.Local l)) r
    (λ x g old e. crash_take_err s.net x w l kept g e) (λ x old. (refl, same_limit s x old ∙ free)) at_w.1
    (due at_w.0 at_w.1)

-- a node that stops in a delivery
pub crash_deliver_steps : (s : WorldState) (a b k : ℕ) (input : Input) (kept : Bool) (made : Option Entry)
    (mid stations : List Station) (j : Journal) → KeepsLaw → a < node_count s.net → b < node_count s.net
    → length s.stations ≡ node_count s.net → IsBrought s a b k input
    → ((t : Station) → station_of s b ≡ Some t → HasStoppedAt s.stations b t input kept made mid)
    → ((t : Station) → slice_get mid a ≡ Some t → IsMarkedAt mid a b k t stations)
    → HasNoted Origin.Mailed b [] made s.journal j
    → Steps s (CrashDeliver a b k kept) (record { net = s.net; stations = stations; journal = j })
crash_deliver_steps s a b k input kept made mid stations j law in_a in_b count came stopped marked wrote = record {
  net_ = refl;
  leads = λ x old.
      let at_b = got_below s.stations b (omega (arith, in_b, count)) in
      let got = stopped at_b.0 at_b.1 in
      let d : Effect = got.2.whole in
      let brought = came x old in
      let done = ap (node_effect s.net x b) brought.0
      ∙ effect_ok s.net x b input d brought.1 (taken_effect s x b at_b.0 input d old at_b.1 got.2.due) in
      let y : model.World = apply_effect x b Origin.Mailed (cut_short kept d) in
      let stepped = crash_deliver_ok s.net x a b k kept d done in
      let on : EachGoesOn s.net x y (CrashDeliver a b k kept) s.stations mid =
      each_goes_on s.net x (CrashDeliver a b k kept) b Origin.Mailed (cut_short kept d) s.stations mid at_b.0 got.0
      (kept_of_crash_deliver s.net x a b k kept d done) at_b.1 got.1 got.2.goes in
      let kept_count = count_stays s.stations mid b got.0 got.1 in
      let q = got_below mid a (omega (arith, in_a, count, kept_count)) in
      let mark = marked q.0 q.1 in
      let l = got_below q.0.lanes b
      (lane_after s x a b (cut_short kept d) at_b.0 got.0 q.0 mid old in_b at_b.1 got.1 got.2.goes q.1) in (
        mark_delivered y a b k,
        stepped,
        stands_after s x (mark_delivered y a b k) (CrashDeliver a b k kept) stations j old stepped
            (law s.net x (mark_delivered y a b k) (CrashDeliver a b k kept) old.reached stepped)
            (count_stays mid stations a mark.0 mark.1 ∙ kept_count)
            (each_marked s.net x y (CrashDeliver a b k kept) a b k s.stations mid stations q.0 mark.0 l.0 q.1 l.1 mark.1
            mark.2 on)
            (journal_marked y a b k j
            (journal_after x b Origin.Mailed (cut_short kept d) s.journal j old.journal_
            (cut_noted Origin.Mailed b kept d made s.journal j got.2.made_ wrote))),
      );
}

pub crash_deliver_not : (s : WorldState) (a b k : ℕ) (kept : Bool) (r : StepRefused) → IsNotBrought s a b k r
    → IsRefusalDue s (CrashDeliver a b k kept) r
crash_deliver_not s a b k kept refused.NoPacket due = λ x old.
    crash_deliver_err s.net x a b k kept model.StepRefused.NoPacket
    (ap (node_effect s.net x b) (due x old) ∙ effect_none s.net x b)
crash_deliver_not s a b k kept (refused.Limit l) due = λ x old.
    let d = due x old in
    crash_deliver_err s.net x a b k kept (model.StepRefused.Limit l)
    (ap (node_effect s.net x b) d.1 ∙ effect_limit s.net x b d.0 l d.2)
crash_deliver_not s a b k kept refused.NoMemory due = tt
crash_deliver_not s a b k kept (refused.Step f) due = absurd due

pub crash_deliver_refused : (s : WorldState) (a b k : ℕ) (input : Input) (kept : Bool) (r : StepRefused)
    → b < node_count s.net → length s.stations ≡ node_count s.net → IsBrought s a b k input
    → ((t : Station) → station_of s b ≡ Some t → IsInputDue t input r) → IsRefusalDue s (CrashDeliver a b k kept) r
crash_deliver_refused s a b k input kept r inside count came due =
    let at_b = got_below s.stations b (omega (arith, inside, count)) in
    node_refuses s (CrashDeliver a b k kept) b at_b.0 input (λ x. delivery x a b k) r
    (λ x g old e. crash_deliver_err s.net x a b k kept g e) came at_b.1 (due at_b.0 at_b.1)

-- where no limit was reached in a world for which it stands, none is told
pub brought_free : (s : WorldState) (a b k : ℕ) (input : Input) → IsWorld s → IsBrought s a b k input
    → limit_at s.journal.taken s.journal.sent s.journal.kept ≡ None
brought_free s a b k input is came = sym (same_limit s is.world is.stands) ∙ (came is.world is.stands).1

-- the sender's lane is there to be marked
pub stop_mark_inside : (s : WorldState) (a b : ℕ) (input : Input) (kept : Bool) (made : Option Entry)
    (mid : List Station) → IsWorld s → a < node_count s.net → b < node_count s.net
    → ((t : Station) → station_of s b ≡ Some t → HasStoppedAt s.stations b t input kept made mid)
    → (a < length mid) × ((t : Station) → slice_get mid a ≡ Some t → b < length t.lanes)
stop_mark_inside s a b input kept made mid is in_a in_b stopped =
    let old = is.stands in
    let at_b = got_below s.stations b (omega (arith, in_b, old.station_count)) in
    let got = stopped at_b.0 at_b.1 in (
      omega (arith, in_a, old.station_count, count_stays s.stations mid b got.0 got.1),
      λ t e. lane_after s is.world a b (cut_short kept got.2.whole) at_b.0 got.0 t mid old in_b at_b.1 got.1
          got.2.goes e,
    )
