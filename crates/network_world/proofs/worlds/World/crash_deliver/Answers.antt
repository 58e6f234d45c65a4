use Rattle.std.proofs.Common.{◌≡◌, ◌∙◌, ◌<◌, [], subst, sym}
use Rattle.model.specs.Types.{CrashDeliver}
use Rattle.model.specs.Network.{node_count}
use Rattle.model.specs.World.{Origin}
use Rattle.network_world.specs.Stations.{WorldState}
use Rattle.network_world.specs.Journals.{seen}
use Rattle.network_world.specs.Standing.{IsRefusalDue, Steps}
use Rattle.std.proofs.Common.{ℕ}
use Rattle.lemmas.proofs.Results.{on_err}
use Rattle.model.specs.Types.{Input}
use Rattle.network_world.specs.Deliveries.{IsBrought, IsNotBrought}
use Rattle.network_world.specs.declared.refusals.StepRefused.{StepRefused}
use Rattle.network_world.proofs.Taking.{noted_over, same_state, same_world, state, still_a_world}
use Rattle.network_world.proofs.Stopping.{brought_free, crash_deliver_not, crash_deliver_refused, crash_deliver_steps, stop_at_can_be_noted}
use Rattle.network_world.proofs.Stopping.{stop_mark_inside}
use Rattle.network_world.proofs.Beginning.{stations_restore}
use Rattle.network_world.proofs.Exits.{if_err}
use Rattle.network_world.proofs.worlds.World.crash_deliver.Goals as goal

brought_here : (s v : WorldState) (a b k : ℕ) (input : Input) → s ≡ v → IsBrought v a b k input → IsBrought s a b k input
brought_here s v a b k input same came = subst (λ (u : WorldState). IsBrought u a b k input) (sym same) came

not_brought_here : (s v : WorldState) (a b k : ℕ) (r : StepRefused) → s ≡ v → IsNotBrought v a b k r
    → IsNotBrought s a b k r
not_brought_here s v a b k r same h = subst (λ (u : WorldState). IsNotBrought u a b k r) (sym same) h

pub returns-in_err-input-clause-refused : goal.returns-in_err-input-clause-refused
returns-in_err-input-clause-refused c =
    if_err (λ r. IsRefusalDue c.args.self.now (CrashDeliver c.args.a c.args.b c.args.k c.args.kept) r) c.from_residual.result
    c.in_err-input.field-0.0 c.from_residual.ensures.1
    (crash_deliver_not c.args.self.now c.args.a c.args.b c.args.k c.args.kept c.in_err-input.field-0.0
    c.in_err-input.ensures.refused)

pub stop_at-requires : goal.stop_at-requires
stop_at-requires c =
    let s : WorldState =
    record { net = c.self.inside.net; stations = c.self.inside.stations; journal = seen c.self.inside.journal } in
    record {
      inside =
          subst (λ n. c.args.b < n) (sym c.self.invariant.stands.station_count)
          (subst (λ (v : WorldState). c.args.b < node_count v.net) (sym c.self.view_is) c.requires.to);
      restorable = stations_restore s c.args.b c.self.invariant;
    }

pub invariant_of-self : goal.invariant_of-self
invariant_of-self c =
    same_world c.self.inside.net c.self.inside.stations c.stop_at.new.stations (seen c.self.inside.journal)
    (seen c.stop_at.new.journal) c.in_err-made.ensures.err c.in_err-made.ensures.written c.self.invariant

pub returns-in_err-made-clause-refused : goal.returns-in_err-made-clause-refused
returns-in_err-made-clause-refused c =
    if_err (λ r. IsRefusalDue c.args.self.now (CrashDeliver c.args.a c.args.b c.args.k c.args.kept) r) c.from_residual-in_err-made.result
    c.in_err-made.field-0.0 c.from_residual-in_err-made.ensures.1
    (let s : WorldState =
    record { net = c.self.inside.net; stations = c.self.inside.stations; journal = seen c.self.inside.journal } in
    subst (λ (v : WorldState). IsRefusalDue v (CrashDeliver c.args.a c.args.b c.args.k c.args.kept) c.in_err-made.field-0.0) c.self.view_is
    (crash_deliver_refused s c.args.a c.args.b c.args.k c.in_ok-input.input c.args.kept c.in_err-made.field-0.0
    (subst (λ (v : WorldState). c.args.b < node_count v.net) (sym c.self.view_is) c.requires.to)
    c.self.invariant.stands.station_count (brought_here _ _ c.args.a c.args.b c.args.k c.in_ok-input.input c.self.view_is c.in_ok-input.ensures.ok)
    c.in_err-made.ensures.refused))

pub returns-in_err-made-clause-err : goal.returns-in_err-made-clause-err
returns-in_err-made-clause-err c =
    on_err c.from_residual-in_err-made.result
    (same_state c.self.inside.net c.self.inside.stations c.stop_at.new.stations (seen c.self.inside.journal)
    (seen c.stop_at.new.journal) c.in_err-made.ensures.err c.in_err-made.ensures.written
    ∙ c.self.view_is)

pub mark_at-requires : goal.mark_at-requires
mark_at-requires c =
    let s : WorldState =
    record { net = c.self.inside.net; stations = c.self.inside.stations; journal = seen c.self.inside.journal } in
    let both = stop_mark_inside s c.args.a c.args.b c.in_ok-input.input c.args.kept c.in_ok-made.made c.stop_at.new.stations
    c.self.invariant
    (subst (λ (v : WorldState). c.args.a < node_count v.net) (sym c.self.view_is) c.requires.from)
    (subst (λ (v : WorldState). c.args.b < node_count v.net) (sym c.self.view_is) c.requires.to)
    c.in_ok-made.ensures.stopped in
    record { from = both.0; to = both.1 }

pub note_mailed-requires : goal.note_mailed-requires
note_mailed-requires c =
    let s : WorldState =
    record { net = c.self.inside.net; stations = c.self.inside.stations; journal = seen c.self.inside.journal } in
    stop_at_can_be_noted s c.args.b c.in_ok-input.input c.args.kept c.in_ok-made.made c.stop_at.new.stations
    c.stop_at.new.journal c.self.invariant
    (subst (λ (v : WorldState). c.args.b < node_count v.net) (sym c.self.view_is) c.requires.to)
    (brought_free s c.args.a c.args.b c.args.k c.in_ok-input.input c.self.invariant
    (brought_here _ _ c.args.a c.args.b c.args.k c.in_ok-input.input c.self.view_is c.in_ok-input.ensures.ok)) c.in_ok-made.ensures.stopped c.in_ok-made.ensures.written
    c.in_ok-made.ensures.room

pub invariant_of-self-2 : goal.invariant_of-self-2
invariant_of-self-2 c =
    let s : WorldState =
    record { net = c.self.inside.net; stations = c.self.inside.stations; journal = seen c.self.inside.journal } in
    still_a_world s (state c.self.inside.net c.mark_at.new.stations (seen c.note_mailed.new.self))
    (CrashDeliver c.args.a c.args.b c.args.k c.args.kept) c.self.invariant
    (crash_deliver_steps s c.args.a c.args.b c.args.k c.in_ok-input.input c.args.kept c.in_ok-made.made
    c.stop_at.new.stations c.mark_at.new.stations (seen c.note_mailed.new.self) c.steps_keep_all.ensures
    (subst (λ (v : WorldState). c.args.a < node_count v.net) (sym c.self.view_is) c.requires.from)
    (subst (λ (v : WorldState). c.args.b < node_count v.net) (sym c.self.view_is) c.requires.to)
    c.self.invariant.stands.station_count
    (brought_here _ _ c.args.a c.args.b c.args.k c.in_ok-input.input c.self.view_is c.in_ok-input.ensures.ok) c.in_ok-made.ensures.stopped c.mark_at.ensures
    (noted_over Origin.Mailed c.args.b [] c.in_ok-made.made (seen c.self.inside.journal) (seen c.stop_at.new.journal)
    (seen c.note_mailed.new.self) c.in_ok-made.ensures.written c.note_mailed.ensures))

pub returns-clause-taken : goal.returns-clause-taken
returns-clause-taken c =
    let s : WorldState =
    record { net = c.self.inside.net; stations = c.self.inside.stations; journal = seen c.self.inside.journal } in
    subst
    (λ (v : WorldState). Steps v (CrashDeliver c.args.a c.args.b c.args.k c.args.kept)
    (state c.self.inside.net c.mark_at.new.stations (seen c.note_mailed.new.self))) c.self.view_is
    (crash_deliver_steps s c.args.a c.args.b c.args.k c.in_ok-input.input c.args.kept c.in_ok-made.made
    c.stop_at.new.stations c.mark_at.new.stations (seen c.note_mailed.new.self) c.steps_keep_all.ensures
    (subst (λ (v : WorldState). c.args.a < node_count v.net) (sym c.self.view_is) c.requires.from)
    (subst (λ (v : WorldState). c.args.b < node_count v.net) (sym c.self.view_is) c.requires.to)
    c.self.invariant.stands.station_count
    (brought_here _ _ c.args.a c.args.b c.args.k c.in_ok-input.input c.self.view_is c.in_ok-input.ensures.ok) c.in_ok-made.ensures.stopped c.mark_at.ensures
    (noted_over Origin.Mailed c.args.b [] c.in_ok-made.made (seen c.self.inside.journal) (seen c.stop_at.new.journal)
    (seen c.note_mailed.new.self) c.in_ok-made.ensures.written c.note_mailed.ensures))
