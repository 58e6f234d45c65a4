use Rattle.std.proofs.Common.{◌∙◌, ◌<◌, [], subst, sym}
use Rattle.lemmas.proofs.Results.{on_err}
use Rattle.model.specs.Types.{CrashTake, Input}
use Rattle.model.specs.Network.{node_count}
use Rattle.model.specs.World.{Origin}
use Rattle.network_world.specs.Stations.{WorldState}
use Rattle.network_world.specs.Journals.{seen}
use Rattle.network_world.specs.Standing.{IsRefusalDue, Steps}
use Rattle.network_world.proofs.Taking.{noted_over, refused_of, same_state, same_world, state, still_a_world, stopped_of}
use Rattle.network_world.proofs.Stopping.{crash_take_limited, crash_take_refused, crash_take_steps, stop_at_can_be_noted}
use Rattle.network_world.proofs.Beginning.{stations_restore}
use Rattle.network_world.proofs.Exits.{if_err}
use Rattle.network_world.proofs.worlds.World.crash_take.Goals as goal

pub returns-in_err-check-clause-refused : goal.returns-in_err-check-clause-refused
returns-in_err-check-clause-refused c =
    if_err (λ r. IsRefusalDue c.args.self.now (CrashTake c.args.w c.args.local.now c.args.kept) r) c.from_residual.result
    c.in_err-check.field-0.0 c.from_residual.ensures.1
    (let s : WorldState =
    record { net = c.self.inside.net; stations = c.self.inside.stations; journal = seen c.self.inside.journal } in
    subst (λ (v : WorldState). IsRefusalDue v (CrashTake c.args.w c.args.local.now c.args.kept) c.in_err-check.field-0.0) c.self.view_is
    (crash_take_limited s c.args.w c.args.local.now c.args.kept c.in_err-check.field-0.0 c.in_err-check.ensures.refused))

pub stop_at-requires : goal.stop_at-requires
stop_at-requires c =
    let s : WorldState =
    record { net = c.self.inside.net; stations = c.self.inside.stations; journal = seen c.self.inside.journal } in
    record {
      inside =
          subst (λ n. c.args.w < n) (sym c.self.invariant.stands.station_count)
          (subst (λ (v : WorldState). c.args.w < node_count v.net) (sym c.self.view_is) c.requires);
      restorable = stations_restore s c.args.w c.self.invariant;
    }

pub invariant_of-self : goal.invariant_of-self
invariant_of-self c =
    same_world c.self.inside.net c.self.inside.stations c.stop_at.new.stations (seen c.self.inside.journal)
    (seen c.stop_at.new.journal) c.in_err-made.ensures.err c.in_err-made.ensures.written c.self.invariant

pub returns-in_err-made-clause-refused : goal.returns-in_err-made-clause-refused
returns-in_err-made-clause-refused c =
    if_err (λ r. IsRefusalDue c.args.self.now (CrashTake c.args.w c.args.local.now c.args.kept) r) c.from_residual-in_err-made.result
    c.in_err-made.field-0.0 c.from_residual-in_err-made.ensures.1
    (let s : WorldState =
    record { net = c.self.inside.net; stations = c.self.inside.stations; journal = seen c.self.inside.journal } in
    subst (λ (v : WorldState). IsRefusalDue v (CrashTake c.args.w c.args.local.now c.args.kept) c.in_err-made.field-0.0) c.self.view_is
    (crash_take_refused s c.args.w c.args.local.now c.args.kept c.in_err-made.field-0.0
    (subst (λ (v : WorldState). c.args.w < node_count v.net) (sym c.self.view_is) c.requires)
    c.self.invariant.stands.station_count c.in_ok-check.ensures.ok
    (refused_of s c.args.w c.args.local.now c.in_ok-copy.field-0 c.in_err-made.field-0.0 c.in_ok-copy.ensures
    c.in_err-made.ensures.refused)))

pub returns-in_err-made-clause-err : goal.returns-in_err-made-clause-err
returns-in_err-made-clause-err c =
    on_err c.from_residual-in_err-made.result
    (same_state c.self.inside.net c.self.inside.stations c.stop_at.new.stations (seen c.self.inside.journal)
    (seen c.stop_at.new.journal) c.in_err-made.ensures.err c.in_err-made.ensures.written
    ∙ c.self.view_is)

pub note_own-requires : goal.note_own-requires
note_own-requires c =
    let s : WorldState =
    record { net = c.self.inside.net; stations = c.self.inside.stations; journal = seen c.self.inside.journal } in
    stop_at_can_be_noted s c.args.w (Input.Local c.args.local.now) c.args.kept c.in_ok-made.made c.stop_at.new.stations
    c.stop_at.new.journal c.self.invariant
    (subst (λ (v : WorldState). c.args.w < node_count v.net) (sym c.self.view_is) c.requires)
    c.in_ok-check.ensures.ok (stopped_of s c.args.w c.args.local.now c.in_ok-copy.field-0 c.args.kept c.in_ok-made.made c.stop_at.new.stations
    c.in_ok-copy.ensures c.in_ok-made.ensures.stopped) c.in_ok-made.ensures.written c.in_ok-made.ensures.room

pub invariant_of-self-2 : goal.invariant_of-self-2
invariant_of-self-2 c =
    let s : WorldState =
    record { net = c.self.inside.net; stations = c.self.inside.stations; journal = seen c.self.inside.journal } in
    still_a_world s (state c.self.inside.net c.stop_at.new.stations (seen c.note_own.new.self))
    (CrashTake c.args.w c.args.local.now c.args.kept) c.self.invariant
    (crash_take_steps s c.args.w c.args.local.now c.args.kept c.in_ok-made.made c.stop_at.new.stations
    (seen c.note_own.new.self) c.steps_keep_all.ensures
    (subst (λ (v : WorldState). c.args.w < node_count v.net) (sym c.self.view_is) c.requires)
    c.self.invariant.stands.station_count c.in_ok-check.ensures.ok (stopped_of s c.args.w c.args.local.now c.in_ok-copy.field-0 c.args.kept c.in_ok-made.made c.stop_at.new.stations
    c.in_ok-copy.ensures c.in_ok-made.ensures.stopped)
    (noted_over Origin.Own c.args.w [] c.in_ok-made.made (seen c.self.inside.journal) (seen c.stop_at.new.journal)
    (seen c.note_own.new.self) c.in_ok-made.ensures.written c.note_own.ensures))

pub returns-clause-taken : goal.returns-clause-taken
returns-clause-taken c =
    let s : WorldState =
    record { net = c.self.inside.net; stations = c.self.inside.stations; journal = seen c.self.inside.journal } in
    subst
    (λ (v : WorldState). Steps v (CrashTake c.args.w c.args.local.now c.args.kept)
    (state c.self.inside.net c.stop_at.new.stations (seen c.note_own.new.self))) c.self.view_is
    (crash_take_steps s c.args.w c.args.local.now c.args.kept c.in_ok-made.made c.stop_at.new.stations
    (seen c.note_own.new.self) c.steps_keep_all.ensures
    (subst (λ (v : WorldState). c.args.w < node_count v.net) (sym c.self.view_is) c.requires)
    c.self.invariant.stands.station_count c.in_ok-check.ensures.ok (stopped_of s c.args.w c.args.local.now c.in_ok-copy.field-0 c.args.kept c.in_ok-made.made c.stop_at.new.stations
    c.in_ok-copy.ensures c.in_ok-made.ensures.stopped)
    (noted_over Origin.Own c.args.w [] c.in_ok-made.made (seen c.self.inside.journal) (seen c.stop_at.new.journal)
    (seen c.note_own.new.self) c.in_ok-made.ensures.written c.note_own.ensures))
