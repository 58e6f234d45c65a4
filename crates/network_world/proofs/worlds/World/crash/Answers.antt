use Rattle.std.proofs.Common.{◌∙◌, ◌<◌, [], None, subst, sym}
use Rattle.lemmas.proofs.Results.{on_err}
use Rattle.model.specs.Types.{Crash}
use Rattle.model.specs.Network.{node_count}
use Rattle.model.specs.World.{Origin}
use Rattle.network_world.specs.Stations.{WorldState}
use Rattle.network_world.specs.Journals.{seen}
use Rattle.network_world.specs.Standing.{IsRefusalDue, Steps}
use Rattle.network_world.proofs.Taking.{noted_over, same_state, same_world, state, still_a_world}
use Rattle.network_world.proofs.Stopping.{crash_can_be_noted, crash_limited, crash_steps}
use Rattle.network_world.proofs.Exits.{if_err}
use Rattle.network_world.proofs.worlds.World.crash.Goals as goal

pub returns-in_err-check-clause-refused : goal.returns-in_err-check-clause-refused
returns-in_err-check-clause-refused c =
    if_err (λ r. IsRefusalDue c.args.self.now (Crash c.args.w) r) c.from_residual.result
    c.in_err-check.field-0.0 c.from_residual.ensures.1
    (let s : WorldState =
    record { net = c.self.inside.net; stations = c.self.inside.stations; journal = seen c.self.inside.journal } in
    subst (λ (v : WorldState). IsRefusalDue v (Crash c.args.w) c.in_err-check.field-0.0) c.self.view_is
    (crash_limited s c.args.w c.in_err-check.field-0.0 c.in_err-check.ensures.refused))

pub crash_at-requires : goal.crash_at-requires
crash_at-requires c =
    subst (λ n. c.args.w < n) (sym c.self.invariant.stands.station_count)
    (subst (λ (v : WorldState). c.args.w < node_count v.net) (sym c.self.view_is) c.requires)

pub invariant_of-self : goal.invariant_of-self
invariant_of-self c =
    same_world c.self.inside.net c.self.inside.stations c.crash_at.new.stations (seen c.self.inside.journal)
    (seen c.crash_at.new.journal) c.in_err-crash_at.ensures.err c.in_err-crash_at.ensures.written c.self.invariant

pub returns-in_err-crash_at-clause-err : goal.returns-in_err-crash_at-clause-err
returns-in_err-crash_at-clause-err c =
    on_err c.from_residual-in_err-crash_at.result
    (same_state c.self.inside.net c.self.inside.stations c.crash_at.new.stations (seen c.self.inside.journal)
    (seen c.crash_at.new.journal) c.in_err-crash_at.ensures.err c.in_err-crash_at.ensures.written
    ∙ c.self.view_is)

pub note_own-requires : goal.note_own-requires
note_own-requires c =
    let s : WorldState =
    record { net = c.self.inside.net; stations = c.self.inside.stations; journal = seen c.self.inside.journal } in
    crash_can_be_noted s c.args.w c.crash_at.new.journal c.in_ok-check.ensures.ok c.in_ok-crash_at.ensures.written
    c.in_ok-crash_at.ensures.room

pub invariant_of-self-2 : goal.invariant_of-self-2
invariant_of-self-2 c =
    let s : WorldState =
    record { net = c.self.inside.net; stations = c.self.inside.stations; journal = seen c.self.inside.journal } in
    still_a_world s (state c.self.inside.net c.crash_at.new.stations (seen c.note_own.new.self))
    (Crash c.args.w) c.self.invariant
    (crash_steps s c.args.w c.crash_at.new.stations (seen c.note_own.new.self) c.steps_keep_all.ensures
    (subst (λ (v : WorldState). c.args.w < node_count v.net) (sym c.self.view_is) c.requires)
    c.self.invariant.stands.station_count c.in_ok-check.ensures.ok c.in_ok-crash_at.ensures.restarted
    (noted_over Origin.Own c.args.w [] None (seen c.self.inside.journal) (seen c.crash_at.new.journal)
    (seen c.note_own.new.self) c.in_ok-crash_at.ensures.written c.note_own.ensures))

pub returns-clause-taken : goal.returns-clause-taken
returns-clause-taken c =
    let s : WorldState =
    record { net = c.self.inside.net; stations = c.self.inside.stations; journal = seen c.self.inside.journal } in
    subst
    (λ (v : WorldState). Steps v (Crash c.args.w)
    (state c.self.inside.net c.crash_at.new.stations (seen c.note_own.new.self))) c.self.view_is
    (crash_steps s c.args.w c.crash_at.new.stations (seen c.note_own.new.self) c.steps_keep_all.ensures
    (subst (λ (v : WorldState). c.args.w < node_count v.net) (sym c.self.view_is) c.requires)
    c.self.invariant.stands.station_count c.in_ok-check.ensures.ok c.in_ok-crash_at.ensures.restarted
    (noted_over Origin.Own c.args.w [] None (seen c.self.inside.journal) (seen c.crash_at.new.journal)
    (seen c.note_own.new.self) c.in_ok-crash_at.ensures.written c.note_own.ensures))
