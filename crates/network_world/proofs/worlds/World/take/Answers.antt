use Rattle.std.proofs.Common.{◌∙◌, ◌<◌, ◌≤◌, List, subst, sym}
use Rattle.lemmas.proofs.Results.{on_err}
use Rattle.model.specs.Types.{Out, Take}
use Rattle.model.specs.Network.{node_count}
use Rattle.model.specs.World.{Origin}
use Rattle.network_world.specs.Stations.{WorldState}
use Rattle.network_world.specs.Journals.{CanNote, HasNoted, seen}
use Rattle.network_world.specs.Standing.{IsRefusalDue, Steps}
use Rattle.network_world.proofs.Taking.{noted_over, same_state, same_world, state, still_a_world, take_can_be_noted, take_limited}
use Rattle.network_world.proofs.Taking.{refused_of, take_refused, take_steps, taken_of}
use Rattle.network_world.proofs.Exits.{if_err}
use Rattle.network_world.proofs.worlds.World.take.Goals as goal

pub returns-in_err-check-clause-refused : goal.returns-in_err-check-clause-refused
returns-in_err-check-clause-refused c =
    if_err (λ r. IsRefusalDue c.args.self.now (Take c.args.w c.args.local.now) r) c.from_residual.result
    c.in_err-check.field-0.0 c.from_residual.ensures.1
    (let s : WorldState =
    record { net = c.self.inside.net; stations = c.self.inside.stations; journal = seen c.self.inside.journal } in
    subst (λ (v : WorldState). IsRefusalDue v (Take c.args.w c.args.local.now) c.in_err-check.field-0.0) c.self.view_is
    (take_limited s c.args.w c.args.local.now c.in_err-check.field-0.0 c.in_err-check.ensures.refused))

pub take_at-requires : goal.take_at-requires
take_at-requires c =
    subst (λ n. c.args.w < n) (sym c.self.invariant.stands.station_count)
    (subst (λ (v : WorldState). c.args.w < node_count v.net) (sym c.self.view_is) c.requires)

pub invariant_of-self : goal.invariant_of-self
invariant_of-self c =
    same_world c.self.inside.net c.self.inside.stations c.take_at.new.stations (seen c.self.inside.journal)
    (seen c.take_at.new.journal) c.in_err-step.ensures.err c.in_err-step.ensures.written c.self.invariant

pub returns-in_err-step-clause-refused : goal.returns-in_err-step-clause-refused
returns-in_err-step-clause-refused c =
    if_err (λ r. IsRefusalDue c.args.self.now (Take c.args.w c.args.local.now) r) c.from_residual-in_err-step.result
    c.in_err-step.field-0.0 c.from_residual-in_err-step.ensures.1
    (let s : WorldState =
    record { net = c.self.inside.net; stations = c.self.inside.stations; journal = seen c.self.inside.journal } in
    subst (λ (v : WorldState). IsRefusalDue v (Take c.args.w c.args.local.now) c.in_err-step.field-0.0) c.self.view_is
    (take_refused s c.args.w c.args.local.now c.in_err-step.field-0.0
    (subst (λ (v : WorldState). c.args.w < node_count v.net) (sym c.self.view_is) c.requires)
    c.self.invariant.stands.station_count c.in_ok-check.ensures.ok
    (refused_of s c.args.w c.args.local.now c.in_ok-copy.field-0 c.in_err-step.field-0.0 c.in_ok-copy.ensures
    c.in_err-step.ensures.refused)))

pub returns-in_err-step-clause-err : goal.returns-in_err-step-clause-err
returns-in_err-step-clause-err c =
    on_err c.from_residual-in_err-step.result
    (same_state c.self.inside.net c.self.inside.stations c.take_at.new.stations (seen c.self.inside.journal)
    (seen c.take_at.new.journal) c.in_err-step.ensures.err c.in_err-step.ensures.written
    ∙ c.self.view_is)

pub note_own-requires : goal.note_own-requires
note_own-requires c =
    let s : WorldState =
    record { net = c.self.inside.net; stations = c.self.inside.stations; journal = seen c.self.inside.journal } in
    subst (λ (outs : List Out). CanNote c.args.w outs c.in_ok-step.step.kept c.take_at.new.journal) (sym c.as_slice.ensures)
    (take_can_be_noted s c.args.w c.args.local.now c.in_ok-step.step c.take_at.new.stations c.take_at.new.journal
    c.counts_are_small.ensures.sent c.self.invariant
    (subst (λ (v : WorldState). node_count v.net ≤ 256) (sym c.self.view_is) c.stands.ensures.few)
    (subst (λ (v : WorldState). c.args.w < node_count v.net) (sym c.self.view_is) c.requires)
    c.in_ok-check.ensures.ok (taken_of s c.args.w c.args.local.now c.in_ok-copy.field-0 c.in_ok-step.step c.take_at.new.stations
    c.in_ok-copy.ensures c.in_ok-step.ensures.taken) c.in_ok-step.ensures.written c.in_ok-step.ensures.room)

pub invariant_of-self-2 : goal.invariant_of-self-2
invariant_of-self-2 c =
    let s : WorldState =
    record { net = c.self.inside.net; stations = c.self.inside.stations; journal = seen c.self.inside.journal } in
    still_a_world s (state c.self.inside.net c.take_at.new.stations (seen c.note_own.new.self))
    (Take c.args.w c.args.local.now) c.self.invariant
    (take_steps s c.args.w c.args.local.now c.in_ok-step.step c.take_at.new.stations (seen c.note_own.new.self)
    c.steps_keep_all.ensures (subst (λ (v : WorldState). c.args.w < node_count v.net) (sym c.self.view_is) c.requires)
    c.self.invariant.stands.station_count c.in_ok-check.ensures.ok (taken_of s c.args.w c.args.local.now c.in_ok-copy.field-0 c.in_ok-step.step c.take_at.new.stations
    c.in_ok-copy.ensures c.in_ok-step.ensures.taken)
    (noted_over Origin.Own c.args.w c.in_ok-step.step.outs c.in_ok-step.step.kept (seen c.self.inside.journal)
    (seen c.take_at.new.journal) (seen c.note_own.new.self) c.in_ok-step.ensures.written
    (subst (λ (outs : List Out). HasNoted Origin.Own c.args.w outs c.in_ok-step.step.kept (seen c.take_at.new.journal)
    (seen c.note_own.new.self)) c.as_slice.ensures c.note_own.ensures)))

pub returns-clause-taken : goal.returns-clause-taken
returns-clause-taken c =
    let s : WorldState =
    record { net = c.self.inside.net; stations = c.self.inside.stations; journal = seen c.self.inside.journal } in
    subst
    (λ (v : WorldState). Steps v (Take c.args.w c.args.local.now)
    (state c.self.inside.net c.take_at.new.stations (seen c.note_own.new.self))) c.self.view_is
    (take_steps s c.args.w c.args.local.now c.in_ok-step.step c.take_at.new.stations (seen c.note_own.new.self)
    c.steps_keep_all.ensures (subst (λ (v : WorldState). c.args.w < node_count v.net) (sym c.self.view_is) c.requires)
    c.self.invariant.stands.station_count c.in_ok-check.ensures.ok (taken_of s c.args.w c.args.local.now c.in_ok-copy.field-0 c.in_ok-step.step c.take_at.new.stations
    c.in_ok-copy.ensures c.in_ok-step.ensures.taken)
    (noted_over Origin.Own c.args.w c.in_ok-step.step.outs c.in_ok-step.step.kept (seen c.self.inside.journal)
    (seen c.take_at.new.journal) (seen c.note_own.new.self) c.in_ok-step.ensures.written
    (subst (λ (outs : List Out). HasNoted Origin.Own c.args.w outs c.in_ok-step.step.kept (seen c.take_at.new.journal)
    (seen c.note_own.new.self)) c.as_slice.ensures c.note_own.ensures)))
