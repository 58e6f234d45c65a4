use Rattle.std.proofs.Common.{◌≡◌, Err, Some, ap, rules}
use Rattle.lemmas.proofs.Results.{on_ok}
use Rattle.model.specs.Types.{Input, Turn}
use Rattle.node_inputs.specs.Doings.{end_of}
use Rattle.node_inputs.specs.Inputs.{Take}
use Rattle.node_inputs.proofs.Doing.{did_end, did_then}
use Rattle.node_inputs.proofs.Taking.{did_answer}
use Rattle.node_loop.specs.Runs.{On}
use Rattle.node_loop.proofs.Parts.{AfterCome, AfterProbe, AfterReport, did_turn, not_ok}
use Rattle.node_loop.proofs.Turning.{did_on}
use Rattle.node_loop.proofs.turns.turn.Goals as goal

pub returns-in_err-arrive-clause-does : goal.returns-in_err-arrive-clause-does
returns-in_err-arrive-clause-does g c = λ heard h.
    let clock = g.C.Clock.readings c.now-reading.new.self in
    let files = g.F.Prober.asked c.args.files.now in
    let reading = c.now-reading.result in
    let a = c.in_err-arrive.ensures.does heard c.args.asked.now clock files h in
    let is : c.from_residual.result ≡ Err c.in_err-arrive.field-0.0 = search rules in (
      a.0,
      not_ok _ c.from_residual.result c.in_err-arrive.field-0.0 is,
      did_answer c.from_residual.result (Some c.in_err-arrive.field-0.0) (ap end_of is)
          (did_turn reading c.args.workload.now (g.L.Link.calls c.args.link.now) (g.J.Spawner.calls c.args.jobs.now) files
          (g.C.Clock.readings c.args.clock.now) clock c.now-reading.ensures g.K.Keeper.spent c.requires.ready
          (did_end (AfterCome reading) a.2)),
    )

pub returns-in_err-report-clause-does : goal.returns-in_err-report-clause-does
returns-in_err-report-clause-does g c = λ heard h.
    let clock = g.C.Clock.readings c.now-reading.new.self in
    let files = g.F.Prober.asked c.args.files.now in
    let reading = c.now-reading.result in
    let a = c.in_ok-arrive.ensures.does heard c.args.asked.now clock files h in
    let is : c.from_residual-in_err-report.result ≡ Err c.in_err-report.field-0.0 = search rules in (
      a.0,
      not_ok _ c.from_residual-in_err-report.result c.in_err-report.field-0.0 is,
      did_answer c.from_residual-in_err-report.result (Some c.in_err-report.field-0.0) (ap end_of is)
          (did_turn reading c.args.workload.now (g.L.Link.calls c.args.link.now) (g.J.Spawner.calls c.args.jobs.now) files
          (g.C.Clock.readings c.args.clock.now) clock c.now-reading.ensures g.K.Keeper.spent c.requires.ready
          (did_then a.2 (did_end (AfterReport reading) (did_on a.0 c.args.asked.now (c.in_err-report.ensures.does clock files))))),
    )

pub returns-in_err-probe-clause-does : goal.returns-in_err-probe-clause-does
returns-in_err-probe-clause-does g c = λ heard h.
    let clock = g.C.Clock.readings c.now-reading.new.self in
    let files = g.F.Prober.asked c.args.files.now in
    let reading = c.now-reading.result in
    let a = c.in_ok-arrive.ensures.does heard c.args.asked.now clock files h in
    let is : c.from_residual-in_err-probe.result ≡ Err c.in_err-probe.field-0.0 = search rules in (
      a.0,
      not_ok _ c.from_residual-in_err-probe.result c.in_err-probe.field-0.0 is,
      did_answer c.from_residual-in_err-probe.result (Some c.in_err-probe.field-0.0) (ap end_of is)
          (did_turn reading c.args.workload.now (g.L.Link.calls c.args.link.now) (g.J.Spawner.calls c.args.jobs.now) files
          (g.C.Clock.readings c.args.clock.now) clock c.now-reading.ensures g.K.Keeper.spent c.requires.ready
          (did_then a.2 (did_then (did_on a.0 c.args.asked.now (c.in_ok-report.ensures.does clock files)) (did_end (AfterProbe reading) (c.in_err-probe.ensures.does a.0 clock))))),
    )

pub returns-in_err-advise-clause-does : goal.returns-in_err-advise-clause-does
returns-in_err-advise-clause-does g c = λ heard h.
    let clock = g.C.Clock.readings c.now-reading.new.self in
    let files = g.F.Prober.asked c.args.files.now in
    let reading = c.now-reading.result in
    let a = c.in_ok-arrive.ensures.does heard c.args.asked.now clock files h in
    let is : c.from_residual-in_err-advise.result ≡ Err c.in_err-advise.field-0.0 = search rules in (
      a.0,
      not_ok _ c.from_residual-in_err-advise.result c.in_err-advise.field-0.0 is,
      did_answer c.from_residual-in_err-advise.result (Some c.in_err-advise.field-0.0) (ap end_of is)
          (did_turn reading c.args.workload.now (g.L.Link.calls c.args.link.now) (g.J.Spawner.calls c.args.jobs.now) files
          (g.C.Clock.readings c.args.clock.now) clock c.now-reading.ensures g.K.Keeper.spent c.requires.ready
          (did_then a.2 (did_then (did_on a.0 c.args.asked.now (c.in_ok-report.ensures.does clock files)) (did_then (c.in_ok-probe.ensures.does a.0 clock) (did_end (On (Take (Input.Local (Turn reading)))) (did_on a.0 c.probe.new.asked (c.in_err-advise.ensures.does clock (g.F.Prober.asked c.probe.new.files)))))))),
    )

pub returns-clause-does : goal.returns-clause-does
returns-clause-does g c = λ heard h.
    let clock = g.C.Clock.readings c.now-reading.new.self in
    let files = g.F.Prober.asked c.args.files.now in
    let reading = c.now-reading.result in
    let a = c.in_ok-arrive.ensures.does heard c.args.asked.now clock files h in (
      a.0,
      on_ok c.take.result a.1,
      did_turn reading c.args.workload.now (g.L.Link.calls c.args.link.now) (g.J.Spawner.calls c.args.jobs.now) files
          (g.C.Clock.readings c.args.clock.now) clock c.now-reading.ensures g.K.Keeper.spent c.requires.ready
          (did_then a.2 (did_then (did_on a.0 c.args.asked.now (c.in_ok-report.ensures.does clock files)) (did_then (c.in_ok-probe.ensures.does a.0 clock) (did_then (did_on a.0 c.probe.new.asked (c.in_ok-advise.ensures.does clock (g.F.Prober.asked c.probe.new.files)))
          (did_on a.0 c.probe.new.asked (c.take.ensures.does clock (g.F.Prober.asked c.probe.new.files))))))),
    )

pub returns-clause-heard : goal.returns-clause-heard
returns-clause-heard g c = on_ok c.take.result c.in_ok-arrive.ensures.heard
