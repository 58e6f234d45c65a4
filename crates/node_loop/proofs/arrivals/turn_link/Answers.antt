use Rattle.lemmas.proofs.Results.{on_ok}
use Rattle.model.specs.Words.{with_at}
use Rattle.node_loop.specs.Heard.{nothing_heard}
use Rattle.node_inputs.specs.Tellings.{told_by}
use Rattle.node_inputs.proofs.Doing.{did_outside, did_then}
use Rattle.node_loop.proofs.Turning.{did_on, heard_now}
use Rattle.node_loop.proofs.arrivals.turn_link.Goals as goal

pub returns-clause-does : goal.returns-clause-does
returns-clause-does g c = λ heard asked clock files h.
    let told = told_by (g.L.Link.calls c.args.link.now) (g.J.Spawner.calls c.args.jobs.now) clock files in
    let later = with_at c.args.x nothing_heard heard in (
      later,
      on_ok c.take.result (c.begin.ensures heard h),
      did_then (did_outside g.K.Keeper.spent c.args.keeper.now c.requires.ready (heard_now c.args.agent.now heard asked c.args.x nothing_heard told))
          (did_on later asked (c.take.ensures.does clock files)),
    )

pub returns-clause-heard : goal.returns-clause-heard
returns-clause-heard g c =
    on_ok c.take.result (with_at c.args.x nothing_heard c.requires.heard.0, c.begin.ensures c.requires.heard.0 c.requires.heard.1)
