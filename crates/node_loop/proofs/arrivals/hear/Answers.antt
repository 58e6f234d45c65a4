use Rattle.std.proofs.Common.{◌≡◌, Err, List, Some, ap, inr, rules, subst, sym}
use Rattle.std.specs.List.{All}
use Rattle.mail_frames.specs.Spelling.{IsFrame}
use Rattle.mail_frames.specs.declared.frames.Frame.{Frame}
use Rattle.std.specs.Prelude.{is_some}
use Rattle.lemmas.proofs.Results.{on_ok}
use Rattle.model.specs.Words.{with_at}
use Rattle.node_inputs.specs.declared.ends.NodeEnd.TheVariants.{NoMemory}
use Rattle.node_inputs.specs.Doings.{end_of}
use Rattle.node_inputs.specs.Tellings.{told_by}
use Rattle.node_inputs.proofs.Doing.{did_outside, out_as, out_stop}
use Rattle.node_inputs.proofs.Taking.{did_answer}
use Rattle.node_loop.specs.Heard.{heard_more}
use Rattle.node_loop.specs.Runs.{running_with}
use Rattle.node_loop.proofs.Parts.{did_hear, not_ok}
use Rattle.node_loop.proofs.Turning.{frames_complete}
use Rattle.node_loop.proofs.arrivals.hear.Goals as goal

pub returns-in_err-fed-clause-does : goal.returns-in_err-fed-clause-does
returns-in_err-fed-clause-does g c = λ heard asked clock files h.
    let is : c.from_residual.result ≡ Err NoMemory = search rules in
    let told = told_by (g.L.Link.calls c.args.link.now) (g.J.Spawner.calls c.args.jobs.now) clock files in (
      heard,
      not_ok _ c.from_residual.result NoMemory is,
      did_answer c.from_residual.result (Some NoMemory) (ap end_of is)
          (did_outside g.K.Keeper.spent c.args.keeper.now c.requires.ready
          (out_as (λ trace k. inr k) (out_stop NoMemory (running_with c.args.agent.now heard asked) told))),
    )

pub take_frames-requires-clause-frames : goal.take_frames-requires-clause-frames
take_frames-requires-clause-frames g c =
    let heard = c.requires.heard.0 in
    let fed = c.in_ok-fed.fed in
    let same : c.as_slice.result.now ≡ fed.frames = search rules in
    subst (λ (l : List Frame). All IsFrame l) (sym same)
    (frames_complete (heard c.args.x) c.args.bytes.now fed.frames fed.bad (c.in_ok-fed.ensures.taken heard c.requires.heard.1).0)

pub returns-clause-does : goal.returns-clause-does
returns-clause-does g c = λ heard asked clock files h.
    let fed = c.in_ok-fed.fed in
    let both = c.in_ok-fed.ensures.taken heard h in
    let wrong : c.is_some.result ≡ is_some fed.bad = search rules in
    let same : c.as_slice.result.now ≡ fed.frames = search rules in (
      with_at c.args.x (heard_more (heard c.args.x) c.args.bytes.now fed.frames) heard,
      on_ok c.take_frames.result both.1,
      did_hear c.args.x c.args.bytes.now fed.frames c.as_slice.result.now fed.bad c.is_some.result heard asked same wrong both.0
          g.K.Keeper.spent c.requires.ready (c.take_frames.ensures.does clock files),
    )

pub returns-clause-heard : goal.returns-clause-heard
returns-clause-heard g c =
    let heard = c.requires.heard.0 in
    let fed = c.in_ok-fed.fed in
    on_ok c.take_frames.result
    (with_at c.args.x (heard_more (heard c.args.x) c.args.bytes.now fed.frames) heard, (c.in_ok-fed.ensures.taken heard c.requires.heard.1).1)
