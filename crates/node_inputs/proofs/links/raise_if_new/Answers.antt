use Rattle.std.proofs.Common.{◌<◌, ◌≡◌, false, get_or, refl, rules, subst, sym, true}
use Rattle.model.specs.Network.{are_neighbours, node_count}
use Rattle.outside.specs.Calls.{Asked}
use Rattle.node_inputs.specs.Traces.{Event}
use Rattle.node_inputs.specs.Actions.{Call, Nothing}
use Rattle.node_inputs.specs.Inputs.{is_new_neighbour}
use Rattle.agent_core.specs.Nodes.{present_in, view_in}
use Rattle.agent_core.proofs.Holding.{present_inside}
use Rattle.node_inputs.specs.Tellings.{told_by}
use Rattle.node_inputs.proofs.Choosing.{is_known, is_new, is_none_now, out_if_false, out_if_true}
use Rattle.node_inputs.proofs.Doing.{out_call, out_nothing}
use Rattle.node_inputs.proofs.Telling.{ask_told}
use Rattle.node_inputs.proofs.links.raise_if_new.Goals.{else-not-is_flagged-via-then-not-is_flagged+else-neighbours, else-not-is_flagged-via-else-not-is_flagged}
use Rattle.node_inputs.proofs.links.raise_if_new.Goals as goal

pub neighbours-requires-clause-other : goal.neighbours-requires-clause-other
neighbours-requires-clause-other g c =
    subst (λ n. c.args.x < node_count n) (sym c.net.ensures.value)
    (present_inside c.args.agent.now.net (view_in c.args.agent.now) c.args.x c.requires.inside)

pub returns-then-neighbours : goal.returns-then-neighbours
returns-then-neighbours g c = λ old jobs clock files told same.
    let now = c.args.agent.now in
    let x = c.args.x in
    let inside : x < node_count old.net = subst (λ n. x < n) (sym same) c.requires.inside in
    let flag : get_or c.args.before.now x false ≡ false = search rules in
    let is : are_neighbours (present_in now) now.me x ≡ true = search rules in
    out_if_true Nothing (is_new_neighbour old now x) (is_new old now c.args.before.now x told inside is flag)
    (out_call (Event.Asks (Asked.Raise x)) now refl
    (ask_told jobs clock files (g.L.Link.calls c.args.link.now) (g.L.Link.calls c.raise.new.self) (Asked.Raise x) c.raise.ensures.calls))

pub returns-else-not-is_flagged : goal.returns-else-not-is_flagged
returns-else-not-is_flagged g c = λ old jobs clock files told same.
    let now = c.args.agent.now in
    let x = c.args.x in
    let inside : x < node_count old.net = subst (λ n. x < n) (sym same) c.requires.inside in
    out_if_false (Call (Event.Asks (Asked.Raise x))) (is_new_neighbour old now x)
    (elim c.else-not-is_flagged.branch [
      | else-not-is_flagged-via-then-not-is_flagged+else-neighbours w ↦
          let is : are_neighbours (present_in now) now.me x ≡ false = search rules in is_none_now old now x is
      | else-not-is_flagged-via-else-not-is_flagged w ↦
          let flag : get_or c.args.before.now x false ≡ true = search rules in is_known old now c.args.before.now x told inside flag
    ])
    (out_nothing now (told_by (g.L.Link.calls c.args.link.now) jobs clock files))
