use Rattle.std.proofs.Common.{◌≡◌, ◌+◌, ◌-◌, List, ℕ, ap, arith, inl, inr, set, subst, sym, ◌∙◌}
use Rattle.model.specs.Network.{node_count}
use Rattle.network_tree.proofs.Fills.{Fills, fills_all, fills_first, fills_more}
use Rattle.network_tree.proofs.Trees.{hop_inside, tree}
use Rattle.network_tree.proofs.rows.row.Goals as goal
use Rattle.network_tree.proofs.rows.row.Goals.{else-loop-step-test, then-loop-step-test+in_default}

pub loop-step-init : goal.loop-step-init
loop-step-init c =
    fills_first c.args.net.now c.args.b c.in_ok-row.row _ c.in_ok-row.ensures (omega arith) c.requires.inside

pub set-requires : goal.set-requires
set-requires c =
    let net = c.args.net.now in
    let low = hop_inside net (tree net c.requires.faultless) c.loop-step.last c.in-Some.next (sym c.in-Some.ensures) in
    omega (arith, c.from.ensures, c.next.view_is, low, c.loop-step.invariant.wide)

pub loop-step-preserved : goal.loop-step-preserved
loop-step-preserved c =
    let net = c.args.net.now in
    let n = node_count net in
    let step = c.loop-step._step in
    let at : c.from.result ≡ c.in-Some.next = c.from.ensures ∙ c.next.view_is in
    let written : c.set.new.self ≡ set c.loop-step.row c.in-Some.next c.loop-step.last =
    c.set.ensures ∙ ap (λ k. set c.loop-step.row k c.loop-step.last) at in
    subst (λ (cells : List ℕ). Fills net c.args.b cells (n + 1 - (step + 1)) c.in-Some.next) (sym written)
    (fills_more net c.args.b (tree net c.requires.faultless) c.loop-step.row (n + 1 - step) (n + 1 - (step + 1))
    c.loop-step.last c.in-Some.next c.loop-step.invariant (sym c.in-Some.ensures) (omega arith) (omega arith))

pub returns : goal.returns
returns c =
    let net = c.args.net.now in
    let at : c.from-2.result ≡ c.args.b = c.from-2.ensures ∙ c.b.view_is in
    let written : c.set-2.new.self ≡ set c.loop-step.row c.args.b c.args.b =
    c.set-2.ensures ∙ ap (λ k. set c.loop-step.row k c.args.b) at in
    written
    ∙ fills_all net c.args.b c.loop-step.row _ c.loop-step.last c.loop-step.invariant
    (elim c.loop-step-test.branch [
      | else-loop-step-test w ↦ inl (omega arith)
      | then-loop-step-test+in_default w ↦ inr (let h = w.in_default.ensures in cc)
    ])
    c.requires.inside
