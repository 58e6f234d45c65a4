use Rattle.std.proofs.Common.{◌+◌, ◌<◌, ◌≡◌, ◌≤◌, [], Err, Option, Some, drop, get_or, length, refl, rules, subst, sym, ℕ, Bool}
use Rattle.lemmas.proofs.Lists.{drop_at_end}
use Rattle.node_inputs.specs.declared.ends.NodeEnd.TheVariants.{NoMemory}
use Rattle.node_inputs.specs.Actions.{Each}
use Rattle.node_inputs.specs.Doings.{DoesOutside}
use Rattle.node_inputs.specs.Inputs.{Carry, CarryOut, carried_with, nothing_carried}
use Rattle.node_inputs.specs.Tellings.{told_by}
use Rattle.node_inputs.specs.declared.ends.NodeEnd.{NodeEnd}
use Rattle.node_inputs.proofs.Doing.{CompletingOutside}
use Rattle.node_inputs.proofs.Looping.{each_out_done, each_out_more, next_item, outside_all, outside_end, outside_one}
use Rattle.node_inputs.proofs.outputs.carry_all.Goals as goal

pub loop-out-init : goal.loop-out-init
loop-out-init g c = λ clock files.
    let told = told_by (g.L.Link.calls c.args.link.now) (g.J.Spawner.calls c.args.jobs.now) clock files in (
      [],
      c.new-carried.ensures.lost,
      subst (λ (s : Option (ℕ × Bool)). CompletingOutside (Carry c.args.agent.now c.args.outs.now) (Carry c.args.agent.now c.args.outs.now) (carried_with [] s) nothing_carried told told)
          (sym c.new-carried.ensures.started) (λ new now end h. h),
    )

pub returns-in_err-carry-clause-some : goal.returns-in_err-carry-clause-some
returns-in_err-carry-clause-some g c =
    let is : c.from_residual.result ≡ Err NoMemory = search rules in
    rw is (
      refl,
      λ clock files.
          let inv = c.loop-out.invariant clock files in
          let one = c.in_err-carry.ensures.does inv.0 clock files inv.1 in
          let i = c.loop-out.out-index in
          let inside : i < length c.args.outs.now = search rules in
          let item : get_or c.args.outs.now i c.out-item.result ≡ c.out-item.result = search rules in (
            carried_with one.0 c.carry.new.carried.started,
            subst (λ (w : NodeEnd). DoesOutside (Carry c.args.agent.now c.args.outs.now) nothing_carried (carried_with one.0 c.carry.new.carried.started)
                (told_by (g.L.Link.calls c.args.link.now) (g.J.Spawner.calls c.args.jobs.now) clock files) (told_by (g.L.Link.calls c.carry.new.link) (g.J.Spawner.calls c.carry.new.jobs) clock files) (Some w)) c.in_err-carry.ensures.ends
                (outside_end (Each (CarryOut c.args.agent.now) (drop (i + 1) c.args.outs.now))
                (each_out_more (CarryOut c.args.agent.now) (drop i c.args.outs.now) (drop (i + 1) c.args.outs.now) c.out-item.result (next_item c.args.outs.now i c.out-item.result inside item) inv.2)
                one.2),
          ),
    )

pub loop-out-preserved : goal.loop-out-preserved
loop-out-preserved g c = λ clock files.
    let inv = c.loop-out.invariant clock files in
    let one = c.in_ok-carry.ensures.does inv.0 clock files inv.1 in
    let i = c.loop-out.out-index in
    let inside : i < length c.args.outs.now = search rules in
    let item : get_or c.args.outs.now i c.out-item.result ≡ c.out-item.result = search rules in (
      one.0,
      one.1,
      outside_one
          (each_out_more (CarryOut c.args.agent.now) (drop i c.args.outs.now) (drop (i + 1) c.args.outs.now) c.out-item.result (next_item c.args.outs.now i c.out-item.result inside item) inv.2)
          one.2,
    )

pub returns-clause-all : goal.returns-clause-all
returns-clause-all g c = λ clock files.
    let inv = c.loop-out.invariant clock files in
    let i = c.loop-out.out-index in
    let all : length c.args.outs.now ≤ i = search rules in
    (inv.0, inv.1, outside_all (each_out_done (CarryOut c.args.agent.now) (drop i c.args.outs.now) (drop_at_end c.args.outs.now i all) inv.2))
