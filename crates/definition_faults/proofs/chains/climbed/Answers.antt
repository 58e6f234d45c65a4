use Rattle.std.proofs.Common.{Global, Vec, ◌≡◌, ℕ, ◌+◌, ◌∙◌, ap, arith, length, map, sym}
use Rattle.composer_parser.specs.declared.Defs.{Defs}
use Rattle.model.specs.Words.{below}
use Rattle.definition_faults.specs.Chains.{climb}
use Rattle.definition_faults.proofs.Climbs.{even_half, no_steps, odd_half, one_step, steps_through}
use Rattle.definition_faults.proofs.chains.climbed.Goals as goal
use Rattle.definition_faults.proofs.chains.climbed.Goals.{then-left-eq1+in_ok-places-2, else-left-eq1}

pub loop-left-init : goal.loop-left-init
loop-left-init c =
    let d = c.args.names.now in
    let all = below (length d.domains) in
    let count : c.len-count.result ≡ length d.domains = c.len-count.ensures ∙ ap (λ (x : Defs). length x.domains) c.defs.ensures in (
      0,
      1,
      c.in_ok-places.ensures ∙ (ap below count ∙ sym (no_steps d all)),
      c.in_ok-powers.ensures ∙ one_step d all,
      omega (arith, count),
    )

pub loop-left-preserved : goal.loop-left-preserved
loop-left-preserved c =
    let d = c.args.names.now in
    let done = c.loop-left.invariant.0 in
    let each = c.loop-left.invariant.1 in
    let so_far = c.loop-left.invariant.2 in
    let steps = c.loop-left.invariant.3 in
    let powers : c.in_ok-powers-2.powers.items ≡ map (climb d (each + each)) (below (length d.domains)) =
    c.in_ok-powers-2.ensures
    ∙ steps_through d each each c.as_slice-in-loop-left.result.now c.as_slice-in-loop-left-2.result.now
    (c.as_slice-in-loop-left.ensures.value ∙ steps) (c.as_slice-in-loop-left-2.ensures.value ∙ steps) in
    elim c.if-left-eq1.branch [
      | then-left-eq1+in_ok-places-2 w ↦ (
        done + each,
        each + each,
        ap (λ (v : Vec ℕ Global). v.items) w.places-is
            ∙ (w.in_ok-places-2.ensures
            ∙ steps_through d done each w.as_slice.result.now w.as_slice-then-left-eq1.result.now
            (w.as_slice.ensures.value ∙ steps) (w.as_slice-then-left-eq1.ensures.value ∙ so_far)),
        powers,
        odd_half done c.loop-left.left each (length d.domains) w.if-left-eq1.true c.loop-left.invariant.4,
      )
      | else-left-eq1 w ↦ (
        done,
        each + each,
        ap (λ (v : Vec ℕ Global). v.items) w.places-is ∙ so_far,
        powers,
        even_half done c.loop-left.left each (length d.domains) w.if-left-eq1.false c.loop-left.invariant.4,
      )
    ]
