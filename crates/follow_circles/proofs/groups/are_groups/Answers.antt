use Rattle.std.proofs.Common.{◌<◌, inl, inr, sym, ◌∙◌, subst, arith, slice_index, ◌≤◌, ℕ}
use Rattle.std.proofs.lemmas.Bool.Decides.{eqb_tells}
use Rattle.follow_circles.proofs.Within.{goes_down_of}
use Rattle.follow_circles.proofs.Steps.{follows_at}
use Rattle.follow_circles.specs.Circles.{follows_of}
use Rattle.std.specs.Prelude.{Contains}
use Rattle.follow_circles.proofs.groups.are_groups.Goals as goal

pub loop-v-preserved : goal.loop-v-preserved
loop-v-preserved c = λ u w below has.
    elim (eqb_tells u c.loop-v.v) [
      | inl e ↦
          subst (λ (k : ℕ). slice_index c.args.groups.now w ≤ slice_index c.args.groups.now k) (sym e.1)
          (goes_down_of c.args.objects.now c.args.groups.now c.loop-v.v c.number_at.result c.index-objects-v.result.follows
          (follows_at c.args.objects.now c.loop-v.v c.index-objects-v.result c.loop-v-test.true c.index-objects-v.is)
          c.number_at.ensures (sym c.goes_down.ensures ∙ c.if-not-goes_down.false) w
          (subst (λ (k : ℕ). Contains (follows_of c.args.objects.now k) w) e.1 has))
      | inr other ↦ let low : u < c.loop-v.v = omega (arith, below, other.1) in c.loop-v.invariant u w low has
    ]
