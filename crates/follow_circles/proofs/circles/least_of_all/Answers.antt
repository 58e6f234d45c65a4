use Rattle.std.proofs.Common.{◌≡◌, ◌≤◌, true, false, length, sym, ◌∙◌, ap, subst, arith, Option, ℕ, ◌+◌}
use Rattle.follow_circles.specs.Circles.{line_of}
use Rattle.follow_circles.specs.declared.circles.Follower.{Follower}
use Rattle.follow_circles.proofs.Leasts.{IsLeastBelow, keeps, takes, all_below, line_at}
use Rattle.follow_circles.proofs.circles.least_of_all.Goals as goal
use Rattle.follow_circles.proofs.circles.least_of_all.Goals.{then-branch, else-branch}

pub loop-place-preserved : goal.loop-place-preserved
loop-place-preserved c =
    elim c.if-branch.branch [
      | then-branch w ↦
          subst (λ (o : Option ℕ). IsLeastBelow c.args.objects.now (c.loop-place.place + 1) o)
          (sym (w.least-is ∙ w.lesser-least.ensures))
          (takes c.args.objects.now c.loop-place.place _
          (ap (λ (f : Follower). f.line) (sym w.index-objects-place.is)
          ∙ sym (line_at c.args.objects.now c.loop-place.place w.index-objects-place.result c.loop-place-test.true
          w.index-objects-place.is))
          (c.in_ok-is_on_circle.ensures.0 w.if-branch.true) c.loop-place.least c.loop-place.invariant)
      | else-branch w ↦
          subst (λ (o : Option ℕ). IsLeastBelow c.args.objects.now (c.loop-place.place + 1) o) (sym w.least-is)
          (keeps c.args.objects.now c.loop-place.place c.loop-place.least c.loop-place.invariant
          (λ on. let both : true ≡ false = sym (c.in_ok-is_on_circle.ensures.1 on) ∙ w.if-branch.false in
          let never : ⊥ = cc in never))
    ]

pub returns : goal.returns
returns c =
    let end_ : c.loop-place.place ≤ length c.args.objects.now = c.loop-place.auto.place-end in
    let test : length c.args.objects.now ≤ c.loop-place.place = c.loop-place-test.false in
    let all : c.loop-place.place ≡ length c.args.objects.now = omega (arith, end_, test) in
    all_below c.args.objects.now c.loop-place.least
    (subst (λ (n : ℕ). IsLeastBelow c.args.objects.now n c.loop-place.least) all c.loop-place.invariant)
