use Rattle.std.proofs.Common.{◌≡◌, ◌+◌, ◌<◌, ℕ, true, false, Option, Some, IfSome, length, refl, sym, ◌∙◌, subst, arith}
use Rattle.follow_circles.specs.Groups.{stays, is_less}
use Rattle.follow_circles.proofs.Steps.{follows_at}
use Rattle.follow_circles.proofs.Within.{IsLeastBefore, takes, keeps, stays_of}
use Rattle.follow_circles.proofs.groups.least_within.Goals as goal
use Rattle.follow_circles.proofs.groups.least_within.Goals.{then-stays+then-is_less, else-stays, else-stays-via-then-stays+else-is_less, else-stays-via-else-stays}

pub loop-v-preserved : goal.loop-v-preserved
loop-v-preserved c =
    let told : stays c.args.objects.now c.args.groups.now c.loop-v.v ≡ c.stays.result =
    stays_of c.args.objects.now c.args.groups.now c.loop-v.v c.number_at.result c.index-objects-v.result.follows
    c.stays.result
    (follows_at c.args.objects.now c.loop-v.v c.index-objects-v.result c.loop-v-test.true c.index-objects-v.is)
    c.number_at.ensures c.stays.ensures in
    elim c.if-stays.branch [
      | then-stays+then-is_less w ↦ record {
        least = subst (λ (o : Option ℕ). IsLeastBefore c.args.objects.now c.args.groups.now (c.loop-v.v + 1) o)
            (sym w.least-is)
            (takes c.args.objects.now c.args.groups.now c.loop-v.v c.loop-v.least c.loop-v.invariant.least
            (told ∙ w.if-stays.true) (sym w.is_less.ensures ∙ w.if-is_less.true));
        inside = subst (λ (o : Option ℕ). IfSome o (λ v. v < length c.args.objects.now)) (sym w.least-is) c.loop-v-test.true;
      }
      | else-stays w ↦ record {
        least = subst (λ (o : Option ℕ). IsLeastBefore c.args.objects.now c.args.groups.now (c.loop-v.v + 1) o)
            (sym w.least-is)
            (keeps c.args.objects.now c.args.groups.now c.loop-v.v c.loop-v.least c.loop-v.invariant.least
            (λ s. elim w.else-stays.branch [
              | else-stays-via-then-stays+else-is_less u ↦ sym u.is_less.ensures ∙ u.if-is_less.false
              | else-stays-via-else-stays u ↦
                  let both : true ≡ false = sym s ∙ (told ∙ u.if-stays.false) in
                  absurd (let never : ⊥ = cc in never)
            ]));
        inside = subst (λ (o : Option ℕ). IfSome o (λ v. v < length c.args.objects.now)) (sym w.least-is)
            c.loop-v.invariant.inside;
      }
    ]
