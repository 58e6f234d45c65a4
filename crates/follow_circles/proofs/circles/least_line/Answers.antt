use Rattle.std.proofs.Common.{◌≡◌, get_or, subst, ap, sym, ◌∙◌, Option, Some, ℕ, List, Bool}
use Rattle.follow_circles.specs.Circles.{IsLeastLine, line_of}
use Rattle.follow_circles.specs.Groups.{IsLeastWithin, AreGroups}
use Rattle.follow_circles.specs.declared.circles.Follower.{Follower}
use Rattle.follow_circles.proofs.Downs.{no_line, one_line}
use Rattle.follow_circles.proofs.Leasts.{line_at}
use Rattle.follow_circles.proofs.circles.least_line.Goals as goal

pub returns-in-None : goal.returns-in-None
returns-in-None c =
    no_line c.args.objects.now c.as_slice-groups.result.now (c.are_groups.ensures c.if-are_groups.true)
    (subst (λ (o : Option ℕ). IsLeastWithin c.args.objects.now c.as_slice-groups.result.now o) c.in-None.is
    c.least_within.ensures.least)

pub returns-then-branch : goal.returns-then-branch
returns-then-branch c =
    let least : IsLeastWithin c.args.objects.now c.as_slice-groups.result.now (Some c.in-Some.v) = c.in-Some.ensures.least in
    let line : line_of c.args.objects.now c.in-Some.v
    ≡ (get_or c.args.objects.now c.in-Some.v c.index-objects-v.result).line =
    line_at c.args.objects.now c.in-Some.v c.index-objects-v.result c.in-Some.ensures.inside c.index-objects-v.is
    ∙ ap (λ (f : Follower). f.line) c.index-objects-v.is in
    subst (λ (n : ℕ). IsLeastLine c.args.objects.now (Some n)) line
    (one_line c.args.objects.now c.as_slice-groups.result.now c.in-Some.v (c.are_groups.ensures c.if-are_groups.true) least
    (c.in_ok-is_on_circle-in-Some.ensures.0 c.if-branch.true))
