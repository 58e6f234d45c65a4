use Rattle.std.proofs.Common.{◌∙◌, Contains, List, ap, subst, sym}
use Rattle.follow_circles.specs.Circles.{IsLeastLine}
use Rattle.follow_circles.specs.declared.Follower.{Follower}
use Rattle.definition_faults.specs.Faults.{IsFirst, tested_faults, with_line}
use Rattle.definition_faults.specs.declared.kinds.Kind.TheVariants.{FollowsCycle}
use Rattle.definition_faults.proofs.Firsts.{IsFirstOf, of_list}
use Rattle.definition_faults.proofs.Wholes.{whole}
use Rattle.definition_faults.proofs.first.first_fault.Goals as goal

pub returns : goal.returns
returns c =
    let d = c.args.names.now in
    let tested = c.in_ok-tested.tested in
    let bad = c.in_ok-first_bad_condition.field-0 in
    let circle = c.in_ok-circle.circle in
    subst (IsFirst d) (sym (c.with_line.ensures ∙ ap (λ o. with_line o circle FollowsCycle) c.with_line-bad.ensures))
    (whole d tested bad circle
    (subst (IsFirstOf (Contains (tested_faults d))) (sym c.in_ok-tested.ensures) (of_list (tested_faults d)))
    c.in_ok-first_bad_condition.ensures
    (subst (λ (l : List Follower). IsLeastLine l circle) (c.as_slice.ensures.value ∙ c.in_ok-objects.ensures)
    c.in_ok-circle.ensures))
