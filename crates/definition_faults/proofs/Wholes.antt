-- The first of all faults: of those that the tables tell, of bad conditions, and of circles.
use Rattle.std.proofs.Common.{◌≡◌, ◌⊎◌, ℕ, ◌≤◌, List, Contains, Option, Some, None, option_map, refl, sym, ap, subst, ◌∙◌}
use Rattle.composer_parser.specs.declared.Defs.{Defs}
use Rattle.follow_circles.specs.Circles.{IsOnCircle, IsLeastLine, line_of}
use Rattle.follow_circles.specs.declared.Follower.{Follower}
use Rattle.definition_faults.specs.Orders.{fault, earlier_of}
use Rattle.definition_faults.specs.Conditions.{IsLeastOf, IsLeastBadLine, HasBad, conditions}
use Rattle.definition_faults.specs.Graphs.{graph_of}
use Rattle.definition_faults.specs.Faults.{tested_faults, HasFault, IsBadCondition, IsCircle, IsFirst, with_line}
use Rattle.definition_faults.specs.declared.kinds.Kind.{Kind}
use Rattle.definition_faults.specs.declared.kinds.Kind.TheVariants.{OutOfRange, FollowsCycle}
use Rattle.definition_faults.specs.declared.kinds.Fault.{Fault}
use Rattle.definition_faults.proofs.Earliest.{earlier_assoc, earlier-none}
use Rattle.definition_faults.proofs.Firsts.{IsFirstOf, either, at_least}

-- a line at which some object on a circle stands
abbrev pub HasCircle : List Follower → ℕ → Type 0
HasCircle objects line = (v : ℕ) × IsOnCircle objects v × (line_of objects v ≡ line)

circle_least : (objects : List Follower) (found : Option ℕ) → IsLeastLine objects found
    → IsLeastOf (HasCircle objects) found
circle_least objects None h = λ line there. h there.0 there.1
circle_least objects (Some l) h = (h.0, λ line there. subst (λ (n : ℕ). l ≤ n) there.2 (h.1 there.0 there.1))

with_line_is : (first : Option Fault) (line : Option ℕ) (k : Kind)
    → with_line first line k ≡ earlier_of first (option_map (λ l. fault l k) line)
with_line_is first None k = sym (earlier-none first)
with_line_is first (Some line) k = refl

as_first : (d : Defs) (o : Option Fault) → IsFirstOf (HasFault d) o → IsFirst d o
as_first d None h = h
as_first d (Some f) h = h

pub whole : (d : Defs) (tested : Option Fault) (bad circle : Option ℕ) → IsFirstOf (Contains (tested_faults d)) tested
    → IsLeastBadLine d bad → IsLeastLine (graph_of d) circle
    → IsFirst d (with_line (with_line tested bad OutOfRange) circle FollowsCycle)
whole d tested bad circle t b c =
    let at_bad = option_map (λ l. fault l OutOfRange) bad in
    let at_circle = option_map (λ l. fault l FollowsCycle) circle in
    let others = either (IsBadCondition d) (IsCircle d) at_bad at_circle
    (at_least (HasBad (conditions d)) OutOfRange bad b)
    (at_least (HasCircle (graph_of d)) FollowsCycle circle (circle_least (graph_of d) circle c)) in
    let all = either (Contains (tested_faults d)) (λ f. IsBadCondition d f ⊎ IsCircle d f) tested (earlier_of at_bad at_circle) t others in
    subst (IsFirst d)
    (sym
    (with_line_is (with_line tested bad OutOfRange) circle FollowsCycle
    ∙ (ap (λ o. earlier_of o at_circle) (with_line_is tested bad OutOfRange) ∙ earlier_assoc tested at_bad at_circle)))
    (as_first d (earlier_of tested (earlier_of at_bad at_circle)) all)
