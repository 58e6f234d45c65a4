use Rattle.std.proofs.Common.{◌∙◌, List, ap, sym}
use Rattle.std.specs.Prelude.{sum_by}
use Rattle.model.specs.History.{view_of}
use Rattle.model.specs.Dependencies.{NumberedDep, units, units_in}
use Rattle.dependencies.specs.Left.{deps_left, numbered}
use Rattle.counted_decisions.specs.Units.{left_of}
use Rattle.counted_decisions.proofs.Leaving.{walk_end, walk_none, walk_some}
use Rattle.counted_decisions.proofs.supplies.left_by_object.Goals as goal

pub loop-number-init : goal.loop-number-init
unfolding units
loop-number-init c =
    ap (λ (l : List NumberedDep). left_of c.args.free (sum_by (λ (p : NumberedDep). units_in c.args.r p.dep) l))
    (sym (ap deps_left c.into_iter-number-iterator.ensures.into_iter_gives ∙ c.unwaived_deps-number-items.ensures))

pub returns-in-None-left_of : goal.returns-in-None-left_of
returns-in-None-left_of c =
    walk_none (λ (p : NumberedDep). units_in c.args.r p.dep)
    (left_of c.args.free (units (view_of c.args.owners.now) c.args.r c.args.o.now)) c.left_of.result c.loop-number.left
    (deps_left c.loop-number._number-iterator) (deps_left c.next.new.self)
    (numbered c.in-Some._number c.in-Some.dep.now) c.loop-number.invariant c.in-Some.ensures.steps
    (c.left_of.ensures ∙ ap (left_of c.loop-number.left) c.units_in_dep.ensures) c.in-None-left_of.is

pub loop-number-preserved : goal.loop-number-preserved
loop-number-preserved c =
    walk_some (λ (p : NumberedDep). units_in c.args.r p.dep)
    (left_of c.args.free (units (view_of c.args.owners.now) c.args.r c.args.o.now)) c.left_of.result c.loop-number.left
    c.in-Some-left_of.next (deps_left c.loop-number._number-iterator) (deps_left c.next.new.self)
    (numbered c.in-Some._number c.in-Some.dep.now) c.loop-number.invariant c.in-Some.ensures.steps
    (c.left_of.ensures ∙ ap (left_of c.loop-number.left) c.units_in_dep.ensures) c.in-Some-left_of.is

pub returns : goal.returns
returns c =
    walk_end (λ (p : NumberedDep). units_in c.args.r p.dep)
    (left_of c.args.free (units (view_of c.args.owners.now) c.args.r c.args.o.now)) c.loop-number.left
    (deps_left c.loop-number._number-iterator) c.loop-number.invariant c.in-None.ensures.steps.0
