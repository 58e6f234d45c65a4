use Rattle.std.proofs.Common.{◌∙◌, List, ap, sym}
use Rattle.model.specs.Dependencies.{NumberedDep}
use Rattle.dependencies.specs.Left.{deps_left, numbered}
use Rattle.batchman_core.specs.Reached.{is_any_reached}
use Rattle.batchman_core.proofs.Times.{time_here, time_later}
use Rattle.batchman_core.proofs.clocks.is_time_of_object_reached.Goals as goal

pub returns-then-is_time_of_dependency_reached : goal.returns-then-is_time_of_dependency_reached
returns-then-is_time_of_dependency_reached c =
    sym
    (c.loop-number.invariant
    ∙ ap (λ (l : List NumberedDep). is_any_reached c.args.now c.args.t l) c.in-Some.ensures.steps
    ∙ time_here c.args.now c.args.t (numbered c.in-Some._number c.in-Some.dep.now) (deps_left c.next.new.self)
    (sym c.is_time_of_dependency_reached.ensures ∙ c.if-is_time_of_dependency_reached.true))

pub loop-number-preserved : goal.loop-number-preserved
loop-number-preserved c =
    c.loop-number.invariant
    ∙ ap (λ (l : List NumberedDep). is_any_reached c.args.now c.args.t l) c.in-Some.ensures.steps
    ∙ time_later c.args.now c.args.t (numbered c.in-Some._number c.in-Some.dep.now) (deps_left c.next.new.self)
    (sym c.is_time_of_dependency_reached.ensures ∙ c.if-is_time_of_dependency_reached.false)
