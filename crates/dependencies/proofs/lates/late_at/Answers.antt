use Rattle.std.proofs.Common.{◌∙◌, sym}
use Rattle.model.specs.Types.{Events}
use Rattle.model.specs.History.{view_of}
use Rattle.model.specs.Dependencies.{NumberedDep}
use Rattle.model.specs.Lateness.{is_late_due, late_at}
use Rattle.dependencies.specs.Left.{deps_left, numbered}
use Rattle.dependencies.proofs.Walked.{first_behind, first_here}
use Rattle.dependencies.proofs.lates.late_at.Goals as goal

pub returns-then-is_late_due : goal.returns-then-is_late_due
returns-then-is_late_due c =
    sym
    (first_here (is_late_due (view_of c.args.o.now (Events c.args.w)) c.args.obj.now)
    (λ (p : NumberedDep). (c.args.obj.now, p.number)) (numbered c.in-Some.number c.in-Some.dep.now)
    (deps_left c.loop-number.number-iterator) (deps_left c.next.new.self)
    (late_at (view_of c.args.o.now) c.args.w c.args.obj.now)
    c.in-Some.ensures.steps (sym c.is_late_due.ensures ∙ c.if-is_late_due.true) c.loop-number.invariant)

pub loop-number-preserved : goal.loop-number-preserved
loop-number-preserved c =
    first_behind (is_late_due (view_of c.args.o.now (Events c.args.w)) c.args.obj.now)
    (λ (p : NumberedDep). (c.args.obj.now, p.number)) (numbered c.in-Some.number c.in-Some.dep.now)
    (deps_left c.loop-number.number-iterator) (deps_left c.next.new.self)
    (late_at (view_of c.args.o.now) c.args.w c.args.obj.now)
    c.in-Some.ensures.steps (sym c.is_late_due.ensures ∙ c.if-is_late_due.false) c.loop-number.invariant
