use Rattle.std.proofs.Common.{◌∙◌, sym}
use Rattle.model.specs.History.{view_of}
use Rattle.model.specs.Dependencies.{NumberedDep, all_satisfied, is_met}
use Rattle.dependencies.specs.Left.{deps_left, numbered}
use Rattle.dependencies.proofs.Walked.{all_fail, all_further}
use Rattle.dependencies.proofs.waits.all_satisfied.Goals as goal

pub returns-then-not-is_met : goal.returns-then-not-is_met
returns-then-not-is_met c =
    sym
    (all_fail (λ (p : NumberedDep). is_met c.args.net.now (view_of c.args.o.now) c.args.w c.args.obj.now p.number p.dep)
    (numbered c.in-Some.number c.in-Some.dep.now) (deps_left c.loop-number.number-iterator)
    (deps_left c.next.new.self) (all_satisfied c.args.net.now (view_of c.args.o.now) c.args.w c.args.obj.now)
    c.in-Some.ensures.steps (sym c.is_met.ensures ∙ c.if-not-is_met.true) c.loop-number.invariant)

pub loop-number-preserved : goal.loop-number-preserved
loop-number-preserved c =
    all_further (λ (p : NumberedDep). is_met c.args.net.now (view_of c.args.o.now) c.args.w c.args.obj.now p.number p.dep)
    (numbered c.in-Some.number c.in-Some.dep.now) (deps_left c.loop-number.number-iterator)
    (deps_left c.next.new.self) (all_satisfied c.args.net.now (view_of c.args.o.now) c.args.w c.args.obj.now)
    c.in-Some.ensures.steps (sym c.is_met.ensures ∙ c.if-not-is_met.false) c.loop-number.invariant
