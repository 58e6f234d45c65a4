use Rattle.std.proofs.Common.{◌∙◌, ◌∷◌, List, ap, subst, sym}
use Rattle.model.specs.History.{view_of}
use Rattle.model.specs.Dependencies.{NumberedDep}
use Rattle.dependencies.specs.Left.{deps_left, numbered}
use Rattle.ready_index.proofs.Told.{IsFreeSoFar, held_here, nothing_walked, passed_satisfied}
use Rattle.ready_index.proofs.waits.first_held_back.Goals as goal

pub loop-number-init : goal.loop-number-init
loop-number-init c =
    nothing_walked c.args.net.now (view_of c.args.o.now) c.args.w c.args.obj.now
    (deps_left c.into_iter-number-iterator.result) c.requires
    (ap deps_left c.into_iter-number-iterator.ensures.into_iter_gives ∙ c.unwaived_deps-number-items.ensures)

pub returns-then-not-sat : goal.returns-then-not-sat
returns-then-not-sat c =
    let V = view_of c.args.o.now in
    let q = numbered c.in-Some.number c.in-Some.dep.now in
    let here : IsFreeSoFar c.args.net.now V c.args.w c.args.obj.now (q ∷ deps_left c.next.new.self) =
    subst (λ (l : List NumberedDep). IsFreeSoFar c.args.net.now V c.args.w c.args.obj.now l) c.in-Some.ensures.steps
    c.loop-number.invariant
    in
    sym
    (held_here c.args.net.now V c.args.w c.args.obj.now q (deps_left c.next.new.self) c.in-Some-followed.target
    (sym c.in-Some-followed.ensures) (sym c.sat.ensures ∙ c.if-not-sat.true) here)

pub loop-number-preserved-else-not-sat : goal.loop-number-preserved-else-not-sat
loop-number-preserved-else-not-sat c =
    let V = view_of c.args.o.now in
    let q = numbered c.in-Some.number c.in-Some.dep.now in
    let here : IsFreeSoFar c.args.net.now V c.args.w c.args.obj.now (q ∷ deps_left c.next.new.self) =
    subst (λ (l : List NumberedDep). IsFreeSoFar c.args.net.now V c.args.w c.args.obj.now l) c.in-Some.ensures.steps
    c.loop-number.invariant
    in
    passed_satisfied c.args.net.now V c.args.w c.args.obj.now q (deps_left c.next.new.self)
    (sym c.sat.ensures ∙ c.if-not-sat.false) here
