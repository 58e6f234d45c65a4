use Rattle.std.proofs.Common.{◌≡◌, ◌∙◌, List, Option, ap, sym}
use Rattle.std.proofs.Common.{subst}
use Rattle.std.specs.Prelude.{filter, map}
use Rattle.model.specs.Types.{Events}
use Rattle.model.specs.History.{view_of}
use Rattle.model.specs.Dependencies.{NumberedDep}
use Rattle.dependencies.specs.Left.{deps_left, numbered}
use Rattle.file_watch.specs.Circle.{DepPlace, sooner_of, soonest}
use Rattle.file_watch.specs.Probes.{due_at, is_file_due}
use Rattle.file_watch.proofs.Soonest.{further_with, further_without}
use Rattle.file_watch.proofs.probes.soonest_at.Goals as goal

pub loop-number-preserved-then-is_file_due : goal.loop-number-preserved-then-is_file_due
loop-number-preserved-then-is_file_due c =
    let V = view_of c.args.o.now in
    let p : NumberedDep = numbered c.in-Some.number c.in-Some.dep.now in
    let place : NumberedDep → DepPlace = λ q. (c.args.object.now, q.number) in
    let rest : List NumberedDep = deps_left c.next.new.self in
    further_with c.args.last.now (is_file_due (V (Events c.args.w)) c.args.object.now) place p rest
    (soonest c.args.last.now (due_at V c.args.w c.args.object.now)) c.loop-number.so_far
    (sym c.is_file_due.ensures ∙ c.if-is_file_due.true)
    (subst
    (λ (l : List NumberedDep).
    soonest c.args.last.now (due_at V c.args.w c.args.object.now)
    ≡ sooner_of c.args.last.now c.loop-number.so_far
    (soonest c.args.last.now (map place (filter (is_file_due (V (Events c.args.w)) c.args.object.now) l))))
    c.in-Some.ensures.steps c.loop-number.invariant)
    ∙ ap
    (λ (a : Option DepPlace).
    sooner_of c.args.last.now a
    (soonest c.args.last.now (map place (filter (is_file_due (V (Events c.args.w)) c.args.object.now) rest))))
    (sym c.sooner_of-so_far.ensures)

pub loop-number-preserved : goal.loop-number-preserved
loop-number-preserved c =
    let V = view_of c.args.o.now in
    let p : NumberedDep = numbered c.in-Some.number c.in-Some.dep.now in
    let place : NumberedDep → DepPlace = λ q. (c.args.object.now, q.number) in
    further_without c.args.last.now (is_file_due (V (Events c.args.w)) c.args.object.now) place p
    (deps_left c.next.new.self) (soonest c.args.last.now (due_at V c.args.w c.args.object.now)) c.loop-number.so_far
    (sym c.is_file_due.ensures ∙ c.if-is_file_due.false)
    (subst
    (λ (l : List NumberedDep).
    soonest c.args.last.now (due_at V c.args.w c.args.object.now)
    ≡ sooner_of c.args.last.now c.loop-number.so_far
    (soonest c.args.last.now (map place (filter (is_file_due (V (Events c.args.w)) c.args.object.now) l))))
    c.in-Some.ensures.steps c.loop-number.invariant)
