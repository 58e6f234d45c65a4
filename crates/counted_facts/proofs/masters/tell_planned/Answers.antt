use Rattle.std.proofs.Common.{◌&&◌, ◌+◌, ◌∙◌, ap, false, length, refl, sym}
use Rattle.std.specs.Prelude.{◌==◌}
use Rattle.lemmas.proofs.Results.{after_ok}
use Rattle.model.specs.Types.{Events, Feed}
use Rattle.model.specs.History.{list_of}
use Rattle.owner_rows.specs.Subjects.{is_plan}
use Rattle.counted_facts.specs.Places.{planned_at}
use Rattle.counted_facts.specs.Subjects.{says_planned}
use Rattle.counted_facts.proofs.Placing.{say_all, say_orders, say_tells}
use Rattle.counted_facts.proofs.masters.tell_planned.Goals as goal

pub returns-in-Orders : goal.returns-in-Orders
returns-in-Orders c =
    λ before next h. say_orders says_planned before c.args.e.now c.in-Orders.field-0 c.in-Orders.field-1
    c.args.planned.now c.in-Orders.is h

pub returns-in-Events : goal.returns-in-Events
returns-in-Events c =
    after_ok c.tell_plan.result c.tell_plan.ensures
    (λ told before next h.
    let here = sym (c.in-Events.is ∙ ap Events (sym c.w.view_is)) in
    say_all says_planned before c.args.e.now (λ m. is_plan c.args.e.now.body && (0 == m)) c.tell_plan.new.planned (λ n. refl)
    (told planned_at before c.args.e.now (λ m. false)
    (say_tells says_planned before c.args.e.now c.w.inside.0 c.args.e.now.place (λ m. is_plan c.args.e.now.body && (0 == m))
    here (next ∙ sym (ap (λ (f : Feed). length (list_of before f) + 1) here)) (λ n. refl))
    h))
