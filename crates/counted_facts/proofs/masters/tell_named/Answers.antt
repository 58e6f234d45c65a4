use Rattle.std.proofs.Common.{◌+◌, ◌∙◌, ap, false, length, refl, sym}
use Rattle.lemmas.proofs.Results.{after_ok}
use Rattle.model.specs.Types.{Events, Feed}
use Rattle.model.specs.History.{list_of}
use Rattle.counted_facts.specs.Places.{named_at}
use Rattle.counted_facts.specs.Subjects.{names, says_named}
use Rattle.counted_facts.proofs.Placing.{say_all, say_orders, say_tells}
use Rattle.counted_facts.proofs.masters.tell_named.Goals as goal

pub returns-in-Orders : goal.returns-in-Orders
returns-in-Orders c =
    λ before next h. say_orders says_named before c.args.e.now c.in-Orders.field-0 c.in-Orders.field-1
    c.args.named.now c.in-Orders.is h

pub returns-in-Events : goal.returns-in-Events
returns-in-Events c =
    after_ok c.tell_names.result c.tell_names.ensures
    (λ told before next h.
    let here = sym (c.in-Events.is ∙ ap Events (sym c.w.view_is)) in
    say_all says_named before c.args.e.now (λ m. names m c.args.e.now.body) c.tell_names.new.named (λ n. refl)
    (told named_at before c.args.e.now (λ m. false)
    (say_tells says_named before c.args.e.now c.w.inside.0 c.args.e.now.place (λ m. names m c.args.e.now.body)
    here (next ∙ sym (ap (λ (f : Feed). length (list_of before f) + 1) here)) (λ n. refl))
    h))
