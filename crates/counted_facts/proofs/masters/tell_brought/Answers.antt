use Rattle.std.proofs.Common.{ℕ, ◌+◌, ◌∙◌, List, ap, false, length, sym, true}
use Rattle.std.specs.Bool.{then_some}
use Rattle.lemmas.proofs.Results.{after_ok}
use Rattle.model.specs.Types.{Events, Feed, StreamDoc}
use Rattle.model.specs.History.{list_of}
use Rattle.counted_facts.specs.Places.{brought_at}
use Rattle.counted_facts.specs.Subjects.{have_number, says_brought}
use Rattle.counted_facts.proofs.Placing.{say_all, say_orders, say_tells}
use Rattle.counted_facts.proofs.masters.tell_brought.Goals as goal

pub returns-in-Orders : goal.returns-in-Orders
returns-in-Orders c =
    λ before next h. say_orders says_brought before c.args.e.now c.in-Orders.field-0 c.in-Orders.field-1
    c.args.brought.now c.in-Orders.is h

pub returns-in-Events : goal.returns-in-Events
returns-in-Events c =
    after_ok c.tell_docs.result c.tell_docs.ensures
    (λ told before next h.
    let says = λ (n : ℕ). ap (λ (l : List StreamDoc). then_some (have_number l n) true) (sym c.docs_in.ensures) in
    let here = sym (c.in-Events.is ∙ ap Events (sym c.w.view_is)) in
    say_all says_brought before c.args.e.now (have_number c.docs_in.result.now) c.tell_docs.new.timelines says
    (told brought_at before c.args.e.now (λ m. false)
    (say_tells says_brought before c.args.e.now c.w.inside.0 c.args.e.now.place (have_number c.docs_in.result.now)
    here (next ∙ sym (ap (λ (f : Feed). length (list_of before f) + 1) here)) says)
    h))
