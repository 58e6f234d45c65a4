use Rattle.std.specs.Prelude.{◌||◌}
use Rattle.lemmas.proofs.Results.{after_ok}
use Rattle.model.specs.Words.{has}
use Rattle.counted_facts.specs.Subjects.{have_number, names}
use Rattle.counted_facts.proofs.Naming.{both_named, carried_named, docs_named, fewer}
use Rattle.counted_facts.proofs.Steps.{half_same}
use Rattle.counted_facts.proofs.masters.tell_names.Goals as goal

pub returns : goal.returns
returns c =
    after_ok c.tell_numbers.result c.tell_numbers.ensures
    (λ told fact G e done at h. half_same fact G e
    (λ m. (done m || have_number c.docs_in.result.now m) || has c.carried_in.result.now m)
    (λ m. done m || names m c.args.body.now) c.tell_numbers.new.timelines
    (both_named c.args.body.now c.docs_in.result.now c.carried_in.result.now c.docs_in.ensures c.carried_in.ensures done)
    (told fact G e (λ m. done m || have_number c.docs_in.result.now m)
    (fewer fact G e c.args.w c.args.place (λ m. names m c.args.body.now) (has c.carried_in.result.now)
    (carried_named c.args.body.now c.docs_in.result.now c.carried_in.result.now c.docs_in.ensures c.carried_in.ensures)
    at)
    (c.in_ok-tell_docs.ensures fact G e done
    (fewer fact G e c.args.w c.args.place (λ m. names m c.args.body.now) (have_number c.docs_in.result.now)
    (docs_named c.args.body.now c.docs_in.result.now c.carried_in.result.now c.docs_in.ensures c.carried_in.ensures) at)
    h)))
