use Rattle.std.proofs.Common.{◌&&◌, ◌∙◌, sym}
use Rattle.std.specs.Prelude.{◌==◌, ◌||◌}
use Rattle.lemmas.proofs.Results.{after_ok}
use Rattle.owner_rows.specs.Subjects.{is_plan}
use Rattle.counted_facts.proofs.Naming.{fewer, no_plan_named, plan_named, plan_number}
use Rattle.counted_facts.proofs.Steps.{half_same}
use Rattle.counted_facts.proofs.masters.tell_plan.Goals as goal

pub returns-then-is_plan : goal.returns-then-is_plan
returns-then-is_plan c =
    after_ok c.tell_number.result c.tell_number.ensures
    (λ told fact G e done at h. half_same fact G e (λ m. done m || (0 == m))
    (λ m. done m || (is_plan c.args.body.now && (0 == m))) c.tell_number.new.timelines
    (plan_named (is_plan c.args.body.now) (sym c.is_plan.ensures ∙ c.if-is_plan.true) done)
    (told fact G e done
    (fewer fact G e c.args.w c.args.place (λ m. is_plan c.args.body.now && (0 == m)) (λ m. 0 == m)
    (plan_number (is_plan c.args.body.now) (sym c.is_plan.ensures ∙ c.if-is_plan.true)) at)
    h))

pub returns-else-is_plan : goal.returns-else-is_plan
returns-else-is_plan c =
    λ fact G e done at h. half_same fact G e done (λ m. done m || (is_plan c.args.body.now && (0 == m)))
    c.args.planned.now (no_plan_named (is_plan c.args.body.now) (sym c.is_plan.ensures ∙ c.if-is_plan.false) done) h
