use Rattle.std.proofs.Common.{◌∙◌, ap, sym, subst}
use Rattle.std.specs.Prelude.{IfErr, IfOk, Ok}
use Rattle.model.specs.Types.{Next}
use Rattle.record_script.specs.declared.OneStep.{OneStep}
use Rattle.conman_syntax.specs.declared.Line.{Line}
use Rattle.record_runs.specs.Lines.{act, order_at, typed}
use Rattle.record_runs.specs.Taken.{IsMade, IsNotMade}
use Rattle.record_runs.specs.declared.acts.Act.{Act}
use Rattle.record_runs.specs.declared.acts.Act.TheVariants.{Own}
use Rattle.record_runs.proofs.acts.act_of.Goals as goal

pub returns-in-Turn-clause-made : goal.returns-in-Turn-clause-made
unfolding act
returns-in-Turn-clause-made c = λ day x s.
    ap (λ (o : OneStep). act day c.args.world.now.net x c.args.plans.now o) c.in-Turn.is

pub returns-in-Link-clause-made : goal.returns-in-Link-clause-made
unfolding act
returns-in-Link-clause-made c = λ day x s.
    ap (λ (o : OneStep). act day c.args.world.now.net x c.args.plans.now o) c.in-Link.is

pub returns-in-Unlink-clause-made : goal.returns-in-Unlink-clause-made
unfolding act
returns-in-Unlink-clause-made c = λ day x s.
    ap (λ (o : OneStep). act day c.args.world.now.net x c.args.plans.now o) c.in-Unlink.is

pub returns-in-Deliver-clause-made : goal.returns-in-Deliver-clause-made
unfolding act
returns-in-Deliver-clause-made c = λ day x s.
    ap (λ (o : OneStep). act day c.args.world.now.net x c.args.plans.now o) c.in-Deliver.is

pub returns-in-Started-clause-made : goal.returns-in-Started-clause-made
unfolding act
returns-in-Started-clause-made c = λ day x s.
    ap (λ (o : OneStep). act day c.args.world.now.net x c.args.plans.now o) c.in-Started.is

pub returns-in-Failed-clause-made : goal.returns-in-Failed-clause-made
unfolding act
returns-in-Failed-clause-made c = λ day x s.
    ap (λ (o : OneStep). act day c.args.world.now.net x c.args.plans.now o) c.in-Failed.is

pub returns-in-Ended-clause-made : goal.returns-in-Ended-clause-made
unfolding act
returns-in-Ended-clause-made c = λ day x s.
    ap (λ (o : OneStep). act day c.args.world.now.net x c.args.plans.now o) c.in-Ended.is
    ∙ sym (ap (λ (a : Act). Ok a) c.ended.ensures)

pub returns-in-Fulfil-clause-made : goal.returns-in-Fulfil-clause-made
unfolding act
returns-in-Fulfil-clause-made c = λ day x s.
    ap (λ (o : OneStep). act day c.args.world.now.net x c.args.plans.now o) c.in-Fulfil.is

pub returns-in-Typed-clause-made : goal.returns-in-Typed-clause-made
unfolding act
returns-in-Typed-clause-made c = λ day.
    subst (λ (o : OneStep). IfOk c.typed.result (IsMade c.args.world.now
    (λ x. act day c.args.world.now.net x c.args.plans.now o))) (sym c.in-Typed.is)
    (subst (λ (l : Line). IfOk c.typed.result (IsMade c.args.world.now
    (λ x. typed c.in-Typed.w (order_at c.args.world.now.net x c.in-Typed.w l)))) c.line.ensures c.typed.ensures.made)

pub returns-in-Typed-clause-not_made : goal.returns-in-Typed-clause-not_made
unfolding act
returns-in-Typed-clause-not_made c = λ day.
    subst (λ (o : OneStep). IfErr c.typed.result (IsNotMade c.args.world.now
    (λ x. act day c.args.world.now.net x c.args.plans.now o))) (sym c.in-Typed.is)
    (subst (λ (l : Line). IfErr c.typed.result (IsNotMade c.args.world.now
    (λ x. typed c.in-Typed.w (order_at c.args.world.now.net x c.in-Typed.w l)))) c.line.ensures c.typed.ensures.not_made)

pub returns-in-Next-clause-made : goal.returns-in-Next-clause-made
unfolding act
returns-in-Next-clause-made c = λ day x s.
    ap (λ (o : OneStep). act day c.args.world.now.net x c.args.plans.now o) c.in-Next.is
    ∙ (λ i. Ok (Own (sym c.master.ensures.value i) (Next (sym c.take.ensures.drafts i))))
