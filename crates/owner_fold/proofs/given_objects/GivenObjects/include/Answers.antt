use Rattle.std.proofs.Common.{Err, Ok, Result, ap, subst, sym, ◌∙◌}
use Rattle.std.specs.Prelude.{OnOk}
use Rattle.model.specs.Types.{Obj}
use Rattle.owner_fold.specs.Numbers.{place_of}
use Rattle.owner_fold.specs.Sets.{HasGiven, HasPlace}
use Rattle.owner_fold.proofs.given_objects.GivenObjects.include.Goals as goal

on_ok : {T E P Q : Type 0} (r : Result T E) → (P → Q) → OnOk r P → OnOk r Q
on_ok (Ok x) f p = f p
on_ok (Err x) f p = tt

pub returns-in-Stream-clause-there : goal.returns-in-Stream-clause-there
returns-in-Stream-clause-there c =
    on_ok c.include.result
    (λ (there : HasPlace c.args.w c.place.result c.include.new.groups).
    subst
    (λ (o : Obj).
    HasGiven c.args.index.now c.args.w o (record { streams = c.include.new.groups; jobs = c.args.self.now.jobs }))
    (sym c.in-Stream.is) (λ numbers places i e. there i (c.place.ensures numbers places ∙ ap (place_of numbers) c.s.view_is ∙ e)))
    c.include.ensures.there

pub returns-in-Job-clause-there : goal.returns-in-Job-clause-there
returns-in-Job-clause-there c =
    on_ok c.include-in-Job.result
    (λ (there : HasPlace c.args.w c.place-in-Job.result c.include-in-Job.new.groups).
    subst
    (λ (o : Obj).
    HasGiven c.args.index.now c.args.w o (record { streams = c.args.self.now.streams; jobs = c.include-in-Job.new.groups }))
    (sym c.in-Job.is) (λ numbers places i e. there i (c.place-in-Job.ensures numbers places ∙ ap (place_of numbers) c.j.view_is ∙ e)))
    c.include-in-Job.ensures.there
