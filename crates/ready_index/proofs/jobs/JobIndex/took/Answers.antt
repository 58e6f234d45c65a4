use Rattle.std.proofs.lemmas.Result.{on_ok_weaker}
use Rattle.ready_index.specs.declared.changes.Change.TheVariants.{At, Launch, Nothing}
use Rattle.ready_index.proofs.Further.{after_taken}
use Rattle.ready_index.proofs.jobs.JobIndex.took.Goals as goal

pub returns-in-Launch : goal.returns-in-Launch
returns-in-Launch c =
    λ before grown stands.
    c.drop_launched.ensures
    (after_taken c.args.o.now before c.args.e.now c.args.w (Launch c.in-Launch.number) c.args.self.now
    c.in-Launch.ensures (λ e. cc) grown stands)

pub returns-in-At : goal.returns-in-At
returns-in-At c =
    on_ok_weaker c.look_again.result
    (λ looked before grown stands.
    looked
    (after_taken c.args.o.now before c.args.e.now c.args.w (At c.in-At.target) c.args.self.now c.in-At.ensures
    (λ e. cc) grown stands))
    c.look_again.ensures

pub returns-in-Nothing : goal.returns-in-Nothing
returns-in-Nothing c =
    λ before grown stands.
    after_taken c.args.o.now before c.args.e.now c.args.w Nothing c.args.self.now c.in-Nothing.ensures (λ e. cc) grown
    stands
