use Rattle.ready_index.specs.declared.changes.Change.TheVariants.{At, Launch, Nothing}
use Rattle.ready_index.proofs.Releasing.{waiting_taken}
use Rattle.ready_index.proofs.releases.Releases.took.Goals as goal

pub returns-in-Launch : goal.returns-in-Launch
returns-in-Launch c =
    λ before grown knows.
    waiting_taken c.args.o.now before c.args.e.now c.args.w (Launch c.in-Launch.field-0) c.args.self.now
    c.in-Launch.ensures (λ e. cc) grown knows

pub returns-in_ok-look_again-in-At : goal.returns-in_ok-look_again-in-At
returns-in_ok-look_again-in-At c =
    λ before grown knows.
    c.drop_released.ensures
    (c.in_ok-look_again-in-At.ensures
    (waiting_taken c.args.o.now before c.args.e.now c.args.w (At c.in-At.target) c.args.self.now c.in-At.ensures
    (λ e. cc) grown knows))

pub returns-in-Nothing : goal.returns-in-Nothing
returns-in-Nothing c =
    λ before grown knows.
    waiting_taken c.args.o.now before c.args.e.now c.args.w Nothing c.args.self.now c.in-Nothing.ensures (λ e. cc) grown
    knows
