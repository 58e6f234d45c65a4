use Rattle.std.proofs.lemmas.Result.{on_ok_weaker}
use Rattle.ready_index.specs.declared.changes.Change.TheVariants.{Launch, Nothing}
use Rattle.ready_index.proofs.Ending.{ends_then, ends_touched}
use Rattle.ready_index.proofs.ends.Ends.took.Goals as goal

pub returns-in-Launch : goal.returns-in-Launch
returns-in-Launch c =
    λ before grown knows.
    ends_then c.args.o.now before c.args.e.now c.args.w (Launch c.in-Launch.field-0) c.args.self.now.streams
    c.in-Launch.ensures (λ e. cc) (λ t e. cc) grown knows

pub returns-in-At : goal.returns-in-At
returns-in-At c =
    on_ok_weaker c.look_again.result
    (λ looked before grown knows.
    looked
    (ends_touched c.args.o.now before c.args.e.now c.args.w c.in-At.target c.args.self.now.streams c.in-At.ensures
    grown knows))
    c.look_again.ensures

pub returns-in-Nothing : goal.returns-in-Nothing
returns-in-Nothing c =
    λ before grown knows.
    ends_then c.args.o.now before c.args.e.now c.args.w Nothing c.args.self.now.streams c.in-Nothing.ensures (λ e. cc)
    (λ t e. cc) grown knows
