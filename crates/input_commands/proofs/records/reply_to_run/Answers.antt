use Rattle.std.proofs.Common.{◌∙◌, ap, sym}
use Rattle.std.proofs.lemmas.Result.{IfOk-weaker}
use Rattle.night_records.proofs.Plans.{are_plans, plans_of}
use Rattle.replies.specs.Statuses.{number_of}
use Rattle.input_commands.proofs.Calling.{told_result, stopped_result}
use Rattle.input_commands.proofs.SoundTexts.{tellable}
use Rattle.input_commands.proofs.Stops.{stop_is_no_success}
use Rattle.input_commands.proofs.records.reply_to_run.Goals as goal

pub told-requires : goal.told-requires
told-requires c =
    tellable c.args.recorded (plans_of c.args.recorded.workload) c.in-Done.world (are_plans c.args.recorded.workload)
    (rw c.in-Done.is at
    (c.in_ok-world.ensures.end (plans_of c.args.recorded.workload) (are_plans c.args.recorded.workload)))
    (rw c.in-Done.is at c.in_ok-world.ensures.net) c.requires.fit c.requires.printable c.requires.accepted

pub returns-in-Done-clause-called : goal.returns-in-Done-clause-called
returns-in-Done-clause-called c =
    told_result c.args.telling c.args.recorded (plans_of c.args.recorded.workload) c.in-Done.world c.told.result
    (are_plans c.args.recorded.workload)
    (rw c.in-Done.is at
    (c.in_ok-world.ensures.end (plans_of c.args.recorded.workload) (are_plans c.args.recorded.workload)))
    (rw c.in-Done.is at c.in_ok-world.ensures.net) c.told.ensures.status c.told.ensures.text c.told.ensures.world
    c.told.ensures.sound

pub returns-in-Done-clause-history : goal.returns-in-Done-clause-history
returns-in-Done-clause-history c = λ is. IfOk-weaker c.told.result _ _ (λ r sound _. sound) (c.told.ensures.history is)

pub returns-in-Stopped-clause-called : goal.returns-in-Stopped-clause-called
returns-in-Stopped-clause-called c =
    stopped_result c.args.telling c.args.recorded (plans_of c.args.recorded.workload) c.in-Stopped.line
    c.in-Stopped.stop c.stopped.result (are_plans c.args.recorded.workload)
    (rw c.in-Stopped.is at
    (c.in_ok-world.ensures.end (plans_of c.args.recorded.workload) (are_plans c.args.recorded.workload)))
    c.stopped.ensures.status c.stopped.ensures.text c.stopped.ensures.world

pub returns-in-Stopped-clause-history : goal.returns-in-Stopped-clause-history
returns-in-Stopped-clause-history c = λ _.
    IfOk-weaker c.stopped.result _ _
    (λ r status success. absurd (stop_is_no_success c.in-Stopped.stop (ap number_of (sym status ∙ success))))
    c.stopped.ensures.status
