use Rattle.std.specs.Option.{option_copied}
use Rattle.view_words.specs.Forms.{requested}
use Rattle.view_words.specs.Readings.{sight}
use Rattle.view_words.proofs.Calls.{file_due, unread_due}
use Rattle.view_words.proofs.views.reply_to.Goals as goal

pub returns-in-Ok-clause-due : goal.returns-in-Ok-clause-due
returns-in-Ok-clause-due g c = λ words is.
    let I = g.I.Source in
    let F = g.F.Folder in
    file_due (sight F.seen F.becomes F.faults c.args.folder.now c.reply_of_name.new.folder) words
    (I.stream c.args.input.now) (I.stream c.read_workload.new.input)
    (requested c.args.look c.args.name.now (option_copied c.args.pattern)) is c.in-Ok.workload c.reply_of_name.result
    c.in-Ok.ensures.read c.reply_of_name.ensures.due

pub returns-in-Err-clause-due : goal.returns-in-Err-clause-due
returns-in-Err-clause-due g c = λ words is.
    let I = g.I.Source in
    let F = g.F.Folder in
    let old = I.stream c.args.input.now in
    let new = I.stream c.read_workload.new.input in
    unread_due (sight F.seen F.becomes F.faults c.args.folder.now c.args.folder.now) words old new
    (requested c.args.look c.args.name.now (option_copied c.args.pattern)) is c.reply_unread.result
    (c.reply_unread.ensures.due old new c.in-Err.ensures.why)
